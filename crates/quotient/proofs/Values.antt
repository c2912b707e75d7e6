-- How large the values of answers can be.
use Prim.Native.Nat.{ℕ, ◌*◌}
use mathlib.Core.List.{List}
use Rattle.labels.proofs.Answers.{Within, none, next}
use Rattle.labels.specs.declared.label.Labels.{Labels}
use Rattle.halves.specs.declared.side.Side.{Side}
use Rattle.machines.specs.Cases.{Case}
use Rattle.formulas.specs.Formulas.{quotient_limit}
use Rattle.verdict.proofs.Values.{bit_small}
use Rattle.dividing.specs.Quotients.{quotient_answer}
use Rattle.dividing.proofs.Values.{quotient-within}
use Rattle.quotient.specs.Calls.{by_half, by_number, line_answer}
use Rattle.labels.specs.declared.refusal.Refusal.{Refusal}
use Rattle.std.specs.Prelude.{Bool, Err, Ok, Result}

-- of a quotient: at most 8,192
pub half_within : (k : Labels) (l r a b f : List ℕ) (side : Side) (point room : ℕ)
    → Within (2 * quotient_limit) (quotient_answer (by_half k l r a b f side point room)).values
unfolding by_half
half_within k l r a b f side point room = quotient-within _ _ room

pub number-within : (c : Case) (n : ℕ) (side : Side) (point room : ℕ)
    → Within (2 * quotient_limit) (quotient_answer (by_number c n side point room)).values
unfolding by_number
number-within c n side point room = quotient-within _ _ room

-- of the line office: each at most 1
pub line-within : (a : Result (Bool × Bool) Refusal) → Within 1 (line_answer a).values
unfolding line_answer
line-within (Ok (j, h)) = next (bit_small j) (next (bit_small h) none)
line-within (Err x) = none
