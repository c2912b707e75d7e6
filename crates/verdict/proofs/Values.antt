-- How large the value of an answer can be.
use Prim.Native.Nat.{◌≤◌}
use mathlib.Core.Bool.{Bool, true, false}
use native.Mathlib.Omega.{arith}
use Rattle.labels.proofs.Answers.{Within, none, next}
use Rattle.verdict.specs.Verdicts.{bit_of, verdict_answer}
use Rattle.labels.specs.declared.refusal.Refusal.{Refusal}
use Rattle.std.specs.Prelude.{Err, Ok, Result}

pub bit_small : (b : Bool) → bit_of b ≤ 1
unfolding bit_of
bit_small true = omega arith
bit_small false = omega arith

-- of a verdict: at most 1
pub verdict-within : (v : Result Bool Refusal) → Within 1 (verdict_answer v).values
unfolding verdict_answer
verdict-within (Ok b) = next (bit_small b) none
verdict-within (Err x) = none
