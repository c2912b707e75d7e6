-- The lengths of sound parts: the record of each has a length that fits its kind.
use Prim.Native.Nat.{ℕ, ◌+◌, ◌*◌, ◌%◌, ◌≤◌}
use mathlib.Core.Path.{◌≡◌, ap}
use mathlib.Core.Bool.{true}
use mathlib.Core.List.{List, []}
use native.Mathlib.Omega.{arith}
use lib.ListN.{length}
use Rattle.hml.proofs.Tests.{decides, decided_and, decided_same, decided_le}
use Rattle.hml.specs.Formula.{size}
use Rattle.hml.proofs.Spelling.{length-spell}
use Rattle.labels.specs.Refusals.{first_of}
use Rattle.labels.specs.declared.refusal.Refusal.TheVariants.{WrongLength}
use Rattle.labels.proofs.Refusals.{judges, judged_unless, both_sound}
use Rattle.labels.specs.declared.label.Labels.{Labels}
use Rattle.tables.specs.Tables.{check_table}
use Rattle.tables.proofs.SoundTables.{sound_table}
use Rattle.machines.specs.Joints.{fit_joint, check_joint}
use Rattle.formulas.specs.Formulas.{check_formula, Legal}
use Rattle.formulas.proofs.Checking.{judged_formula}
use Rattle.formulas.proofs.Measures.{size-some}
use Rattle.records.specs.Records.{lengths_of, fit_length}
use Rattle.records.proofs.Records.{decided_fit}
use Rattle.std.specs.Prelude.{Ok}

-- the record of a sound table has a length that fits, on either side
pub table_fits : (k : Labels) (t : List ℕ) → check_table k t ≡ Ok tt
    → (fit_length 2 (2 + length t) ≡ true) × (fit_length 3 (2 + length t) ≡ true) × (length t ≤ 1537)
unfolding lengths_of
table_fits k t e =
    let f = (sound_table k t e).fits in (
      (decides (decided_fit 2 (2 + length t))).1 (omega (arith, f), omega (arith, f), omega (arith, f)),
      (decides (decided_fit 3 (2 + length t))).1 (omega (arith, f), omega (arith, f), omega (arith, f)),
      f.1,
    )

-- so has the record of a sound joint run
pub joint-fits : (k : Labels) (l r j : List ℕ) → check_joint k l r j ≡ Ok tt
    → (fit_length 4 (2 + length j) ≡ true) × (length j ≤ 602)
unfolding lengths_of check_joint first_of fit_joint
joint-fits k l r j e =
    let c = (judges (judged_unless WrongLength
    (decided_and (decided_same (length j % 3) 2) (decided_le (length j) 602)))).0 (both_sound _ _ e).0 in
    ((decides (decided_fit 4 (2 + length j))).1 (omega (arith, c), omega (arith, c), omega (arith, c)), c.1)

-- and that of a sound question
pub question-fits : (k : Labels) (q : List ℕ) → check_formula k 64 q ≡ Ok tt
    → (fit_length 5 (2 + length q) ≡ true) × (length q ≤ 128)
unfolding lengths_of Legal
question-fits k q e =
    let (φ, f, s, _, _) = (judges (judged_formula k 64 q)).0 e in
    let n : length q ≡ 2 * size φ = omega (arith, ap length f, length-spell φ []) in
    let m = size-some φ in (
      (decides (decided_fit 5 (2 + length q))).1 (omega (arith, n), omega (arith, n, m), omega (arith, n, s)),
      omega (arith, n, s),
    )
