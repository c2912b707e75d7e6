-- Verdicts: document 01, "Questions and verdicts", and the order of "Who can cause a refusal" in a call that takes
-- parts. When a formula holds on a run is the theory's to say: `Sat` in hml's Formula has definitions 3 and 4 of source
-- document 000 clause by clause, and `holds` is the test that decides it (`decided`, hml/proofs/Agreement).
use Rattle.std.specs.Prelude.{ℕ, Bool, true, false, List, [], ◌∷◌, ltb, Err, Ok, Result}
use Rattle.hml.specs.Lists.{present}
use Rattle.hml.specs.System.{steps, stop}
use Rattle.hml.specs.Formula.{holds}
use Rattle.hml.specs.Compose.{beside}
use Rattle.labels.specs.Refusals.{refused_if, first_of, Answer, refused_as, giving, Check}
use Rattle.labels.specs.Labels.{check_labels, pairing}
use Rattle.labels.specs.declared.refusal.Refusal.TheVariants.{PointBeyond}
use Rattle.labels.specs.declared.label.Labels.{Labels}
use Rattle.tables.specs.Tables.{table_of, check_table}
use Rattle.halves.specs.Halves.{half_of, check_half}
use Rattle.halves.specs.Cuts.{beyond}
use Rattle.machines.specs.Joints.{joint_of, check_joint}
use Rattle.formulas.specs.Formulas.{formula_of, quotient_limit, check_formula}
use Rattle.labels.specs.declared.refusal.Refusal.{Refusal}

-- the verdict on two tables and a joint run of them, stopped at a point: the tables beside each other, the formula that
-- the bytes spell, the run that the bytes spell
unfoldable pub joint_holds : Labels → List ℕ → List ℕ → List ℕ → List ℕ → ℕ → Bool
joint_holds k l r s f point =
    present (λ φ. holds (beside (pairing k) (table_of l) (table_of r)) φ (stop point (joint_of s))) (formula_of f)

-- the verdict on one table and a half run of it, stopped at a point
unfoldable pub half_holds : List ℕ → List ℕ → List ℕ → ℕ → Bool
half_holds t s f point = present (λ φ. holds (table_of t) φ (stop point (half_of s))) (formula_of f)

-- what a joint call judges, in order: the parts' numbers, then 12
unfoldable pub check_joint_call : Labels → List ℕ → List ℕ → List ℕ → List ℕ → ℕ → Check
check_joint_call k l r s f point = first_of
    (check_labels k
    ∷ check_table k l
    ∷ check_table k r
    ∷ check_joint k l r s
    ∷ check_formula k quotient_limit f
    ∷ refused_if (ltb (steps (joint_of s)) point) PointBeyond
    ∷ [])

-- what a half call judges, in order: the parts' numbers, then 12, "a half of even length has no points", then 15
unfoldable pub check_half_call : Labels → List ℕ → List ℕ → List ℕ → ℕ → Check
check_half_call k t s f point = first_of
    (check_labels k
    ∷ check_table k t
    ∷ check_formula k quotient_limit f
    ∷ refused_if (beyond s point) PointBeyond
    ∷ check_half t s
    ∷ [])

-- the answer: the refusal, or the verdict
abbrev pub verdict_of : Bool → Result Bool Refusal
verdict_of b = Ok b

unfoldable pub answered : Check → Bool → Result Bool Refusal
answered (Ok _) b = verdict_of b
answered (Err x) b = Err x

unfoldable pub joint_verdict : Labels → List ℕ → List ℕ → List ℕ → List ℕ → ℕ → Result Bool Refusal
joint_verdict k l r s f point = answered (check_joint_call k l r s f point) (joint_holds k l r s f point)

unfoldable pub half_verdict : Labels → List ℕ → List ℕ → List ℕ → ℕ → Result Bool Refusal
half_verdict k t s f point = answered (check_half_call k t s f point) (half_holds t s f point)

-- the number of a verdict, and its value: 1 where it holds, 0 where it fails
unfoldable pub bit_of : Bool → ℕ
bit_of true = 1
bit_of false = 0

unfoldable pub verdict_answer : Result Bool Refusal → Answer
verdict_answer (Ok b) = giving (bit_of b ∷ [])
verdict_answer (Err x) = refused_as x
