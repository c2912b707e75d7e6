-- Demand 3 as one claim, `DemandThree`; that it holds is `demand_three`, proofs/DemandThree.
use Rattle.std.specs.Prelude.{ℕ, ◌*◌, ◌≤◌, ◌<◌, ◌≡◌, List, [], length, take, drop, ◌↔◌, Bool, Err, Ok, Result, Some}
use Rattle.hml.specs.Formula.{Formula, size, holds}
use Rattle.hml.specs.Spell.{spell}
use Rattle.halves.specs.Cuts.{known_of, other_part, known_part, cut_of}
use Rattle.halves.specs.declared.side.Side.{Side}
use Rattle.verdict.specs.Verdicts.{joint_verdict, half_verdict, verdict_of}
use Rattle.hml.specs.System.{steps, stop}
use Rattle.hml.specs.Compose.{beside}
use Rattle.labels.specs.Labels.{pairing}
use Rattle.hml.specs.Quotient.{quotient}
use Rattle.labels.specs.declared.refusal.Refusal.{Refusal}
use Rattle.labels.specs.declared.refusal.Refusal.TheVariants.{QuotientTooLarge, OutputTooShort}
use Rattle.tables.specs.Tables.{table_of}
use Rattle.halves.specs.Halves.{half_of}
use Rattle.machines.specs.Joints.{joint_of}
use Rattle.machines.specs.Cases.{Case}
use Rattle.formulas.specs.Formulas.{question_limit, quotient_limit, check_formula}
use Rattle.quotient.specs.Calls.{tree_by_half, by_half, by_half_output, splittings_in, left_in, right_in, by_number}
use Rattle.quotient.specs.Calls.{by_number_output}
use Rattle.joining.specs.Joinings.{join_bytes, check_halves}
use Rattle.splitting.specs.Splittings.{check_log, splitting_limit}

-- of a case: the joint verdict on it at a point
abbrev pub verdict_at : Case → ℕ → Result Bool Refusal
verdict_at c point = joint_verdict c.labels c.left c.right c.run c.question point

-- the call for its quotient by the known one of two halves
abbrev pub halves_given : Case → List ℕ → List ℕ → Side → ℕ → ℕ → Result ℕ Refusal
halves_given c a b side point room = by_half c.labels c.left c.right a b c.question side point room

abbrev pub halves_output : Case → List ℕ → List ℕ → Side → ℕ → List ℕ → List ℕ
halves_output c a b side point out = by_half_output c.labels c.left c.right a b c.question side point out

-- A call is given by what it answers if so many bytes are lent (`answer`) and by what it leaves in a lent output
-- (`output`). Where there is room for a tree ψ: its bytes, and under them the other half's verdict is that on the log
pub record Given (c : Case) (a b : List ℕ) (side : Side) (point : ℕ) (answer : ℕ → Result ℕ Refusal)
    (output : List ℕ → List ℕ) (ψ : Formula) (out : List ℕ) : Type 0 where
  -- the answer is the number of the bytes written: two a node
  pub written : answer (length out) ≡ Ok (2 * size ψ)
  -- "which spell its tree"
  pub spelled : take (2 * size ψ) (output out) ≡ spell ψ []
  -- "lent bytes past it keep theirs"
  pub kept : drop (2 * size ψ) (output out) ≡ drop (2 * size ψ) out
  -- "the verdict on the log stopped at p equals the verdict on the other half stopped at p, under the very bytes
  -- written"
  pub agree : half_verdict c.labels (other_part c.left c.right (known_of side)) (other_part a b (known_of side))
      (take (2 * size ψ) (output out)) point
      ≡ verdict_at c point

-- what demand 3 says of a splitting with the halves a and b, at a point, with one side known
pub record Decomposed (c : Case) (a b : List ℕ) (side : Side) (point : ℕ) (answer : ℕ → Result ℕ Refusal)
    (output : List ℕ → List ℕ) : Type 0 where
  -- the question is the formula that its bytes spell
  pub question : Formula
  pub asked : c.question ≡ spell question []
  -- the tree is that of table 1, by the known half stopped at the point
  pub tree : Formula
  pub divided : tree ≡ quotient (pairing c.labels) (table_of (known_part c.left c.right (known_of side))) question
      (stop point (half_of (known_part a b (known_of side))))
  pub found : tree_by_half c.labels c.left c.right a b c.question side point ≡ Some tree
  -- the known half stopped at the point is what the cut gives
  pub cut : half_of (cut_of a b side point) ≡ stop point (half_of (known_part a b (known_of side)))
  -- the verdict on the log is given, and is that of the question on the run stopped at the point
  pub verdict : verdict_at c point
      ≡ verdict_of (holds (beside (pairing c.labels) (table_of c.left) (table_of c.right)) question
      (stop point (joint_of c.run)))
  -- "17 comes exactly when the tree by the rules above has over 4,096 nodes, whatever output is lent"
  pub too_large : (room : ℕ) → (answer room ≡ Err QuotientTooLarge) ↔ (quotient_limit < size tree)
  -- "otherwise only an output under two bytes a node is refused"
  pub too_short : size tree ≤ quotient_limit → (room : ℕ) → room < 2 * size tree → answer room ≡ Err OutputTooShort
  -- after a refusal every lent byte keeps its value
  pub untouched : (out : List ℕ) (x : Refusal) → answer (length out) ≡ Err x → output out ≡ out
  -- every other output is written to, and the verdicts agree
  pub given : size tree ≤ quotient_limit → (out : List ℕ) → 2 * size tree ≤ length out
      → Given c a b side point answer output tree out

-- the claim as a whole, for one case, one known side and one point
pub record Demand (c : Case) (side : Side) (point : ℕ) : Type 0 where
  -- every splitting, given by its halves: two halves that no check refuses and that join to the log. However many
  -- splittings the log has
  pub by_halves : (a b : List ℕ) → check_halves c.labels c.left c.right a b ≡ Ok tt
      → join_bytes c.labels a b ≡ c.run
      → Decomposed c a b side point (halves_given c a b side point) (halves_output c a b side point)
  -- the same for the halves of each splitting in the list of them, "also where there are over 65,535 and only halves
  -- name them"
  pub by_splittings : (n : ℕ) → n < length (splittings_in c) → let a = left_in c n in let b = right_in c n in
      Decomposed c a b side point (halves_given c a b side point) (halves_output c a b side point)
  -- every splitting, named by its number, where there are at most 65,535
  pub by_numbers : (n : ℕ) → n < length (splittings_in c) → length (splittings_in c) ≤ splitting_limit
      → Decomposed c (left_in c n) (right_in c n) side point (by_number c n side point) (by_number_output c n side point)

-- the whole: every accepted log and question, every known side, every point of the log. A side is left, right or
-- unnamed, which is the left (`known_of`): so the claim covers the unnamed call, and the other half is then the right
abbrev pub DemandThree : Type 0
DemandThree =
    (c : Case) (side : Side) (point : ℕ)
    -- the log is accepted: its labels (4), tables (3, 5 to 7) and the joint run (3, 8)
    → check_log c.labels c.left c.right c.run ≡ Ok tt
    -- and so is the question (9, 10)
    → check_formula c.labels question_limit c.question ≡ Ok tt
    -- the point is one of the log's: "from 0 to its number of steps"
    → point ≤ steps (joint_of c.run)
    → Demand c side point
