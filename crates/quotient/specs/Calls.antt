-- The quotient's calls: document 01, "The quotient" and "Who can cause a refusal". The tree of a quotient, its bytes
-- and the numbers 17 and 18 are dividing's (Quotients).
use Rattle.std.specs.Prelude.{ℕ, ◌≡◌, Bool, not, List, [], ◌∷◌, length, leb, ltb, Err, Ok, Option, Result}
use Rattle.hml.specs.System.{Run, steps, stop}
use Rattle.hml.specs.Formula.{Formula}
use Rattle.labels.specs.Refusals.{refused_if, first_of, Answer, refused_as, giving, Check}
use Rattle.labels.specs.Labels.{check_labels}
use Rattle.labels.specs.declared.refusal.Refusal.TheVariants.{PointBeyond, TooManySplittings, NoSuchSplitting}
use Rattle.labels.specs.declared.refusal.Refusal.TheVariants.{HalvesDoNotMatch}
use Rattle.labels.specs.declared.label.Labels.{Labels}
use Rattle.tables.specs.Tables.{check_table}
use Rattle.halves.specs.Halves.{half_of, check_half}
use Rattle.halves.specs.Cuts.{known_of, known_part, other_part, beyond}
use Rattle.halves.specs.declared.side.Side.{Side}
use Rattle.machines.specs.Joints.{joint_of, check_joint}
use Rattle.machines.specs.Cases.{Case}
use Rattle.formulas.specs.Formulas.{question_limit, check_formula}
use Rattle.verdict.specs.Verdicts.{joint_holds, half_holds, bit_of}
use Rattle.joining.specs.Joinings.{halves_match, join_bytes}
use Rattle.splitting.specs.Splittings.{splittings_of, splitting_limit, left_half, right_half}
use Rattle.dividing.specs.Quotients.{quotient_by, text_of, check_size, answer_of, output_after}
use Rattle.labels.specs.declared.refusal.Refusal.{Refusal}

-- the quotient of a question by the known half stopped at a point: by the right half from the right table, "by the left
-- half everything is mirrored"
unfoldable pub tree_by_half : Labels → List ℕ → List ℕ → List ℕ → List ℕ → List ℕ → Side → ℕ → Option Formula
tree_by_half k l r a b f side point =
    quotient_by k (known_part l r (known_of side)) (stop point (half_of (known_part a b (known_of side)))) f

-- what a call judges that takes halves, in order: the parts' numbers; 12 on the known half alone; 15 for either half;
-- 16
unfoldable pub check_by_half : Labels → List ℕ → List ℕ → List ℕ → List ℕ → List ℕ → Side → ℕ → Check
check_by_half k l r a b f side point = first_of
    (check_labels k
    ∷ check_table k l
    ∷ check_table k r
    ∷ check_formula k question_limit f
    ∷ refused_if (beyond (known_part a b (known_of side)) point) PointBeyond
    ∷ check_half l a
    ∷ check_half r b
    ∷ refused_if (not (halves_match k a b)) HalvesDoNotMatch
    ∷ [])

-- the answer, with so many bytes lent, and the lent output afterwards; 17 and 18 come last
unfoldable pub by_half : Labels → List ℕ → List ℕ → List ℕ → List ℕ → List ℕ → Side → ℕ → ℕ → Result ℕ Refusal
by_half k l r a b f side point room =
    answer_of (check_by_half k l r a b f side point) (tree_by_half k l r a b f side point) room

unfoldable pub by_half_output : Labels → List ℕ → List ℕ → List ℕ → List ℕ → List ℕ → Side → ℕ → List ℕ → List ℕ
by_half_output k l r a b f side point out =
    output_after (check_by_half k l r a b f side point) (tree_by_half k l r a b f side point) out

-- of a case: the splittings of its run, and the left and the right half of the one with a number
abbrev pub splittings_in : Case → List (Run ℕ × Run ℕ)
splittings_in c = splittings_of c.labels c.left c.right c.run

abbrev pub left_in : Case → ℕ → List ℕ
left_in c n = left_half c.labels c.left c.right c.run n

abbrev pub right_in : Case → ℕ → List ℕ
right_in c n = right_half c.labels c.left c.right c.run n

-- the quotient by the known half of the splitting of a number
unfoldable pub tree_by_number : Case → ℕ → Side → ℕ → Option Formula
tree_by_number c n side point =
    tree_by_half c.labels c.left c.right (left_in c n) (right_in c n) c.question side point

-- what a call judges that names a splitting by its number: the parts' numbers; 12 on the joint run; 13; 14
unfoldable pub check_by_number : Case → ℕ → ℕ → Check
check_by_number c n point = first_of
    (check_labels c.labels
    ∷ check_table c.labels c.left
    ∷ check_table c.labels c.right
    ∷ check_joint c.labels c.left c.right c.run
    ∷ check_formula c.labels question_limit c.question
    ∷ refused_if (ltb (steps (joint_of c.run)) point) PointBeyond
    ∷ refused_if (ltb splitting_limit (length (splittings_in c))) TooManySplittings
    ∷ refused_if (leb (length (splittings_in c)) n) NoSuchSplitting
    ∷ [])

unfoldable pub by_number : Case → ℕ → Side → ℕ → ℕ → Result ℕ Refusal
by_number c n side point room = answer_of (check_by_number c n point) (tree_by_number c n side point) room

unfoldable pub by_number_output : Case → ℕ → Side → ℕ → List ℕ → List ℕ
by_number_output c n side point out = output_after (check_by_number c n point) (tree_by_number c n side point) out

-- the line office: one statement put to the whole line, stopped at the point
unfoldable pub line_holds : Labels → List ℕ → List ℕ → List ℕ → List ℕ → List ℕ → ℕ → Bool
line_holds k l r a b f point = joint_holds k l r (join_bytes k a b) f point

-- and to one machine: the quotient's bytes on the other half, stopped at the point
unfoldable pub machine_holds : Labels → List ℕ → List ℕ → List ℕ → List ℕ → List ℕ → Side → ℕ → Bool
machine_holds k l r a b f side point =
    half_holds (other_part l r (known_of side)) (other_part a b (known_of side)) (text_of (tree_by_half k l r a b f side point))
    point

-- judged as a quotient given halves is, without 18
unfoldable pub check_line : Labels → List ℕ → List ℕ → List ℕ → List ℕ → List ℕ → Side → ℕ → Check
check_line k l r a b f side point =
    first_of (check_by_half k l r a b f side point ∷ check_size (tree_by_half k l r a b f side point) ∷ [])

-- the answer: both verdicts, of the line and of the machine
abbrev pub verdicts_of : Check → Bool → Bool → Result (Bool × Bool) Refusal
verdicts_of (Ok _) j h = Ok (j, h)
verdicts_of (Err x) j h = Err x

unfoldable pub office_of : Labels → List ℕ → List ℕ → List ℕ → List ℕ → List ℕ → Side → ℕ → Result (Bool × Bool) Refusal
office_of k l r a b f side point =
    verdicts_of (check_line k l r a b f side point) (line_holds k l r a b f point) (machine_holds k l r a b f side point)

-- the number of the line office, and its values: the line's verdict and the machine's
unfoldable pub line_answer : Result (Bool × Bool) Refusal → Answer
line_answer (Ok (j, h)) = giving (bit_of j ∷ bit_of h ∷ [])
line_answer (Err x) = refused_as x

-- where both are given they are the same
unfoldable pub Same : Result (Bool × Bool) Refusal → Type 0
Same (Ok (j, h)) = j ≡ h
Same (Err x) = Unit {0}
