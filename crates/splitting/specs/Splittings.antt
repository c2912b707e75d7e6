-- Splittings: document 01, "A splitting chooses one way for each step", and the numbers 13, 14 and 18.
-- Which splittings a joint run has, and in what order, is the theory's to say: `splits` in hml's Split lists them, "the
-- first step varies slowest, and ways go left alone, right alone, then handshakes by rising left label".
use Rattle.std.specs.Prelude.{ℕ, ◌+◌, ◌*◌, ◌||◌, List, [], ◌∷◌, length, get_or, leb, ltb, Err, Ok, Result}
use Rattle.hml.specs.System.{Run, start, steps}
use Rattle.hml.specs.Split.{splits}
use Rattle.hml.specs.Lists.{same}
use Rattle.labels.specs.Refusals.{refused_if, first_of, output_of, Answer, Check, value_answer}
use Rattle.labels.specs.Labels.{check_labels, pairing}
use Rattle.labels.specs.declared.refusal.Refusal.TheVariants.{TooManySplittings, NoSuchSplitting, OutputTooShort}
use Rattle.labels.specs.declared.label.Labels.{Labels}
use Rattle.tables.specs.Tables.{table_of, check_table}
use Rattle.halves.specs.Halves.{half_bytes}
use Rattle.machines.specs.Joints.{joint_of, check_joint}
use Rattle.labels.specs.declared.refusal.Refusal.{Refusal}

-- the splittings of a joint run of two tables, in order: pairs of half runs
unfoldable pub splittings_of : Labels → List ℕ → List ℕ → List ℕ → List (Run ℕ × Run ℕ)
splittings_of k l r s = splits (pairing k) same same (table_of l) (table_of r) (joint_of s)

-- the parts of a log, in record order
unfoldable pub check_log : Labels → List ℕ → List ℕ → List ℕ → Check
check_log k l r s = first_of (check_labels k ∷ check_table k l ∷ check_table k r ∷ check_joint k l r s ∷ [])

-- 13: "over 65,535 splittings, in the count and wherever a splitting is named by number"
unfoldable pub splitting_limit : ℕ
splitting_limit = 65535

unfoldable pub check_count : Labels → List ℕ → List ℕ → List ℕ → Check
check_count k l r s =
    first_of (check_log k l r s ∷ refused_if (ltb splitting_limit (length (splittings_of k l r s))) TooManySplittings ∷ [])

-- 14: "splitting number not below the count"
unfoldable pub check_number : Labels → List ℕ → List ℕ → List ℕ → ℕ → Check
check_number k l r s n =
    first_of (check_count k l r s ∷ refused_if (leb (length (splittings_of k l r s)) n) NoSuchSplitting ∷ [])

-- the halves of the splitting of a number, from 0, as bytes
unfoldable pub left_half : Labels → List ℕ → List ℕ → List ℕ → ℕ → List ℕ
left_half k l r s n = half_bytes (get_or (splittings_of k l r s) n (start 0, start 0)).0

unfoldable pub right_half : Labels → List ℕ → List ℕ → List ℕ → ℕ → List ℕ
right_half k l r s n = half_bytes (get_or (splittings_of k l r s) n (start 0, start 0)).1

-- each half has a state, and two bytes for each step of the joint run
unfoldable pub half_length : List ℕ → ℕ
half_length s = 2 * steps (joint_of s) + 1

-- 18: "lent output shorter than the answer", with so many bytes lent for the left half and so many for the right
unfoldable pub check_split : Labels → List ℕ → List ℕ → List ℕ → ℕ → ℕ → ℕ → Check
check_split k l r s n a b =
    first_of (check_number k l r s n ∷ refused_if (ltb a (half_length s) || ltb b (half_length s)) OutputTooShort ∷ [])

-- the answer of a count
abbrev pub counted : Check → ℕ → Result ℕ Refusal
counted (Ok _) n = Ok n
counted (Err x) n = Err x

unfoldable pub count_of : Labels → List ℕ → List ℕ → List ℕ → Result ℕ Refusal
count_of k l r s = counted (check_count k l r s) (length (splittings_of k l r s))

-- the number of a count, and its value: how many splittings there are
abbrev pub count_answer : Result ℕ Refusal → Answer
count_answer = value_answer

-- the answer of a split: the length of each half
abbrev pub halved : Check → ℕ → Result ℕ Refusal
halved (Ok _) n = Ok n
halved (Err x) n = Err x

unfoldable pub split_of : Labels → List ℕ → List ℕ → List ℕ → ℕ → ℕ → ℕ → Result ℕ Refusal
split_of k l r s n a b = halved (check_split k l r s n a b) (half_length s)

-- the number of a split, and its value: the length of each half
abbrev pub split_answer : Result ℕ Refusal → Answer
split_answer = value_answer

-- the lent outputs afterwards: if either is too short, neither is touched
unfoldable pub left_output : Labels → List ℕ → List ℕ → List ℕ → ℕ → List ℕ → ℕ → List ℕ
left_output k l r s n out b = output_of (check_split k l r s n (length out) b) (left_half k l r s n) out

unfoldable pub right_output : Labels → List ℕ → List ℕ → List ℕ → ℕ → ℕ → List ℕ → List ℕ
right_output k l r s n a out = output_of (check_split k l r s n a (length out)) (right_half k l r s n) out
