-- Joining: document 01, "Joining is the reverse. Two steps match if they form one of the ways, and two halves match if
-- they are equally long and match at each step", and the numbers 15, 16 and 18. Which run two matching halves give is
-- the theory's to say (`join` in hml's Joining).
use Rattle.std.specs.Prelude.{ℕ, Bool, true, not, List, [], ◌∷◌, length, ltb, Err, None, Ok, Option, Result, Some}
use Rattle.hml.specs.Lists.{present}
use Rattle.hml.specs.System.{Run}
use Rattle.hml.specs.Compose.{paired}
use Rattle.hml.specs.Joining.{join}
use Rattle.labels.specs.Refusals.{refused_if, first_of, output_of, Answer, Check, value_answer}
use Rattle.labels.specs.Labels.{check_labels, pairing}
use Rattle.labels.specs.declared.refusal.Refusal.TheVariants.{HalvesDoNotMatch, OutputTooShort}
use Rattle.labels.specs.declared.label.Labels.{Labels}
use Rattle.tables.specs.Tables.{check_table}
use Rattle.halves.specs.Halves.{half_of, check_half}
use Rattle.machines.specs.Joints.{joint_bytes}
use Rattle.labels.specs.declared.refusal.Refusal.{Refusal}

-- the joint run that two halves give, if they match
unfoldable pub join_of : Labels → List ℕ → List ℕ → Option (Run (ℕ × ℕ))
join_of k a b = join (pairing k) paired (half_of a) (half_of b)

unfoldable pub halves_match : Labels → List ℕ → List ℕ → Bool
halves_match k a b = present (λ j. true) (join_of k a b)

-- a joint run as bytes; none where there is no run
abbrev pub run_bytes : Option (Run (ℕ × ℕ)) → List ℕ
run_bytes None = []
run_bytes (Some j) = joint_bytes j

unfoldable pub join_bytes : Labels → List ℕ → List ℕ → List ℕ
join_bytes k a b = run_bytes (join_of k a b)

-- the parts of a call that takes halves: the tables' numbers in record order, then 15 for either half, then 16
unfoldable pub check_halves : Labels → List ℕ → List ℕ → List ℕ → List ℕ → Check
check_halves k l r a b = first_of
    (check_labels k
    ∷ check_table k l
    ∷ check_table k r
    ∷ check_half l a
    ∷ check_half r b
    ∷ refused_if (not (halves_match k a b)) HalvesDoNotMatch
    ∷ [])

-- 18: with so many bytes lent
unfoldable pub check_join : Labels → List ℕ → List ℕ → List ℕ → List ℕ → ℕ → Check
check_join k l r a b room =
    first_of (check_halves k l r a b ∷ refused_if (ltb room (length (join_bytes k a b))) OutputTooShort ∷ [])

-- the answer: the length of the joint run, in bytes
abbrev pub joined : Check → ℕ → Result ℕ Refusal
joined (Ok _) n = Ok n
joined (Err x) n = Err x

unfoldable pub joining_of : Labels → List ℕ → List ℕ → List ℕ → List ℕ → ℕ → Result ℕ Refusal
joining_of k l r a b room = joined (check_join k l r a b room) (length (join_bytes k a b))

-- the number of a join, and its value: the length of the joint run, in bytes
abbrev pub join_answer : Result ℕ Refusal → Answer
join_answer = value_answer

-- the lent output afterwards
unfoldable pub join_output : Labels → List ℕ → List ℕ → List ℕ → List ℕ → List ℕ → List ℕ
join_output k l r a b out = output_of (check_join k l r a b (length out)) (join_bytes k a b) out
