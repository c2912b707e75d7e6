-- Writing a casebook from its parts: document 01, "The casebook", and the order of "Calls that take parts".
use Rattle.std.specs.Prelude.{ℕ, List, [], ◌∷◌, ◌++◌, length, ltb, Err, Ok, Result}
use Rattle.labels.specs.Refusals.{refused_if, first_of, output_of, Answer, Check, value_answer}
use Rattle.labels.specs.Labels.{check_labels}
use Rattle.labels.specs.declared.refusal.Refusal.TheVariants.{OutputTooShort}
use Rattle.tables.specs.Tables.{check_table}
use Rattle.machines.specs.Joints.{check_joint}
use Rattle.machines.specs.Cases.{Case}
use Rattle.formulas.specs.Formulas.{question_limit, check_formula}
use Rattle.records.specs.Records.{labels_bytes, record_bytes}
use Rattle.labels.specs.declared.refusal.Refusal.{Refusal}

-- the bytes of a casebook
unfoldable pub casebook_bytes : Case → List ℕ
casebook_bytes c =
    record_bytes 1 (labels_bytes c.labels)
    ++ (record_bytes 2 c.left
    ++ (record_bytes 3 c.right ++ (record_bytes 4 c.run ++ record_bytes 5 c.question)))

-- "Calls that take parts give the parts' numbers, in record order"; a question has at most 64 nodes
unfoldable pub check_parts : Case → Check
check_parts c =
    let k = c.labels in
    first_of
    (check_labels k
    ∷ check_table k c.left
    ∷ check_table k c.right
    ∷ check_joint k c.left c.right c.run
    ∷ check_formula k question_limit c.question
    ∷ [])

-- 18: "lent output shorter than the answer; looked at last, after every other number"
unfoldable pub check_write : Case → ℕ → Check
check_write c room = first_of (check_parts c ∷ refused_if (ltb room (length (casebook_bytes c))) OutputTooShort ∷ [])

-- the answer: how many bytes were written
abbrev pub answered : Check → ℕ → Result ℕ Refusal
answered (Ok _) n = Ok n
answered (Err x) n = Err x

unfoldable pub write_of : Case → ℕ → Result ℕ Refusal
write_of c room = answered (check_write c room) (length (casebook_bytes c))

-- the number of a writing, and its value: how many bytes were written
abbrev pub write_answer : Result ℕ Refusal → Answer
write_answer = value_answer

-- the lent output afterwards
unfoldable pub written_of : Case → List ℕ → List ℕ
written_of c out = output_of (check_write c (length out)) (casebook_bytes c) out
