-- Writing a table and its first state as an Aldebaran text: document 02, 1/12.
use Rattle.std.specs.Prelude.{ℕ, List, [], ◌∷◌, map, length, leb, ltb, Err, Ok, Result}
use Rattle.hml.specs.Machine.{Row}
use Rattle.labels.specs.Refusals.{refused_if, first_of, output_of, Answer, Check, value_answer}
use Rattle.labels.specs.declared.refusal.Refusal.TheVariants as refusal
use Rattle.tables.specs.Tables.{states_of, rows_of, check_table}
use Rattle.aldebaran_form.specs.Forms.{Line, Form, spelled, written, fifteen}
use Rattle.labels.specs.declared.refusal.Refusal.{Refusal}

-- a row as a line
unfoldable pub line_of : Row → Line
line_of r = record { from = r.0; label = spelled r.1; to = r.2 }

-- what the text says: the rows as the table has them, and those of an accepted table rise; "Writing uses our row order"
unfoldable pub form_for : List ℕ → ℕ → Form
form_for t first = record {
  header = record { first = first; rows = length (rows_of t); states = states_of t };
  lines = map line_of (rows_of t);
}

-- the text
unfoldable pub text_of : List ℕ → ℕ → List ℕ
text_of t first = written (form_for t first)

-- the table as a part, with k taken as 15; then 20, "a first state not below the states (in writing too)"; 18 is looked
-- at last
unfoldable pub check_text : List ℕ → ℕ → ℕ → Check
check_text t first room = first_of
    (check_table fifteen t
    ∷ refused_if (leb (states_of t) first) refusal.WrongHeader
    ∷ refused_if (ltb room (length (text_of t first))) refusal.OutputTooShort
    ∷ [])

-- the answer: how many bytes were written
abbrev pub answered : Check → ℕ → Result ℕ Refusal
answered (Ok _) n = Ok n
answered (Err x) n = Err x

unfoldable pub write_of : List ℕ → ℕ → ℕ → Result ℕ Refusal
write_of t first room = answered (check_text t first room) (length (text_of t first))

-- the number of a writing, and its value
abbrev pub text_answer : Result ℕ Refusal → Answer
text_answer = value_answer

-- the lent output afterwards
unfoldable pub text_output : List ℕ → ℕ → List ℕ → List ℕ
text_output t first out = output_of (check_text t first (length out)) (text_of t first) out
