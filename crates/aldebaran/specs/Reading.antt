-- Reading an Aldebaran text into a table and its first state: document 02, 1/12. What texts are of the form, and what
-- they say, is `Says` (aldebaran_form/specs/Forms); this agrees with it (`read_exactly`, proofs/Exactly).
use Rattle.std.specs.Prelude.{ℕ, Bool, true, false, cond, ◌&&◌, ◌||◌, not, List, [], ◌∷◌, length, eqb, ltb, Err, None, Ok, Option, Result, Some}
use Rattle.hml.specs.Lists.{any, each}
use Rattle.hml.specs.Machine.{Row}
use Rattle.labels.specs.Refusals.{refused_if, first_of, output_of, Answer, refused_as, giving, Check}
use Rattle.labels.specs.declared.refusal.Refusal.TheVariants as refusal
use Rattle.tables.specs.Tables.{fit_states, in_range, row_below, leaving, bytes_of}
use Rattle.aldebaran_form.specs.Forms.{line_feed, Line, Form, fifteen}
use Rattle.aldebaran_form.specs.Lines.{next, header_in, line_in, label_of}
use Rattle.aldebaran.specs.declared.read.ReadTable.{ReadTable}
use Rattle.labels.specs.declared.refusal.Refusal.{Refusal}

-- a byte in front of the first line; nothing if there is no line, since then no line feed stands behind the byte
unfoldable pub longer : ℕ → Option (List (List ℕ)) → Option (List (List ℕ))
longer b None = None
longer b (Some []) = None
longer b (Some (line ∷ lines)) = Some ((b ∷ line) ∷ lines)

-- the lines of a text, each without the line feed that ends it; nothing if one is not so ended
unfoldable pub lines_of : List ℕ → Option (List (List ℕ))
lines_of [] = Some []
lines_of (b ∷ text) =
    cond (eqb b line_feed) (next (lines_of text) (λ lines. Some ([] ∷ lines))) (longer b (lines_of text))

-- lines, if each is of the form
unfoldable pub lines_in : List (List ℕ) → Option (List Line)
lines_in [] = Some []
lines_in (line ∷ lines) = next (line_in line) (λ l. next (lines_in lines) (λ ls. Some (l ∷ ls)))

-- 19: "a missing header or a line not of this form"; what a text of the form says
unfoldable pub form_in : List (List ℕ) → Option Form
form_in [] = None
form_in (line ∷ lines) =
    next (header_in line) (λ h. next (lines_in lines) (λ ls. Some (record { header = h; lines = ls })))

unfoldable pub form_of : List ℕ → Option Form
form_of text = next (lines_of text) form_in

-- is there something?
abbrev pub there : {A : Type 0} → Option A → Bool
there None = false
there (Some x) = true

-- 21: "a label .. not so spelled"
unfoldable pub is_label : List ℕ → Bool
is_label bytes = there (label_of bytes)

-- the rows of lines, in the text's order; a line with an unknown label gives no row
unfoldable pub rows_with : Line → Option ℕ → List Row
rows_with l None = []
rows_with l (Some a) = (l.from, a, l.to) ∷ []

unfoldable pub rows_in : List Line → List Row
rows_in lines = each (λ l. rows_with l (label_of l.label)) lines

-- does the test pass for each?
abbrev pub all : {A : Type 0} → (A → Bool) → List A → Bool
all f [] = true
all f (x ∷ xs) = f x && all f xs

-- 20: "a header whose row count differs from the lines or a first state not below the states"
unfoldable pub fit_header : Form → Bool
fit_header g = eqb g.header.rows (length g.lines) && ltb g.header.first g.header.states

-- 5, "the table's limits": the number of states, or a state of a row
unfoldable pub fit_rows : Form → Bool
fit_rows g = fit_states g.header.states && all (in_range fifteen g.header.states) (rows_in g.lines)

-- 6: "a row given twice", wherever the two stand
unfoldable pub same_row : Row → Row → Bool
same_row r s = eqb r.0 s.0 && (eqb r.1 s.1 && eqb r.2 s.2)

unfoldable pub twice : List Row → Bool
twice [] = false
twice (r ∷ rows) = any (same_row r) rows || twice rows

-- 7: a ninth row from one state
unfoldable pub ninth : List Row → Bool
ninth rows = any (λ r. ltb 8 (leaving r.0 rows)) rows

-- "the whole text is searched for 19, then 20, 21, 5, 6, 7": 19 comes before, in `read_of_form`
unfoldable pub check_form : Form → Check
check_form g = first_of
    (refused_if (not (fit_header g)) refusal.WrongHeader
    ∷ refused_if (not (all (λ l. is_label l.label) g.lines)) refusal.UnknownLabel
    ∷ refused_if (not (fit_rows g)) refusal.OutOfRange
    ∷ refused_if (twice (rows_in g.lines)) refusal.RowNotAbove
    ∷ refused_if (ninth (rows_in g.lines)) refusal.NinthRow
    ∷ [])

-- "Rows may come in any order and are put in ours"
unfoldable pub placed : Row → List Row → List Row
placed r [] = r ∷ []
placed r (s ∷ rows) = cond (row_below r s) (r ∷ s ∷ rows) (s ∷ placed r rows)

unfoldable pub in_order : List Row → List Row
in_order [] = []
in_order (r ∷ rows) = placed r (in_order rows)

-- the table
unfoldable pub table_bytes : Form → List ℕ
table_bytes g = g.header.states ∷ bytes_of (in_order (rows_in g.lines))

-- 18 is looked at last
unfoldable pub check_read : Form → ℕ → Check
check_read g room = first_of (check_form g ∷ refused_if (ltb room (length (table_bytes g))) refusal.OutputTooShort ∷ [])

abbrev pub gives_table : ℕ → ℕ → Result ReadTable Refusal
gives_table n first = Ok (record { len = n; first = first })

-- the answer: how long the table is, and its first state
abbrev pub answered : Check → ℕ → ℕ → Result ReadTable Refusal
answered (Ok _) n first = gives_table n first
answered (Err x) n first = Err x

unfoldable pub read_of_form : Option Form → ℕ → Result ReadTable Refusal
read_of_form None room = Err refusal.NotOfForm
read_of_form (Some g) room = answered (check_read g room) (length (table_bytes g)) g.header.first

unfoldable pub read_of : List ℕ → ℕ → Result ReadTable Refusal
read_of text room = read_of_form (form_of text) room

-- the number of a reading, and its values: the table's length and the first state
unfoldable pub table_answer : Result ReadTable Refusal → Answer
table_answer (Ok t) = giving (t.len ∷ t.first ∷ [])
table_answer (Err x) = refused_as x

-- the lent output afterwards
unfoldable pub output_of_form : Option Form → List ℕ → List ℕ
output_of_form None out = out
output_of_form (Some g) out = output_of (check_read g (length out)) (table_bytes g) out

unfoldable pub table_output : List ℕ → List ℕ → List ℕ
table_output text out = output_of_form (form_of text) out
