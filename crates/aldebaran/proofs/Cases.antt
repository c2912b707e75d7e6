-- The definitions on some texts, by computation: texts that are read and written, and one for each refusal of reading.
use Prim.Native.Nat.{ℕ}
use mathlib.Core.Path.{◌≡◌, refl}
use mathlib.Core.List.{List, [], ◌∷◌, ◌++◌}
use Rattle.hml.specs.Lists.{each}
use Rattle.hml.specs.Labels.{highest}
use Rattle.digits.specs.Digits.{decimal, digits_within, read_from}
use Rattle.labels.specs.Labels.{count}
use Rattle.labels.specs.Refusals.{first_of, in_front}
use Rattle.labels.specs.declared.refusal.Refusal.TheVariants as refusal
use Rattle.tables.specs.Tables.{threes, bytes_of, rows_of, fit_table, fit_states, in_range, row_below, above_last, leaving}
use Rattle.tables.specs.Tables.{check_row, check_rows, check_table}
use Rattle.aldebaran_form.specs.Forms.{header_line, row_line, ended, written, spelled}
use Rattle.aldebaran_form.specs.Lines.{behind, front, is_digit, digits_in, is_number, number_in, label_in, ending}
use Rattle.aldebaran_form.specs.Lines.{header_in, line_in, same_bytes, label_among, label_of}
use Rattle.aldebaran_writing.specs.Writing.{line_of, form_for, text_of, check_text, write_of}
use Rattle.aldebaran.specs.Reading.{longer, lines_of, lines_in, form_in, form_of}
use Rattle.aldebaran.specs.Reading.{is_label, rows_with, rows_in, fit_header, fit_rows, same_row, twice, ninth}
use Rattle.aldebaran.specs.Reading.{check_form, placed, in_order, table_bytes, check_read, gives_table, read_of_form, read_of}
use Rattle.aldebaran.specs.Reading.{output_of_form, table_output}
use Rattle.std.specs.Prelude.{Err, Ok}

-- case A's left table
abbrev left_a : List ℕ
left_a = 2 ∷ 0 ∷ 1 ∷ 1 ∷ 0 ∷ 3 ∷ 1 ∷ []

-- the lines of its two rows
abbrev first_line : List ℕ
first_line = 40 ∷ 48 ∷ 44 ∷ 34 ∷ 97 ∷ 49 ∷ 33 ∷ 34 ∷ 44 ∷ 49 ∷ 41 ∷ 10 ∷ []

abbrev second_line : List ℕ
second_line = 40 ∷ 48 ∷ 44 ∷ 34 ∷ 97 ∷ 50 ∷ 33 ∷ 34 ∷ 44 ∷ 49 ∷ 41 ∷ 10 ∷ []

-- `des (0,2,2)`
abbrev header : List ℕ
header = 100 ∷ 101 ∷ 115 ∷ 32 ∷ 40 ∷ 48 ∷ 44 ∷ 50 ∷ 44 ∷ 50 ∷ 41 ∷ 10 ∷ []

abbrev text_a : List ℕ
text_a = header ++ (first_line ++ second_line)

-- the text of case A's left table with first state 0 is read as that, in either order of its rows; the last lent byte
-- keeps its value, and an output of six bytes is too short
pub case_read : (read_of text_a 8 ≡ gives_table 7 0)
    × (table_output text_a (9 ∷ 9 ∷ 9 ∷ 9 ∷ 9 ∷ 9 ∷ 9 ∷ 9 ∷ []) ≡ left_a ++ (9 ∷ []))
    × (table_output (header ++ (second_line ++ first_line)) (9 ∷ 9 ∷ 9 ∷ 9 ∷ 9 ∷ 9 ∷ 9 ∷ []) ≡ left_a)
    × (read_of text_a 6 ≡ Err refusal.OutputTooShort)
unfolding read_of read_of_form form_of lines_of longer form_in header_in lines_in line_in behind number_in front digits_in is_digit
    is_number read_from label_in ending check_read check_form first_of fit_header is_label label_of label_among same_bytes
    spelled decimal digits_within fit_rows fit_states in_range count highest rows_in rows_with same_row twice ninth leaving
    table_bytes in_order placed row_below bytes_of table_output output_of_form in_front
case_read = (refl, refl, refl, refl)

-- its text, and a first state that is none of its states
pub case_written : (text_of left_a 0 ≡ text_a) × (write_of left_a 0 36 ≡ Ok 36)
    × (write_of left_a 2 36 ≡ Err refusal.WrongHeader)
unfolding write_of check_text first_of check_table fit_table fit_states check_rows check_row in_range count highest above_last
    row_below leaving rows_of threes text_of written form_for line_of header_line row_line ended spelled decimal digits_within
case_written = (refl, refl, refl)

-- `des (0,0,1)`, a state without rows
abbrev bare : List ℕ
bare = 100 ∷ 101 ∷ 115 ∷ 32 ∷ 40 ∷ 48 ∷ 44 ∷ 48 ∷ 44 ∷ 49 ∷ 41 ∷ 10 ∷ []

-- 19: no line feed ends the header
abbrev unended : List ℕ
unended = 100 ∷ 101 ∷ 115 ∷ 32 ∷ 40 ∷ 48 ∷ 44 ∷ 48 ∷ 44 ∷ 49 ∷ 41 ∷ []

-- 21: `(0,"a16!",0)`
abbrev sixteenth : List ℕ
sixteenth =
    100 ∷ 101 ∷ 115 ∷ 32 ∷ 40 ∷ 48 ∷ 44 ∷ 49 ∷ 44 ∷ 49 ∷ 41 ∷ 10 ∷ 40 ∷ 48 ∷ 44 ∷ 34 ∷ 97 ∷ 49 ∷ 54 ∷ 33 ∷ 34 ∷ 44
    ∷ 48 ∷ 41 ∷ 10 ∷ []

-- 5: `des (0,0,65)`
abbrev many : List ℕ
many = 100 ∷ 101 ∷ 115 ∷ 32 ∷ 40 ∷ 48 ∷ 44 ∷ 48 ∷ 44 ∷ 54 ∷ 53 ∷ 41 ∷ 10 ∷ []

-- `des (0,3,2)`
abbrev three : List ℕ
three = 100 ∷ 101 ∷ 115 ∷ 32 ∷ 40 ∷ 48 ∷ 44 ∷ 51 ∷ 44 ∷ 50 ∷ 41 ∷ 10 ∷ []

-- a silent step from state 0 to a state of one digit, given as its byte
abbrev silent : ℕ → List ℕ
silent d = 40 ∷ 48 ∷ 44 ∷ 34 ∷ 105 ∷ 34 ∷ 44 ∷ d ∷ 41 ∷ 10 ∷ []

-- `des (0,9,9)`
abbrev nine : List ℕ
nine = 100 ∷ 101 ∷ 115 ∷ 32 ∷ 40 ∷ 48 ∷ 44 ∷ 57 ∷ 44 ∷ 57 ∷ 41 ∷ 10 ∷ []

-- a table without rows, and a text for each refusal: 19, a line feed is missing; 20, the header says a row more; 21; 5;
-- 6, a row given twice with another between; 7
pub case_answers : (read_of bare 1 ≡ gives_table 1 0) × (read_of unended 1 ≡ Err refusal.NotOfForm)
    × (read_of (header ++ first_line) 7 ≡ Err refusal.WrongHeader)
    × (read_of sixteenth 4 ≡ Err refusal.UnknownLabel) × (read_of many 1 ≡ Err refusal.OutOfRange)
    × (read_of (three ++ (first_line ++ (second_line ++ first_line))) 10 ≡ Err refusal.RowNotAbove)
    × (read_of (nine ++ each silent (48 ∷ 49 ∷ 50 ∷ 51 ∷ 52 ∷ 53 ∷ 54 ∷ 55 ∷ 56 ∷ [])) 28
    ≡ Err refusal.NinthRow)
unfolding read_of read_of_form form_of lines_of longer form_in header_in lines_in line_in behind number_in front digits_in is_digit
    is_number read_from label_in ending check_read check_form first_of fit_header is_label label_of label_among same_bytes
    spelled decimal digits_within fit_rows fit_states in_range count highest rows_in rows_with same_row twice ninth leaving
    table_bytes in_order placed row_below bytes_of
case_answers = (refl, refl, refl, refl, refl, refl, refl)
