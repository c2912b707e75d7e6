-- The sheet: document 01, "The casebook". A sheet is a list of lines, each as bytes.
-- The verdicts, the quotient and its number are those that the calls of verdict and quotient promise.
use Rattle.std.specs.Prelude.{ℕ, zero, suc, ◌-◌, Bool, true, false, cond, List, [], ◌∷◌, ◌++◌, length, take, drop, leb, ltb, Err, Ok, Result}
use Rattle.hml.specs.Lists.{each}
use Rattle.hml.specs.System.{steps}
use Rattle.labels.specs.Refusals.{number_of, refused_if, output_of, Answer, refused_as, giving, Check}
use Rattle.labels.specs.declared.refusal.Refusal.{Refusal}
use Rattle.labels.specs.declared.refusal.Refusal.TheVariants.{OutputTooShort}
use Rattle.halves.specs.declared.side.Side.TheVariants as side
use Rattle.machines.specs.Cases.{Case}
use Rattle.machines.specs.Joints.{joint_of}
use Rattle.casebook.specs.Reading.{read_of, case_of}
use Rattle.verdict.specs.Verdicts.{joint_verdict, half_verdict}
use Rattle.splitting.specs.Splittings.{left_half, count_of}
use Rattle.dividing.specs.Quotients.{text_of}
use Rattle.quotient.specs.Calls.{tree_by_number, by_number}
use Rattle.digits.specs.Digits.{decimal, hexadecimal}
use Rattle.sheet_lines.specs.declared.lines.Block.{Block}
use Rattle.casebook.specs.declared.read.Parts.{Parts}

-- a blank, a line feed, and the mark of a last field that a refusal leaves out
abbrev pub blank : ℕ
blank = 32

abbrev pub line_feed : ℕ
line_feed = 10

abbrev pub dash : ℕ
dash = 45

-- a verdict as a letter: "T or F". A refused one has no letter; no line of a casebook that was read shows it
unfoldable pub letter_of : Result Bool Refusal → ℕ
letter_of (Ok true) = 84
letter_of (Ok false) = 70
letter_of (Err x) = dash

-- the two last fields and the line feed, from what the quotient's call answers, the quotient's bytes and the last
-- verdict's letter: "If refused, the quotient shows as 17 and the last field as -"
unfoldable pub ending_of : Result ℕ Refusal → List ℕ → ℕ → List ℕ
ending_of (Ok n) text letter = hexadecimal text ++ (blank ∷ letter ∷ line_feed ∷ [])
ending_of (Err x) text letter = decimal (number_of x) ++ (blank ∷ dash ∷ line_feed ∷ [])

-- the three first fields, each with the blank behind it
unfoldable pub head_of : ℕ → ℕ → ℕ → List ℕ
head_of point n letter = decimal point ++ (blank ∷ (decimal n ++ (blank ∷ letter ∷ blank ∷ [])))

-- room for every quotient: 4,096 nodes, two bytes each
abbrev pub text_room : ℕ
text_room = 8192

-- the quotient of the question by the right half of a splitting, at a point: what its call answers, and its bytes
unfoldable pub quotient_at : Case → ℕ → ℕ → Result ℕ Refusal
quotient_at c point n = by_number c n side.Right point text_room

unfoldable pub text_at : Case → ℕ → ℕ → List ℕ
text_at c point n = text_of (tree_by_number c n side.Right point)

-- a line: "point, splitting number, joint verdict (T or F), quotient by the right half in lower-case hexadecimal, left
-- half's verdict, all three at that point"
unfoldable pub line_of : Case → ℕ → ℕ → List ℕ
line_of c point n =
    head_of point n (letter_of (joint_verdict c.labels c.left c.right c.run c.question point))
    ++ ending_of (quotient_at c point n) (text_at c point n)
    (letter_of
    (half_verdict c.labels c.left (left_half c.labels c.left c.right c.run n)
    (text_at c point n) point))

-- what g gives from i on, so many times
unfoldable pub listed : {A : Type 0} → (ℕ → A) → ℕ → ℕ → List A
listed g i zero = []
listed g i (suc m) = g i ∷ listed g (suc i) m

-- "For each point from 0, and within it each splitting of the whole run, it prints a line"
unfoldable pub lines_of : Case → ℕ → List (List ℕ)
lines_of c count =
    each (λ point. listed (line_of c point) 0 count) (listed (λ point. point) 0 (suc (steps (joint_of c.run))))

-- "A refused casebook or count prints only one line, as `R 8`"
unfoldable pub refused_line : Refusal → List ℕ
refused_line x = 82 ∷ blank ∷ (decimal (number_of x) ++ (line_feed ∷ []))

unfoldable pub counted_lines : Result ℕ Refusal → (ℕ → List (List ℕ)) → List (List ℕ)
counted_lines (Ok n) g = g n
counted_lines (Err x) g = refused_line x ∷ []

unfoldable pub case_lines : Case → List (List ℕ)
case_lines c = counted_lines (count_of c.labels c.left c.right c.run) (lines_of c)

unfoldable pub read_lines : List ℕ → Result Parts Refusal → List (List ℕ)
read_lines s (Ok p) = case_lines (case_of s p)
read_lines s (Err x) = refused_line x ∷ []

-- the sheet of any bytes
unfoldable pub sheet_of : List ℕ → List (List ℕ)
sheet_of s = read_lines s (read_of s)

-- the bytes of some lines
unfoldable pub bytes_of : List (List ℕ) → List ℕ
bytes_of [] = []
bytes_of (line ∷ due) = line ++ bytes_of due

-- the first lines, as many as fit whole into so many bytes
unfoldable pub fitting : ℕ → List (List ℕ) → List (List ℕ)
fitting room [] = []
fitting room (line ∷ due) = cond (leb (length line) room) (line ∷ fitting (room - length line) due) []

-- a call for lines: those of the sheet that are asked for, from the line `first` on and at most so many
unfoldable pub lines_due : List ℕ → ℕ → ℕ → List (List ℕ)
lines_due s first most = take most (drop first (sheet_of s))

-- 18: "lent output shorter than the answer", which has at least the first line that is due
unfoldable pub first_too_long : ℕ → List (List ℕ) → Bool
first_too_long room [] = false
first_too_long room (line ∷ due) = ltb room (length line)

unfoldable pub check_room : List (List ℕ) → ℕ → Check
check_room due room = refused_if (first_too_long room due) OutputTooShort

-- how many lines were written, and how many bytes they are
unfoldable pub block_of : List (List ℕ) → Block
block_of block = record { lines = length block; bytes = length (bytes_of block) }

-- the answer; and the lent output afterwards
unfoldable pub written_or : Check → List (List ℕ) → Result Block Refusal
written_or (Ok _) block = Ok (block_of block)
written_or (Err x) block = Err x

unfoldable pub block_answer : List (List ℕ) → ℕ → Result Block Refusal
block_answer due room = written_or (check_room due room) (fitting room due)

unfoldable pub block_output : List (List ℕ) → List ℕ → List ℕ
block_output due out = output_of (check_room due (length out)) (bytes_of (fitting (length out) due)) out

-- the number of a call for lines, and its values: how many lines were written, and how many bytes they are
unfoldable pub lines_answer : Result Block Refusal → Answer
lines_answer (Ok b) = giving (b.lines ∷ b.bytes ∷ [])
lines_answer (Err x) = refused_as x
