-- How the code works: what functions ask for and promise that serve others. No call's promise cites this file.
use Rattle.std.specs.Prelude.{ℕ, ◌+◌, ◌-◌, ◌*◌, ◌/◌, ◌%◌, ◌≤◌, ◌<◌, ◌≡◌, ◌⊎◌, cond, List, ◌++◌, length, get_or, take, drop, set, ltb, eqb, Ok, Option, Result}
use Rattle.std.specs.Result.{result_unwrap_or}
unfoldable pub use Rattle.digits.specs.Outputs.{put_at}
use Rattle.hml.specs.Formula.{Formula}
use Rattle.labels.specs.Refusals.{Check}
use Rattle.halves.specs.declared.side.Side.TheVariants as side
use Rattle.machines.specs.Cases.{Case, with_run}
use Rattle.formulas.specs.Formulas.{question_limit, check_formula}
use Rattle.verdict.specs.Verdicts.{joint_verdict}
use Rattle.splitting.specs.Splittings.{splittings_of, splitting_limit, check_log, count_of, right_half}
use Rattle.quotient.specs.Calls.{tree_by_number, check_by_number, by_number, by_number_output}
use Rattle.sheet_lines.specs.declared.point.Point.{Point}
use Rattle.sheet_lines.specs.declared.kept.Kept.{Kept}
use Rattle.sheet_lines.specs.declared.case.Case as held
use Rattle.casebook.specs.Reading.{case_of}
use Rattle.sheet_lines.specs.Sheets.{letter_of, ending_of, head_of, line_of, quotient_at, text_at, listed}
use Rattle.sheet_lines.specs.Sheets.{bytes_of, fitting}
use Rattle.labels.specs.declared.refusal.Refusal.{Refusal}

-- the case that a case's bytes show
abbrev pub shown : held.Case → Case
shown c = case_of c.bytes.now c.parts

-- lines i to j are written behind a place, where an output xs begins, and those up to `end` are due: the output is ys
-- now, and the next line's place is `at`
pub record Filled (g : ℕ → List ℕ) (xs : List ℕ) (start i end : ℕ) (ys : List ℕ) (at j : ℕ) : Type 0 where
  pub written : ys ≡ put_at xs start (bytes_of (listed g i (j - i)))
  pub place : at ≡ start + length (bytes_of (listed g i (j - i)))
  pub left : fitting (length xs - start) (listed g i (end - i))
      ≡ listed g i (j - i) ++ fitting (length xs - at) (listed g j (end - j))
  pub begun : i ≤ j
  pub due : j ≤ end
  pub room : at ≤ length xs

-- all of the due lines that fit are written
pub record Full (block : List (List ℕ)) (xs : List ℕ) (start i : ℕ) (ys : List ℕ) (at j : ℕ) : Type 0 where
  pub written : ys ≡ put_at xs start (bytes_of block)
  pub place : at ≡ start + length (bytes_of block)
  pub counted : j ≡ i + length block

-- of a case: the check of its log, how many splittings the log has, what their count answers, and the right half of
-- one
abbrev pub log_check : Case → Check
log_check c = check_log c.labels c.left c.right c.run

abbrev pub ways_of : Case → ℕ
ways_of c = length (splittings_of c.labels c.left c.right c.run)

abbrev pub count_in : Case → Result ℕ Refusal
count_in c = count_of c.labels c.left c.right c.run

abbrev pub half_in : Case → ℕ → List ℕ
half_in c i = right_half c.labels c.left c.right c.run i

-- the letter of the joint verdict on it at a point
abbrev pub letter_at : Case → ℕ → ℕ
letter_at c point =
    letter_of (joint_verdict c.labels c.left c.right c.run c.question point)

-- the call for the quotient by the right half of splitting n, at a point: its check, its tree, its answer and output
abbrev pub check_at : Case → ℕ → ℕ → Check
check_at c point n = check_by_number c n point

abbrev pub tree_at : Case → ℕ → ℕ → Option Formula
tree_at c point n = tree_by_number c n side.Right point

abbrev pub answer_at : Case → ℕ → ℕ → ℕ → Result ℕ Refusal
answer_at c point n room = by_number c n side.Right point room

abbrev pub output_at : Case → ℕ → ℕ → List ℕ → List ℕ
output_at c point n out = by_number_output c n side.Right point out

-- and at the end of its run, for splitting t
abbrev pub quotient_in : Case → ℕ → ℕ → Result ℕ Refusal
quotient_in c t room = answer_at c (length c.run / 3) t room

abbrev pub output_in : Case → ℕ → List ℕ → List ℕ
output_in c t out = output_at c (length c.run / 3) t out

-- a case whose log no check refuses, and whose splittings can be numbered
pub record Splits (c : Case) : Type 0 where
  pub log : log_check c ≡ Ok tt
  pub few : ways_of c ≤ splitting_limit

-- a case of which no check refuses the log or the question
pub record Asked (c : Case) : Type 0 where
  pub log : log_check c ≡ Ok tt
  pub question : check_formula c.labels question_limit c.question ≡ Ok tt

-- and the number of its splittings
pub record Numbered (c : Case) (count : ℕ) : Type 0 where
  pub asked : Asked c
  pub counted : count ≡ ways_of c
  pub few : count ≤ splitting_limit
  pub some : 1 ≤ count

-- line i of the sheet
unfoldable pub numbered_line : Case → ℕ → ℕ → List ℕ
numbered_line c count i = line_of c (i / count) (i % count)

-- the ending of the lines whose splitting has number t in a window, at the window's end; a window is a case whose run
-- is a part of another's
unfoldable pub ending_in : Case → ℕ → ℕ → List ℕ
ending_in w letter t = ending_of (quotient_at w (length w.run / 3) t) (text_at w (length w.run / 3) t) letter

-- such a line
unfoldable pub line_in : Case → ℕ → ℕ → ℕ → ℕ → List ℕ
line_in w letter point n t = head_of point n letter ++ ending_in w letter t

-- the line of splitting n of a point, with a given ending
unfoldable pub line_with : Point → List ℕ → ℕ → List ℕ
line_with p ending n = head_of p.number n p.letter ++ ending

-- bytes that begin with the head of such a line
unfoldable pub Headed : Point → ℕ → List ℕ → Type 0
Headed p n line = take (length (head_of p.number n p.letter)) line ≡ head_of p.number n p.letter

-- such a line, made from that of number n: the last digit is another, at a place
unfoldable pub digit_line : List ℕ → ℕ → ℕ → ℕ → List ℕ
digit_line line place n i = set line place (48 + n % 10 + (i - n))

-- numbers, from one up to another, that differ in their last digit only
unfoldable pub Tens : ℕ → ℕ → Type 0
Tens n end = (n ≤ end) × (end ≤ n - n % 10 + 10)

-- the line of splitting n of a point: its number in the window is n / after % ways
unfoldable pub line_by : Case → Point → ℕ → List ℕ
line_by w p n = line_in w p.letter p.number n (n / p.after % p.ways)

-- where endings stand in an output, from one place to another in front of `at`, for each number below `ways`; 0 as the
-- second place if it stands nowhere
unfoldable pub Standing : (ℕ → List ℕ) → List ℕ → ℕ → ℕ → ℕ → ℕ → Type 0
Standing e out at from end t = (take (length (e t)) (drop from out) ≡ e t) × (from + length (e t) ≡ end) × (end ≤ at)

unfoldable pub EndingsKnown : (ℕ → List ℕ) → ℕ → List ℕ → List ℕ → List ℕ → ℕ → Type 0
EndingsKnown e ways froms ends out at =
    (t : ℕ) → t < ways → (get_or ends t 0 ≡ 0) ⊎ Standing e out at (get_or froms t 0) (get_or ends t 0) t

-- what the writing of lines works with: where endings stand in the output, a quotient's bytes, and a line
pub record Scratch (froms ends text line : List ℕ) : Type 0 where
  pub froms_size : length froms ≡ 8192
  pub ends_size : length ends ≡ 8192
  pub text_size : length text ≡ 8192
  pub line_size : length line ≡ 16399

-- the entries for endings, when lines were written from one place to another that end with `len` bytes
unfoldable pub froms_after : List ℕ → ℕ → ℕ → ℕ → ℕ → List ℕ
froms_after froms t len at to = cond (eqb to at) froms (cond (ltb t 8192) (set froms t (to - len)) froms)

unfoldable pub ends_after : List ℕ → ℕ → ℕ → ℕ → List ℕ
ends_after ends t at to = cond (eqb to at) ends (cond (ltb t 8192) (set ends t to) ends)

-- how many splittings are counted; 1 where the count is refused
unfoldable pub counted_as : Result ℕ Refusal → ℕ
counted_as counted = result_unwrap_or counted 1

-- the first n entries are 0
unfoldable pub Forgotten : List ℕ → ℕ → Type 0
Forgotten ends n = (t : ℕ) → t < n → get_or ends t 0 ≡ 0

-- by how many splittings numbers are divided to find their number in a window: by as many as follow it, or by any
-- number if the window has one splitting
unfoldable pub after_of : ℕ → ℕ → ℕ
after_of ways n = cond (eqb ways 1) 65536 n

-- the run of a case from one point to another, as a case of its own
unfoldable pub between : Case → ℕ → ℕ → Case
between c from to = with_run c (take (3 * (to - from) + 2) (drop (3 * from) c.run))

-- the two parts of a window that is cut behind its first m steps, each as a case of its own
unfoldable pub older_part : Case → ℕ → Case
older_part w m = with_run w (take (3 * m + 2) w.run)

unfoldable pub newer_part : Case → ℕ → Case
newer_part w m = with_run w (drop (3 * m) w.run)

-- a half stands at a place of the table of halves, which has 401 bytes for each
unfoldable pub HalfAt : List ℕ → ℕ → List ℕ → Type 0
HalfAt halves i h = take (length h) (drop (401 * i) halves) ≡ h

-- the right halves of the first n splittings of a case stand there, from the place `first` on
unfoldable pub HalvesAt : Case → List ℕ → ℕ → ℕ → Type 0
HalvesAt c halves first n = (i : ℕ) → i < n → HalfAt halves (first + i) (half_in c i)

-- those of both parts of a window: the older part's from place 0 on, the newer part's from place 256 on
pub record PartHalves (w : Case) (kept : Kept) (halves : List ℕ) : Type 0 where
  pub points : kept.older + kept.newer ≡ length w.run / 3
  pub counted : kept.ways ≡ ways_of (newer_part w kept.older)
  pub few_older : ways_of (older_part w kept.older) ≤ 256
  pub few_newer : kept.ways ≤ 256
  pub older_halves : HalvesAt (older_part w kept.older) halves 0 (ways_of (older_part w kept.older))
  pub newer_halves : HalvesAt (newer_part w kept.older) halves 256 kept.ways

-- the table has room for 512 halves, and holds those of the window's parts, or none are kept
pub record Halved (w : Case) (kept : Kept) (halves : List ℕ) : Type 0 where
  pub size : length halves ≡ 205312
  pub stands : (kept.ways ≡ 0) ⊎ PartHalves w kept halves

-- what the lines of a point share: a window of which no check refuses the log or the question, how many splittings it
-- has, and their halves
pub record Shared (w : Case) (p : Point) (halves : List ℕ) : Type 0 where
  pub asked : Asked w
  pub counted : p.ways ≡ ways_of w
  pub few : ways_of w ≤ splitting_limit
  pub halved : Halved w p.kept halves
