-- How long labels, lines and whole texts are: a text of a sound table has at most 7,696 bytes.
use Prim.Native.Nat.{ℕ, zero, suc, ◌+◌, ◌-◌, ◌*◌, ◌/◌, ◌%◌, ◌≤◌, ◌<◌}
use mathlib.Core.Path.{◌≡◌, refl, ◌∙◌, ap}
use mathlib.Core.Bool.{cond}
use mathlib.Core.List.{List, [], ◌∷◌, ◌++◌, append-nil}
use mathlib.Core.List.Memᴰ.{head as here}
use mathlib.Core.List.Memᴰ.{tail as there}
use native.Mathlib.Omega.{arith}
use lib.ListN.{length, get_or, take, length-append}
use lib.Seq.{take-suc}
use lib.Dec.{eqb}
use Rattle.hml.specs.Lists.{◌∈◌, each}
use Rattle.hml.proofs.Lists.{each_append, each_map}
use Rattle.hml.specs.Machine.{Row}
use Rattle.digits.specs.Digits.{decimal}
use Rattle.digits.proofs.DecimalLaws.{count-within}
use Rattle.hml.specs.Labels.{highest}
use Rattle.labels.specs.Labels.{count}
use Rattle.tables.specs.Tables.{states_of, rows_of, check_table, SoundTable}
use Rattle.tables.proofs.Rows.{length-rows}
use Rattle.tables.proofs.SoundTables.{sound_table}
use Rattle.aldebaran_form.specs.Forms.{line_feed, quote, comma, opening, closing, des, header_line, row_line}
use Rattle.aldebaran_form.specs.Forms.{ended, written, spelled}
use Rattle.aldebaran_form.specs.Forms.{fifteen}
use Rattle.aldebaran_writing.specs.Writing.{line_of, form_for, text_of}
use Rattle.aldebaran_form.specs.Forms.{header_with}
use Rattle.std.specs.Prelude.{Ok}

-- the silent step has one byte
pub length-silent : (a : ℕ) → a ≡ 0 → length (spelled a) ≡ 1
unfolding spelled
length-silent a e = rw e

-- a label other than the silent step, as the code counts it
pub length-spelled : (a : ℕ) → 1 ≤ a → length (spelled a) ≡ length (decimal ((a - 1) / 2 + 1)) + 2
unfolding spelled
length-spelled zero h = absurd (omega (arith, h))
length-spelled (suc a) h =
    let n : suc (a / 2) ≡ (suc a - 1) / 2 + 1 = omega arith in
    let m : List ℕ = cond (eqb (a % 2) 0) 33 63 ∷ [] in
    omega (arith, length-append (decimal (suc (a / 2))) m, ap (λ k. length (decimal k)) n)

-- 15 pairs have numbers of two digits at most
pub spelled_short : (a : ℕ) → a ≤ 30 → length (spelled a) ≤ 4
unfolding spelled
spelled_short zero h = omega arith
spelled_short (suc a) h =
    omega (arith, length-spelled (suc a) (omega arith), count-within 1 ((suc a - 1) / 2 + 1) (omega (arith, h)))

-- a row's line
pub length_row : (r : Row)
    → length (ended (row_line (line_of r)))
    ≡ length (decimal r.0) + length (spelled r.1) + length (decimal r.2) + 7
unfolding ended row_line line_of
length_row r =
    let c = decimal r.2 ++ (closing ∷ []) in
    let b = spelled r.1 ++ (quote ∷ comma ∷ c) in
    let a = decimal r.0 ++ (comma ∷ quote ∷ b) in
    omega (
      arith,
      length-append (opening ∷ a) (line_feed ∷ []),
      length-append (decimal r.0) (comma ∷ quote ∷ b),
      length-append (spelled r.1) (quote ∷ comma ∷ c),
      length-append (decimal r.2) (closing ∷ []),
    )

pub row_short : (r : Row) → r.0 < 64 → r.1 ≤ 30 → r.2 < 64 → length (ended (row_line (line_of r))) ≤ 15
row_short r h i j =
    omega (
      arith,
      length_row r,
      count-within 1 r.0 (omega (arith, h)),
      spelled_short r.1 i,
      count-within 1 r.2 (omega (arith, j)),
    )

-- the header's line
pub length-header : (first rows states : ℕ) → length (ended (header_line (header_with first rows states)))
    ≡ length (decimal first) + length (decimal rows) + length (decimal states) + 9
unfolding ended header_line
length-header first rows states =
    let c = decimal states ++ (closing ∷ []) in
    let b = decimal rows ++ (comma ∷ c) in
    let a = decimal first ++ (comma ∷ b) in
    omega (
      arith,
      length-append (des ++ a) (line_feed ∷ []),
      length-append (decimal first) (comma ∷ b),
      length-append (decimal rows) (comma ∷ c),
      length-append (decimal states) (closing ∷ []),
    )

pub header_short : (first rows states : ℕ) → first < 100 → rows < 1000 → states < 100
    → length (ended (header_line (header_with first rows states))) ≤ 16
header_short first rows states h i j =
    omega (
      arith,
      length-header first rows states,
      count-within 1 first h,
      count-within 2 rows i,
      count-within 1 states j,
    )

-- the lines of rows
unfoldable pub rows_text : List Row → List ℕ
rows_text rows = each (λ r. ended (row_line (line_of r))) rows

-- the whole text is the header's line and those of the rows
pub text-split : (t : List ℕ) (first rows : ℕ) → rows ≡ length (rows_of t)
    → text_of t first ≡ ended (header_line (header_with first rows (states_of t))) ++ rows_text (rows_of t)
unfolding text_of written form_for rows_text
text-split t first rows p =
    rw p (ap (ended (header_line (header_with first (length (rows_of t)) (states_of t))) ++◌)
    (each_map (λ l. ended (row_line l)) line_of (rows_of t)))

-- a row more
pub rows_behind : (rows : List Row) (i : ℕ) → i < length rows
    → rows_text (take (i + 1) rows) ≡ rows_text (take i rows) ++ ended (row_line (line_of (get_or rows i (0, 0, 0))))
unfolding rows_text
rows_behind rows i h =
    let line : Row → List ℕ = λ r. ended (row_line (line_of r)) in
    let r = get_or rows i (0, 0, 0) in
    let z : i + 1 ≡ suc i = omega arith in
    ap (λ m. rows_text (take m rows)) z ∙ ap rows_text (take-suc rows i (0, 0, 0) h)
    ∙ each_append line (take i rows) (r ∷ []) ∙ ap (rows_text (take i rows) ++◌) (append-nil (line r))

-- the first rows' lines are not longer than all
pub rows-within : (i : ℕ) (rows : List Row) → length (rows_text (take i rows)) ≤ length (rows_text rows)
unfolding rows_text
rows-within zero rows = omega arith
rows-within (suc i) [] = omega arith
rows-within (suc i) (r ∷ rows) =
    let line = ended (row_line (line_of r)) in
    omega (
      arith,
      rows-within i rows,
      length-append line (rows_text (take i rows)),
      length-append line (rows_text rows),
    )

-- 15 bytes a row
pub rows_short : (rows : List Row) → ((r : Row) → r ∈ rows → (r.0 < 64) × (r.1 ≤ 30) × (r.2 < 64))
    → length (rows_text rows) ≤ 15 * length rows
unfolding rows_text
rows_short [] h = omega arith
rows_short (r ∷ rows) h =
    let line = ended (row_line (line_of r)) in
    let own = h r (here refl) in
    omega (
      arith,
      row_short r own.0 own.1 own.2,
      rows_short rows (λ s i. h s (there i)),
      length-append line (rows_text rows),
    )

-- the highest of the labels of 15 pairs
count-fifteen : count fifteen ≡ 30
unfolding count highest
count-fifteen = refl

-- a sound table's text: 512 rows at most, states below 64
module _ (t : List ℕ) (first rows : ℕ) (p : rows ≡ length (rows_of t)) (s : SoundTable fifteen t)
    (h : first < states_of t) where
  rows_few : length (rows_of t) ≤ 512
  rows_few = omega (arith, length-rows t, s.fits)

  sound_rows_short : length (rows_text (rows_of t)) ≤ 15 * length (rows_of t)
  sound_rows_short = rows_short (rows_of t) (λ r i. (
    omega (arith, (s.ranged r i).0, s.few-states),
    omega (arith, (s.ranged r i).1, count-fifteen),
    omega (arith, (s.ranged r i).2, s.few-states),
  ))

  pub header-room : length (ended (header_line (header_with first rows (states_of t)))) ≤ 16
  header-room = header_short first rows (states_of t) (omega (arith, h, s.few-states))
      (omega (arith, p, rows_few)) (omega (arith, s.few-states))

  pub text-room : length (text_of t first) ≤ 7696
  text-room =
      omega (
        arith,
        ap length (text-split t first rows p),
        length-append (ended (header_line (header_with first rows (states_of t)))) (rows_text (rows_of t)),
        header-room,
        sound_rows_short,
        rows_few,
      )

  -- where a row's line is written, it has room
  pub row_room : (i at : ℕ) → i < length (rows_of t)
      → at ≡ length (ended (header_line (header_with first rows (states_of t)))) + length (rows_text (take i (rows_of t)))
      → at + length (ended (row_line (line_of (get_or (rows_of t) i (0, 0, 0))))) ≤ 7696
  row_room i at j e =
      let line = ended (row_line (line_of (get_or (rows_of t) i (0, 0, 0)))) in
      omega (
        arith,
        e,
        header-room,
        sound_rows_short,
        rows_few,
        rows-within (i + 1) (rows_of t),
        ap length (rows_behind (rows_of t) i j),
        length-append (rows_text (take i (rows_of t))) line,
      )

-- no text that is written is longer
pub text_short : (t : List ℕ) (first : ℕ) → check_table fifteen t ≡ Ok tt → first < states_of t
    → length (text_of t first) ≤ 7696
text_short t first e h = text-room t first (length (rows_of t)) refl (sound_table fifteen t e) h
