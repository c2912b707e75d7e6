-- The pieces of a label, a line and a header, written into an output one behind the other.
use Prim.Native.Nat.{ℕ, ◌+◌, ◌-◌, ◌/◌, ◌%◌, ◌≤◌, ◌<◌}
use mathlib.Core.Path.{◌≡◌, refl, sym, ◌∙◌, ap}
use mathlib.Core.List.{List, [], ◌∷◌, ◌++◌, append_assoc}
use native.Mathlib.Omega.{arith}
use lib.ListN.{length, get_or, set, take, length-append}
use lib.Seq.{take-length}
use borrow.Author.Tests.{lt-ltb}
use Rattle.hml.specs.Machine.{Row}
use Rattle.hml.proofs.Tests.{apart}
use Rattle.digits.specs.Digits.{decimal}
use Rattle.digits.specs.Outputs.{put_at, put_if_room, behind_if_room}
use Rattle.digits.proofs.Puts.{put_one, put-kept, behind_piece, placed, placed-behind}
use Rattle.tables.specs.Tables.{states_of, rows_of, row_struct, row_read}
use Rattle.tables.specs.Working.{triple_of}
use Rattle.tables.specs.declared.row.Row as declared-row
use Rattle.aldebaran_form.specs.Forms.{des, header_with, header_line, row_line, ended, spelled}
use Rattle.aldebaran_writing.specs.Writing.{line_of, text_of}
use Rattle.aldebaran_form.proofs.LabelReading.{spelled-odd, spelled_even}
use Rattle.aldebaran_writing.proofs.TextLengths.{length-spelled, length_row, length-header, rows_text}
use Rattle.aldebaran_writing.proofs.TextLengths.{rows_behind, text-split}
use Rattle.std.specs.Prelude.{None, Option, Some}

-- ys is xs with these bytes written from a place on, and n is the place behind them
pub record Stands (xs ys : List ℕ) (at n : ℕ) (b : List ℕ) : Type 0 where
  pub place : n ≡ at + length b
  pub put : ys ≡ put_at xs at b

-- nothing written yet
pub stands-none : (xs : List ℕ) (at : ℕ) → Stands xs xs at at []
unfolding put_at
stands-none xs at = record { place = omega arith; put = refl }

module _ {xs ys : List ℕ} {at n : ℕ} {b : List ℕ} (s : Stands xs ys at n b) where
  -- the output keeps its length
  pub stands-kept : length ys ≡ length xs
  stands-kept = put-kept xs ys at b s.put

  -- a piece behind them
  pub stands_piece : (zs : List ℕ) (m : ℕ) (d : List ℕ) → m ≡ n + length d → zs ≡ put_at ys n d
      → Stands xs zs at m (b ++ d)
  stands_piece zs m d p e = record {
    place = omega (arith, p, s.place, length-append b d);
    put = behind_piece xs ys at n b s.place s.put zs d e;
  }

  -- a byte
  pub stands_byte : (a m : ℕ) → m ≡ n + 1 → Stands xs (set ys n a) at m (b ++ (a ∷ []))
  stands_byte a m p = stands_piece (set ys n a) m (a ∷ []) (omega (arith, p)) (put_one ys n a)

  -- a piece that is written only where it has room
  pub stands-room : (zs : List ℕ) (m : ℕ) (d : List ℕ) → n + length d ≤ length xs → m ≡ behind_if_room ys n d
      → zs ≡ put_if_room ys n d → Stands xs zs at m (b ++ d)
  stands-room zs m d h p e =
      let room : n + length d ≤ length ys = omega (arith, h, stands-kept) in
      stands_piece zs m d (placed-behind ys n d room m p) (placed ys n d room zs e)

  -- all pieces together
  pub stands-whole : (d : List ℕ) → b ≡ d → (n ≡ at + length d) × (ys ≡ put_at xs at d)
  stands-whole d e = (s.place ∙ ap (λ l. at + length l) e, s.put ∙ ap (put_at xs at) e)

-- the silent step
pub label-silent : (xs : List ℕ) (at a : ℕ) → a ≡ 0
    → (at + 1 ≡ at + length (spelled a)) × (set xs at 105 ≡ put_at xs at (spelled a))
unfolding spelled
label-silent xs at a e = stands-whole (stands_byte (stands-none xs at) 105 (at + 1) refl) (spelled a) (rw e)

-- the letter of another label, and its pair's number
module _ (xs ys : List ℕ) (at end a : ℕ) (h : at + length (spelled a) ≤ length xs) (some : 1 ≤ a)
    (e : end ≡ behind_if_room (set xs at 97) (at + 1) (decimal ((a - 1) / 2 + 1)))
    (f : ys ≡ put_if_room (set xs at 97) (at + 1) (decimal ((a - 1) / 2 + 1))) where
  label-number : Stands xs ys at end (97 ∷ decimal ((a - 1) / 2 + 1))
  label-number = stands-room (stands_byte (stands-none xs at) 97 (at + 1) refl) ys end _
      (omega (arith, h, length-spelled a some)) e f

  pub label-placed : (end + 1 ≡ at + length (spelled a)) × (length ys ≡ length xs)
  label-placed = (omega (arith, label-number.place, length-spelled a some), stands-kept label-number)

  -- then its mark
  pub label-odd : a % 2 ≡ 1 → (end + 1 ≡ at + length (spelled a)) × (set ys end 33 ≡ put_at xs at (spelled a))
  label-odd o = stands-whole (stands_byte label-number 33 (end + 1) refl) (spelled a) (sym (spelled-odd a o))

  pub label_even : (a % 2 ≡ 1 → ⊥) → (end + 1 ≡ at + length (spelled a)) × (set ys end 63 ≡ put_at xs at (spelled a))
  label_even o = stands-whole (stands_byte label-number 63 (end + 1) refl) (spelled a) (sym (spelled_even a some o))

-- a row's line: its bracket and first state
module _ (xs y : List ℕ) (at from : ℕ) (r : Row) (h : at + length (ended (row_line (line_of r))) ≤ length xs)
    (e : from ≡ behind_if_room (set xs at 40) (at + 1) (decimal r.0))
    (f : y ≡ put_if_room (set xs at 40) (at + 1) (decimal r.0)) where
  row_from : Stands xs y at from (40 ∷ decimal r.0)
  row_from = stands-room (stands_byte (stands-none xs at) 40 (at + 1) refl) y from (decimal r.0)
      (omega (arith, h, length_row r)) e f

  pub row_first :
      (from + length (spelled r.1) + length (decimal r.2) + 6 ≡ at + length (ended (row_line (line_of r))))
      × (length y ≡ length xs)
  row_first = (omega (arith, row_from.place, length_row r), stands-kept row_from)

  -- comma, quote and label
  module _ (z : List ℕ) (label : ℕ) (g : label ≡ from + 2 + length (spelled r.1))
      (k : z ≡ put_at (set (set y from 44) (from + 1) 34) (from + 2) (spelled r.1)) where
    row_label : Stands xs z at label ((((40 ∷ decimal r.0) ++ (44 ∷ [])) ++ (34 ∷ [])) ++ spelled r.1)
    row_label = stands_piece
        (stands_byte (stands_byte row_from 44 (from + 1) refl) 34 (from + 2) (omega arith)) z label (spelled r.1) g k

    pub row_second : (label + length (decimal r.2) + 4 ≡ at + length (ended (row_line (line_of r))))
        × (length z ≡ length xs)
    row_second = (omega (arith, row_first, g), stands-kept row_label)

    -- quote, comma and the other state
    module _ (w : List ℕ) (to : ℕ)
        (p : to ≡ behind_if_room (set (set z label 34) (label + 1) 44) (label + 2) (decimal r.2))
        (q : w ≡ put_if_room (set (set z label 34) (label + 1) 44) (label + 2) (decimal r.2)) where
      abbrev row_so_far : List ℕ
      row_so_far = ((((40 ∷ decimal r.0) ++ (44 ∷ [])) ++ (34 ∷ [])) ++ spelled r.1) ++ (34 ∷ [])

      row_to : Stands xs w at to ((row_so_far ++ (44 ∷ [])) ++ decimal r.2)
      row_to = stands-room
          (stands_byte (stands_byte row_label 34 (label + 1) refl) 44 (label + 2) (omega arith)) w to (decimal r.2)
          (omega (arith, h, row_second)) p q

      pub row_third : (to + 2 ≡ at + length (ended (row_line (line_of r)))) × (length w ≡ length xs)
      row_third = (
        omega (
          arith,
          row_second,
          row_to.place,
          row_label.place,
          length-append (row_so_far ++ (44 ∷ [])) (decimal r.2),
          length-append row_so_far (44 ∷ []),
          length-append ((((40 ∷ decimal r.0) ++ (44 ∷ [])) ++ (34 ∷ [])) ++ spelled r.1) (34 ∷ []),
        ),
        stands-kept row_to,
      )

      -- the closing bracket and the line feed
      pub row_put : (to + 2 ≡ at + length (ended (row_line (line_of r))))
          × (set (set w to 41) (to + 1) 10 ≡ put_at xs at (ended (row_line (line_of r))))
      unfolding ended row_line line_of
      row_put = stands-whole
          (stands_byte (stands_byte row_to 41 (to + 1) refl) 10 (to + 2) (omega arith)) (ended (row_line (line_of r)))
          (simp append_assoc)

-- the header's line: `des (` and the first state
abbrev pub des_put : List ℕ → List ℕ
des_put xs = set (set (set (set (set xs 0 100) 1 101) 2 115) 3 32) 4 40

module _ (xs y : List ℕ) (second first rows states : ℕ)
    (h : length (ended (header_line (header_with first rows states))) ≤ length xs)
    (e : second ≡ behind_if_room (des_put xs) 5 (decimal first)) (f : y ≡ put_if_room (des_put xs) 5 (decimal first)) where
  des-put : Stands xs (des_put xs) 0 5 des
  unfolding put_at
  des-put = record { place = refl; put = refl }

  header-first : Stands xs y 0 second (des ++ decimal first)
  header-first = stands-room des-put y second (decimal first) (omega (arith, h, length-header first rows states)) e f

  pub first-placed : (second + length (decimal rows) + length (decimal states) + 4
      ≡ length (ended (header_line (header_with first rows states))))
      × (length y ≡ length xs)
  first-placed = (
    omega (arith, header-first.place, length-append des (decimal first), length-header first rows states),
    stands-kept header-first,
  )

  -- comma and the number of rows
  module _ (z : List ℕ) (third : ℕ) (g : third ≡ behind_if_room (set y second 44) (second + 1) (decimal rows))
      (k : z ≡ put_if_room (set y second 44) (second + 1) (decimal rows)) where
    abbrev to_second : List ℕ
    to_second = (des ++ decimal first) ++ (44 ∷ [])

    header_second : Stands xs z 0 third (to_second ++ decimal rows)
    header_second = stands-room (stands_byte header-first 44 (second + 1) refl) z third (decimal rows)
        (omega (arith, h, first-placed)) g k

    pub second_placed :
        (third + length (decimal states) + 3 ≡ length (ended (header_line (header_with first rows states))))
        × (length z ≡ length xs)
    second_placed = (
      omega (
        arith,
        first-placed,
        header-first.place,
        header_second.place,
        length-append to_second (decimal rows),
        length-append (des ++ decimal first) (44 ∷ []),
      ),
      stands-kept header_second,
    )

    -- comma and the number of states
    module _ (w : List ℕ) (end : ℕ) (p : end ≡ behind_if_room (set z third 44) (third + 1) (decimal states))
        (q : w ≡ put_if_room (set z third 44) (third + 1) (decimal states)) where
      abbrev to_third : List ℕ
      to_third = (to_second ++ decimal rows) ++ (44 ∷ [])

      header_third : Stands xs w 0 end (to_third ++ decimal states)
      header_third = stands-room (stands_byte header_second 44 (third + 1) refl) w end (decimal states)
          (omega (arith, h, second_placed)) p q

      pub third_placed : (end + 2 ≡ length (ended (header_line (header_with first rows states))))
          × (length w ≡ length xs)
      third_placed = (
        omega (
          arith,
          second_placed,
          header_second.place,
          header_third.place,
          length-append to_third (decimal states),
          length-append (to_second ++ decimal rows) (44 ∷ []),
        ),
        stands-kept header_third,
      )

      -- the closing bracket and the line feed
      pub header-put : set (set w end 41) (end + 1) 10
          ≡ put_at xs 0 (ended (header_line (header_with first rows states)))
      unfolding ended header_line
      header-put = (stands-whole
          (stands_byte (stands_byte header_third 41 (end + 1) refl) 10 (end + 2) (omega arith))
          (ended (header_line (header_with first rows states))) (simp append_assoc)).1

-- the lines of rows: none
pub rows_none : (xs : List ℕ) (at : ℕ) (rows : List Row) → Stands xs xs at at (rows_text (take 0 rows))
unfolding rows_text
rows_none xs at rows = stands-none xs at

-- one more
pub rows_more : {xs ys : List ℕ} {at n : ℕ} (rows : List Row) (i : ℕ) → i < length rows
    → Stands xs ys at n (rows_text (take i rows)) → (zs : List ℕ) (m : ℕ)
    → m ≡ n + length (ended (row_line (line_of (get_or rows i (0, 0, 0)))))
    → zs ≡ put_at ys n (ended (row_line (line_of (get_or rows i (0, 0, 0)))))
    → Stands xs zs at m (rows_text (take (i + 1) rows))
rows_more rows i h s zs m p e = rw (rows_behind rows i h) (stands_piece s zs m _ p e)

-- all, behind the header's line
pub text-put : {ys zs : List ℕ} {at n : ℕ} (xs t : List ℕ) (first rows i : ℕ) → rows ≡ length (rows_of t)
    → at ≡ length (ended (header_line (header_with first rows (states_of t))))
    → ys ≡ put_at xs 0 (ended (header_line (header_with first rows (states_of t))))
    → Stands ys zs at n (rows_text (take i (rows_of t))) → i ≡ length (rows_of t)
    → (n ≡ length (text_of t first)) × (zs ≡ put_at xs 0 (text_of t first))
text-put {ys} {zs} {at} {n} xs t first rows i p e f s j =
    let head = ended (header_line (header_with first rows (states_of t))) in
    let start : Stands xs ys 0 at head = record { place = omega (arith, e); put = f } in
    let z : take i (rows_of t) ≡ rows_of t = ap (λ m. take m (rows_of t)) j ∙ take-length (rows_of t) in
    let w : head ++ rows_text (take i (rows_of t)) ≡ text_of t first = ap (λ l. head ++ rows_text l) z
    ∙ sym (text-split t first rows p) in
    let whole = stands-whole (stands_piece start zs n _ s.place s.put) (text_of t first) w in
    (omega (arith, whole.0), whole.1)

-- a row that was read by its number
seen : (Option declared-row.Row) → Row
seen (Some r) = triple_of r
seen None = (0, 0, 0)

found : (Option declared-row.Row) → ℕ
found (Some r) = 1
found None = 0

module _ (t : List ℕ) (i : ℕ) (x : (Option declared-row.Row)) (h : i < length (rows_of t)) (e : x ≡ row_read t i) where
  told : x ≡ Some (row_struct (get_or (rows_of t) i (0, 0, 0)))
  unfolding row_read
  told = e ∙ rw (lt-ltb i (length (rows_of t)) h)

  row_told : (r : declared-row.Row) → x ≡ Some r → triple_of r ≡ get_or (rows_of t) i (0, 0, 0)
  unfolding seen
  row_told r f = ap seen (sym f ∙ told)

  pub no_row : x ≡ None → ⊥
  unfolding found
  no_row f = apart (ap found (sym f ∙ told))

  pub row_fits : (r : declared-row.Row) → x ≡ Some r → (at n : ℕ)
      → at + length (ended (row_line (line_of (get_or (rows_of t) i (0, 0, 0))))) ≤ n
      → at + length (ended (row_line (line_of (triple_of r)))) ≤ n
  row_fits r f at n k = rw (row_told r f) k

  pub row_written : (r : declared-row.Row) → x ≡ Some r → (xs ys : List ℕ) (at n : ℕ)
      → n ≡ at + length (ended (row_line (line_of (triple_of r))))
      → ys ≡ put_at xs at (ended (row_line (line_of (triple_of r))))
      → (n ≡ at + length (ended (row_line (line_of (get_or (rows_of t) i (0, 0, 0))))))
      × (ys ≡ put_at xs at (ended (row_line (line_of (get_or (rows_of t) i (0, 0, 0))))))
  row_written r f xs ys at n p q =
      let z = row_told r f in (
        p ∙ ap (λ s. at + length (ended (row_line (line_of s)))) z,
        q ∙ ap (λ s. put_at xs at (ended (row_line (line_of s)))) z,
      )
