-- Blocks of lines, asked for one after the other, are together the whole sheet, and none is refused: `sheet_printed`,
-- for the calls of `write_lines`, and the laws of the blocks of `write_block` behind it.
use Prim.Native.Nat.{ℕ, zero, suc, ◌+◌, ◌-◌, ◌≤◌, ◌<◌}
use mathlib.Core.Path.{◌≡◌, refl, sym, ◌∙◌, ap}
use mathlib.Core.Logic.{inl, inr}
use mathlib.Core.Bool.{Bool, true, false}
use mathlib.Core.List.{List, [], ◌∷◌, ◌++◌, append_assoc, append-nil}
use mathlib.Core.List.Memᴰ.{head as here}
use mathlib.Core.List.Memᴰ.{not-nil as nowhere}
use mathlib.Core.List.Memᴰ.{tail as there}
use mathlib.Core.List.Memᴰ.{cases_cons as ∈-cons}
use native.Mathlib.Omega.{arith}
use lib.ListN.{length, take, drop, take-append-drop, length-take, length-drop, drop_of_length-le}
use lib.Dec.{leb}
use lib.Seq.{take_at, take-take, take-add, drop-drop}
use borrow.Author.Tests.{le-ltb, leb-true, leb-false}
use Rattle.hml.proofs.Tests.{apart}
use Rattle.hml.specs.Lists.{◌∈◌}
use Rattle.labels.specs.Refusals.{in_front}
use Rattle.labels.specs.declared.refusal.Refusal.{Refusal}
use Rattle.sheet_lines.specs.Sheets.{sheet_of, bytes_of, fitting, lines_due, first_too_long, check_room, written_or}
use Rattle.sheet_lines.specs.Sheets.{block_of, block_answer, block_output}
use Rattle.sheet_lines.specs.Blocks.{block_room, block_from}
use Rattle.sheet_lines.specs.declared.lines.Block.{Block}
use Rattle.sheet_lines.proofs.Filling.{bytes-behind, fitting-first}
use Rattle.sheet_lines.proofs.SheetLines.{fitting-room}
use Rattle.sheet_lines.proofs.FillLaws.{fitting-few}
use Rattle.sheet_lines.proofs.LongestLine.{sheet_line_short}
use Rattle.std.specs.Prelude.{Err, Ok, Result}

-- a call for lines: how many it asks for at most, and the output that it lends
pub record Call : Type 0 where
  pub most : ℕ
  pub out : List ℕ

-- it asks for a line, and has room for the longest
pub record Roomy (c : Call) : Type 0 where
  pub asks : 1 ≤ c.most
  pub room : 16399 ≤ length c.out

-- what `write_lines` answers it, and its output afterwards
abbrev pub answer_to : List ℕ → ℕ → Call → Result Block Refusal
answer_to s first c = block_answer (lines_due s first c.most) (length c.out)

abbrev pub output_after : List ℕ → ℕ → Call → List ℕ
output_after s first c = block_output (lines_due s first c.most) c.out

-- the bytes and the lines that were written
unfoldable pub bytes_by : Result Block Refusal → List ℕ → List ℕ
bytes_by (Ok b) out = take b.bytes out
bytes_by (Err x) out = []

unfoldable pub lines_by : Result Block Refusal → ℕ
lines_by (Ok b) = b.lines
lines_by (Err x) = 0

-- calls one after the other, each from where the one before ended: their answers, the bytes of all, and where they end
unfoldable pub answers_to : List ℕ → ℕ → List Call → List (Result Block Refusal)
answers_to s first [] = []
answers_to s first (c ∷ calls) = answer_to s first c ∷ answers_to s (first + lines_by (answer_to s first c)) calls

unfoldable pub printed : List ℕ → ℕ → List Call → List ℕ
printed s first [] = []
printed s first (c ∷ calls) =
    bytes_by (answer_to s first c) (output_after s first c) ++ printed s (first + lines_by (answer_to s first c)) calls

unfoldable pub reached : List ℕ → ℕ → List Call → ℕ
reached s first [] = first
reached s first (c ∷ calls) = reached s (first + lines_by (answer_to s first c)) calls

-- what is claimed of such calls: none is refused; what they printed and what is left are together the sheet from the
-- line where they begin; a call that writes no line comes when nothing is left; as many calls as there are lines are
-- enough
pub record Whole (s : List ℕ) (first : ℕ) (calls : List Call) : Type 0 where
  pub granted : (x : Refusal) → Err x ∈ answers_to s first calls → ⊥
  pub front : printed s first calls ++ bytes_of (drop (reached s first calls) (sheet_of s))
      ≡ bytes_of (drop first (sheet_of s))
  pub ended : (c : Call) → Roomy c → lines_by (answer_to s (reached s first calls) c) ≡ 0
      → printed s first calls ≡ bytes_of (drop first (sheet_of s))
  pub whole : length (sheet_of s) ≤ first + length calls → printed s first calls ≡ bytes_of (drop first (sheet_of s))

-- what stands in a part of a list stands in it
module _ {A : Type 0} (x : A) where
  in_take : (n : ℕ) (xs : List A) → x ∈ take n xs → x ∈ xs
  in_take zero xs h = absurd (nowhere h)
  in_take (suc n) [] h = h
  in_take (suc n) (y ∷ xs) h = elim (∈-cons h) [ inl e ↦ here e | inr t ↦ there (in_take n xs t) ]

  in_drop : (n : ℕ) (xs : List A) → x ∈ drop n xs → x ∈ xs
  in_drop zero xs h = h
  in_drop (suc n) [] h = h
  in_drop (suc n) (y ∷ xs) h = there (in_drop n xs h)

-- the lines that fit are the first of those that are due
fitting-front : (room : ℕ) (due : List (List ℕ)) → fitting room due ≡ take (length (fitting room due)) due
unfolding fitting
fitting-front room [] = refl
fitting-front room (x ∷ due) = go (leb (length x) room) refl (fitting-front (room - length x) due)
  where
    go : (b : Bool) → leb (length x) room ≡ b
        → fitting (room - length x) due ≡ take (length (fitting (room - length x) due)) due
        → fitting room (x ∷ due) ≡ take (length (fitting room (x ∷ due))) (x ∷ due)
    go true e h = rw e (ap (x ∷◌) h)
    go false e h = rw e

-- lines of which none is longer than the room: the first fits
module _ (room : ℕ) where
  not_short : (due : List (List ℕ)) → ((x : List ℕ) → x ∈ due → length x ≤ room) → first_too_long room due ≡ false
  unfolding first_too_long
  not_short [] h = refl
  not_short (x ∷ due) h = le-ltb room (length x) (h x (here refl))

  fitting-one : (due : List (List ℕ)) → ((x : List ℕ) → x ∈ due → length x ≤ room) → 1 ≤ length due
      → 1 ≤ length (fitting room due)
  fitting-one [] h n = absurd (omega arith)
  fitting-one (x ∷ due) h n = omega (arith, ap length (fitting-first room x due (h x (here refl))))

-- the bytes of lines: of the first n, then of the others
bytes_parts : (n : ℕ) (xs : List (List ℕ)) → bytes_of (take n xs) ++ bytes_of (drop n xs) ≡ bytes_of xs
bytes_parts n xs = sym (bytes-behind (take n xs) (drop n xs)) ∙ ap bytes_of (take-append-drop n xs)

-- a block of a sheet: the lines that fit, of those from line `first` on
module _ (s : List ℕ) (first most room : ℕ) where
  abbrev due : List (List ℕ)
  due = take most (drop first (sheet_of s))

  abbrev block : List (List ℕ)
  block = fitting room due

  block_few : length block ≤ most
  block_few = omega (arith, fitting-few room due, length-take most (drop first (sheet_of s)))

  block_is : block ≡ take (length block) (drop first (sheet_of s))
  block_is = fitting-front room due ∙ take-take (length block) most (drop first (sheet_of s)) block_few

  -- it and the lines behind it
  block_behind : bytes_of block ++ bytes_of (drop (first + length block) (sheet_of s)) ≡ bytes_of (drop first (sheet_of s))
  block_behind =
      ap (λ d. bytes_of block ++ bytes_of d) (sym (drop-drop (length block) first (sheet_of s)))
      ∙ ap (λ b. bytes_of b ++ bytes_of (drop (length block) (drop first (sheet_of s)))) block_is
      ∙ bytes_parts (length block) (drop first (sheet_of s))

  -- with room for the longest line
  module _ (roomy : 16399 ≤ room) where
    due_short : (x : List ℕ) → x ∈ due → length x ≤ room
    due_short x h =
        let m : x ∈ sheet_of s = in_drop x first (sheet_of s) (in_take x most (drop first (sheet_of s)) h) in
        omega (arith, roomy, sheet_line_short s x m)

    block_some : 1 ≤ most → first < length (sheet_of s) → 1 ≤ length block
    block_some m h =
        let a = length-take most (drop first (sheet_of s)) in
        let b = length-drop first (sheet_of s) in
        fitting-one room due due_short (omega (arith, m, h, a, b))

-- a call with room for the longest line is answered with the block
module _ (s : List ℕ) (first : ℕ) (c : Call) (roomy : Roomy c) where
  abbrev lines : List (List ℕ)
  lines = block s first c.most (length c.out)

  fits : first_too_long (length c.out) (due s first c.most (length c.out)) ≡ false
  fits = not_short (length c.out) _ (due_short s first c.most (length c.out) roomy.room)

  answered : answer_to s first c ≡ Ok (block_of lines)
  unfolding block_answer lines_due check_room written_or
  answered = rw fits

  bytes_are : bytes_by (answer_to s first c) (output_after s first c) ≡ bytes_of lines
  unfolding bytes_by block_of block_output lines_due check_room in_front
  bytes_are =
      rw (answered, fits)
      (take_at (bytes_of lines) (drop (length (bytes_of lines)) c.out) (length (bytes_of lines)) refl)

  lines_are : lines_by (answer_to s first c) ≡ length lines
  unfolding lines_by block_of
  lines_are = rw answered

-- calls one after the other
module _ (s : List ℕ) where
  -- none is refused
  all_granted : (first : ℕ) (calls : List Call) → ((c : Call) → c ∈ calls → Roomy c)
      → (x : Refusal) → Err x ∈ answers_to s first calls → ⊥
  unfolding answers_to
  all_granted first [] roomy x h = nowhere h
  all_granted first (c ∷ calls) roomy x h = elim (∈-cons h) [
    | inl e ↦ (let z = e ∙ answered s first c (roomy c (here refl)) in apart cc)
    | inr t ↦ all_granted (first + lines_by (answer_to s first c)) calls (λ d m. roomy d (there m)) x t
  ]

  -- what is printed, and what is left
  all-front : (first : ℕ) (calls : List Call) → ((c : Call) → c ∈ calls → Roomy c)
      → printed s first calls ++ bytes_of (drop (reached s first calls) (sheet_of s)) ≡ bytes_of (drop first (sheet_of s))
  unfolding printed reached
  all-front first [] roomy = refl
  all-front first (c ∷ calls) roomy =
      let r = roomy c (here refl) in
      let b = lines s first c r in
      let next = first + lines_by (answer_to s first c) in
      let h = all-front next calls (λ d m. roomy d (there m)) in
      ap (λ x. (x ++ printed s next calls) ++ bytes_of (drop (reached s next calls) (sheet_of s))) (bytes_are s first c r)
      ∙ append_assoc (bytes_of b) (printed s next calls) _
      ∙ ap (bytes_of b ++◌) (h ∙ ap (λ m. bytes_of (drop (first + m) (sheet_of s))) (lines_are s first c r))
      ∙ block_behind s first c.most (length c.out)

  -- as many calls as there are lines reach the end
  all_reached : (first : ℕ) (calls : List Call) → ((c : Call) → c ∈ calls → Roomy c)
      → length (sheet_of s) ≤ first + length calls → length (sheet_of s) ≤ reached s first calls
  unfolding reached
  all_reached first [] roomy h = omega (arith, h)
  all_reached first (c ∷ calls) roomy h =
      let r = roomy c (here refl) in
      all_reached (first + lines_by (answer_to s first c)) calls (λ d m. roomy d (there m))
      (go (leb (length (sheet_of s)) first) refl r)
    where
      go : (b : Bool) → leb (length (sheet_of s)) first ≡ b → Roomy c
          → length (sheet_of s) ≤ first + lines_by (answer_to s first c) + length calls
      go true e r = omega (arith, leb-true (length (sheet_of s)) first e)
      go false e r =
          let some = block_some s first c.most (length c.out) r.room r.asks
          (leb-false (length (sheet_of s)) first e) in
          omega (arith, h, lines_are s first c r, some)

  nothing_left : (first : ℕ) (b : List ℕ) (i : ℕ) → b ++ bytes_of (drop i (sheet_of s)) ≡ bytes_of (drop first (sheet_of s))
      → length (sheet_of s) ≤ i → b ≡ bytes_of (drop first (sheet_of s))
  unfolding bytes_of
  nothing_left first b i e h = sym (append-nil b) ∙ rw (drop_of_length-le (sheet_of s) {i = i} h) at e

-- blocks of calls that ask for a line and have room for the longest are never refused, and are together the sheet
pub sheet_printed : (s : List ℕ) (first : ℕ) (calls : List Call) → ((c : Call) → c ∈ calls → Roomy c)
    → Whole s first calls
sheet_printed s first calls roomy =
    record {
      granted = all_granted s first calls roomy;
      front = front;
      ended =
          λ c r e. nothing_left s first _ (reached s first calls) front
          (over c r e (leb (length (sheet_of s)) (reached s first calls)) refl);
      whole = λ h. nothing_left s first _ (reached s first calls) front (all_reached s first calls roomy h);
    }
  where
    front : printed s first calls ++ bytes_of (drop (reached s first calls) (sheet_of s))
        ≡ bytes_of (drop first (sheet_of s))
    front = all-front s first calls roomy

    over : (c : Call) → Roomy c → lines_by (answer_to s (reached s first calls) c) ≡ 0
        → (b : Bool) → leb (length (sheet_of s)) (reached s first calls) ≡ b → length (sheet_of s) ≤ reached s first calls
    over c r e true t = leb-true (length (sheet_of s)) (reached s first calls) t
    over c r e false t =
        let i = reached s first calls in
        let some = block_some s i c.most (length c.out) r.room r.asks
        (leb-false (length (sheet_of s)) i t) in
        absurd (omega (arith, e, lines_are s i c r, some))

-- the blocks of `write_block`
module _ (s : List ℕ) (first : ℕ) where
  -- no more lines than are left
  pub block_left : length (block_from s first) ≤ length (sheet_of s) - first
  unfolding block_from
  block_left = omega (arith, fitting-few block_room (drop first (sheet_of s)), length-drop first (sheet_of s))

  -- no line only if none is left
  from_some : first < length (sheet_of s) → 1 ≤ length (block_from s first)
  unfolding block_from
  from_some h =
      let short : (x : List ℕ) → x ∈ drop first (sheet_of s) → length x ≤ block_room
      = λ x m. omega (arith, sheet_line_short s x (in_drop x first (sheet_of s) m)) in
      fitting-one block_room (drop first (sheet_of s)) short (omega (arith, h, length-drop first (sheet_of s)))

  pub block_last : length (block_from s first) ≡ 0 → length (sheet_of s) ≤ first
  block_last z = go (leb (length (sheet_of s)) first) refl
    where
      go : (t : Bool) → leb (length (sheet_of s)) first ≡ t → length (sheet_of s) ≤ first
      go true h = leb-true (length (sheet_of s)) first h
      go false h = absurd (omega (arith, z, from_some (leb-false (length (sheet_of s)) first h)))

  -- the lines in front of a block, and the block
  from_is : block_from s first ≡ take (length (block_from s first)) (drop first (sheet_of s))
  unfolding block_from
  from_is = fitting-front block_room (drop first (sheet_of s))

  from_next : bytes_of (take first (sheet_of s)) ++ bytes_of (block_from s first)
      ≡ bytes_of (take (first + length (block_from s first)) (sheet_of s))
  from_next =
      let n = length (block_from s first) in
      ap (λ b. bytes_of (take first (sheet_of s)) ++ bytes_of b) from_is
      ∙ sym (bytes-behind (take first (sheet_of s)) (take n (drop first (sheet_of s))))
      ∙ ap bytes_of (sym (take-add first n (sheet_of s)))

  -- what the call gives
  module _ (b : Block) (e : b ≡ block_of (block_from s first)) where
    pub lines-counted : b.lines ≡ length (block_from s first)
    unfolding block_of
    lines-counted = ap (λ (x : Block). x.lines) e

    bytes_counted : b.bytes ≡ length (bytes_of (block_from s first))
    unfolding block_of
    bytes_counted = ap (λ (x : Block). x.bytes) e

    pub bytes_in_room : b.bytes ≤ 3145728
    unfolding block_from
    bytes_in_room = omega (arith, bytes_counted, fitting-room block_room (drop first (sheet_of s)))

    -- its bytes are those of the next lines
    pub next-bytes : (out ys : List ℕ) → ys ≡ in_front (bytes_of (block_from s first)) out
        → bytes_of (take first (sheet_of s)) ++ take b.bytes ys ≡ bytes_of (take (first + b.lines) (sheet_of s))
    unfolding in_front
    next-bytes out ys w =
        let d = bytes_of (block_from s first) in
        let front = take_at d (drop (length d) out) b.bytes (sym bytes_counted) in
        let t : take b.bytes ys ≡ d = ap (take b.bytes) w ∙ front in
        ap (bytes_of (take first (sheet_of s)) ++◌) t
        ∙ from_next
        ∙ ap (λ n. bytes_of (take (first + n) (sheet_of s))) (sym lines-counted)
