-- The lines of a point, turn by turn: the splittings of a turn have one number in the window, and so one ending.
use Prim.Native.Nat.{ℕ, zero, suc, ◌+◌, ◌-◌, ◌*◌, ◌/◌, ◌%◌, ◌≤◌, ◌<◌}
use mathlib.Core.Path.{◌≡◌, refl, sym, ◌∙◌, ap}
use mathlib.Core.Bool.{Bool, true, false, cond}
use mathlib.Core.List.{List, ◌∷◌, ◌++◌, append_assoc, append-nil}
use native.Mathlib.Omega.{arith}
use native.Mathlib.Nat.{mod-lt, div-add-mod', mul-add-div_right, div-eq_of_lt}
use lib.ListN.{length, get_or, set, take, drop, length-append, length-set}
use lib.Dec.{eqb, leb, ltb}
use lib.Seq.{take_at}
use borrow.Author.Tests.{eq-eqb, ne_eqb, lt-ltb, le-ltb, eqb-false, ltb-true}
use borrow.Rule.Slice.PartMut.{put_mid}
use Rattle.labels.proofs.Slices.{rest}
use Rattle.machines.specs.Cases.{Case}
use Rattle.sheet_lines.specs.Sheets.{head_of, listed, fitting, bytes_of}
use Rattle.sheet_lines.specs.Working.{put_at, ending_in, line_in, line_with, line_by, Standing, EndingsKnown, Filled}
use Rattle.sheet_lines.specs.Working.{Full, Scratch, froms_after, ends_after}
use Rattle.sheet_lines.specs.declared.point.Point.{Point}
use Rattle.sheet_lines.proofs.Puts.{drop-put, rest_copied, rest_back}
use Rattle.sheet_lines.proofs.Filling.{length-listed, listed-behind, bytes-behind, filled_point, full_point}
use Rattle.sheet_lines.proofs.FillLaws.{fitting-few}
use Rattle.sheet_lines.proofs.SheetLines.{fitting-room}
use Rattle.sheet_lines.proofs.Standing.{known_put, known_read, known_new}

-- an ending that stands in the output
module _ (e : ℕ → List ℕ) (ways : ℕ) (froms ends out : List ℕ) (at t : ℕ)
    (known : EndingsKnown e ways froms ends out at) (below : t < ways) (stands : get_or ends t 0 ≡ 0 → ⊥) where
  pub standing_within : (get_or froms t 0 ≤ get_or ends t 0) × (get_or ends t 0 ≤ at)
      × (get_or ends t 0 - get_or froms t 0 ≡ length (e t))
  unfolding Standing
  standing_within = let (_, y, z) = known_read e ways froms ends out at known t below stands in omega (arith, y, z)

  pub standing_bytes : take (get_or ends t 0 - get_or froms t 0) (drop (get_or froms t 0) out) ≡ e t
  unfolding Standing
  standing_bytes =
      let (x, y, _) = known_read e ways froms ends out at known t below stands in
      ap (λ m. take m (drop (get_or froms t 0) out)) standing_within.2 ∙ x

-- bytes copied behind the first 12 of a line
pub copied_ending : (line b d : List ℕ) (n : ℕ) → n ≡ length b → 12 + length b ≤ length line
    → d ≡ take (length b) b ++ drop (length b) (rest 12 line)
    → take n (drop 12 (put_mid 12 (length line - 12) line d)) ≡ b
copied_ending line b d n z h g =
    ap (λ o. take n (drop 12 o)) (rest_copied line b d 12 h g) ∙ ap (take n) (drop-put line 12 b h)
    ∙ take_at b (drop (12 + length b) line) n (sym z)

-- bytes made there
pub made_ending : (line d : List ℕ) (n : ℕ) (b : List ℕ) → 12 ≤ length line → take n d ≡ b
    → take n (drop 12 (put_mid 12 (length line - 12) line d)) ≡ b
made_ending line d n b h e = ap (take n) (rest_back line d 12 h) ∙ e

-- splittings of one turn
turn_same : (n x after : ℕ) → 0 < after → x < after - n % after → (n + x) / after ≡ n / after
turn_same n x after a h =
    let z : n + x ≡ n / after * after + (n % after + x) = omega (arith, div-add-mod' n after) in
    ap (◌/ after) z ∙ mul-add-div_right a (n / after) (n % after + x)
    ∙ ap (n / after +◌) (div-eq_of_lt (omega (arith, h, mod-lt n a))) ∙ omega arith

-- what fits of some lines are the first of them
fitting-listed : (g : ℕ → List ℕ) (room n m : ℕ)
    → fitting room (listed g n m) ≡ listed g n (length (fitting room (listed g n m)))
unfolding fitting listed
fitting-listed g room n zero = refl
fitting-listed g room n (suc m) = go (leb (length (g n)) room) refl (fitting-listed g (room - length (g n)) (suc n) m)
  where
    go : (b : Bool) → leb (length (g n)) room ≡ b
        → fitting (room - length (g n)) (listed g (suc n) m)
        ≡ listed g (suc n) (length (fitting (room - length (g n)) (listed g (suc n) m)))
        → fitting room (g n ∷ listed g (suc n) m) ≡ listed g n (length (fitting room (g n ∷ listed g (suc n) m)))
    go true e r = rw e (ap (g n ∷◌) r)
    go false e r = rw e

-- the last of some lines ends as all do
last-ends : (p : Point) (b : List ℕ) (n m : ℕ)
    → bytes_of (listed (line_with p b) n (suc m))
    ≡ (bytes_of (listed (line_with p b) n m) ++ head_of p.number (n + m) p.letter) ++ b
unfolding line_with listed bytes_of
last-ends p b n m =
    let g = line_with p b in
    let z : suc m ≡ m + 1 = omega arith in
    ap (λ i. bytes_of (listed g n i)) z ∙ ap bytes_of (listed-behind g n m 1)
    ∙ bytes-behind (listed g n m) (listed g (n + m) 1) ∙ simp (append-nil, append_assoc)

-- the lines of a turn that were written
module _ (w : Case) (p : Point) (ways : ℕ) (froms ends ys zs : List ℕ) (to t n u to' n' : ℕ)
    (b : List ℕ) (same : b ≡ ending_in w p.letter t)
    (known : EndingsKnown (ending_in w p.letter) ways froms ends ys to) (room : to ≤ length ys)
    (begun : n ≤ u)
    (full : Full (fitting (length ys - to) (listed (line_with p b) n (u - n))) ys to n zs to' n') where
  abbrev e : ℕ → List ℕ
  e = ending_in w p.letter

  abbrev block : List (List ℕ)
  block = fitting (length ys - to) (listed (line_with p b) n (u - n))

  pub turn_reached : (n ≤ n') × (n' ≤ u)
  turn_reached =
      omega (
        arith,
        full.counted,
        fitting-few (length ys - to) (listed (line_with p b) n (u - n)),
        length-listed (line_with p b) n (u - n),
        begun,
      )

  -- none of them, or one at least, the last of which ends behind what stands in front
  lines_end : (to' ≡ to → ⊥) → (a : List ℕ) × (bytes_of block ≡ a ++ e t)
  unfolding listed bytes_of
  lines_end moved = go (length block) refl
    where
      go : (c : ℕ) → length block ≡ c → (a : List ℕ) × (bytes_of block ≡ a ++ e t)
      go zero q =
          absurd (moved (full.place ∙ ap (λ x. to + length (bytes_of x))
          (fitting-listed (line_with p b) (length ys - to) n (u - n) ∙ ap (listed (line_with p b) n) q) ∙ omega arith))
      go (suc c) q = (
        bytes_of (listed (line_with p b) n c) ++ head_of p.number (n + c) p.letter,
        ap bytes_of (fitting-listed (line_with p b) (length ys - to) n (u - n) ∙ ap (listed (line_with p b) n) q)
            ∙ last-ends p b n c ∙ ap
            ((bytes_of (listed (line_with p b) n c) ++ head_of p.number (n + c) p.letter) ++◌) same,
      )

  within : to + length (bytes_of block) ≤ length ys
  within = omega (arith, fitting-room (length ys - to) (listed (line_with p b) n (u - n)), room)

  pub ending-within : (len : ℕ) → len ≡ length (e t) → (to' ≡ to → ⊥) → len ≤ to'
  ending-within len z moved =
      let (a, q) = lines_end moved in omega (arith, z, full.place, ap length q, length-append a (e t))

  -- what is known of endings afterwards
  kept_known : EndingsKnown e ways froms ends zs to'
  kept_known = rw (full.written, full.place) (known_put e ways froms ends ys to known (bytes_of block))

  turn_after : (len : ℕ) → len ≡ length (e t) → length froms ≡ 8192 → length ends ≡ 8192
      → EndingsKnown e ways (froms_after froms t len to to') (ends_after ends t to to') zs to'
  unfolding froms_after ends_after
  turn_after len z s v = go (eqb to' to) refl
    where
      entry : (a : List ℕ) → bytes_of block ≡ a ++ e t → t < 8192
          → EndingsKnown e ways (set froms t (to' - len)) (set ends t to') zs to'
      entry a q h =
          let c : to' ≡ to + length (a ++ e t) = full.place ∙ ap (λ x. to + length x) q in
          let d : to' - len ≡ to + length a = omega (arith, c, z, length-append a (e t)) in
          let o : zs ≡ put_at ys to (a ++ e t) = full.written ∙ ap (put_at ys to) q in
          rw (d, c, o) (known_new e ways froms ends ys to known t a (omega (arith, h, s)) (omega (arith, h, v))
          (omega (arith, within, ap length q)))

      test : (to' ≡ to → ⊥) → (x : Bool) → ltb t 8192 ≡ x
          → EndingsKnown e ways (cond x (set froms t (to' - len)) froms) (cond x (set ends t to') ends) zs to'
      test moved true q = entry (lines_end moved).0 (lines_end moved).1 (ltb-true t 8192 q)
      test moved false q = kept_known

      go : (x : Bool) → eqb to' to ≡ x
          → EndingsKnown e ways (cond x froms (cond (ltb t 8192) (set froms t (to' - len)) froms))
          (cond x ends (cond (ltb t 8192) (set ends t to') ends)) zs to'
      go true q = kept_known
      go false q = test (eqb-false to' to q) (ltb t 8192) refl

  pub turn_known : (len : ℕ) → len ≡ length (e t) → length froms ≡ 8192 → length ends ≡ 8192 → (fs es : List ℕ)
      → fs ≡ froms_after froms t len to to' → es ≡ ends_after ends t to to' → EndingsKnown e ways fs es zs to'
  turn_known len z s v fs es x y = rw (x, y) (turn_after len z s v)

  -- they are lines of the point
  module _ (xs : List ℕ) (start i end : ℕ) (filled : Filled (line_by w p) xs start i end ys to n)
      (within_end : u ≤ end) (in-turn : u ≤ n + (p.after - n % p.after)) (some : 0 < p.after)
      (turn : t ≡ n / p.after % p.ways) where
    same_lines : (x : ℕ) → x < u - n → line_with p b (n + x) ≡ line_by w p (n + x)
    unfolding line_with line_by line_in
    same_lines x h =
        let q : (n + x) / p.after ≡ n / p.after = turn_same n x p.after some (omega (arith, h, in-turn, begun)) in
        ap (head_of p.number (n + x) p.letter ++◌) (same ∙ ap e (turn ∙ ap (◌% p.ways) (sym q)))

    pub turn_done : u ≤ n' → Filled (line_by w p) xs start i end zs to' n'
    turn_done h =
        let z : n + (u - n) ≡ n' = omega (arith, turn_reached, h, begun) in
        rw z at (filled_point (line_by w p) xs start i end ys to n filled (line_with p b) n (u - n) same_lines
        (omega (arith, within_end, begun)) zs to' n' full (omega (arith, z)))

    pub turn_full : n' < u
        → Full (fitting (length xs - start) (listed (line_by w p) i (end - i))) xs start i zs to' n'
    turn_full h =
        let z : n + (n' - n) ≡ n' = omega (arith, turn_reached) in
        rw z at (full_point (line_by w p) xs start i end ys to n filled (line_with p b) n (u - n) same_lines
        (omega (arith, within_end, begun)) zs to' n' full (omega (arith, h, begun)))

-- the cases of remembering
module _ (froms ends : List ℕ) (t len at to : ℕ) where
  pub remember_none : to ≡ at → (froms ≡ froms_after froms t len at to) × (ends ≡ ends_after ends t at to)
  unfolding froms_after ends_after
  remember_none e = rw (eq-eqb to at e) (refl, refl)

  pub remember_entry : (to ≡ at → ⊥) → t < 8192
      → (set froms t (to - len) ≡ froms_after froms t len at to) × (set ends t to ≡ ends_after ends t at to)
  unfolding froms_after ends_after
  remember_entry n h = rw (ne_eqb to at n, lt-ltb t 8192 h) (refl, refl)

  pub remember_far : (to ≡ at → ⊥) → 8192 ≤ t → (froms ≡ froms_after froms t len at to) × (ends ≡ ends_after ends t at to)
  unfolding froms_after ends_after
  remember_far n h = rw (ne_eqb to at n, le-ltb t 8192 h) (refl, refl)

  pub length_froms : length (froms_after froms t len at to) ≡ length froms
  unfolding froms_after
  length_froms = go (eqb to at) (ltb t 8192)
    where
      go : (x y : Bool) → length (cond x froms (cond y (set froms t (to - len)) froms)) ≡ length froms
      go true y = refl
      go false true = length-set froms t (to - len)
      go false false = refl

  pub length-ends : length (ends_after ends t at to) ≡ length ends
  unfolding ends_after
  length-ends = go (eqb to at) (ltb t 8192)
    where
      go : (x y : Bool) → length (cond x ends (cond y (set ends t to) ends)) ≡ length ends
      go true y = refl
      go false true = length-set ends t to
      go false false = refl

-- sizes stay
pub scratch_kept : (froms ends text line fs es text' line' : List ℕ) (t len at to : ℕ) → Scratch froms ends text line
    → fs ≡ froms_after froms t len at to → es ≡ ends_after ends t at to → length text' ≡ length text
    → length line' ≡ length line
    → Scratch fs es text' line'
scratch_kept froms ends text line fs es text' line' t len at to s x y z w = record {
  froms_size = ap length x ∙ length_froms froms ends t len at to ∙ s.froms_size;
  ends_size = ap length y ∙ length-ends froms ends t len at to ∙ s.ends_size;
  text_size = z ∙ s.text_size;
  line_size = w ∙ s.line_size;
}
