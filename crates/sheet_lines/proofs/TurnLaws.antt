-- Lines that end alike, written one after the other: copies of one line, in which the last digit of the number is
-- another.
use Prim.Native.Nat.{ℕ, ◌+◌, ◌-◌, ◌/◌, ◌%◌, ◌≤◌, ◌<◌, min}
use mathlib.Core.Path.{◌≡◌, refl, sym, ◌∙◌, ap, ap₂}
use mathlib.Core.Bool.{Bool, true, false, cond}
use mathlib.Core.List.{List, [], ◌∷◌, ◌++◌, append_assoc}
use native.Mathlib.Omega.{arith}
use lib.ListN.{length, set, take, drop, length-append, length-set, length-take, take-append-drop}
use lib.Dec.{ltb}
use lib.Seq.{take_at, take-add, take-take, drop_at, drop-drop}
use borrow.Author.Tests.{ltb-true, ltb-false, lt-ltb, le-ltb}
use Rattle.digits.specs.Digits.{decimal}
use Rattle.sheet_lines.specs.Sheets.{blank, head_of, listed, fitting}
use Rattle.sheet_lines.specs.Working.{put_at, line_with, digit_line, Headed, Tens, Filled, Full}
use Rattle.sheet_lines.specs.declared.point.Point.{Point}
use Rattle.digits.proofs.DecimalLaws.{decimal_small, decimal-more}
use Rattle.sheet_lines.proofs.LineLaws.{length_head}
use Rattle.sheet_lines.proofs.Puts.{set-between, drop-put}
use Rattle.sheet_lines.proofs.Filling.{length-listed, listed-agree, filled_line, filled_stop, filled_point}
use Rattle.sheet_lines.proofs.Filling.{full_point, filled_none, filled_end}
use Rattle.sheet_lines.proofs.FillLaws.{fitting-few}

-- the digits of a number in front of its last one, by its tens
abbrev front : ℕ → List ℕ
front q = cond (ltb q 1) [] (decimal q)

decimal-last : (n : ℕ) → decimal n ≡ front (n / 10) ++ ((48 + n % 10) ∷ [])
decimal-last n = go (ltb n 10) refl
  where
    go : (b : Bool) → ltb n 10 ≡ b → decimal n ≡ front (n / 10) ++ ((48 + n % 10) ∷ [])
    go true e =
        let h = ltb-true n 10 e in
        let z : n % 10 ≡ n = omega (arith, h) in
        rw (lt-ltb (n / 10) 1 (omega (arith, h)), z) (decimal_small n h)
    go false e =
        let h = ltb-false n 10 e in
        rw (le-ltb (n / 10) 1 (omega (arith, h))) (decimal-more n h)

-- a line by what stands in front of the last digit, the digit, and what stands behind it
line_digit : (p : Point) (n : ℕ) (e : List ℕ)
    → line_with p e n ≡ (decimal p.number ++ (blank ∷ front (n / 10)))
    ++ ((48 + n % 10) ∷ (blank ∷ p.letter ∷ blank ∷ e))
unfolding line_with head_of
line_digit p n e =
    ap (λ d. (decimal p.number ++ (blank ∷ (d ++ (blank ∷ p.letter ∷ blank ∷ [])))) ++ e) (decimal-last n)
    ∙ simp append_assoc

-- the digit's place
digit_place : (p : Point) (n : ℕ)
    → length (head_of p.number n p.letter) - 4 ≡ length (decimal p.number ++ (blank ∷ front (n / 10)))
digit_place p n = omega (
  arith,
  length_head p.number n p.letter,
  ap length (decimal-last n),
  length-append (front (n / 10)) ((48 + n % 10) ∷ []),
  length-append (decimal p.number) (blank ∷ front (n / 10)),
)

-- with another last digit it is the line of another number
other_digit : (p : Point) (n m : ℕ) (e : List ℕ) (d : ℕ) → m / 10 ≡ n / 10 → d ≡ 48 + m % 10
    → set (line_with p e n) (length (head_of p.number n p.letter) - 4) d ≡ line_with p e m
other_digit p n m e d q z =
    let a = decimal p.number ++ (blank ∷ front (n / 10)) in
    let b = blank ∷ p.letter ∷ blank ∷ e in
    ap (λ o. set o (length (head_of p.number n p.letter) - 4) d) (line_digit p n e)
    ∙ ap (λ i. set (a ++ ((48 + n % 10) ∷ b)) i d) (digit_place p n) ∙ set-between a b (48 + n % 10) d
    ∙ rw (z, ← q) (sym (line_digit p m e))

-- bytes that begin with a head are a line
headed_line : (p : Point) (n : ℕ) (line : List ℕ) → Headed p n line
    → line ≡ line_with p (drop (length (head_of p.number n p.letter)) line) n
unfolding Headed line_with
headed_line p n line h =
    sym (take-append-drop (length (head_of p.number n p.letter)) line)
    ∙ ap (◌++ drop (length (head_of p.number n p.letter)) line) h

-- at most ten numbers differ in their last digit only
pub tens_few : (n end : ℕ) → Tens n end → (n ≤ end) × (end - n + n % 10 ≤ 10)
unfolding Tens
tens_few n end h = omega (arith, h)

pub tens_of : (i until end : ℕ) → end ≡ min until (i - i % 10 + 10) → i < until → Tens i end
unfolding Tens
tens_of i until end e h = omega (arith, e, h)

-- lines of numbers that differ in their last digit, from the first of them
tens_lines : (p : Point) (n end : ℕ) (line : List ℕ) → Tens n end → Headed p n line
    → listed (digit_line line (length (head_of p.number n p.letter) - 4) n) n (end - n)
    ≡ listed (line_with p (drop (length (head_of p.number n p.letter)) line)) n (end - n)
unfolding digit_line Tens
tens_lines p n end line tens headed =
    listed-agree (digit_line line (length (head_of p.number n p.letter) - 4) n) (line_with p e) n n (end - n) one
  where
    e : List ℕ
    e = drop (length (head_of p.number n p.letter)) line

    one : (x : ℕ) → x < end - n
        → digit_line line (length (head_of p.number n p.letter) - 4) n (n + x) ≡ line_with p e (n + x)
    one x h =
        let q : (n + x) / 10 ≡ n / 10 = omega (arith, tens, h) in
        let d : 48 + n % 10 + (n + x - n) ≡ 48 + (n + x) % 10 = omega (arith, tens, h) in
        ap (λ o. set o (length (head_of p.number n p.letter) - 4) (48 + n % 10 + (n + x - n)))
        (headed_line p n line headed)
        ∙ other_digit p n (n + x) e (48 + n % 10 + (n + x - n)) q d

-- one of them
module _ (line : List ℕ) (place n end : ℕ) (xs ys : List ℕ) (start to i d : ℕ)
    (f : Filled (digit_line line place n) xs start n end ys to i) (due : i < end) (z : d ≡ 48 + n % 10 + (i - n)) where
  digit_same : set line place d ≡ digit_line line place n i
  unfolding digit_line
  digit_same = ap (set line place) z

  -- it fits
  pub digits_more : (zs : List ℕ) → length line ≤ length ys - to → zs ≡ put_at ys to (set line place d)
      → Filled (digit_line line place n) xs start n end zs (to + length line) (i + 1)
  digits_more zs h g =
      let s = length-set line place d in
      let c : to + length line ≡ to + length (set line place d) = omega (arith, s) in
      rw (g, c) (filled_line (digit_line line place n) xs start n end ys to i f (set line place d) digit_same due
      (omega (arith, h, s)))

  -- or not
  pub digits_stop : length ys - to < length line
      → Full (fitting (length xs - start) (listed (digit_line line place n) n (end - n))) xs start n ys to i
  digits_stop h =
      filled_stop (digit_line line place n) xs start n end ys to i f (set line place d) digit_same due
      (omega (arith, h, length-set line place d))

-- none fits into an output that is shorter than a line
pub digits_none : (line : List ℕ) (place n end : ℕ) (xs : List ℕ) (start : ℕ) → n ≤ end → start ≤ length xs
    → length xs < length line
    → Full (fitting (length xs - start) (listed (digit_line line place n) n (end - n))) xs start n xs start n
digits_none line place n end xs start h r short = go (ltb n end) refl
  where
    none : Filled (digit_line line place n) xs start n end xs start n
    none = filled_none (digit_line line place n) xs start n end h r

    go : (b : Bool) → ltb n end ≡ b
        → Full (fitting (length xs - start) (listed (digit_line line place n) n (end - n))) xs start n xs start n
    go true e =
        digits_stop line place n end xs xs start start n (48 + n % 10) none (ltb-true n end e) (omega arith)
        (omega (arith, short))
    go false e = filled_end (digit_line line place n) xs start n end xs start n none (omega (arith, ltb-false n end e))

-- a line with its head put in front of its ending
module _ (p : Point) (n : ℕ) (xs ys : List ℕ) (start len : ℕ)
    (s : start ≡ 12 - length (head_of p.number n p.letter)) (few : length (head_of p.number n p.letter) ≤ 12)
    (room : 12 + len ≤ length xs)
    (put : ys ≡ put_at xs start (head_of p.number n p.letter)) where
  abbrev h : List ℕ
  h = head_of p.number n p.letter

  behind_head : drop start ys ≡ h ++ drop 12 xs
  behind_head =
      let z : start + length h ≡ 12 = omega (arith, s, few) in
      ap (drop start) put ∙ drop-put xs start h (omega (arith, z, room)) ∙ ap (λ m. h ++ drop m xs) z

  -- it begins with the head
  put_headed : Headed p n (take (12 + len - start) (drop start ys))
  unfolding Headed
  put_headed =
      let z : 12 + len - start ≡ length h + len = omega (arith, s, few) in
      ap (λ m. take (length h) (take m (drop start ys))) z
      ∙ take-take (length h) (length h + len) (drop start ys) (omega arith) ∙ ap (take (length h)) behind_head
      ∙ take_at h (drop 12 xs) (length h) refl

  -- and goes on with the ending
  put-ending : drop (length h) (take (12 + len - start) (drop start ys)) ≡ take len (drop 12 xs)
  put-ending =
      let z : 12 + len - start ≡ length h + len = omega (arith, s, few) in
      ap (λ m. drop (length h) (take m (drop start ys))) z
      ∙ ap (λ o. drop (length h) (take (length h + len) o)) behind_head
      ∙ ap (drop (length h)) (take-add (length h) len (h ++ drop 12 xs))
      ∙ ap₂ (λ a b. drop (length h) (a ++ take len b)) (take_at h (drop 12 xs) (length h) refl)
      (drop_at h (drop 12 xs) (length h) refl)
      ∙ drop_at h (take len (drop 12 xs)) (length h) refl

  -- so it is longer than the head
  pub put-longer : length h ≤ length (take (12 + len - start) (drop start ys))
  unfolding Headed
  put-longer =
      let line = take (12 + len - start) (drop start ys) in
      omega (arith, ap length put_headed, length-take (length h) line)

  -- and the lines made from it are those due
  pub put-lines : (end head : ℕ) → Tens n end → head ≡ length h
      → listed (digit_line (take (12 + len - start) (drop start ys)) (head - 4) n) n (end - n)
      ≡ listed (line_with p (take len (drop 12 xs))) n (end - n)
  put-lines end head tens z =
      let line = take (12 + len - start) (drop start ys) in
      ap (λ m. listed (digit_line line (m - 4) n) n (end - n)) z ∙ tens_lines p n end line tens put_headed
      ∙ ap (λ d. listed (line_with p d) n (end - n)) put-ending

  -- which stands where it stood
  pub ending-kept : take len (drop 12 ys) ≡ take len (drop 12 xs)
  ending-kept =
      let z : 12 ≡ start + length h = omega (arith, s, few) in
      ap (take len) (ap (λ m. drop m ys) z ∙ sym (drop-drop (length h) start ys) ∙ ap (drop (length h)) behind_head
      ∙ drop_at h (drop 12 xs) (length h) refl)

-- tens one after the other
module _ (p : Point) (e : List ℕ) (xs ys zs : List ℕ) (start n end to i u to' i' : ℕ) (b : List ℕ) (same : b ≡ e)
    (f : Filled (line_with p e) xs start n end ys to i) (within : u ≤ end) (begun : i ≤ u)
    (full : Full (fitting (length ys - to) (listed (line_with p b) i (u - i))) ys to i zs to' i') where
  same_full : Full (fitting (length ys - to) (listed (line_with p e) i (u - i))) ys to i zs to' i'
  same_full = rw same at full

  pub tens_reached : (i ≤ i') × (i' ≤ u)
  tens_reached =
      let d = listed (line_with p e) i (u - i) in
      omega (arith, same_full.counted, fitting-few (length ys - to) d, length-listed (line_with p e) i (u - i), begun)

  pub tens_done : u ≤ i' → Filled (line_with p e) xs start n end zs to' i'
  tens_done h =
      let z : i + (u - i) ≡ i' = omega (arith, tens_reached, h, begun) in
      rw z at (filled_point (line_with p e) xs start n end ys to i f (line_with p e) i (u - i) (λ x l. refl)
      (omega (arith, within, begun)) zs to' i' same_full (omega (arith, z)))

  pub tens_full : i' < u → Full (fitting (length xs - start) (listed (line_with p e) n (end - n))) xs start n zs to' i'
  tens_full h =
      let z : i + (i' - i) ≡ i' = omega (arith, tens_reached) in
      rw z at (full_point (line_with p e) xs start n end ys to i f (line_with p e) i (u - i) (λ x l. refl)
      (omega (arith, within, begun)) zs to' i' same_full (omega (arith, h, begun)))
