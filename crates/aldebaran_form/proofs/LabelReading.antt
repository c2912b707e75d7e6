-- Labels and how they are spelled: `label_of` finds each label by its bytes and nothing else, and so does label_of.
use Prim.Native.Nat.{ℕ, zero, suc, ◌+◌, ◌-◌, ◌*◌, ◌/◌, ◌%◌, ◌≤◌, ◌<◌}
use mathlib.Core.Path.{◌≡◌, refl, sym, ◌∙◌, ap}
use mathlib.Core.Bool.{Bool, true, false, cond}
use mathlib.Core.List.{List, [], ◌∷◌, ◌++◌}
use mathlib.Core.Logic.{◌⊎◌, inl, inr}
use native.Mathlib.Omega.{arith}
use native.Mathlib.Numerals.{lt_of_le_of_ne}
use lib.ListN.{length, get_or}
use lib.Dec.{eqb, ltb}
use borrow.Author.Tests.{eqb-true, eqb-false, eq-eqb, ne_eqb, ltb-true, ltb-false}
use Rattle.hml.proofs.Tests.{apart}
use Rattle.digits.specs.Digits.{decimal}
use Rattle.digits.proofs.DecimalLaws.{decimal_small, decimal_2}
use Rattle.digits.proofs.Reading.{decimal-one-to-one}
use Rattle.aldebaran_form.specs.Forms.{spelled}
use Rattle.aldebaran_form.specs.Lines.{same_bytes, label_among, label_of}
use Rattle.aldebaran_form.specs.Working.{label_found}
use Rattle.std.specs.Prelude.{None, Option, Some}

-- the equality test on bytes
pub same_refl : (l : List ℕ) → same_bytes l l ≡ true
unfolding same_bytes
same_refl [] = refl
same_refl (b ∷ l) = rw (eq-eqb b b refl) (same_refl l)

pub same_true : (k l : List ℕ) → same_bytes k l ≡ true → k ≡ l
unfolding same_bytes
same_true [] [] e = refl
same_true [] (c ∷ l) e = absurd (apart cc)
same_true (b ∷ k) [] e = absurd (apart cc)
same_true (b ∷ k) (c ∷ l) e = go (eqb b c) refl (same_true k l)
  where
    go : (t : Bool) → eqb b c ≡ t → (same_bytes k l ≡ true → k ≡ l) → b ∷ k ≡ c ∷ l
    go true q r = rw (eqb-true b c q) (ap (c ∷◌) (r (rw q at e)))
    go false q r = let y = rw q at e in absurd (apart cc)

-- the sign behind the number of a label
abbrev sign : ℕ → ℕ
sign a = cond (eqb (a % 2) 0) 33 63

-- a label other than the silent step, as the code counts it
pub spelled-odd : (a : ℕ) → a % 2 ≡ 1 → spelled a ≡ 97 ∷ (decimal ((a - 1) / 2 + 1) ++ (33 ∷ []))
unfolding spelled
spelled-odd zero h = absurd (omega (arith, h))
spelled-odd (suc a) h =
    let n : suc (a / 2) ≡ (suc a - 1) / 2 + 1 = omega arith in
    let e : a % 2 ≡ 0 = omega (arith, h) in
    rw (eq-eqb (a % 2) 0 e, n)

pub spelled_even : (a : ℕ) → 1 ≤ a → (a % 2 ≡ 1 → ⊥) → spelled a ≡ 97 ∷ (decimal ((a - 1) / 2 + 1) ++ (63 ∷ []))
unfolding spelled
spelled_even zero h i = absurd (omega (arith, h))
spelled_even (suc a) h i =
    let n : suc (a / 2) ≡ (suc a - 1) / 2 + 1 = omega arith in
    rw (ne_eqb (a % 2) 0 (λ e. i (omega (arith, e))), n)

-- the two labels of a pair
pub spelled-first : (v : ℕ) → (v ≡ 0 → ⊥) → spelled (2 * v - 1) ≡ 97 ∷ (decimal v ++ (33 ∷ []))
spelled-first zero f = absurd (f refl)
spelled-first (suc v) f =
    let n : (2 * suc v - 1 - 1) / 2 + 1 ≡ suc v = omega arith in
    spelled-odd (2 * suc v - 1) (omega arith) ∙ ap (λ m. 97 ∷ (decimal m ++ (33 ∷ []))) n

pub spelled_second : (v : ℕ) → (v ≡ 0 → ⊥) → spelled (2 * v) ≡ 97 ∷ (decimal v ++ (63 ∷ []))
spelled_second zero f = absurd (f refl)
spelled_second (suc v) f =
    let n : (2 * suc v - 1) / 2 + 1 ≡ suc v = omega arith in
    spelled_even (2 * suc v) (omega arith) (λ e. omega (arith, e)) ∙ ap (λ m. 97 ∷ (decimal m ++ (63 ∷ []))) n

-- different labels are spelled differently
last-same : (k l : List ℕ) (b c : ℕ) → k ++ (b ∷ []) ≡ l ++ (c ∷ []) → (k ≡ l) × (b ≡ c)
last-same [] [] b c e = (refl, cc)
last-same [] (y ∷ []) b c e = absurd (apart cc)
last-same [] (y ∷ x ∷ l) b c e = absurd (apart cc)
last-same (y ∷ []) [] b c e = absurd (apart cc)
last-same (y ∷ x ∷ k) [] b c e = absurd (apart cc)
last-same (y ∷ k) (x ∷ l) b c e =
    let q : k ++ (b ∷ []) ≡ l ++ (c ∷ []) = cc in
    let h : y ≡ x = cc in
    let r = last-same k l b c q in
    (rw (h, r.0), r.1)

same_sign : (a b : ℕ) → sign a ≡ sign b → a % 2 ≡ b % 2
same_sign a b e = go (eqb (a % 2) 0) (eqb (b % 2) 0) refl refl
  where
    go : (s t : Bool) → eqb (a % 2) 0 ≡ s → eqb (b % 2) 0 ≡ t → a % 2 ≡ b % 2
    go true true p q = eqb-true (a % 2) 0 p ∙ sym (eqb-true (b % 2) 0 q)
    go true false p q = absurd (omega (arith, rw (p, q) at e))
    go false true p q = absurd (omega (arith, rw (p, q) at e))
    go false false p q =
        let f : 0 < a % 2 = lt_of_le_of_ne (omega arith) (λ z. eqb-false (a % 2) 0 p (sym z)) in
        let g : 0 < b % 2 = lt_of_le_of_ne (omega arith) (λ z. eqb-false (b % 2) 0 q (sym z)) in
        omega arith

pub spelled-one-to-one : (a b : ℕ) → spelled a ≡ spelled b → a ≡ b
unfolding spelled
spelled-one-to-one zero zero e = refl
spelled-one-to-one zero (suc b) e = let z : ◌≡◌ {A = ℕ} 105 97 = cc in absurd (omega arith)
spelled-one-to-one (suc a) zero e = let z : ◌≡◌ {A = ℕ} 105 97 = cc in absurd (omega arith)
spelled-one-to-one (suc a) (suc b) e =
    let q : decimal (suc (a / 2)) ++ (sign a ∷ []) ≡ decimal (suc (b / 2)) ++ (sign b ∷ []) = cc in
    let r = last-same (decimal (suc (a / 2))) (decimal (suc (b / 2))) (sign a) (sign b) q in
    let h : suc (a / 2) ≡ suc (b / 2) = decimal-one-to-one (suc (a / 2)) (suc (b / 2)) r.0 in
    omega (arith, h, same_sign a b r.1)

-- a label is found by its bytes
among-found : (n a : ℕ) → a < n → label_among n (spelled a) ≡ Some a
unfolding label_among
among-found zero a h = absurd (omega arith)
among-found (suc n) a h = go (same_bytes (spelled n) (spelled a)) refl (among-found n a)
  where
    go : (t : Bool) → same_bytes (spelled n) (spelled a) ≡ t → (a < n → label_among n (spelled a) ≡ Some a)
        → label_among (suc n) (spelled a) ≡ Some a
    go true e r = rw e (ap Some (spelled-one-to-one n a (same_true _ _ e)))
    go false e r = rw e (r (lt_of_le_of_ne (omega (arith, h)) other))
      where
        other : a ≡ n → ⊥
        other q =
            let y : same_bytes (spelled n) (spelled a) ≡ true = rw q (same_refl (spelled n)) in
            apart cc

pub label-found : (a : ℕ) → a ≤ 30 → label_of (spelled a) ≡ Some a
unfolding label_of
label-found a h = among-found 31 a (omega arith)

-- nothing else is
among-spelled : (n : ℕ) (l : List ℕ) (a : ℕ) → label_among n l ≡ Some a → (l ≡ spelled a) × (a < n)
unfolding label_among
among-spelled zero l a e = absurd (apart cc)
among-spelled (suc n) l a e = go (same_bytes (spelled n) l) refl (among-spelled n l a)
  where
    go : (t : Bool) → same_bytes (spelled n) l ≡ t → (label_among n l ≡ Some a → (l ≡ spelled a) × (a < n))
        → (l ≡ spelled a) × (a < suc n)
    go true q r =
        let y = rw q at e in
        let z : n ≡ a = cc in
        (sym (same_true _ _ q) ∙ ap spelled z, omega arith)
    go false q r =
        let w = r (rw q at e) in
        (w.0, omega (arith, w.1))

pub label-spelled : (l : List ℕ) (a : ℕ) → label_of l ≡ Some a → (l ≡ spelled a) × (a ≤ 30)
unfolding label_of
label-spelled l a e =
    let w = among-spelled 31 l a e in
    (w.0, omega (arith, w.1))

pub label_unknown : (l : List ℕ) → ((a : ℕ) → a ≤ 30 → l ≡ spelled a → ⊥) → label_of l ≡ None
label_unknown l f = go (label_of l) refl
  where
    go : (o : Option ℕ) → label_of l ≡ o → label_of l ≡ None
    go None e = e
    go (Some a) e = absurd (f a (label-spelled l a e).1 (label-spelled l a e).0)

-- the three ways in which a label is spelled
abbrev Mark : ℕ → Type 0
Mark m = (m ≡ 33) ⊎ (m ≡ 63)

abbrev Spelling : List ℕ → Type 0
Spelling l =
    (l ≡ 105 ∷ [])
    ⊎ ((v : ℕ) × (m : ℕ) × (1 ≤ v) × (v < 10) × Mark m × (l ≡ 97 ∷ (48 + v) ∷ m ∷ []))
    ⊎ ((v : ℕ) × (m : ℕ) × (10 ≤ v) × (v ≤ 15) × Mark m × (l ≡ 97 ∷ 49 ∷ (38 + v) ∷ m ∷ []))

decimal_high : (v : ℕ) → 10 ≤ v → v ≤ 15 → decimal v ≡ 49 ∷ (38 + v) ∷ []
decimal_high v h i =
    let ten : 48 + v / 10 ≡ 49 = omega arith in
    let one : 48 + v % 10 ≡ 38 + v = omega arith in
    decimal_2 v h (omega arith) ∙ rw (ten, one)

spelling : (a : ℕ) → a ≤ 30 → Spelling (spelled a)
unfolding spelled
spelling zero h = inl refl
spelling (suc a) h = go (ltb (suc (a / 2)) 10) refl
  where
    mark : (x : Bool) → Mark (cond x 33 63)
    mark true = inl refl
    mark false = inr refl

    go : (x : Bool) → ltb (suc (a / 2)) 10 ≡ x → Spelling (97 ∷ (decimal (suc (a / 2)) ++ (sign a ∷ [])))
    go true e =
        let low : suc (a / 2) < 10 = ltb-true (suc (a / 2)) 10 e in
        inr (inl (
          suc (a / 2),
          sign a,
          omega arith,
          low,
          mark (eqb (a % 2) 0),
          ap (λ d. 97 ∷ (d ++ (sign a ∷ []))) (decimal_small (suc (a / 2)) low),
        ))
    go false e =
        let high : 10 ≤ suc (a / 2) = ltb-false (suc (a / 2)) 10 e in
        let most : suc (a / 2) ≤ 15 = omega (arith, h) in
        inr (inr (
          suc (a / 2),
          sign a,
          high,
          most,
          mark (eqb (a % 2) 0),
          ap (λ d. 97 ∷ (d ++ (sign a ∷ []))) (decimal_high (suc (a / 2)) high most),
        ))

-- bytes that are spelled in none of them
pub unknown : (l : List ℕ) → (Spelling l → ⊥) → None ≡ label_found (label_of l)
unfolding label_found
unknown l f = rw (label_unknown l (λ a h e. f (rw e (spelling a h))))

is_label_lem : (l : List ℕ) (a : ℕ) → a ≤ 30 → l ≡ spelled a → Some (record { 0 = a }) ≡ label_found (label_of l)
unfolding label_found
is_label_lem l a h e = rw (e, label-found a h)

-- bytes of a length, one by one
pub one_byte : (l : List ℕ) → length l ≡ 1 → l ≡ get_or l 0 0 ∷ []
one_byte [] n = absurd (omega (arith, n))
one_byte (b ∷ []) n = refl
one_byte (b ∷ c ∷ l) n = absurd (omega (arith, n))

pub three_bytes : (l : List ℕ) → length l ≡ 3 → l ≡ get_or l 0 0 ∷ get_or l 1 0 ∷ get_or l 2 0 ∷ []
three_bytes [] n = absurd (omega (arith, n))
three_bytes (b ∷ []) n = absurd (omega (arith, n))
three_bytes (b ∷ c ∷ []) n = absurd (omega (arith, n))
three_bytes (b ∷ c ∷ d ∷ []) n = refl
three_bytes (b ∷ c ∷ d ∷ e ∷ l) n = absurd (omega (arith, n))

pub four_bytes : (l : List ℕ) → length l ≡ 4 → l ≡ get_or l 0 0 ∷ get_or l 1 0 ∷ get_or l 2 0 ∷ get_or l 3 0 ∷ []
four_bytes [] n = absurd (omega (arith, n))
four_bytes (b ∷ l) n = ap (b ∷◌) (three_bytes l (omega (arith, n)))

-- by their length
module _ (l : List ℕ) where
  pub other_length : (length l ≡ 1 → ⊥) → (length l ≡ 3 → ⊥) → (length l ≡ 4 → ⊥)
      → None ≡ label_found (label_of l)
  other_length f g h = unknown l go
    where
      go : Spelling l → ⊥
      go (inl e) = f (ap length e)
      go (inr (inl w)) = g (ap length w.5)
      go (inr (inr w)) = h (ap length w.5)

  pub silent : length l ≡ 1 → get_or l 0 0 ≡ 105 → Some (record { 0 = 0 }) ≡ label_found (label_of l)
  unfolding spelled
  silent n e = is_label_lem l 0 (omega arith) (one_byte l n ∙ rw e)

  pub not-silent : length l ≡ 1 → (get_or l 0 0 ≡ 105 → ⊥) → None ≡ label_found (label_of l)
  not-silent n f = unknown l go
    where
      go : Spelling l → ⊥
      go (inl e) = f (ap (λ k. get_or k 0 0) e)
      go (inr (inl w)) = omega (arith, n, ap length w.5)
      go (inr (inr w)) = omega (arith, n, ap length w.5)

-- three bytes: a, a digit from 1 to 9 and a mark
module _ (letter digit mark : ℕ) where
  abbrev three : List ℕ
  three = letter ∷ digit ∷ mark ∷ []

  not_low : ((v m : ℕ) → 1 ≤ v → v < 10 → three ≡ 97 ∷ (48 + v) ∷ m ∷ [] → ⊥)
      → None ≡ label_found (label_of three)
  not_low f = unknown three go
    where
      go : Spelling three → ⊥
      go (inl e) = omega (arith, ap length e)
      go (inr (inl w)) = f w.0 w.1 w.2 w.3 w.5
      go (inr (inr w)) = omega (arith, ap length w.5)

  pub low_letter : (letter ≡ 97 → ⊥) → None ≡ label_found (label_of three)
  low_letter f = not_low (λ v m h i e. f (ap (λ k. get_or k 0 0) e))

  pub low_below : digit < 49 → None ≡ label_found (label_of three)
  low_below h = not_low (λ v m i j e. omega (arith, h, i, ap (λ k. get_or k 1 0) e))

  pub low_above : 57 < digit → None ≡ label_found (label_of three)
  low_above h = not_low (λ v m i j e. omega (arith, h, j, ap (λ k. get_or k 1 0) e))

  pub low_there : {A : Type 0} (f : List ℕ → A) → letter ≡ 97 → 49 ≤ digit → digit ≤ 57
      → f (97 ∷ (decimal (digit - 48) ++ (mark ∷ []))) ≡ f three
  low_there f e h i =
      let z : 48 + (digit - 48) ≡ digit = omega arith in
      ap f (rw (decimal_small (digit - 48) (omega arith), z, e))

-- four bytes: a, 1, a digit from 0 to 5 and a mark
module _ (letter ten digit mark : ℕ) where
  abbrev four : List ℕ
  four = letter ∷ ten ∷ digit ∷ mark ∷ []

  not_high : ((v m : ℕ) → 10 ≤ v → v ≤ 15 → four ≡ 97 ∷ 49 ∷ (38 + v) ∷ m ∷ [] → ⊥)
      → None ≡ label_found (label_of four)
  not_high f = unknown four go
    where
      go : Spelling four → ⊥
      go (inl e) = omega (arith, ap length e)
      go (inr (inl w)) = omega (arith, ap length w.5)
      go (inr (inr w)) = f w.0 w.1 w.2 w.3 w.5

  pub high_letter : (letter ≡ 97 → ⊥) → None ≡ label_found (label_of four)
  high_letter f = not_high (λ v m h i e. f (ap (λ k. get_or k 0 0) e))

  pub high_ten : (ten ≡ 49 → ⊥) → None ≡ label_found (label_of four)
  high_ten f = not_high (λ v m h i e. f (ap (λ k. get_or k 1 0) e))

  pub high_below : digit < 48 → None ≡ label_found (label_of four)
  high_below h = not_high (λ v m i j e. omega (arith, h, i, ap (λ k. get_or k 2 0) e))

  pub high_above : 53 < digit → None ≡ label_found (label_of four)
  high_above h = not_high (λ v m i j e. omega (arith, h, j, ap (λ k. get_or k 2 0) e))

  pub high_there : {A : Type 0} (f : List ℕ → A) → letter ≡ 97 → ten ≡ 49 → 48 ≤ digit → digit ≤ 53
      → f (97 ∷ (decimal (digit - 48 + 10) ++ (mark ∷ []))) ≡ f four
  high_there f e g h i =
      let z : 38 + (digit - 48 + 10) ≡ digit = omega arith in
      ap f (rw (decimal_high (digit - 48 + 10) (omega arith) (omega arith), z, e, g))

-- a pair and its mark
module _ (pair mark : ℕ) where
  abbrev bytes : List ℕ
  bytes = 97 ∷ (decimal pair ++ (mark ∷ []))

  -- no other byte than the marks
  pub no_mark : (mark ≡ 33 → ⊥) → (mark ≡ 63 → ⊥) → None ≡ label_found (label_of bytes)
  unfolding label_found spelled
  no_mark f g = rw (label_unknown bytes none_such)
    where
      marked : (x : Bool) → mark ≡ cond x 33 63 → ⊥
      marked true e = f e
      marked false e = g e

      none_such : (a : ℕ) → a ≤ 30 → bytes ≡ spelled a → ⊥
      none_such zero h e = omega (arith, ap (λ k. get_or k 0 0) e)
      none_such (suc a) h e =
          let q : decimal pair ++ (mark ∷ []) ≡ decimal (suc (a / 2)) ++ (sign a ∷ []) = cc in
          marked (eqb (a % 2) 0) (last-same (decimal pair) (decimal (suc (a / 2))) mark (sign a) q).1

  module _ (h : 1 ≤ pair) (i : pair ≤ 15) where
    has_pair : pair ≡ 0 → ⊥
    has_pair e = omega (arith, e, h)

    first_mark : mark ≡ 33 → Some (record { 0 = 2 * pair - 1 }) ≡ label_found (label_of bytes)
    first_mark e = is_label_lem bytes (2 * pair - 1) (omega arith)
        (sym (spelled-first pair has_pair ∙ ap (λ m. 97 ∷ (decimal pair ++ (m ∷ []))) (sym e)))

    second_mark : mark ≡ 63 → Some (record { 0 = 2 * pair }) ≡ label_found (label_of bytes)
    second_mark e = is_label_lem bytes (2 * pair) (omega arith)
        (sym (spelled_second pair has_pair ∙ ap (λ m. 97 ∷ (decimal pair ++ (m ∷ []))) (sym e)))

    -- as the code counts it
    pub with_mark : mark ≡ 33 + 30 * (mark / 63)
        → Some (record { 0 = 2 * pair + mark / 63 - 1 }) ≡ label_found (label_of bytes)
    with_mark e = go (eqb mark 33) refl
      where
        go : (x : Bool) → eqb mark 33 ≡ x
            → Some (record { 0 = 2 * pair + mark / 63 - 1 }) ≡ label_found (label_of bytes)
        go true p =
            let q : mark ≡ 33 = eqb-true mark 33 p in
            let n : 2 * pair + mark / 63 - 1 ≡ 2 * pair - 1 = omega (arith, q) in
            ap (λ a. Some (record { 0 = a })) n ∙ first_mark q
        go false p =
            let f : 33 < mark = lt_of_le_of_ne (omega (arith, e)) (λ z. eqb-false mark 33 p (sym z)) in
            let q : mark ≡ 63 = omega (arith, e, f) in
            let n : 2 * pair + mark / 63 - 1 ≡ 2 * pair = omega (arith, q, h) in
            ap (λ a. Some (record { 0 = a })) n ∙ second_mark q

-- what no label of two or three bytes is
pub ruleset low_outside = (low_letter, low_below, low_above)

pub ruleset high_outside = (high_letter, high_ten, high_below, high_above)

-- one byte that is no label's, or bytes of no label's length
pub ruleset by_length = (silent, not-silent, other_length)
