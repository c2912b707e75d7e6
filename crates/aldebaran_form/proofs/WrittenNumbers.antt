-- Numbers in a line: a number that is written is read, and what is read is the number that is written there.
use Prim.Native.Nat.{ℕ, zero, suc, ◌+◌, ◌-◌, ◌*◌, ◌≤◌, ◌<◌}
use mathlib.Core.Path.{◌≡◌, refl, sym, ◌∙◌, ap}
use mathlib.Core.Bool.{Bool, true, false, cond, false≢true}
use mathlib.Core.List.{List, [], ◌∷◌, ◌++◌}
use native.Mathlib.Omega.{arith}
use lib.ListN.{length, get_or, drop}
use lib.Seq.{drop-append_seam}
use lib.Dec.{leb, ltb}
use borrow.Author.Tests.{le-leb, lt-leb, leb-true, leb-false, ltb-true, ltb-false, eq-eqb, ne_eqb}
use Rattle.hml.specs.Lists.{guard}
use Rattle.hml.proofs.Tests.{apart, both_true}
use Rattle.digits.specs.Digits.{decimal, read_from}
use Rattle.digits.proofs.DecimalLaws.{count_small, count-some, count-within, within_count}
use Rattle.digits.proofs.Reading.{AllDigits, read_decimal, decimal_digits, decimal-front}
use Rattle.digits.proofs.Reading.{decimal_read, decimal_read_one}
use Rattle.aldebaran_form.specs.Lines.{front, is_digit, digits_in, is_number, number_in}
use Rattle.aldebaran_form.specs.Working.{goes_on, number_from}
use Rattle.aldebaran_form.proofs.Lacks.{Lacks, lacks_places}
use Rattle.aldebaran_form.proofs.Fronts.{front-split}
use Rattle.std.specs.Prelude.{Option, Some}

-- digits are no other bytes
pub decimal_lacks : (b n : ℕ) → b < 48 → Lacks b (decimal n)
unfolding AllDigits
decimal_lacks b n h = lacks_places b (decimal n) (λ i g e. absurd (omega (arith, h, e, (decimal_digits n i g).0)))

-- the test of a digit
is_digit_lem : (b : ℕ) → 48 ≤ b → b < 58 → is_digit b ≡ true
unfolding is_digit
is_digit_lem b h g = rw (le-leb 48 b h, le-leb b 57 (omega arith))

digit_is : (b : ℕ) → is_digit b ≡ true → (48 ≤ b) × (b < 58)
unfolding is_digit
digit_is b e =
    let w = both_true {a = leb 48 b} {b = leb b 57} e in
    (leb-true 48 b w.0, omega (arith, leb-true b 57 w.1))

-- digits in front of another byte, or of the end
digits_in_lem : (d rest : List ℕ) → AllDigits d → is_digit (get_or rest 0 0) ≡ false → digits_in (d ++ rest) ≡ d
unfolding digits_in front AllDigits
digits_in_lem [] rest a f = go rest f
  where
    go : (l : List ℕ) → is_digit (get_or l 0 0) ≡ false → digits_in l ≡ []
    go [] g = refl
    go (b ∷ l) g = rw g
digits_in_lem (b ∷ d) rest a f =
    let first : is_digit b ≡ true = is_digit_lem b (a 0 (omega arith)).0 (a 0 (omega arith)).1 in
    rw first (ap (b ∷◌) (digits_in_lem d rest (λ k g. a (suc k) (omega (arith, g))) f))

-- what a line begins with is digits
digits_all : (l : List ℕ) → AllDigits (digits_in l)
unfolding digits_in front AllDigits
digits_all [] = λ i h. absurd (omega (arith, h))
digits_all (b ∷ l) = go (is_digit b) refl (digits_all l)
  where
    more : 48 ≤ b → b < 58 → AllDigits (digits_in l) → (i : ℕ) → i < suc (length (digits_in l))
        → (48 ≤ get_or (b ∷ digits_in l) i 0) × (get_or (b ∷ digits_in l) i 0 < 58)
    more p q r zero h = (p, q)
    more p q r (suc i) h = r i (omega (arith, h))

    go : (x : Bool) → is_digit b ≡ x → AllDigits (digits_in l) → AllDigits (cond x (b ∷ digits_in l) [])
    go true e r = let w = digit_is b e in more w.0 w.1 r
    go false e r = λ i h. absurd (omega (arith, h))

-- "numbers of at most five digits without leading zeros"
module _ (d : List ℕ) where
  pub number-one : length d ≡ 1 → is_number d ≡ true
  unfolding is_number
  number-one e = rw e

  pub number-zero : length d ≡ 0 → is_number d ≡ false
  unfolding is_number
  number-zero e = rw e

  pub number_long : 6 ≤ length d → is_number d ≡ false
  unfolding is_number
  number_long h = rw (le-leb 1 (length d) (omega arith), lt-leb (length d) 5 h)

  module _ (h : 2 ≤ length d) (i : length d ≤ 5) where
    not-one : length d ≡ 1 → ⊥
    not-one e = omega (arith, e, h)

    pub number_led : get_or d 0 0 ≡ 48 → is_number d ≡ false
    unfolding is_number
    number_led e =
        rw (le-leb 1 (length d) (omega arith), le-leb (length d) 5 i, ne_eqb _ _ not-one, eq-eqb _ _ e)

    pub number_more : (get_or d 0 0 ≡ 48 → ⊥) → is_number d ≡ true
    unfolding is_number
    number_more f =
        rw (le-leb 1 (length d) (omega arith), le-leb (length d) 5 i, ne_eqb _ _ not-one, ne_eqb _ _ f)

-- a number read as its first digit and the others: the value tells how many there are
pub read_grows : (d : List ℕ) (n : ℕ) → n ≤ read_from n d
unfolding read_from
read_grows [] n = omega arith
read_grows (b ∷ d) n = omega (arith, read_grows d (10 * n + (b - 48)))

same_test : (b : ℕ) (d : List ℕ) → AllDigits (b ∷ d) → is_number (b ∷ d) ≡ goes_on (b - 48) d
unfolding goes_on read_from AllDigits
same_test b [] a = number-one (b ∷ []) refl
same_test b (c ∷ d) a = go (ltb 48 b) refl (ltb (read_from (b - 48) (c ∷ d)) 100000) refl
  where
    digits : List ℕ
    digits = b ∷ c ∷ d

    value : read_from 0 digits ≡ read_from (b - 48) (c ∷ d)
    value = let z : 10 * 0 + (b - 48) ≡ b - 48 = omega arith in ap (λ n. read_from n (c ∷ d)) z

    led : b ≡ 48 → (x : Bool) → leb (length digits) 5 ≡ x → is_number digits ≡ false
    led z true e = number_led digits (omega arith) (leb-true (length digits) 5 e) z
    led z false e = number_long digits (leb-false (length digits) 5 e)

    written : 48 < b → decimal (read_from (b - 48) (c ∷ d)) ≡ digits
    written h = ap decimal (sym value) ∙ decimal_read b (c ∷ d) h a

    long : 48 < b → 100000 ≤ read_from (b - 48) (c ∷ d) → (x : Bool) → leb (length digits) 5 ≡ x
        → is_number digits ≡ false
    long h far true e =
        let short : length (decimal (read_from (b - 48) (c ∷ d))) ≤ 5 =
        omega (arith, ap length (written h), leb-true (length digits) 5 e) in
        absurd (omega (arith, far, within_count 5 (read_from (b - 48) (c ∷ d)) short))
    long h far false e = number_long digits (leb-false (length digits) 5 e)

    go : (x : Bool) → ltb 48 b ≡ x → (y : Bool) → ltb (read_from (b - 48) (c ∷ d)) 100000 ≡ y
        → is_number digits ≡ goes_on (b - 48) (c ∷ d)
    go true p true q =
        let h : 48 < b = ltb-true 48 b p in
        let short : length digits ≤ 5 = omega (
          arith,
          ap length (written h),
          count-within 4 (read_from (b - 48) (c ∷ d)) (ltb-true (read_from (b - 48) (c ∷ d)) 100000 q),
        ) in
        number_more digits (omega arith) short (λ z. omega (arith, z, h))
        ∙ sym (rw (le-leb 1 (b - 48) (omega (arith, h)), q))
    go true p false q =
        let h : 48 < b = ltb-true 48 b p in
        long h (ltb-false (read_from (b - 48) (c ∷ d)) 100000 q) (leb (length digits) 5) refl
        ∙ sym (rw (le-leb 1 (b - 48) (omega (arith, h)), q))
    go false p y q =
        let z : b ≡ 48 = omega (arith, ltb-false 48 b p, all_low) in
        let zero-first : b - 48 ≡ 0 = omega (arith, z) in
        led z (leb (length digits) 5) refl ∙ sym (rw zero-first)
      where
        all_low : 48 ≤ b
        all_low = (a 0 (omega arith)).0

pub first_digit : (b : ℕ) (rest : List ℕ) → 48 ≤ b → b ≤ 57 → number_in (b ∷ rest) ≡ number_from (b - 48) rest
unfolding number_in number_from digits_in front is_digit read_from AllDigits
first_digit b rest low high =
    let z : 10 * 0 + (b - 48) ≡ b - 48 = omega arith in
    rw (le-leb 48 b low, le-leb b 57 high)
    (ap (λ x. guard x (read_on (10 * 0 + (b - 48)))) (same_test b (digits_in rest) all)
    ∙ ap (λ n. guard (goes_on (b - 48) (digits_in rest)) (read_on n)) z)
  where
    read_on : ℕ → ℕ × List ℕ
    read_on n = (read_from n (digits_in rest), drop (length (digits_in rest)) rest)

    all : AllDigits (b ∷ digits_in rest)
    all zero h = (low, omega (arith, high))
    all (suc i) h = digits_all rest i (omega (arith, h))

-- the number that is written
is_number_lem : (n : ℕ) → n < 100000 → is_number (decimal n) ≡ true
is_number_lem zero h = number-one (decimal 0) (count_small 0 (omega arith))
is_number_lem (suc n) h = go (ltb (length (decimal (suc n))) 2) refl
  where
    go : (b : Bool) → ltb (length (decimal (suc n))) 2 ≡ b → is_number (decimal (suc n)) ≡ true
    go true e = number-one (decimal (suc n))
        (omega (arith, ltb-true (length (decimal (suc n))) 2 e, count-some (suc n)))
    go false e = number_more (decimal (suc n)) (ltb-false (length (decimal (suc n))) 2 e) (count-within 4 (suc n) h)
        (λ q. omega (arith, q, decimal-front (suc n) (omega arith)))

pub number-written : (n : ℕ) (rest : List ℕ) → n < 100000 → is_digit (get_or rest 0 0) ≡ false
    → number_in (decimal n ++ rest) ≡ Some (n, rest)
unfolding number_in
number-written n rest h f =
    rw (
      digits_in_lem (decimal n) rest (decimal_digits n) f,
      is_number_lem n h,
      read_decimal n,
      drop-append_seam (decimal n) rest,
    )

-- the number that is read
number_short : (d : List ℕ) → is_number d ≡ true → length d ≤ 5
unfolding is_number
number_short d e = leb-true (length d) 5 (both_true (both_true {a = leb 1 (length d)} e).1).0

number-decimal : (d : List ℕ) → AllDigits d → is_number d ≡ true → decimal (read_from 0 d) ≡ d
unfolding AllDigits
number-decimal [] a e = absurd (false≢true (sym (number-zero [] refl) ∙ e))
number-decimal (b ∷ []) a e = decimal_read_one b a
number-decimal (b ∷ c ∷ d) a e = go (ltb 48 b) refl
  where
    go : (x : Bool) → ltb 48 b ≡ x → decimal (read_from 0 (b ∷ c ∷ d)) ≡ b ∷ c ∷ d
    go true p = decimal_read b (c ∷ d) (ltb-true 48 b p) a
    go false p =
        let z : b ≡ 48 = omega (arith, ltb-false 48 b p, (a 0 (omega arith)).0) in
        absurd (false≢true (sym (number_led (b ∷ c ∷ d) (omega arith) (number_short (b ∷ c ∷ d) e) z) ∙ e))

pub some_pair : (m n : ℕ) (l k : List ℕ) → ◌≡◌ {A = Option (ℕ × List ℕ)} (Some (m, l)) (Some (n, k)) → (m ≡ n) × (l ≡ k)
some_pair m n l k e =
    let z : ◌≡◌ {A = ℕ × List ℕ} (m, l) (n, k) = cc in
    (ap (λ x. x.0) z, ap (λ x. x.1) z)

pub number_read : (l : List ℕ) (n : ℕ) (rest : List ℕ) → number_in l ≡ Some (n, rest)
    → (l ≡ decimal n ++ rest) × (n < 100000)
unfolding number_in digits_in
number_read l n rest e = go (is_number (digits_in l)) refl e
  where
    go : (x : Bool) → is_number (digits_in l) ≡ x
        → guard {A = ℕ × List ℕ} x (read_from 0 (digits_in l), drop (length (digits_in l)) l) ≡ Some (n, rest)
        → (l ≡ decimal n ++ rest) × (n < 100000)
    go true p f =
        let q = some_pair (read_from 0 (digits_in l)) n (drop (length (digits_in l)) l) rest f in
        let d : decimal n ≡ digits_in l = ap decimal (sym q.0) ∙ number-decimal (digits_in l) (digits_all l) p in
        let short : length (decimal n) ≤ 5 = omega (arith, ap length d, number_short (digits_in l) p) in
        (front-split is_digit l ∙ ap (digits_in l ++◌) q.1 ∙ ap (◌++ rest) (sym d), within_count 5 n short)
    go false p f = absurd (apart cc)
