-- Numbers read back from their digits: what a reader of decimal numbers needs.
use Prim.Native.Nat.{ℕ, zero, suc, ◌+◌, ◌-◌, ◌*◌, ◌/◌, ◌%◌, ◌≤◌, ◌<◌}
use mathlib.Core.Path.{◌≡◌, refl, sym, ◌∙◌, ap}
use mathlib.Core.List.{List, [], ◌∷◌, ◌++◌, append_assoc, append-nil}
use native.Mathlib.Omega.{arith}
use lib.ListN.{length, get_or}
use Rattle.digits.specs.Digits.{decimal, read_from}
use Rattle.digits.proofs.DecimalLaws.{decimal_small, decimal-more, by_digits}

-- bytes that are digits, 0 to 9
unfoldable pub AllDigits : List ℕ → Type 0
AllDigits l = (i : ℕ) → i < length l → (48 ≤ get_or l i 0) × (get_or l i 0 < 58)

read_last : (n : ℕ) (l : List ℕ) (d : ℕ) → read_from n (l ++ (d ∷ [])) ≡ 10 * read_from n l + (d - 48)
unfolding read_from
read_last n [] d = refl
read_last n (x ∷ l) d = read_last (10 * n + (x - 48)) l d

-- a number is what its digits are read as
pub read_decimal : (n : ℕ) → read_from 0 (decimal n) ≡ n
unfolding read_from
read_decimal = by_digits (λ n. read_from 0 (decimal n) ≡ n) (λ n h. ap (read_from 0) (decimal_small n h) ∙ omega arith)
    (λ n h r. ap (read_from 0) (decimal-more n h) ∙ omega (arith, read_last 0 (decimal (n / 10)) (48 + n % 10), r))

-- different numbers have different digits
pub decimal-one-to-one : (m n : ℕ) → decimal m ≡ decimal n → m ≡ n
decimal-one-to-one m n e = sym (read_decimal m) ∙ ap (read_from 0) e ∙ read_decimal n

-- the digits of a number are digits
all_one : (d : ℕ) → 48 ≤ d → d < 58 → AllDigits (d ∷ [])
unfolding AllDigits
all_one d h i zero g = (h, i)
all_one d h i (suc j) g = absurd (omega (arith, g))

all-last : (l : List ℕ) (d : ℕ) → AllDigits l → 48 ≤ d → d < 58 → AllDigits (l ++ (d ∷ []))
unfolding AllDigits
all-last [] d a h i j g = all_one d h i j g
all-last (x ∷ l) d a h i zero g = a zero (omega arith)
all-last (x ∷ l) d a h i (suc j) g = all-last l d (λ k w. a (suc k) (omega (arith, w))) h i j (omega (arith, g))

pub decimal_digits : (n : ℕ) → AllDigits (decimal n)
decimal_digits = by_digits (λ n. AllDigits (decimal n))
    (λ n h. rw (decimal_small n h) (all_one (48 + n) (omega arith) (omega (arith, h))))
    (λ n h r. rw (decimal-more n h) (all-last (decimal (n / 10)) (48 + n % 10) r (omega arith) (omega arith)))

-- a number other than 0 does not begin with 0
front-last : (l : List ℕ) (d : ℕ) → 49 ≤ get_or l 0 0 → 49 ≤ get_or (l ++ (d ∷ [])) 0 0
front-last [] d h = absurd (omega (arith, h))
front-last (x ∷ l) d h = h

pub decimal-front : (n : ℕ) → 1 ≤ n → 49 ≤ get_or (decimal n) 0 0
decimal-front = by_digits (λ n. 1 ≤ n → 49 ≤ get_or (decimal n) 0 0) (λ n h i. rw (decimal_small n h) (omega (arith, i)))
    (λ n h r i. rw (decimal-more n h) (front-last (decimal (n / 10)) (48 + n % 10) (r (omega (arith, h)))))

-- digits read behind a number other than 0 are its last digits
pub decimal-behind : (l : List ℕ) (n : ℕ) → 1 ≤ n → AllDigits l → decimal (read_from n l) ≡ decimal n ++ l
unfolding read_from AllDigits
decimal-behind [] n h a = sym (append-nil (decimal n))
decimal-behind (d ∷ l) n h a =
    let m = 10 * n + (d - 48) in
    let first : 48 ≤ d = (a 0 (omega arith)).0 in
    let last : d < 58 = (a 0 (omega arith)).1 in
    let q : m / 10 ≡ n = omega (arith, first, last) in
    let w : 48 + m % 10 ≡ d = omega (arith, first, last) in
    let step : decimal m ≡ decimal n ++ (d ∷ []) = decimal-more m (omega (arith, h)) ∙ rw (q, w) in
    decimal-behind l m (omega (arith, h)) (λ k g. a (suc k) (omega (arith, g))) ∙ rw step (simp append_assoc)

-- digits without a zero in front, or a single digit, are those of the number that they are read as
pub decimal_read : (d : ℕ) (l : List ℕ) → 49 ≤ d → AllDigits (d ∷ l) → decimal (read_from 0 (d ∷ l)) ≡ d ∷ l
unfolding read_from AllDigits
decimal_read d l h a =
    let last : d < 58 = (a 0 (omega arith)).1 in
    let z : 48 + (d - 48) ≡ d = omega (arith, h) in
    let first : decimal (d - 48) ≡ d ∷ [] = decimal_small (d - 48) (omega (arith, last)) ∙ rw z in
    let y : 10 * 0 + (d - 48) ≡ d - 48 = omega arith in
    ap (λ m. decimal (read_from m l)) y
    ∙ decimal-behind l (d - 48) (omega (arith, h)) (λ k g. a (suc k) (omega (arith, g))) ∙ rw first

pub decimal_read_one : (d : ℕ) → AllDigits (d ∷ []) → decimal (read_from 0 (d ∷ [])) ≡ d ∷ []
unfolding read_from AllDigits
decimal_read_one d a =
    let first : 48 ≤ d = (a 0 (omega arith)).0 in
    let last : d < 58 = (a 0 (omega arith)).1 in
    let z : 48 + (d - 48) ≡ d = omega (arith, first) in
    let y : 10 * 0 + (d - 48) ≡ d - 48 = omega arith in
    ap decimal y ∙ decimal_small (d - 48) (omega (arith, last)) ∙ rw z
