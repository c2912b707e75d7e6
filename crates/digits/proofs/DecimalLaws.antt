-- The laws of decimal numbers: their digits, and how many there are.
use Prim.Native.Nat.{ℕ, zero, suc, ◌+◌, ◌-◌, ◌/◌, ◌%◌, ◌^◌, ◌≤◌, ◌<◌}
use mathlib.Core.Path.{◌≡◌, refl, ◌∙◌, ap}
use mathlib.Core.Bool.{Bool, true, false}
use mathlib.Core.List.{[], ◌∷◌, ◌++◌, append_assoc}
use native.Mathlib.Omega.{arith}
use lib.ListN.{length, length-append}
use lib.Dec.{ltb}
use borrow.Author.Tests.{lt-ltb, le-ltb, ltb-true, ltb-false}
use Rattle.digits.specs.Digits.{digits_within, decimal}

-- more room than is needed changes nothing
module _ (d : ℕ) where
  wider : (m n : ℕ) → n < m → digits_within (m + d) n ≡ digits_within m n
  unfolding digits_within
  wider zero n h = absurd (omega arith)
  wider (suc m) n h = go (ltb n 10) refl (wider m (n / 10))
    where
      z : suc m + d ≡ suc (m + d)
      z = omega arith

      go : (b : Bool) → ltb n 10 ≡ b → (n / 10 < m → digits_within (m + d) (n / 10) ≡ digits_within m (n / 10))
          → digits_within (suc m + d) n ≡ digits_within (suc m) n
      go true e r = rw (z, e)
      go false e r = rw (z, e) (ap (◌++ ((48 + n % 10) ∷ [])) (r (omega (arith, ltb-false n 10 e, h))))

-- one digit
pub decimal_small : (n : ℕ) → n < 10 → decimal n ≡ (48 + n) ∷ []
unfolding decimal digits_within
decimal_small n h = rw (lt-ltb n 10 h)

-- the digits of n / 10, then the last one
pub decimal-more : (n : ℕ) → 10 ≤ n → decimal n ≡ decimal (n / 10) ++ ((48 + n % 10) ∷ [])
unfolding decimal digits_within
decimal-more n h =
    let z : n ≡ suc (n / 10) + (n - suc (n / 10)) = omega arith in
    rw (le-ltb n 10 h)
    (ap (λ m. digits_within m (n / 10) ++ ((48 + n % 10) ∷ [])) z
    ∙ ap (◌++ ((48 + n % 10) ∷ [])) (wider (n - suc (n / 10)) (suc (n / 10)) (n / 10) (omega arith)))

-- what holds of a number of one digit, and of n if it holds of n / 10, holds of every number
module _ (P : ℕ → Type 0) (small : (n : ℕ) → n < 10 → P n) (more : (n : ℕ) → 10 ≤ n → P (n / 10) → P n) where
  below : (m n : ℕ) → n < m → P n
  below zero n h = absurd (omega arith)
  below (suc m) n h = go (ltb n 10) refl (below m (n / 10))
    where
      go : (b : Bool) → ltb n 10 ≡ b → (n / 10 < m → P (n / 10)) → P n
      go true e r = small n (ltb-true n 10 e)
      go false e r = more n (ltb-false n 10 e) (r (omega (arith, ltb-false n 10 e, h)))

  pub by_digits : (n : ℕ) → P n
  by_digits n = below (suc n) n (omega arith)

-- their number
pub count_small : (n : ℕ) → n < 10 → length (decimal n) ≡ 1
count_small n h = ap length (decimal_small n h)

pub count-more : (n m : ℕ) → 10 ≤ n → length (decimal (n / 10)) ≡ m → length (decimal n) ≡ suc m
count-more n m h e =
    ap length (decimal-more n h) ∙ omega (arith, length-append (decimal (n / 10)) ((48 + n % 10) ∷ []), e)

-- of numbers below 10, 100 and so on
pub count_2 : (n : ℕ) → 10 ≤ n → n < 100 → length (decimal n) ≡ 2
count_2 n h i = count-more n 1 h (count_small (n / 10) (omega arith))

pub count_3 : (n : ℕ) → 100 ≤ n → n < 1000 → length (decimal n) ≡ 3
count_3 n h i = count-more n 2 (omega arith) (count_2 (n / 10) (omega arith) (omega arith))

pub count_4 : (n : ℕ) → 1000 ≤ n → n < 10000 → length (decimal n) ≡ 4
count_4 n h i = count-more n 3 (omega arith) (count_3 (n / 10) (omega arith) (omega arith))

pub count_5 : (n : ℕ) → 10000 ≤ n → n < 100000 → length (decimal n) ≡ 5
count_5 n h i = count-more n 4 (omega arith) (count_4 (n / 10) (omega arith) (omega arith))

-- a number has a digit
pub count-some : (n : ℕ) → 1 ≤ length (decimal n)
count-some = by_digits (λ n. 1 ≤ length (decimal n)) (λ n h. omega (arith, count_small n h))
    (λ n h r. omega (arith, count-more n _ h refl))

-- the digits of a number below 100, 1000 and so on
pub decimal_2 : (n : ℕ) → 10 ≤ n → n < 100 → decimal n ≡ (48 + n / 10) ∷ (48 + n % 10) ∷ []
decimal_2 n h i = decimal-more n h ∙ ap (◌++ ((48 + n % 10) ∷ [])) (decimal_small (n / 10) (omega arith))

pub decimal_3 : (n : ℕ) → 100 ≤ n → n < 1000 → decimal n ≡ (48 + n / 100) ∷ (48 + n / 10 % 10) ∷ (48 + n % 10) ∷ []
decimal_3 n h i =
    let z : n / 10 / 10 ≡ n / 100 = omega arith in
    decimal-more n (omega arith) ∙ ap (◌++ ((48 + n % 10) ∷ [])) (decimal_2 (n / 10) (omega arith) (omega arith)) ∙ rw z

pub decimal_4 : (n : ℕ) → 1000 ≤ n → n < 10000
    → decimal n ≡ (48 + n / 1000) ∷ (48 + n / 100 % 10) ∷ (48 + n / 10 % 10) ∷ (48 + n % 10) ∷ []
decimal_4 n h i =
    let z : n / 10 / 100 ≡ n / 1000 = omega arith in
    let w : n / 10 / 10 ≡ n / 100 = omega arith in
    decimal-more n (omega arith) ∙ ap (◌++ ((48 + n % 10) ∷ [])) (decimal_3 (n / 10) (omega arith) (omega arith))
    ∙ rw (z, w)

pub decimal_5 : (n : ℕ) → 10000 ≤ n → n < 100000
    → decimal n ≡ (48 + n / 10000) ∷ (48 + n / 1000 % 10) ∷ (48 + n / 100 % 10) ∷ (48 + n / 10 % 10) ∷ (48 + n % 10) ∷
    []
decimal_5 n h i =
    let z : n / 10 / 1000 ≡ n / 10000 = omega arith in
    let w : n / 10 / 100 ≡ n / 1000 = omega arith in
    let v : n / 10 / 10 ≡ n / 100 = omega arith in
    decimal-more n (omega arith) ∙ ap (◌++ ((48 + n % 10) ∷ [])) (decimal_4 (n / 10) (omega arith) (omega arith))
    ∙ rw (z, w, v)

-- the digits of n / 10000, then four more
pub decimal_fours : (n m : ℕ) → 10000 ≤ n → m ≡ n % 10000
    → decimal n ≡ decimal (n / 10000)
    ++ ((48 + m / 1000) ∷ (48 + m / 100 % 10) ∷ (48 + m / 10 % 10) ∷ (48 + m % 10) ∷ [])
decimal_fours n m h q =
    let z : n / 10 / 10 / 10 / 10 ≡ n / 10000 = omega arith in
    let a : n / 10 / 10 / 10 % 10 ≡ m / 1000 = omega (arith, q) in
    let b : n / 10 / 10 % 10 ≡ m / 100 % 10 = omega (arith, q) in
    let c : n / 10 % 10 ≡ m / 10 % 10 = omega (arith, q) in
    let d : n % 10 ≡ m % 10 = omega (arith, q) in
    decimal-more n (omega arith)
    ∙ rw (decimal-more (n / 10) (omega arith), decimal-more (n / 10 / 10) (omega arith))
    (rw (decimal-more (n / 10 / 10 / 10) (omega arith), z, a, b, c, d) (simp append_assoc))

pub count_fours : (n : ℕ) → 10000 ≤ n → length (decimal n) ≡ length (decimal (n / 10000)) + 4
count_fours n h = ap length (decimal_fours n _ h refl) ∙ length-append (decimal (n / 10000)) _

-- a number has at most d digits exactly if it is below 10 ^ d
pub count-within : (d n : ℕ) → n < 10 ^ suc d → length (decimal n) ≤ suc d
count-within zero n h = omega (arith, count_small n h)
count-within (suc d) n h = go (ltb n 10) refl (count-within d (n / 10) (omega (arith, h)))
  where
    go : (b : Bool) → ltb n 10 ≡ b → length (decimal (n / 10)) ≤ suc d → length (decimal n) ≤ suc (suc d)
    go true e r = omega (arith, count_small n (ltb-true n 10 e))
    go false e r = omega (arith, count-more n _ (ltb-false n 10 e) refl, r)

power_some : (d : ℕ) → 1 ≤ 10 ^ d
power_some zero = omega arith
power_some (suc d) = omega (arith, power_some d)

pub within_count : (d n : ℕ) → length (decimal n) ≤ d → n < 10 ^ d
within_count zero n h = absurd (omega (arith, count-some n, h))
within_count (suc d) n h = go (ltb n 10) refl (within_count d (n / 10))
  where
    go : (b : Bool) → ltb n 10 ≡ b → (length (decimal (n / 10)) ≤ d → n / 10 < 10 ^ d) → n < 10 ^ suc d
    go true e r = omega (arith, ltb-true n 10 e, power_some d)
    go false e r = omega (arith, r (omega (arith, count-more n _ (ltb-false n 10 e) refl, h)))
