-- Decimal numbers written into an output, by their size.
use Prim.Native.Nat.{ℕ, ◌+◌, ◌/◌, ◌%◌, ◌≤◌, ◌<◌}
use mathlib.Core.Path.{◌≡◌, refl, sym, ◌∙◌, ap}
use mathlib.Core.List.{List, [], ◌∷◌}
use native.Mathlib.Omega.{arith}
use lib.ListN.{length, set}
use Rattle.digits.specs.Digits.{decimal}
use Rattle.digits.specs.Outputs.{put_at}
use Rattle.digits.proofs.DecimalLaws.{decimal_small, decimal_2, decimal_3, decimal_4, decimal_5}
use Rattle.digits.proofs.DecimalLaws.{decimal_fours}
use Rattle.digits.proofs.Puts.{put_one, put_then, behind_piece}

-- a decimal number by its size
pub put_1 : (xs : List ℕ) (at n : ℕ) → n < 10 → set xs at (48 + n) ≡ put_at xs at (decimal n)
put_1 xs at n h = put_one xs at (48 + n) ∙ ap (put_at xs at) (sym (decimal_small n h))

pub put_2 : (xs ys : List ℕ) (at n : ℕ) → 10 ≤ n → n < 100 → ys ≡ put_at xs at ((48 + n / 10) ∷ (48 + n % 10) ∷ [])
    → ys ≡ put_at xs at (decimal n)
put_2 xs ys at n h i e = e ∙ ap (put_at xs at) (sym (decimal_2 n h i))

pub put_3 : (xs ys : List ℕ) (at n : ℕ) → 100 ≤ n → n < 1000
    → ys ≡ put_at (set xs at (48 + n / 100)) (at + 1) ((48 + n % 100 / 10) ∷ (48 + n % 100 % 10) ∷ [])
    → ys ≡ put_at xs at (decimal n)
put_3 xs ys at n h i e =
    let z : n % 100 / 10 ≡ n / 10 % 10 = omega arith in
    let w : n % 100 % 10 ≡ n % 10 = omega arith in
    let d : (48 + n / 100) ∷ (48 + n % 100 / 10) ∷ (48 + n % 100 % 10) ∷ []
    ≡ decimal n = rw (z, w) (sym (decimal_3 n h i)) in
    e ∙ put_then xs at _ _ ∙ ap (put_at xs at) d

pub put_4 : (xs ys : List ℕ) (at n : ℕ) → 1000 ≤ n → n < 10000
    → ys ≡ put_at xs at ((48 + n / 1000) ∷ (48 + n / 100 % 10) ∷ (48 + n / 10 % 10) ∷ (48 + n % 10) ∷ [])
    → ys ≡ put_at xs at (decimal n)
put_4 xs ys at n h i e = e ∙ ap (put_at xs at) (sym (decimal_4 n h i))

pub put_5 : (xs ys : List ℕ) (at n m : ℕ) → 10000 ≤ n → n < 100000 → m ≡ n % 10000
    → ys ≡ put_at (set xs at (48 + n / 10000)) (at + 1)
    ((48 + m / 1000) ∷ (48 + m / 100 % 10) ∷ (48 + m / 10 % 10) ∷ (48 + m % 10) ∷ [])
    → ys ≡ put_at xs at (decimal n)
put_5 xs ys at n m h i q e =
    let z : m / 1000 ≡ n / 1000 % 10 = omega (arith, q) in
    let w : m / 100 % 10 ≡ n / 100 % 10 = omega (arith, q) in
    let v : m / 10 % 10 ≡ n / 10 % 10 = omega (arith, q) in
    let u : m % 10 ≡ n % 10 = omega (arith, q) in
    let d : (48 + n / 10000) ∷ (48 + m / 1000) ∷ (48 + m / 100 % 10) ∷ (48 + m / 10 % 10) ∷ (48 + m % 10) ∷ []
    ≡ decimal n = rw (z, w, v, u) (sym (decimal_5 n h i)) in
    e ∙ put_then xs at _ _ ∙ ap (put_at xs at) d

-- four digits as two pairs
pub put-pairs : (xs ys zs : List ℕ) (at n : ℕ) → n < 10000
    → ys ≡ put_at xs at ((48 + n / 100 / 10) ∷ (48 + n / 100 % 10) ∷ [])
    → zs ≡ put_at ys (at + 2) ((48 + n % 100 / 10) ∷ (48 + n % 100 % 10) ∷ [])
    → zs ≡ put_at xs at ((48 + n / 1000) ∷ (48 + n / 100 % 10) ∷ (48 + n / 10 % 10) ∷ (48 + n % 10) ∷ [])
put-pairs xs ys zs at n h e f =
    let z : n / 100 / 10 ≡ n / 1000 = omega arith in
    let w : n % 100 / 10 ≡ n / 10 % 10 = omega arith in
    let v : n % 100 % 10 ≡ n % 10 = omega arith in
    let d : (48 + n / 100 / 10) ∷ (48 + n / 100 % 10) ∷ (48 + n % 100 / 10) ∷ (48 + n % 100 % 10) ∷ []
    ≡ (48 + n / 1000) ∷ (48 + n / 100 % 10) ∷ (48 + n / 10 % 10) ∷ (48 + n % 10) ∷ [] = rw (z, w, v) in
    behind_piece xs ys at (at + 2) ((48 + n / 100 / 10) ∷ (48 + n / 100 % 10) ∷ []) refl e zs
    ((48 + n % 100 / 10) ∷ (48 + n % 100 % 10) ∷ []) f
    ∙ ap (put_at xs at) d

-- more digits: those of n / 10000, then four
pub put-more : (xs ys zs : List ℕ) (at n m to : ℕ) → 10000 ≤ n → m ≡ n % 10000
    → to ≡ at + length (decimal (n / 10000)) → ys ≡ put_at xs at (decimal (n / 10000))
    → zs ≡ put_at ys to ((48 + m / 1000) ∷ (48 + m / 100 % 10) ∷ (48 + m / 10 % 10) ∷ (48 + m % 10) ∷ [])
    → zs ≡ put_at xs at (decimal n)
put-more xs ys zs at n m to h q p e f =
    behind_piece xs ys at to (decimal (n / 10000)) p e zs _ f ∙ ap (put_at xs at) (sym (decimal_fours n m h q))
