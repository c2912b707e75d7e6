-- The laws of bytes in hexadecimal.
use Prim.Native.Nat.{ℕ, ◌+◌, ◌*◌, ◌/◌, ◌%◌, ◌≤◌, ◌<◌}
use mathlib.Core.Path.{◌≡◌, refl, ap, ap₂}
use mathlib.Core.Bool.{Bool, true, false}
use mathlib.Core.List.{List, [], ◌∷◌, ◌++◌}
use native.Mathlib.Omega.{arith}
use lib.ListN.{length, get_or, drop}
use lib.Dec.{ltb}
use borrow.Author.Tests.{lt-ltb, le-ltb, ltb-true, ltb-false}
use Rattle.digits.specs.Digits.{hex_digit, hexadecimal}

-- two digits a byte
pub length-hexadecimal : (b : List ℕ) → length (hexadecimal b) ≡ 2 * length b
unfolding hexadecimal
length-hexadecimal [] = refl
length-hexadecimal (x ∷ b) = omega (arith, length-hexadecimal b)

-- bytes behind bytes
pub hexadecimal-behind : (b d : List ℕ) → hexadecimal (b ++ d) ≡ hexadecimal b ++ hexadecimal d
unfolding hexadecimal
hexadecimal-behind [] d = refl
hexadecimal-behind (x ∷ b) d = ap (λ t. hex_digit (x / 16) ∷ hex_digit (x % 16) ∷ t) (hexadecimal-behind b d)

-- a digit by its size
pub hex_low : (d : ℕ) → d < 10 → 48 + d ≡ hex_digit d
unfolding hex_digit
hex_low d h = rw (lt-ltb d 10 h)

pub hex_high : (d : ℕ) → 10 ≤ d → 87 + d ≡ hex_digit d
unfolding hex_digit
hex_high d h = rw (le-ltb d 10 h)

-- different digits look different
pub hex_one-to-one : (c d : ℕ) → hex_digit c ≡ hex_digit d → c ≡ d
hex_one-to-one c d e = go (ltb c 10) (ltb d 10) refl refl
  where
    go : (a b : Bool) → ltb c 10 ≡ a → ltb d 10 ≡ b → c ≡ d
    go true true p q = omega (arith, e, hex_low c (ltb-true c 10 p), hex_low d (ltb-true d 10 q))
    go true false p q =
        omega (arith, e, ltb-true c 10 p, hex_low c (ltb-true c 10 p), hex_high d (ltb-false d 10 q))
    go false true p q =
        omega (arith, e, ltb-true d 10 q, hex_high c (ltb-false c 10 p), hex_low d (ltb-true d 10 q))
    go false false p q = omega (arith, e, hex_high c (ltb-false c 10 p), hex_high d (ltb-false d 10 q))

-- and so do different bytes
pub hexadecimal-one-to-one : (b d : List ℕ) → hexadecimal b ≡ hexadecimal d → b ≡ d
unfolding hexadecimal
hexadecimal-one-to-one [] [] e = refl
hexadecimal-one-to-one [] (y ∷ d) e = let z : ◌≡◌ {A = ℕ} 0 _ = ap length e in absurd (omega (arith, z))
hexadecimal-one-to-one (x ∷ b) [] e = let z : ◌≡◌ {A = ℕ} _ 0 = ap length e in absurd (omega (arith, z))
hexadecimal-one-to-one (x ∷ b) (y ∷ d) e =
    let high = hex_one-to-one (x / 16) (y / 16) (ap (λ l. get_or l 0 0) e) in
    let low = hex_one-to-one (x % 16) (y % 16) (ap (λ l. get_or l 1 0) e) in
    ap₂ ◌∷◌ (omega (arith, high, low)) (hexadecimal-one-to-one b d (ap (drop 2) e))
