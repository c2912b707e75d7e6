-- Bytes in hexadecimal, written into an output one after the other.
use Prim.Native.Nat.{ℕ, suc, ◌+◌, ◌*◌, ◌/◌, ◌%◌, ◌<◌}
use mathlib.Core.Path.{◌≡◌, refl, ◌∙◌, ap}
use mathlib.Core.List.{List, [], ◌∷◌, ◌++◌}
use native.Mathlib.Omega.{arith}
use lib.ListN.{length, get_or, set, take}
use lib.Seq.{length-take-le, take-suc}
use Rattle.digits.specs.Digits.{hex_digit, hexadecimal}
use Rattle.digits.specs.Outputs.{put_at}
use Rattle.digits.proofs.HexadecimalLaws.{length-hexadecimal, hexadecimal-behind}
use Rattle.digits.proofs.Puts.{put_two, put-behind}

-- none
pub hex_none : (xs bytes : List ℕ) (at : ℕ) → xs ≡ put_at xs at (hexadecimal (take 0 bytes))
unfolding put_at hexadecimal
hex_none xs bytes at = refl

-- one more
pub hex_more : (xs ys bytes : List ℕ) (at i a b : ℕ) → i < length bytes → a ≡ hex_digit (get_or bytes i 0 / 16)
    → b ≡ hex_digit (get_or bytes i 0 % 16) → ys ≡ put_at xs at (hexadecimal (take i bytes))
    → set (set ys (at + 2 * i) a) (at + 2 * i + 1) b ≡ put_at xs at (hexadecimal (take (i + 1) bytes))
unfolding hexadecimal
hex_more xs ys bytes at i a b h p q e =
    let d = hexadecimal (take i bytes) in
    let n : 2 * i ≡ length d = omega (arith, length-hexadecimal (take i bytes), length-take-le i bytes (omega arith)) in
    let z : i + 1 ≡ suc i = omega arith in
    let w : hexadecimal (take (i + 1) bytes) ≡ d ++ a ∷ b ∷ [] = ap (λ m. hexadecimal (take m bytes)) z
    ∙ ap hexadecimal (take-suc bytes i 0 h) ∙ hexadecimal-behind (take i bytes) (get_or bytes i 0 ∷ []) ∙ rw (p, q) in
    rw w (ap (λ o. set (set o (at + 2 * i) a) (at + 2 * i + 1) b) e
    ∙ ap (λ m. set (set (put_at xs at d) (at + m) a) (at + m + 1) b) n ∙ put_two (put_at xs at d) (at + length d) a b
    ∙ put-behind xs at d (a ∷ b ∷ []))
