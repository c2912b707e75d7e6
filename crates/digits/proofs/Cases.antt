-- The definitions on some numbers and bytes, by computation.
use mathlib.Core.Path.{◌≡◌, refl}
use mathlib.Core.List.{[], ◌∷◌}
use Rattle.digits.specs.Digits.{digits_within, decimal, hex_digit, hexadecimal}

pub decimal_cases : (decimal 0 ≡ 48 ∷ []) × (decimal 9 ≡ 57 ∷ []) × (decimal 10 ≡ 49 ∷ 48 ∷ [])
    × (decimal 65535 ≡ 54 ∷ 53 ∷ 53 ∷ 51 ∷ 53 ∷ []) × (decimal 100000 ≡ 49 ∷ 48 ∷ 48 ∷ 48 ∷ 48 ∷ 48 ∷ [])
unfolding decimal digits_within
decimal_cases = (refl, refl, refl, refl, refl)

pub hexadecimal_cases : hexadecimal (0 ∷ 9 ∷ 10 ∷ 175 ∷ 255 ∷ [])
    ≡ 48 ∷ 48 ∷ 48 ∷ 57 ∷ 48 ∷ 97 ∷ 97 ∷ 102 ∷ 102 ∷ 102 ∷ []
unfolding hexadecimal hex_digit
hexadecimal_cases = refl
