-- Numbers in decimal, written and read, and bytes in "lower-case hexadecimal", as a sheet prints them.
use Rattle.std.specs.Prelude.{ℕ, zero, suc, ◌+◌, ◌-◌, ◌*◌, ◌/◌, ◌%◌, cond, List, [], ◌∷◌, ◌++◌, ltb}

-- a number in decimal, in at most so many digits: the digits of n / 10, then the last one
unfoldable pub digits_within : ℕ → ℕ → List ℕ
digits_within zero n = []
digits_within (suc m) n = cond (ltb n 10) ((48 + n) ∷ []) (digits_within m (n / 10) ++ ((48 + n % 10) ∷ []))

-- a number in decimal, without zeros in front; n + 1 digits are always enough
unfoldable pub decimal : ℕ → List ℕ
decimal n = digits_within (suc n) n

-- the number that has these digits behind those of n; digits alone are read from 0
unfoldable pub read_from : ℕ → List ℕ → ℕ
read_from n [] = n
read_from n (d ∷ l) = read_from (10 * n + (d - 48)) l

-- a hexadecimal digit: 0 to 9, then a to f
unfoldable pub hex_digit : ℕ → ℕ
hex_digit d = cond (ltb d 10) (48 + d) (87 + d)

-- bytes in hexadecimal, two digits each, the higher one first
unfoldable pub hexadecimal : List ℕ → List ℕ
hexadecimal [] = []
hexadecimal (b ∷ bytes) = hex_digit (b / 16) ∷ hex_digit (b % 16) ∷ hexadecimal bytes
