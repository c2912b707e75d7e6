-- A digit below ten, or a letter.
use native.Mathlib.Omega.{arith}
use Rattle.digits.proofs.HexadecimalLaws.{hex_low, hex_high}
use Rattle.digits.proofs.hexadecimal.hex_digit.Goals as goal

pub returns-then-d-lt10 : goal.returns-then-d-lt10
returns-then-d-lt10 c = hex_low _ (omega arith)

pub returns-else-d-lt10 : goal.returns-else-d-lt10
returns-else-d-lt10 c = let high = hex_high c.args.d (omega arith) in omega arith
