-- The number, times 2^32.
use native.Mathlib.Omega.{arith}
use Rattle.engine.specs.Answers.{packed, only}
use Rattle.engine.proofs.refused.Goals as goal

pub returns : goal.returns
unfolding packed only
returns c = omega (arith, c.number.ensures)
