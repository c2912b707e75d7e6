-- The arm says the byte.
use native.Mathlib.Omega.{arith}
use Rattle.engine.proofs.Answers.{left_named, right_named, none_named}
use Rattle.engine.proofs.side_of.Goals as goal

pub returns-in-1 : goal.returns-in-1
returns-in-1 c = left_named _ c.in-1.is

pub returns-in-2 : goal.returns-in-2
returns-in-2 c = right_named _ c.in-2.is

pub returns-in_default : goal.returns-in_default
returns-in_default c = none_named _ (λ e. omega (arith, e)) (λ e. omega (arith, e))
