-- The operator is one of the two.
use borrow.Author.Tests.{eq-eqb, ne_eqb}
use Rattle.verdict.specs.Working.{has_two}
use Rattle.verdict.proofs.code.has_two.Goals as goal

pub returns-then-operator-eq3 : goal.returns-then-operator-eq3
unfolding has_two
returns-then-operator-eq3 c = rw (eq-eqb _ _ c.if-operator-eq3.true)

pub returns-else-operator-eq3 : goal.returns-else-operator-eq3
unfolding has_two
returns-else-operator-eq3 c = rw (ne_eqb _ _ c.if-operator-eq3.false)
