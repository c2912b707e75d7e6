-- Too short a run, then the label that the operator asks for.
use borrow.Author.Tests.{lt-ltb, le-ltb, eq-eqb, ne_eqb}
use Rattle.verdict.specs.Working.{steps_back}
use Rattle.verdict.proofs.back.steps_back.Goals as goal

pub returns-then-len-lt5 : goal.returns-then-len-lt5
unfolding steps_back
returns-then-len-lt5 c = rw (lt-ltb _ _ c.if-len-lt5.true)

pub returns-then-operator-eq8 : goal.returns-then-operator-eq8
unfolding steps_back
returns-then-operator-eq8 c = rw (le-ltb _ _ c.if-len-lt5.false, eq-eqb _ _ c.if-operator-eq8.true) c.is_idle.ensures

pub returns : goal.returns
unfolding steps_back
returns c = rw (le-ltb _ _ c.if-len-lt5.false, ne_eqb _ _ c.if-operator-eq8.false) c.eq.ensures
