-- Whether a point is beyond a half, by its length.
use borrow.Author.Tests.{eq-eqb, ne_eqb}
use Rattle.halves.specs.Cuts.{beyond}
use Rattle.verdict.proofs.half.is_beyond.Goals as goal

pub returns-then-half-eq0 : goal.returns-then-half-eq0
unfolding beyond
returns-then-half-eq0 c = rw (eq-eqb _ _ c.if-half-eq0.true)

pub returns-else-half-eq0 : goal.returns-else-half-eq0
unfolding beyond
returns-else-half-eq0 c = rw (ne_eqb _ _ c.if-half-eq0.false)
