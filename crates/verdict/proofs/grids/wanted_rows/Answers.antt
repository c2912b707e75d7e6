-- The rows are sought one by one.
use mathlib.Core.Path.{sym, ◌∙◌}
use borrow.Author.Tests.{eqb-false}
use Rattle.verdict.proofs.TwoGrids.{sought_on}
use Rattle.verdict.proofs.grids.wanted_rows.Goals as goal

pub loop-count-preserved : goal.loop-count-preserved
loop-count-preserved c = sought_on _ _ _ _ _ _ c.loop-count.invariant c.loop-count-test.true
    (eqb-false _ _ (sym c.eq.ensures ∙ c.if-eq.false))
