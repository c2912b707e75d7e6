-- The rows passed have other labels (`Sought`); the rows left fall.
use Rattle.verdict.proofs.TwoGrids.{Sought}
use Rattle.verdict.proofs.grids.wanted_rows.Given as goal

abbrev pub invariant-loop-count : goal.invariant-loop-count
invariant-loop-count l = Sought l.wanted.0 l.grids l.initial.at l.initial.count l.at l.count

abbrev pub decreases-loop-count : goal.decreases-loop-count
decreases-loop-count l = l.count
