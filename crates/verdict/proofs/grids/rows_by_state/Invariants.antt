-- The grid reads as the first i rows of the table (`Filling`).
use Rattle.verdict.proofs.FilledGrids.{Filling}
use Rattle.verdict.proofs.grids.rows_by_state.Given as goal

abbrev pub invariant-loop-i : goal.invariant-loop-i
invariant-loop-i l = Filling l.table l.grid l.i
