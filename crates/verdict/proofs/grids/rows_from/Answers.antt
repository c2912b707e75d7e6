-- A state's rows stand at its own place, in the grid of the side that moves.
use native.Mathlib.Omega.{arith}
use Rattle.verdict.proofs.TwoGrids.{start_low, rows-beyond, rows_few, rows-here}
use Rattle.hml.proofs.Clauses.{to_few_exact}
use Rattle.verdict.proofs.grids.rows_from.Goals as goal

pub returns-then-state-ge64-clause-exact : goal.returns-then-state-ge64-clause-exact
returns-then-state-ge64-clause-exact c = rows-beyond _ c.requires _ _ c.if-state-ge64.true

pub overflow_add-place : goal.overflow_add-place
overflow_add-place c = omega (arith, start_low c.args.mover, c.grid_start.ensures, c.if-state-ge64.false)

pub bounds-grids-place : goal.bounds-grids-place
bounds-grids-place c = omega (arith, start_low c.args.mover, c.grid_start.ensures, c.if-state-ge64.false)

pub overflow_add-result : goal.overflow_add-result
overflow_add-result c = omega (arith, start_low c.args.mover, c.grid_start.ensures, c.if-state-ge64.false)

pub returns : goal.returns
returns c = to_few_exact (rw c.grid_start.ensures (
  rows_few _ c.requires c.args.mover _ c.if-state-ge64.false,
  rows-here _ c.requires c.args.mover _ c.if-state-ge64.false,
))
