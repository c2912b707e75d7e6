-- One row a turn.
use native.Mathlib.Omega.{arith}
use lib.ListN.{length-set}
use Rattle.verdict.proofs.FilledGrids.{filling_start, filling_grid, filling_end, filling_fits}
use Rattle.verdict.proofs.FilledGrids.{filling_on}
use Rattle.verdict.proofs.grids.rows_by_state.Goals as goal

pub loop-i-init : goal.loop-i-init
loop-i-init c = filling_start _ _ c.requires.grid_value

pub bounds-grid-state : goal.bounds-grid-state
bounds-grid-state c = omega (
  arith,
  filling_fits c.requires.sound_table _ _ c.loop-i.invariant c.loop-i-test.true,
  c.loop-i.invariant.whole,
)

pub bounds-grid-end : goal.bounds-grid-end
bounds-grid-end c = omega (
  arith,
  filling_fits c.requires.sound_table _ _ c.loop-i.invariant c.loop-i-test.true,
  c.loop-i.invariant.whole,
)

pub bounds-grid-end-in-loop-i : goal.bounds-grid-end-in-loop-i
bounds-grid-end-in-loop-i c = let fits = filling_fits c.requires.sound_table _ _ c.loop-i.invariant c.loop-i-test.true
    in
    simp length-set (omega (arith, fits, c.loop-i.invariant.whole))

pub overflow_add-grid-in-loop-i-4 : goal.overflow_add-grid-in-loop-i-4
overflow_add-grid-in-loop-i-4 c = omega (
  arith,
  filling_fits c.requires.sound_table _ _ c.loop-i.invariant
      c.loop-i-test.true,
)

pub bounds-grid-state-in-loop-i : goal.bounds-grid-state-in-loop-i
bounds-grid-state-in-loop-i c = let fits = filling_fits c.requires.sound_table _ _ c.loop-i.invariant c.loop-i-test.true
    in
    simp length-set (omega (arith, fits, c.loop-i.invariant.whole))

pub loop-i-preserved : goal.loop-i-preserved
loop-i-preserved c = filling_on c.requires.sound_table _ _ c.loop-i.invariant c.loop-i-test.true

pub returns : goal.returns
returns c = record {
  grid = filling_grid c.requires.sound_table _ _ c.loop-i.invariant;
  by_index = filling_end c.requires.sound_table _ _ c.loop-i.invariant c.loop-i-test.false;
}
