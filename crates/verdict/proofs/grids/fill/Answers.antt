-- The left's rows into the first half, the right's into the rest.
use Rattle.verdict.proofs.TwoGrids.{empty_right, both_filled}
use Rattle.hml.proofs.Clauses.{to_two_grids_by_index_by_index_2}
use Rattle.verdict.proofs.grids.fill.Goals as goal

pub rows_by_state-requires-2-clause-grid_value : goal.rows_by_state-requires-2-clause-grid_value
rows_by_state-requires-2-clause-grid_value c = empty_right _ c.requires.grids_value _ c.rows_by_state.ensures.grid

pub returns : goal.returns
returns c = to_two_grids_by_index_by_index_2 (both_filled _ c.requires.grids_value _ c.rows_by_state.ensures.grid _ _ _
    c.rows_by_state-2.ensures.grid
    c.rows_by_state.ensures.by_index c.rows_by_state-2.ensures.by_index)
