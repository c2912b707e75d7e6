-- The place by the side that moves.
use Rattle.verdict.specs.Working.{start_of}
use Rattle.verdict.proofs.grids.grid_start.Goals as goal

pub returns-in-Left : goal.returns-in-Left
unfolding start_of
returns-in-Left c = rw c.in-Left.is

pub returns-in-Right : goal.returns-in-Right
unfolding start_of
returns-in-Right c = rw c.in-Right.is
