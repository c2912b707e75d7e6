-- The place by the side that moves.
use Rattle.verdict.specs.Working.{place_of}
use Rattle.verdict.proofs.trial.place_by.Goals as goal

pub returns-in-Left : goal.returns-in-Left
unfolding place_of
returns-in-Left c = rw c.in-Left.is

pub returns-in-Right : goal.returns-in-Right
unfolding place_of
returns-in-Right c = rw c.in-Right.is
