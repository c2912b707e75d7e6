-- The states by the side that moves.
use mathlib.Core.Path.{refl}
use Rattle.verdict.specs.Working.{state_by, other_by}
use Rattle.verdict.proofs.trial.last_states.Goals as goal

pub returns-in-Left : goal.returns-in-Left
unfolding state_by other_by
returns-in-Left c = rw c.in-Left.is (record { mover = refl; other = refl })

pub returns-in-Right : goal.returns-in-Right
unfolding state_by other_by
returns-in-Right c = rw c.in-Right.is (record { mover = refl; other = refl })
