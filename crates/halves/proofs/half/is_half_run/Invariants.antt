-- The steps from step i on decide (`Walked`), and those left fall.
use Prim.Native.Nat.{◌-◌, ◌/◌}
use lib.ListN.{length}
use Rattle.halves.proofs.Halves.{Walked}
use Rattle.halves.proofs.half.is_half_run.Given as goal

abbrev pub invariant-loop-step : goal.invariant-loop-step
invariant-loop-step l = Walked l.table l.half l.i

abbrev pub decreases-loop-step : goal.decreases-loop-step
decreases-loop-step l = length l.half / 2 - l.i
