-- The steps from step i on decide (`Walked`), and those left fall.
use Prim.Native.Nat.{◌-◌, ◌/◌}
use lib.ListN.{length}
use Rattle.machines.proofs.Joints.{Walked}
use Rattle.machines.proofs.joint.is_joint_run.Given as goal

abbrev pub invariant-loop-step : goal.invariant-loop-step
invariant-loop-step l = Walked l.labels l.left l.right l.run l.i

abbrev pub decreases-loop-step : goal.decreases-loop-step
decreases-loop-step l = length l.run / 3 - l.i
