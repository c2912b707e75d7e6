-- The joint run of the first i steps stands in the output (`Joining`).
use Rattle.joining.proofs.Joined.{Joining}
use Rattle.joining.proofs.join.write_run.Given as goal

abbrev pub invariant-loop-i : goal.invariant-loop-i
invariant-loop-i l = Joining l.labels l.left l.right l.initial.out l.out l.i
