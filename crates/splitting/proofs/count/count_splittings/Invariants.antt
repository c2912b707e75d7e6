-- The splittings of the first i steps are counted, up to the cap.
use Rattle.splitting.proofs.Counts.{CountedTo}
use Rattle.splitting.proofs.count.count_splittings.Given as goal

abbrev pub invariant-loop-i : goal.invariant-loop-i
invariant-loop-i l = CountedTo l.labels l.left l.right l.run l.i l.splittings
