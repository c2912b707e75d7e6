-- The steps from step i on are written (`Unrolled`).
use Rattle.splitting.proofs.Unrolling.{Unrolled}
use Rattle.splitting.proofs.split.write_halves.Given as goal

abbrev pub invariant-loop-i : goal.invariant-loop-i
invariant-loop-i l = Unrolled l.labels l.left l.right l.run l.number l.initial.left_out l.initial.right_out l.i l.n
    l.left_out l.right_out
