-- The rows from row i on decide, and `leaving` are counted in front of it (`Going`).
use Rattle.tables.proofs.Judging.{Going}
use Rattle.tables.proofs.check.check_rows.Given as goal

abbrev pub invariant-loop-i : goal.invariant-loop-i
invariant-loop-i l = Going l.labels l.states l.table l.i l.leaving
