-- The first i steps stand in the wider run (`Widening`).
use Rattle.verdict.proofs.Widening.{Widening}
use Rattle.verdict.proofs.beside.beside_still.Given as goal

abbrev pub invariant-loop-i : goal.invariant-loop-i
invariant-loop-i l = Widening l.half l.steps l.initial.run l.run l.i
