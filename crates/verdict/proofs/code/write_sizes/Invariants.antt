-- The trees of the last n nodes have their sizes (`Sizing`).
use Rattle.verdict.proofs.Coding.{Sizing}
use Rattle.verdict.proofs.code.write_sizes.Given as goal

abbrev pub invariant-loop-n : goal.invariant-loop-n
invariant-loop-n l = Sizing l.formula l.code l.n l.first l.forwards
