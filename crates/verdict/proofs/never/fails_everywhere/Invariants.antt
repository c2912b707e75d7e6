-- The nodes left decide, turned by each "not" (`Turning`); they fall.
use Rattle.verdict.proofs.Going.{Turning}
use Rattle.verdict.proofs.never.fails_everywhere.Given as goal

abbrev pub invariant-loop-even : goal.invariant-loop-even
invariant-loop-even l = Turning l.code l.nodes-2 l.nodes l.even

abbrev pub decreases-loop-even : goal.decreases-loop-even
decreases-loop-even l = l.nodes
