-- The end is the one that `due` trees from `at` on have (`Seeking`); the bytes left fall.
use Prim.Native.Nat.{◌-◌}
use lib.ListN.{length}
use Rattle.formulas.proofs.Trees.{Seeking}
use Rattle.formulas.proofs.tree.tree_end.Given as goal

abbrev pub invariant-loop-due : goal.invariant-loop-due
invariant-loop-due l = Seeking l.f l.due l.at

abbrev pub decreases-loop-due : goal.decreases-loop-due
decreases-loop-due l = length l.f - l.at
