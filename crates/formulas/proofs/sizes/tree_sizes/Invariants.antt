-- The sizes of the last i nodes are found (`Sizing`).
use Rattle.formulas.proofs.TreeSizes.{Sizing}
use Rattle.formulas.proofs.sizes.tree_sizes.Given as goal

abbrev pub invariant-loop-i : goal.invariant-loop-i
invariant-loop-i l = Sizing l.f l.initial.sizes l.sizes l.i
