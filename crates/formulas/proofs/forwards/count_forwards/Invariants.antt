-- The forward modalities that are counted and those in the nodes that are left are all of them.
use Prim.Native.Nat.{◌+◌}
use mathlib.Core.Path.{◌≡◌}
use Rattle.std.specs.Slice.Iter.{chunks_exact_rest, chunks_exact_size}
use Rattle.formulas.specs.Working.{forwards_in}
use Rattle.formulas.proofs.forwards.count_forwards.Given as goal

abbrev pub invariant-loop-node : goal.invariant-loop-node
invariant-loop-node l = record {
  nodes : chunks_exact_size l.node-iterator ≡ 2;
  counted : l.count + forwards_in (chunks_exact_rest l.node-iterator) ≡ forwards_in l.f;
}
