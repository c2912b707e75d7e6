-- The labels that are left fit just when all of them do.
use mathlib.Core.Path.{◌≡◌}
use Rattle.labels.specs.Labels.{count}
use Rattle.std.specs.Slice.Iter.{chunks_exact_rest, chunks_exact_size}
use Rattle.formulas.specs.Working.{labels_fit}
use Rattle.formulas.proofs.check.labels_fit.Given as goal

abbrev pub invariant-loop-node : goal.invariant-loop-node
invariant-loop-node l = record {
  nodes : chunks_exact_size l.node-iterator ≡ 2;
  left : labels_fit (count l.labels) l.f ≡ labels_fit (count l.labels) (chunks_exact_rest l.node-iterator);
}
