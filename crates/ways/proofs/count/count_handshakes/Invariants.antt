-- The ways that are counted and those of the rows that are left are all of them.
use Prim.Native.Nat.{◌+◌}
use mathlib.Core.Path.{◌≡◌}
use lib.ListN.{length}
use Rattle.labels.specs.Labels.{pairing}
use Rattle.tables.specs.Working.{moves_in}
use Rattle.std.specs.Slice.Iter.{chunks_exact_rest, chunks_exact_size}
use Rattle.ways.proofs.RowWays.{shaken}
use Rattle.ways.proofs.count.count_handshakes.Given as goal

abbrev pub invariant-loop-row : goal.invariant-loop-row
invariant-loop-row l = record {
  rows : chunks_exact_size l.row-iterator ≡ 3;
  counted : l.ways
      + length (shaken (pairing l.labels) (moves_in l.right) l.step.after (chunks_exact_rest l.row-iterator))
      ≡ length (shaken (pairing l.labels) (moves_in l.right) l.step.after l.left);
}
