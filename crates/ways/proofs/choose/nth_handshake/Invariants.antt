-- The handshake sought stands behind `passed` others in the rows that are left.
use mathlib.Core.Path.{◌≡◌}
use Rattle.labels.specs.Labels.{pairing}
use Rattle.tables.specs.Working.{moves_in}
use Rattle.std.specs.Slice.Iter.{chunks_exact_rest, chunks_exact_size}
use Rattle.ways.specs.Working.{chosen}
use Rattle.ways.proofs.RowWays.{shaken}
use Rattle.ways.proofs.choose.nth_handshake.Given as goal

abbrev pub invariant-loop-row : goal.invariant-loop-row
invariant-loop-row l = record {
  rows : chunks_exact_size l.row-iterator ≡ 3;
  sought : chosen (shaken (pairing l.labels) (moves_in l.right) l.step.after (chunks_exact_rest l.row-iterator))
      l.passed
      ≡ chosen (shaken (pairing l.labels) (moves_in l.right) l.step.after l.left) l.n;
}
