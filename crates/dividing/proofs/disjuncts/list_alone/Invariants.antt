-- The disjuncts of the rows that are passed are written.
use mathlib.Core.Path.{◌≡◌}
use Rattle.tables.specs.Working.{moves_in}
use Rattle.std.specs.Slice.Iter.{chunks_exact_rest, chunks_exact_size}
use Rattle.dividing.specs.Working.{alone_in}
use Rattle.dividing.proofs.Pieces.{Written}
use Rattle.dividing.proofs.disjuncts.list_alone.Given as goal

abbrev pub invariant-loop-row : goal.invariant-loop-row
invariant-loop-row l = record {
  rows : chunks_exact_size l.row-iterator ≡ 3;
  written : Written (alone_in l.label.0 (moves_in l.rows)) l.initial.out
      (alone_in l.label.0 (moves_in (chunks_exact_rest l.row-iterator))) l.n l.out;
}
