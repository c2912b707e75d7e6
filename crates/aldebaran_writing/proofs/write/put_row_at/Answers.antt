-- The row is read and written; there is one of this number.
use Rattle.aldebaran_writing.proofs.TextPieces.{no_row, row_fits, row_written}
use Rattle.hml.proofs.Clauses.{to_value_out_after}
use Rattle.aldebaran_writing.proofs.write.put_row_at.Goals as goal

pub put_row-requires : goal.put_row-requires
put_row-requires c = row_fits c.args.table.now _ _ c.requires.i_in_bounds c.row_at.ensures _ c.in-Some.is _ _
    c.requires.i_in_bounds_2

pub returns-in-Some : goal.returns-in-Some
returns-in-Some c = to_value_out_after (row_written c.args.table.now _ _ c.requires.i_in_bounds c.row_at.ensures _
    c.in-Some.is _ _ _ _
    c.put_row.ensures.value c.put_row.ensures.out_after)

pub returns-in-None : goal.returns-in-None
returns-in-None c = to_value_out_after (absurd
    (no_row c.args.table.now _ _ c.requires.i_in_bounds c.row_at.ensures c.in-None.is))
