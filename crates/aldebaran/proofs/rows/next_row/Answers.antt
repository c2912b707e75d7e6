-- The line is read by row_line, its label by label_of.
use Rattle.aldebaran.proofs.RowReading.{row, row_missing}
use Rattle.aldebaran.proofs.rows.next_row.Goals as goal

pub returns-in_err-row-clause-missing : goal.returns-in_err-row-clause-missing
returns-in_err-row-clause-missing c = let found = c.row_line.ensures.found in
    rw c.from_residual.ensures (row_missing _ _ c.requires (rw c.in_err-row.was at found))

pub returns-clause-found : goal.returns-clause-found
returns-clause-found c = let found = c.row_line.ensures.found in
    let inside = rw c.in_ok-row.was at c.row_line.ensures.inside in
    row _ _ c.requires _ (rw c.in_ok-row.was at found) _ inside.2 c.label_of.ensures
