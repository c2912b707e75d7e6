-- The rows of the state have its moves, and rows that stand together and leave it have only moves of it.
use Rattle.tables.proofs.Searching.{leading}
use Rattle.tables.proofs.Spans.{found-there}
use Rattle.tables.proofs.leaving.has_row.Goals as goal

pub returns : goal.returns
returns c = record {
  there = found-there _ _ _ _ _ c.rows_leaving-rows.ensures.together c.leads_to.ensures;
  exact = λ s. leading _ _ _ _ _ (c.rows_leaving-rows.ensures.exact s) c.leads_to.ensures;
}
