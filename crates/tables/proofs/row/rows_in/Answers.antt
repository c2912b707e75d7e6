-- The library cuts bytes as `threes` does.
use mathlib.Core.Path.{◌∙◌}
use Rattle.tables.proofs.Chunks.{threes_cut}
use Rattle.tables.proofs.row.rows_in.Goals as goal

pub returns : goal.returns
returns c = c.as_chunks.ensures.front ∙ threes_cut c.args.bytes.now
