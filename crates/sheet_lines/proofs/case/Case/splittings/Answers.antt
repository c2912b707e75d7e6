-- The number that was counted, or 1.
use mathlib.Core.Path.{◌∙◌, ap}
use Rattle.sheet_lines.specs.Working.{counted_as}
use Rattle.sheet_lines.proofs.case.Case.splittings.Goals as goal

pub returns : goal.returns
unfolding counted_as
returns c = c.unwrap_or.ensures ∙ ap counted_as c.count.ensures
