-- A window of one splitting, or the count of the rest.
use Rattle.sheet_lines.proofs.PointLaws.{after_one, after_more}
use Rattle.sheet_lines.proofs.point.splittings_after.Goals as goal

pub returns-then-ways-eq1 : goal.returns-then-ways-eq1
returns-then-ways-eq1 c = after_one _ _ c.if-ways-eq1.true

pub returns : goal.returns
returns c = after_more _ _ _ c.if-ways-eq1.false c.splittings.ensures
