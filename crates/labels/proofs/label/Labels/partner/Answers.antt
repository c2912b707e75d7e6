-- A label of the call has the partner that it has as such; what is no label of the call has none.
use mathlib.Core.Path.{sym, ◌∙◌}
use Rattle.labels.proofs.Labels.{inside_found, outside_found}
use Rattle.labels.proofs.label.Labels.partner.Goals as goal

pub returns-then-has : goal.returns-then-has
returns-then-has c = c.partner.ensures ∙ inside_found _ _ (sym c.has.ensures ∙ c.if-has.true)

pub returns-else-has : goal.returns-else-has
returns-else-has c = outside_found _ _ (sym c.has.ensures ∙ c.if-has.false)
