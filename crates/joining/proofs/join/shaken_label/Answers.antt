-- The partner of the left label beside the right one.
use Rattle.labels.specs.Labels.{partner_found}
use Rattle.joining.proofs.Joined.{shaken-compared}
use Rattle.joining.proofs.join.shaken_label.Goals as goal

pub returns-then-eq : goal.returns-then-eq
unfolding partner_found
returns-then-eq c = shaken-compared _ _ _ c.partner.ensures c.if-eq.ensures

pub returns : goal.returns
unfolding partner_found
returns c = shaken-compared _ _ _ c.partner.ensures c.if-eq.ensures
