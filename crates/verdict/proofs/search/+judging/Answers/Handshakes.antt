-- The handshakes, by the left's rows and their partners.
use mathlib.Core.Path.{sym, ◌∙◌}
use Rattle.verdict.specs.Working.{targets_of, grid_by}
use Rattle.verdict.proofs.Ahead as ahead
use Rattle.verdict.proofs.search.+judging.Goals as goal

pub try_handshakes-returns-then-rows-eq0-clause-value : goal.try_handshakes-returns-then-rows-eq0-clause-value
try_handshakes-returns-then-rows-eq0-clause-value t c =
    ahead.shaken-none _ _ _ c.args.grids.now c.args.rows.at c.args.rows.count c.if-rows-eq0.true

pub try_handshakes-returns-then-try_partner-clause-value : goal.try_handshakes-returns-then-try_partner-clause-value
try_handshakes-returns-then-try_partner-clause-value t c =
    ahead.shaken_hit _ _ _ c.args.grids.now c.args.rows.at c.args.rows.count c.if-rows-eq0.false
    (sym c.if-try_partner.true ∙ c.try_partner.ensures.value)

pub try_handshakes-returns-clause-value : goal.try_handshakes-returns-clause-value
try_handshakes-returns-clause-value t c =
    ahead.shaken_miss _ _ _ c.args.grids.now c.args.rows.at c.args.rows.count c.if-rows-eq0.false _
    (sym c.if-try_partner.false ∙ c.try_partner.ensures.value)
    (rw c.try_partner.ensures.run_unchanged at c.try_handshakes.ensures.value)

pub try_partner-returns-in-Some-clause-value : goal.try_partner-returns-in-Some-clause-value
unfolding targets_of grid_by
try_partner-returns-in-Some-clause-value t c = ahead.partner-tried _ _ _ _ (sym c.in-Some.is ∙ c.partner.ensures)
    (rw c.rows_from-rows.ensures.exact at c.try_moves.ensures.value)

pub try_partner-returns-in-None-clause-value : goal.try_partner-returns-in-None-clause-value
try_partner-returns-in-None-clause-value t c = ahead.nobody_tried _ _ (sym c.in-None.is ∙ c.partner.ensures)
