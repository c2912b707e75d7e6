-- A move that leads elsewhere, one without a partner, and one whose partner leads there or not.
use mathlib.Core.Path.{sym, ◌∙◌}
use Rattle.machines.proofs.Joints.{elsewhere, nobody_answers, partner_decides}
use Rattle.machines.proofs.handshake.answer_to.Goals as goal

pub returns-then-elsewhere : goal.returns-then-elsewhere
returns-then-elsewhere c = elsewhere _ _ _ _ _ _ c.if-elsewhere.true

pub returns-in_err-partner : goal.returns-in_err-partner
returns-in_err-partner c = c.from_residual.ensures
    ∙ nobody_answers _ _ _ _ _ _ c.if-elsewhere.false (sym c.in_err-partner.was ∙ c.partner.ensures)

pub returns : goal.returns
returns c = c.then_some.ensures
    ∙ partner_decides _ _ _ _ _ _ c.if-elsewhere.false _ (sym c.in_ok-partner.was ∙ c.partner.ensures)
    c.leads_to.ensures
