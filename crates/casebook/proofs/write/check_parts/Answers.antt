-- The first check that refuses decides.
use mathlib.Core.Path.{sym, ◌∙◌}
use Rattle.labels.proofs.Refusals.{handed_on, then_err, then_ok}
use Rattle.casebook.proofs.Writing.{parts_checked}
use Rattle.casebook.proofs.write.check_parts.Goals as goal

pub returns-in_err-check : goal.returns-in_err-check
returns-in_err-check c = handed_on c.from_residual.ensures.1 ∙ then_err _ (sym c.check.ensures ∙ c.in_err-check.was)
    ∙ parts_checked _ _ _ _ _

pub returns-in_err-check_joint : goal.returns-in_err-check_joint
returns-in_err-check_joint c = handed_on c.from_residual-in_err-check_joint.ensures.1
    ∙ then_err _ (sym c.check_joint.ensures ∙ c.in_err-check_joint.was)
    ∙ then_ok _ (sym c.check.ensures ∙ c.in_ok-check.was) ∙ parts_checked _ _ _ _ _

pub returns : goal.returns
returns c = c.check_formula.ensures ∙ then_ok _ (sym c.check_joint.ensures ∙ c.in_ok-check_joint.was)
    ∙ then_ok _ (sym c.check.ensures ∙ c.in_ok-check.was) ∙ parts_checked _ _ _ _ _
