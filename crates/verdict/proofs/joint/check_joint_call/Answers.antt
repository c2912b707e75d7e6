-- The parts, then the point.
use mathlib.Core.Path.{sym, ◌∙◌}
use Rattle.labels.proofs.Refusals.{handed_on}
use Rattle.verdict.proofs.Calls.{joint_refused, joint-beyond, joint_sound, labels_sound}
use Rattle.verdict.proofs.joint.check_joint_call.Goals as goal

pub returns-in_err-check_joint : goal.returns-in_err-check_joint
returns-in_err-check_joint c = handed_on c.from_residual.ensures.1
    ∙ joint_refused _ _ _ _ _ _ _ (labels_sound _ _ _ c.requires
    (rw (sym c.check_joint.ensures ∙ c.in_err-check_joint.was)))

pub returns-in_err-check_formula : goal.returns-in_err-check_formula
returns-in_err-check_formula c = handed_on c.from_residual-in_err-check_formula.ensures.1
    ∙ joint_refused _ _ _ _ _ _ _ (labels_sound _ _ _ c.requires
    (rw (sym c.check_joint.ensures ∙ c.in_ok-check_joint.was)
    (sym c.check_formula.ensures ∙ c.in_err-check_formula.was)))

pub returns-then-run-point : goal.returns-then-run-point
returns-then-run-point c = joint-beyond _ _ _ _ _ _ (labels_sound _ _ _ c.requires
    (rw (sym c.check_joint.ensures ∙ c.in_ok-check_joint.was)
    (sym c.check_formula.ensures ∙ c.in_ok-check_formula.was)))
    c.if-run-point.true

pub returns : goal.returns
returns c = joint_sound _ _ _ _ _ _ (labels_sound _ _ _ c.requires
    (rw (sym c.check_joint.ensures ∙ c.in_ok-check_joint.was)
    (sym c.check_formula.ensures ∙ c.in_ok-check_formula.was)))
    c.if-run-point.false
