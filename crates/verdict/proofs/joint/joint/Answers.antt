-- The labels, then all else.
use mathlib.Core.Path.{sym, ◌∙◌}
use Rattle.labels.proofs.Refusals.{handed_on}
use Rattle.verdict.specs.Verdicts.{joint_verdict}
use Rattle.verdict.proofs.Calls.{joint_refused, labels_refused, answer_refused}
use Rattle.verdict.proofs.joint.joint.Goals as goal

pub returns-in_err-check : goal.returns-in_err-check
unfolding joint_verdict
returns-in_err-check c = let labels = sym c.check.ensures ∙ c.in_err-check.was in
    handed_on c.from_residual.ensures.1
    ∙ answer_refused _ _ _ (sym (joint_refused _ _ _ _ _ _ _ (labels_refused _ _ _ labels)))
