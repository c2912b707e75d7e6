-- The labels decide, or the tables and the run.
use mathlib.Core.Path.{sym, ◌∙◌}
use Rattle.labels.proofs.Refusals.{handed_on}
use Rattle.splitting.proofs.SplitCalls.{labels_refused, labels_sound}
use Rattle.splitting.proofs.count.check_log.Goals as goal

pub returns-in_err-check : goal.returns-in_err-check
returns-in_err-check c = handed_on c.from_residual.ensures.1
    ∙ labels_refused _ _ _ _ _ (sym c.check.ensures ∙ c.in_err-check.was)

pub returns : goal.returns
returns c = labels_sound _ _ _ _ (sym c.check.ensures ∙ c.in_ok-check.was) _ c.check_joint.ensures
