-- The log is left to the splitting, or decides before the question and the point.
use mathlib.Core.Path.{sym, ◌∙◌}
use Rattle.labels.proofs.Refusals.{handed_on, then_err, then_ok}
use Rattle.quotient.proofs.Judging.{log-left, log-judged}
use Rattle.quotient.proofs.check.check_asked_log.Goals as goal

pub returns-in-Ok : goal.returns-in-Ok
returns-in-Ok c = log-left _ _ _ _ _ _ (sym c.check_asked_run.ensures ∙ c.in-Ok.is)

pub returns-in_err-check_log-in-Err : goal.returns-in_err-check_log-in-Err
returns-in_err-check_log-in-Err c = handed_on c.from_residual.ensures.1
    ∙ then_err _ (sym c.check_log.ensures ∙ c.in_err-check_log-in-Err.was)
    ∙ log-judged _ _ _ _ _ _ _ (sym c.check_asked_run.ensures ∙ c.in-Err.is)

pub returns-in_ok-check_log-in-Err : goal.returns-in_ok-check_log-in-Err
returns-in_ok-check_log-in-Err c = then_ok _ (sym c.check_log.ensures ∙ c.in_ok-check_log-in-Err.was)
    ∙ log-judged _ _ _ _ _ _ _ (sym c.check_asked_run.ensures ∙ c.in-Err.is)
