-- A refused part decides; else the number of splittings.
use mathlib.Core.Path.{sym, ◌∙◌}
use Rattle.labels.proofs.Refusals.{handed_on}
use Rattle.splitting.proofs.LogRuns.{sound_ready}
use Rattle.splitting.proofs.SplitCalls.{log_refused, too_many, few_enough}
use Rattle.splitting.proofs.count.count.Goals as goal

pub returns-in_err-check_log : goal.returns-in_err-check_log
returns-in_err-check_log c = handed_on c.from_residual.ensures.1
    ∙ log_refused _ _ _ _ _ (sym c.check_log.ensures ∙ c.in_err-check_log.was)

pub count_splittings-splittings-requires : goal.count_splittings-splittings-requires
count_splittings-splittings-requires c = sound_ready _ _ _ _ (sym c.check_log.ensures ∙ c.in_ok-check_log.was)

pub returns-then-too_many : goal.returns-then-too_many
returns-then-too_many c = too_many _ _ _ _ (sym c.check_log.ensures ∙ c.in_ok-check_log.was)
    _ c.count_splittings-splittings.ensures c.if-too_many.true

pub returns : goal.returns
returns c = few_enough _ _ _ _ (sym c.check_log.ensures ∙ c.in_ok-check_log.was)
    _ c.count_splittings-splittings.ensures c.if-too_many.false
