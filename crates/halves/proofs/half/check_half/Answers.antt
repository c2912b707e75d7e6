-- The table's refusal comes first; in a sound table the steps decide.
use mathlib.Core.Path.{sym, ◌∙◌}
use Rattle.labels.proofs.Refusals.{handed_on}
use Rattle.tables.proofs.SoundTables.{ready}
use Rattle.halves.proofs.Halves.{table_refused, half_sound, half_refused}
use Rattle.halves.proofs.half.check_half.Goals as goal

pub returns-in_err-check_table : goal.returns-in_err-check_table
returns-in_err-check_table c = handed_on c.from_residual.ensures.1
    ∙ table_refused _ _ _ _ (sym c.check_table.ensures ∙ c.in_err-check_table.was)

pub is_half_run-requires : goal.is_half_run-requires
is_half_run-requires c = ready _ _ (sym c.check_table.ensures ∙ c.in_ok-check_table.was)

pub returns-then-is_half_run : goal.returns-then-is_half_run
returns-then-is_half_run c = half_sound _ _ _ (sym c.check_table.ensures ∙ c.in_ok-check_table.was)
    (sym c.is_half_run.ensures ∙ c.if-is_half_run.true)

pub returns-else-is_half_run : goal.returns-else-is_half_run
returns-else-is_half_run c = half_refused _ _ _ (sym c.check_table.ensures ∙ c.in_ok-check_table.was)
    (sym c.is_half_run.ensures ∙ c.if-is_half_run.false)
