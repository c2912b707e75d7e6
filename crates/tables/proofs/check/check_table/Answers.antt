-- The length decides, then the states, then the rows.
use Rattle.std.proofs.Common.{arith}
use Rattle.std.proofs.lemmas.Grind.{common_steps}
use Rattle.labels.specs.Refusals.{first_of}
use Rattle.labels.proofs.Refusals.{then_sound}
use Rattle.tables.specs.Tables.{check_table, fit_table, fit_states}
use Rattle.tables.proofs.check.check_table.Goals as goal

pub returns-then-n-ne1 : goal.returns-then-n-ne1
unfolding check_table first_of fit_table
returns-then-n-ne1 c = grind (arith, common_steps)

pub returns-then-states-eq0 : goal.returns-then-states-eq0
unfolding check_table first_of fit_table fit_states
returns-then-states-eq0 c = grind (arith, common_steps)

pub returns : goal.returns
unfolding check_table first_of fit_table fit_states
returns c = grind (arith, common_steps, then_sound)
