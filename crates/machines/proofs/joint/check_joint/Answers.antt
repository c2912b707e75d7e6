-- The tables' refusals come first; then the length, then the steps decide.
use Rattle.std.proofs.Common.{arith}
use Rattle.std.proofs.lemmas.Grind.{common_steps}
use mathlib.Core.Path.{sym, ◌∙◌}
use Rattle.labels.specs.Refusals.{first_of}
use Rattle.labels.proofs.Refusals.{handed_on}
use Rattle.tables.proofs.SoundTables.{ready}
use Rattle.machines.specs.Joints.{check_joint, fit_joint}
use Rattle.machines.proofs.Joints.{left_refused, right_refused, run_decides}
use Rattle.machines.proofs.joint.check_joint.Goals as goal

pub returns-in_err-check_table : goal.returns-in_err-check_table
returns-in_err-check_table c = handed_on c.from_residual.ensures.1
    ∙ left_refused _ _ _ _ _ (sym c.check_table.ensures ∙ c.in_err-check_table.was)

pub returns-in_err-check_table-2 : goal.returns-in_err-check_table-2
returns-in_err-check_table-2 c = handed_on c.from_residual-in_err-check_table-2.ensures.1
    ∙ right_refused _ _ _ _ (sym c.check_table.ensures ∙ c.in_ok-check_table.was) _
    (sym c.check_table-2.ensures ∙ c.in_err-check_table-2.was)

pub returns-then-n-ne2 : goal.returns-then-n-ne2
unfolding check_joint first_of fit_joint
returns-then-n-ne2 c = run_decides _ _ _ _ (sym c.check_table.ensures ∙ c.in_ok-check_table.was)
    (sym c.check_table-2.ensures ∙ c.in_ok-check_table-2.was) (grind (arith, common_steps))

pub is_joint_run-requires-clause-ready : goal.is_joint_run-requires-clause-ready
is_joint_run-requires-clause-ready c = (
  ready _ _ (sym c.check_table.ensures ∙ c.in_ok-check_table.was),
  ready _ _ (sym c.check_table-2.ensures ∙ c.in_ok-check_table-2.was),
)

pub returns-then-is_joint_run : goal.returns-then-is_joint_run
unfolding check_joint first_of fit_joint
returns-then-is_joint_run c = run_decides _ _ _ _ (sym c.check_table.ensures ∙ c.in_ok-check_table.was)
    (sym c.check_table-2.ensures ∙ c.in_ok-check_table-2.was) (grind (arith, common_steps))

pub returns-else-is_joint_run : goal.returns-else-is_joint_run
unfolding check_joint first_of fit_joint
returns-else-is_joint_run c = run_decides _ _ _ _ (sym c.check_table.ensures ∙ c.in_ok-check_table.was)
    (sym c.check_table-2.ensures ∙ c.in_ok-check_table-2.was) (grind (arith, common_steps))
