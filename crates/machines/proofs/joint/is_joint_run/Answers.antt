-- The steps before step i are real, and those from it on decide; the measure is the steps that are left.
use Rattle.std.proofs.Common.{arith}
use Rattle.std.proofs.lemmas.Grind.{common_steps}
use mathlib.Core.Path.{sym, ◌∙◌}
use Rattle.machines.specs.Joints.{is_joint_run}
use Rattle.machines.proofs.Joints.{walked_start, walked_end, walked_stop, walked_on}
use Rattle.machines.proofs.joint.is_joint_run.Goals as goal

pub returns-then-left-run : goal.returns-then-left-run
unfolding is_joint_run
returns-then-left-run c = grind (arith, common_steps)

pub loop-step-init : goal.loop-step-init
loop-step-init c = walked_start _ _ _ _

pub returns-then-not-is_real : goal.returns-then-not-is_real
returns-then-not-is_real c = walked_stop _ _ _ _ c.if-left-run.false c.if-right-run.false _ c.loop-step.invariant _
    (sym c.in-Some.is ∙ c.joint_step.ensures) _ c.is_real.ensures c.if-not-is_real.true

pub loop-step-preserved : goal.loop-step-preserved
loop-step-preserved c = walked_on _ _ _ _ c.if-left-run.false c.if-right-run.false _ c.loop-step.invariant _
    (sym c.in-Some.is ∙ c.joint_step.ensures) _ c.is_real.ensures c.if-not-is_real.false

pub returns : goal.returns
returns c = walked_end _ _ _ _ c.if-left-run.false c.if-right-run.false _ c.loop-step.invariant c.requires.run_len
    (sym c.in_default.is ∙ c.joint_step.ensures)
