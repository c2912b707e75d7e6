-- The steps before step i fit, and those from it on decide; the measure is the steps that are left.
use Rattle.std.proofs.Common.{arith}
use Rattle.std.proofs.lemmas.Grind.{common_steps}
use mathlib.Core.Path.{sym, ◌∙◌}
use Rattle.halves.specs.Halves.{is_half_run}
use Rattle.halves.proofs.Halves.{walked_start, walked_end, walked_stop, walked_on}
use Rattle.halves.proofs.half.is_half_run.Goals as goal

pub returns-then-n-ne1 : goal.returns-then-n-ne1
unfolding is_half_run
returns-then-n-ne1 c = grind (arith, common_steps)

pub loop-step-init : goal.loop-step-init
loop-step-init c = walked_start _ _

pub returns-then-not-step_fits : goal.returns-then-not-step_fits
returns-then-not-step_fits c = walked_stop _ _ c.if-n-ne1.false c.if-n-gt401.false c.if-table-half.false _
    c.loop-step.invariant _ (sym c.in-Some.is ∙ c.step_at.ensures) _ c.step_fits.ensures c.if-not-step_fits.true

pub loop-step-preserved : goal.loop-step-preserved
loop-step-preserved c = walked_on _ _ c.if-n-ne1.false c.if-n-gt401.false c.if-table-half.false _
    c.loop-step.invariant _ (sym c.in-Some.is ∙ c.step_at.ensures) _ c.step_fits.ensures c.if-not-step_fits.false

pub returns : goal.returns
returns c = walked_end _ _ c.if-n-ne1.false c.if-n-gt401.false c.if-table-half.false _ c.loop-step.invariant
    (sym c.in_default.is ∙ c.step_at.ensures)
