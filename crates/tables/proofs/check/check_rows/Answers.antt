-- The rows before row i are sound, and `leaving` of them leave the state of the last.
use native.Mathlib.Omega.{arith}
use mathlib.Core.Path.{sym, ◌∙◌}
use Rattle.labels.proofs.Refusals.{handed_on}
use Rattle.tables.proofs.Judging.{going_start, going_end, going_stopped, going_on}
use Rattle.tables.proofs.check.check_rows.Goals as goal

pub loop-i-init : goal.loop-i-init
loop-i-init c = going_start _ _ _

pub returns-in_err-leaving : goal.returns-in_err-leaving
returns-in_err-leaving c = handed_on c.from_residual.ensures.1
    ∙ going_stopped _ _ _ _ _ c.loop-i.invariant (omega (arith, c.rows-i-end.ensures.count)) _
    (sym c.in_err-leaving.was ∙ c.check_row.ensures)

pub loop-i-preserved : goal.loop-i-preserved
loop-i-preserved c = going_on _ _ _ _ _ c.loop-i.invariant (omega (arith, c.rows-i-end.ensures.count)) _
    (sym c.in_ok-leaving.was ∙ c.check_row.ensures)

pub returns : goal.returns
returns c = going_end _ _ _ _ _ c.loop-i.invariant (omega (arith, c.rows-i-end.ensures.count))
