-- The question decides, or the point.
use mathlib.Core.Path.{sym, ◌∙◌}
use Rattle.labels.proofs.Refusals.{handed_on}
use Rattle.quotient.proofs.Judging.{run-question_refused, run_point_beyond, run_point_within}
use Rattle.quotient.proofs.check.check_asked_run.Goals as goal

pub returns-in_err-check_formula : goal.returns-in_err-check_formula
returns-in_err-check_formula c = handed_on c.from_residual.ensures.1 ∙ run-question_refused _ _ _ _ _
    (sym c.check_formula.ensures ∙ c.in_err-check_formula.was)

pub returns-then-run-point : goal.returns-then-run-point
returns-then-run-point c = run_point_beyond _ _ _ _ (sym c.check_formula.ensures ∙ c.in_ok-check_formula.was)
    c.if-run-point.true

pub returns : goal.returns
returns c = run_point_within _ _ _ _ (sym c.check_formula.ensures ∙ c.in_ok-check_formula.was)
    c.if-run-point.false
