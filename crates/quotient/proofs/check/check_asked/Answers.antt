-- The question decides, or the cut.
use mathlib.Core.Path.{sym, ◌∙◌}
use Rattle.std.proofs.Common.{eqb-true}
use Rattle.std.proofs.lemmas.Bool.{eqb-false}
use Rattle.labels.proofs.Refusals.{handed_on}
use Rattle.quotient.proofs.Judging.{question_refused, cut_refused, cut-given}
use Rattle.quotient.proofs.check.check_asked.Goals as goal

pub returns-in_err-check_formula : goal.returns-in_err-check_formula
returns-in_err-check_formula c = handed_on c.from_residual.ensures.1 ∙ question_refused _ _ _ _ _ _ _
    (sym c.check_formula.ensures ∙ c.in_err-check_formula.was)

pub returns-then-is_empty : goal.returns-then-is_empty
returns-then-is_empty c = cut_refused _ _ _ _ _ _
    (sym c.check_formula.ensures ∙ c.in_ok-check_formula.was) _
    c.cut-known.ensures (eqb-true _ _ (sym c.is_empty.ensures ∙ c.if-is_empty.true))

pub returns : goal.returns
returns c = cut-given _ _ _ _ _ _
    (sym c.check_formula.ensures ∙ c.in_ok-check_formula.was) _
    c.cut-known.ensures (eqb-false _ _ (sym c.is_empty.ensures ∙ c.if-is_empty.false))
