-- The labels, the question, then the table with its half.
use mathlib.Core.Path.{sym, ◌∙◌}
use Rattle.labels.proofs.Refusals.{handed_on}
use Rattle.dividing.proofs.Division.{labels_refused, question_sound, question_refused}
use Rattle.dividing.proofs.divide.check_division.Goals as goal

pub returns-in_err-check : goal.returns-in_err-check
returns-in_err-check c = handed_on c.from_residual.ensures.1
    ∙ labels_refused _ _ _ _ _ (sym c.check.ensures ∙ c.in_err-check.was)

pub returns-in_err-check_table : goal.returns-in_err-check_table
returns-in_err-check_table c =
    let table = sym c.check_table.ensures ∙ c.in_err-check_table.was in
    let refused = question_refused c.args.labels c.args.table.now c.args.half.now c.args.question.now
    (sym c.check.ensures ∙ c.in_ok-check.was) _ (sym c.check_formula.ensures ∙ c.in-Err.is) in
    handed_on c.from_residual-in_err-check_table.ensures.1 ∙ (rw table at refused)

pub returns-in-Err : goal.returns-in-Err
returns-in-Err c =
    let table = sym c.check_table.ensures ∙ c.in_ok-check_table.was in
    let refused = question_refused c.args.labels c.args.table.now c.args.half.now c.args.question.now
    (sym c.check.ensures ∙ c.in_ok-check.was) _ (sym c.check_formula.ensures ∙ c.in-Err.is) in
    rw table at refused

pub returns : goal.returns
returns c = question_sound _ _ _ _ (sym c.check.ensures ∙ c.in_ok-check.was) _
    (sym c.check_formula.ensures ∙ c.in_default.is) c.check_half.ensures
