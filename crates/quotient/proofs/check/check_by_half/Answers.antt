-- The labels; the halves' checks decide where nothing asked is refused; else the tables, then what is asked.
use mathlib.Core.Path.{sym, ◌∙◌}
use Rattle.labels.proofs.Refusals.{handed_on, then_err, then_ok}
use Rattle.quotient.proofs.Judging.{labels_decide, halves_decide, asked_decides}
use Rattle.quotient.proofs.check.check_by_half.Goals as goal

pub returns-in_err-check : goal.returns-in_err-check
returns-in_err-check c = handed_on c.from_residual.ensures.1
    ∙ labels_decide _ _ _ _ _ _ _ _ _ (sym c.check.ensures ∙ c.in_err-check.was)

pub returns-in-Ok : goal.returns-in-Ok
returns-in-Ok c = halves_decide _ _ _ _ _ _ _ _ (sym c.check_asked.ensures ∙ c.in-Ok.is) c.check_halves.ensures

pub returns-in_err-check_table-in-Err : goal.returns-in_err-check_table-in-Err
returns-in_err-check_table-in-Err c =
    let asked = asked_decides _ _ _ _ _ _ _ _ (sym c.check.ensures ∙ c.in_ok-check.was) _ (sym c.check_asked.ensures ∙ c.in-Err.is) in
    handed_on c.from_residual-in_err-check_table-in-Err.ensures.1
    ∙ then_err _ (sym c.check_table.ensures ∙ c.in_err-check_table-in-Err.was) ∙ asked

pub returns-in_err-check_table-in-Err-2 : goal.returns-in_err-check_table-in-Err-2
returns-in_err-check_table-in-Err-2 c =
    let asked = asked_decides _ _ _ _ _ _ _ _ (sym c.check.ensures ∙ c.in_ok-check.was) _ (sym c.check_asked.ensures ∙ c.in-Err.is) in
    handed_on c.from_residual-in_err-check_table-in-Err-2.ensures.1
    ∙ then_err _ (sym c.check_table-in-Err.ensures ∙ c.in_err-check_table-in-Err-2.was)
    ∙ then_ok _ (sym c.check_table.ensures ∙ c.in_ok-check_table-in-Err.was) ∙ asked

pub returns-in_ok-check_table-in-Err-2 : goal.returns-in_ok-check_table-in-Err-2
returns-in_ok-check_table-in-Err-2 c =
    let asked = asked_decides _ _ _ _ _ _ _ _ (sym c.check.ensures ∙ c.in_ok-check.was) _ (sym c.check_asked.ensures ∙ c.in-Err.is) in
    then_ok _ (sym c.check_table-in-Err.ensures ∙ c.in_ok-check_table-in-Err-2.was)
    ∙ then_ok _ (sym c.check_table.ensures ∙ c.in_ok-check_table-in-Err.was) ∙ asked
