-- The half's check is at hand from the first; what comes before the half is judged in the call's order.
use mathlib.Core.Path.{◌≡◌, refl, sym, ◌∙◌}
use Rattle.std.specs.Prelude.{Ok}
use Rattle.tables.specs.Tables.{check_table}
use Rattle.labels.proofs.Refusals.{handed_on}
use Rattle.verdict.proofs.Calls.{half_untabled, half_tabled, run_tabled}
use Rattle.verdict.proofs.half.check_half_call.Goals.{Joined-is_err, then-is_err+in_ok-check_table, else-is_err}
use Rattle.verdict.proofs.half.check_half_call.Goals as goal

-- behind the half's check the table is judged sound: by that check, or alone
tabled : (c : Joined-is_err) → check_table c.args.labels c.args.table.now ≡ Ok tt
tabled c = elim c.if-is_err.branch [
  | then-is_err+in_ok-check_table w ↦ sym w.check_table.ensures ∙ w.in_ok-check_table.was
  | else-is_err w ↦ run_tabled _ _ _ _ c.check_half-run.ensures (sym c.is_err.ensures.value ∙ w.if-is_err.false)
]

pub returns-in_err-check_table : goal.returns-in_err-check_table
returns-in_err-check_table c = handed_on c.from_residual.ensures.1
    ∙ half_untabled _ _ _ _ c.requires _ _ (sym c.check_table.ensures ∙ c.in_err-check_table.was)

pub returns-in_err-check_formula : goal.returns-in_err-check_formula
returns-in_err-check_formula c = handed_on c.from_residual-in_err-check_formula.ensures.1
    ∙ half_tabled _ _ _ _ c.requires _ (tabled (goal.at.returns-in_err-check_formula c).Joined-is_err)
    (sym c.check_formula.ensures ∙ c.in_err-check_formula.was) refl

pub returns-in_err-check_point : goal.returns-in_err-check_point
returns-in_err-check_point c = handed_on c.from_residual-in_err-check_point.ensures.1
    ∙ half_tabled _ _ _ _ c.requires _ (tabled (goal.at.returns-in_err-check_point c).Joined-is_err)
    (sym c.check_formula.ensures ∙ c.in_ok-check_formula.was)
    (sym c.check_point.ensures ∙ c.in_err-check_point.was)

pub returns : goal.returns
returns c = c.check_half-run.ensures
    ∙ half_tabled _ _ _ _ c.requires _ (tabled (goal.at.returns c).Joined-is_err)
    (sym c.check_formula.ensures ∙ c.in_ok-check_formula.was)
    (sym c.check_point.ensures ∙ c.in_ok-check_point.was)
