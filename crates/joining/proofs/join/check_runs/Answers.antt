-- The left half with its table, then the right; where that is refused, the right table comes before a 15.
use mathlib.Core.Path.{sym, ◌∙◌}
use Rattle.labels.proofs.Refusals.{handed_on}
use Rattle.joining.proofs.JoinCalls.{runs_sound, runs_refused}
use Rattle.joining.proofs.join.check_runs.Goals as goal

pub returns-in_err-check_table : goal.returns-in_err-check_table
returns-in_err-check_table c =
    let half = sym c.check_half.ensures ∙ c.in-Err.is in
    let left = sym c.check_table.ensures ∙ c.in_err-check_table.was in
    handed_on c.from_residual.ensures.1
    ∙ (rw left at (runs_refused _ _ c.args.right.now _ c.args.right_half.now _ half))

pub returns-in_err-check_table-2 : goal.returns-in_err-check_table-2
returns-in_err-check_table-2 c =
    let half = sym c.check_half.ensures ∙ c.in-Err.is in
    let left = sym c.check_table.ensures ∙ c.in_ok-check_table.was in
    let right = sym c.check_table-in-Err.ensures ∙ c.in_err-check_table-2.was in
    handed_on c.from_residual-in_err-check_table-2.ensures.1
    ∙ (rw (left, right) at (runs_refused _ _ c.args.right.now _ c.args.right_half.now _ half))

pub returns-in-Err : goal.returns-in-Err
returns-in-Err c =
    let half = sym c.check_half.ensures ∙ c.in-Err.is in
    let left = sym c.check_table.ensures ∙ c.in_ok-check_table.was in
    let right = sym c.check_table-in-Err.ensures ∙ c.in_ok-check_table-2.was in
    rw (left, right) at (runs_refused _ _ c.args.right.now _ c.args.right_half.now _ half)

pub returns : goal.returns
returns c = runs_sound _ _ _ _ _ (sym c.check_half.ensures ∙ c.in_default.is) c.check_half-2.ensures
