-- The labels, what is asked and the split decide, or the division by the splitting's known half, cut at the point.
use native.Mathlib.Omega.{arith}
use mathlib.Core.Path.{sym, ◌∙◌}
use lib.Seq.{length-take-le}
use Rattle.quotient.proofs.QuotientCalls.{labels_refuse, asked-log_refuses, split_refuses, halves-room}
use Rattle.quotient.proofs.QuotientCalls.{by_number-divided}
use Rattle.labels.proofs.Refusals.{handed_on_with}
use Rattle.hml.proofs.Clauses.{to_value_out_after}
use Rattle.quotient.proofs.number.by_number.Goals as goal

pub returns-in_err-check : goal.returns-in_err-check
returns-in_err-check c = to_value_out_after (handed_on_with c.from_residual.ensures.1
    (labels_refuse _ _ _ _ _ _ _ _ (sym c.check.ensures ∙ c.in_err-check.was) _ _))

pub returns-in_err-check_asked_log : goal.returns-in_err-check_asked_log
returns-in_err-check_asked_log c = to_value_out_after (handed_on_with c.from_residual-in_err-check_asked_log.ensures.1
    (asked-log_refuses _ _ _ _ _ _ _ _ (sym c.check_asked_log.ensures ∙ c.in_err-check_asked_log.was) _ _))

pub slice_bounds-left_half-end : goal.slice_bounds-left_half-end
slice_bounds-left_half-end c = let room = halves-room _ _ _ _ _ _ _
    (sym c.check_asked_log.ensures
    ∙ c.in_ok-check_asked_log.was) _ _ _
    (sym c.split.ensures.value ∙ c.in_ok-n.was) (omega arith) in
    omega (arith, room, c.split.auto)

pub slice_bounds-cut-end : goal.slice_bounds-cut-end
slice_bounds-cut-end c = let room = halves-room _ _ _ _ _ _ _
    (sym c.check_asked_log.ensures
    ∙ c.in_ok-check_asked_log.was) _ _ _
    (sym c.split.ensures.value ∙ c.in_ok-n.was) (omega arith) in
    sym (length-take-le _ _ (omega (arith, room, c.split.auto)))

pub slice_bounds-right_half-end : goal.slice_bounds-right_half-end
slice_bounds-right_half-end c = let room = halves-room _ _ _ _ _ _ _
    (sym c.check_asked_log.ensures
    ∙ c.in_ok-check_asked_log.was) _ _ _
    (sym c.split.ensures.value ∙ c.in_ok-n.was) (omega arith) in
    omega (arith, room, c.split.auto)

pub slice_bounds-cut-end-2 : goal.slice_bounds-cut-end-2
slice_bounds-cut-end-2 c = let room = halves-room _ _ _ _ _ _ _
    (sym c.check_asked_log.ensures
    ∙ c.in_ok-check_asked_log.was) _
    _ _ (sym c.split.ensures.value ∙ c.in_ok-n.was) (omega arith) in
    sym (length-take-le _ _ (omega (arith, room, c.split.auto)))

pub returns : goal.returns
returns c = to_value_out_after (by_number-divided _ _ _ _ _ _ _
    (sym c.check_asked_log.ensures
    ∙ c.in_ok-check_asked_log.was) _ _ _ _ _ (sym c.split.ensures.value
    ∙ c.in_ok-n.was) c.split.ensures.left_out_after
    c.split.ensures.right_out_after (omega arith) _ _ _ _ _ _
    c.known_part-table.ensures
    c.cut-known.ensures c.divide.ensures.value
    c.divide.ensures.out_after)

pub returns-in_err-n : goal.returns-in_err-n
returns-in_err-n c = to_value_out_after (handed_on_with c.from_residual-in_err-n.ensures.1
    (split_refuses _ _ _ _ _ _ _ (sym c.check_asked_log.ensures ∙ c.in_ok-check_asked_log.was) _ _ _
    (sym c.split.ensures.value ∙ c.in_err-n.was) (omega arith) _ _))
