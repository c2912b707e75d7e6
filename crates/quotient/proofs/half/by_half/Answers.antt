-- The checks decide, or the division by the known half cut at the point.
use mathlib.Core.Path.{sym, ◌∙◌}
use Rattle.quotient.proofs.QuotientCalls.{by_half_refused, by_half_divided}
use Rattle.labels.proofs.Refusals.{handed_on_with}
use Rattle.hml.proofs.Clauses.{to_value_out_after}
use Rattle.quotient.proofs.half.by_half.Goals as goal

pub returns-in_err-check_by_half : goal.returns-in_err-check_by_half
returns-in_err-check_by_half c = to_value_out_after (handed_on_with c.from_residual.ensures.1
    (by_half_refused _ _ _ _ _ _ _ _ _ (sym c.check_by_half.ensures ∙ c.in_err-check_by_half.was) _))

pub returns : goal.returns
returns c = to_value_out_after (by_half_divided _ _ _ _ _ _ _ _
    (sym c.check_by_half.ensures ∙ c.in_ok-check_by_half.was) _ _ _ _
    _ c.known_part-table.ensures c.cut-known.ensures c.divide.ensures.value
    c.divide.ensures.out_after)
