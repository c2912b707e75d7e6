-- The quotient's refusal, or the verdict under it.
use native.Mathlib.Omega.{arith}
use mathlib.Core.Path.{sym, ◌∙◌, ap}
use lib.Seq.{length-take-le}
use Rattle.quotient.proofs.LineOffice.{both_of, given_same, line-room, line_refused, line-answered}
use Rattle.labels.proofs.Refusals.{handed_on}
use Rattle.hml.proofs.Clauses.{to_value_same}
use Rattle.quotient.proofs.line.line_office.Goals as goal

pub slice_bounds-text-end : goal.slice_bounds-text-end
slice_bounds-text-end c = omega (
  arith,
  line-room _ _ _ _ _ _ _ _ _ _ (sym c.by_half.ensures.value ∙ c.in_ok-n.was) (omega arith),
  c.by_half.auto,
)

pub slice_bounds-half-end : goal.slice_bounds-half-end
slice_bounds-half-end c = sym (length-take-le _ _
    (omega (
      arith,
      line-room _ _ _ _ _ _ _ _ _ _ (sym c.by_half.ensures.value ∙ c.in_ok-n.was)
          (omega arith),
      c.by_half.auto,
    )))

pub returns-in_err-n : goal.returns-in_err-n
returns-in_err-n c = to_value_same (given_same (handed_on c.from_residual.ensures.1)
    (line_refused _ _ _ _ _ _ _ _ _ _ (sym c.by_half.ensures.value ∙ c.in_err-n.was) (omega arith)))

pub returns-in_err-holds : goal.returns-in_err-holds
returns-in_err-holds c = to_value_same (given_same (handed_on c.from_residual-in_err-holds.ensures.1)
    (line-answered _ _ _ _ _ _ _ _ _ _ _ (sym c.by_half.ensures.value ∙ c.in_ok-n.was) c.by_half.ensures.out_after _
    _ c.other_part-table.ensures c.other_part-other.ensures _ c.half.ensures _ (sym (ap both_of c.in_err-holds.was)) (omega arith)))

pub returns : goal.returns
returns c = to_value_same (line-answered _ _ _ _ _ _ _ _ _ _ _
    (sym c.by_half.ensures.value ∙ c.in_ok-n.was) c.by_half.ensures.out_after _
    _ c.other_part-table.ensures c.other_part-other.ensures _
    c.half.ensures _ (sym (ap both_of c.in_ok-holds.was)) (omega arith))
