-- The number's digits, then three bytes.
use native.Mathlib.Omega.{arith}
use Prim.Native.Nat.{◌+◌, ◌≤◌}
use lib.ListN.{length, length-set}
use Rattle.digits.specs.Digits.{decimal}
use Rattle.sheet_lines.proofs.LineLaws.{number_small, digits_two, field_place, field_put}
use Rattle.hml.proofs.Clauses.{to_value_out_after}
use Rattle.sheet_lines.proofs.ending.put_refusal.Goals as goal

pub bounds-out-at : goal.bounds-out-at
bounds-out-at c = let short = digits_two c.number-number.result
    (omega (arith, number_small c.args.refusal, c.number-number.ensures)) in
    let placed = field_place c.args.out.now _ (decimal c.number-number.result) _ (omega (arith, c.requires, short))
    c.put_decimal-at.ensures.value c.put_decimal-at.ensures.out_after in
    omega (arith, c.requires, short, placed)

pub overflow_add-out : goal.overflow_add-out
overflow_add-out c = let short = digits_two c.number-number.result
    (omega (arith, number_small c.args.refusal, c.number-number.ensures)) in
    let placed = field_place c.args.out.now _ (decimal c.number-number.result) _ (omega (arith, c.requires, short))
    c.put_decimal-at.ensures.value c.put_decimal-at.ensures.out_after in
    omega (arith, c.well_formed, c.requires, short, placed)

pub bounds-out-at-2 : goal.bounds-out-at-2
bounds-out-at-2 c = let short = digits_two c.number-number.result
    (omega (arith, number_small c.args.refusal, c.number-number.ensures)) in
    let placed = field_place c.args.out.now _ (decimal c.number-number.result) _ (omega (arith, c.requires, short))
    c.put_decimal-at.ensures.value c.put_decimal-at.ensures.out_after in
    simp length-set (omega (arith, c.requires, short, placed))

pub overflow_add-out-2 : goal.overflow_add-out-2
overflow_add-out-2 c = let short = digits_two c.number-number.result
    (omega (arith, number_small c.args.refusal, c.number-number.ensures)) in
    let placed = field_place c.args.out.now _ (decimal c.number-number.result) _ (omega (arith, c.requires, short))
    c.put_decimal-at.ensures.value c.put_decimal-at.ensures.out_after in
    omega (arith, c.well_formed, c.requires, short, placed)

pub bounds-out-at-3 : goal.bounds-out-at-3
bounds-out-at-3 c = let short = digits_two c.number-number.result
    (omega (arith, number_small c.args.refusal, c.number-number.ensures)) in
    let placed = field_place c.args.out.now _ (decimal c.number-number.result) _ (omega (arith, c.requires, short))
    c.put_decimal-at.ensures.value c.put_decimal-at.ensures.out_after in
    simp length-set (omega (arith, c.requires, short, placed))

pub overflow_add-result : goal.overflow_add-result
overflow_add-result c = let short = digits_two c.number-number.result
    (omega (arith, number_small c.args.refusal, c.number-number.ensures)) in
    let placed = field_place c.args.out.now _ (decimal c.number-number.result) _ (omega (arith, c.requires, short))
    c.put_decimal-at.ensures.value c.put_decimal-at.ensures.out_after in
    omega (arith, c.well_formed, c.requires, short, placed)

pub returns : goal.returns
returns c = let short = digits_two c.number-number.result (omega
    (arith, number_small c.args.refusal, c.number-number.ensures)) in
    let h : length (decimal c.number-number.result) + 3 ≤ length c.args.out.now = omega (arith, c.requires, short) in
    to_value_out_after (rw (← c.number-number.ensures) (
      omega (arith, field_place _ _ _ _ h c.put_decimal-at.ensures.value c.put_decimal-at.ensures.out_after),
      field_put _ _ _ _ h c.put_decimal-at.ensures.value c.put_decimal-at.ensures.out_after _ _ _,
    ))
