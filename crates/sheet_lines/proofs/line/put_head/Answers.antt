-- Two numbers and the letter, each with a blank behind it.
use native.Mathlib.Omega.{arith}
use lib.ListN.{length-set}
use Rattle.sheet_lines.proofs.LineLaws.{head_first, head_second, head_put}
use Rattle.sheet_lines.proofs.line.put_head.Goals as goal

pub bounds-out-first : goal.bounds-out-first
bounds-out-first c = let placed = head_first _ _ _ _ _ _ _ c.requires c.put_decimal-first.ensures.value
    c.put_decimal-first.ensures.out_after in
    omega (arith, c.requires, placed)

pub overflow_add-first : goal.overflow_add-first
overflow_add-first c = let placed = head_first _ _ _ _ _ _ _ c.requires c.put_decimal-first.ensures.value
    c.put_decimal-first.ensures.out_after in
    omega (arith, c.well_formed, c.requires, placed)

pub bounds-out-second : goal.bounds-out-second
bounds-out-second c = let placed = head_second _ _ _ _ _ _ _ c.requires c.put_decimal-first.ensures.value
    c.put_decimal-first.ensures.out_after _ _ c.put_decimal-second.ensures.value
    c.put_decimal-second.ensures.out_after in
    omega (arith, c.requires, placed)

pub overflow_add-out : goal.overflow_add-out
overflow_add-out c = let placed = head_second _ _ _ _ _ _ _ c.requires c.put_decimal-first.ensures.value
    c.put_decimal-first.ensures.out_after _ _ c.put_decimal-second.ensures.value
    c.put_decimal-second.ensures.out_after in
    omega (arith, c.well_formed, c.requires, placed)

pub bounds-out-second-2 : goal.bounds-out-second-2
bounds-out-second-2 c = let placed = head_second _ _ _ _ _ _ _ c.requires c.put_decimal-first.ensures.value
    c.put_decimal-first.ensures.out_after _ _ c.put_decimal-second.ensures.value
    c.put_decimal-second.ensures.out_after in
    simp length-set (omega (arith, c.requires, placed))

pub overflow_add-out-2 : goal.overflow_add-out-2
overflow_add-out-2 c = let placed = head_second _ _ _ _ _ _ _ c.requires c.put_decimal-first.ensures.value
    c.put_decimal-first.ensures.out_after _ _ c.put_decimal-second.ensures.value
    c.put_decimal-second.ensures.out_after in
    omega (arith, c.well_formed, c.requires, placed)

pub bounds-out-second-3 : goal.bounds-out-second-3
bounds-out-second-3 c = let placed = head_second _ _ _ _ _ _ _ c.requires c.put_decimal-first.ensures.value
    c.put_decimal-first.ensures.out_after _ _ c.put_decimal-second.ensures.value
    c.put_decimal-second.ensures.out_after in
    simp length-set (omega (arith, c.requires, placed))

pub overflow_add-result : goal.overflow_add-result
overflow_add-result c = let placed = head_second _ _ _ _ _ _ _ c.requires c.put_decimal-first.ensures.value
    c.put_decimal-first.ensures.out_after _ _ c.put_decimal-second.ensures.value
    c.put_decimal-second.ensures.out_after in
    omega (arith, c.well_formed, c.requires, placed)

pub returns : goal.returns
returns c = record {
  value = (head_second _ _ _ _ _ _ _ c.requires c.put_decimal-first.ensures.value c.put_decimal-first.ensures.out_after
      _ _ c.put_decimal-second.ensures.value
      c.put_decimal-second.ensures.out_after).0;
  out_after = head_put _ _ _ _ _ _ _ c.requires c.put_decimal-first.ensures.value c.put_decimal-first.ensures.out_after
      _ _ c.put_decimal-second.ensures.value
      c.put_decimal-second.ensures.out_after;
}
