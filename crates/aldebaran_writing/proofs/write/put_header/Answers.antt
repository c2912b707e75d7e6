-- The header's line: `des (`, three numbers and the bytes between and behind them.
use native.Mathlib.Omega.{arith}
use lib.ListN.{length-set}
use Rattle.aldebaran_writing.proofs.TextLengths.{length-header}
use Rattle.aldebaran_writing.proofs.TextPieces.{first-placed, second_placed, third_placed, header-put}
use Rattle.aldebaran_writing.proofs.write.put_header.Goals as goal

pub bounds-out-0 : goal.bounds-out-0
bounds-out-0 c = omega (arith, c.requires, length-header c.args.first c.args.rows c.args.states)

pub bounds-out-1 : goal.bounds-out-1
bounds-out-1 c = simp length-set (omega (arith, c.requires, length-header c.args.first c.args.rows c.args.states))

pub bounds-out-2 : goal.bounds-out-2
bounds-out-2 c = simp length-set (omega (arith, c.requires, length-header c.args.first c.args.rows c.args.states))

pub bounds-out-3 : goal.bounds-out-3
bounds-out-3 c = simp length-set (omega (arith, c.requires, length-header c.args.first c.args.rows c.args.states))

pub bounds-out-4 : goal.bounds-out-4
bounds-out-4 c = simp length-set (omega (arith, c.requires, length-header c.args.first c.args.rows c.args.states))

pub bounds-out-second : goal.bounds-out-second
bounds-out-second c = let first = first-placed c.args.out.now _ _ c.args.first c.args.rows c.args.states c.requires
    c.put_decimal-second.ensures.value c.put_decimal-second.ensures.out_after in
    omega (arith, c.requires, first)

pub overflow_add-second : goal.overflow_add-second
overflow_add-second c = let first = first-placed c.args.out.now _ _ c.args.first c.args.rows c.args.states c.requires
    c.put_decimal-second.ensures.value c.put_decimal-second.ensures.out_after in
    omega (arith, c.well_formed, c.requires, first)

pub bounds-out-third : goal.bounds-out-third
bounds-out-third c = let second = second_placed c.args.out.now _ _ c.args.first c.args.rows c.args.states c.requires
    c.put_decimal-second.ensures.value c.put_decimal-second.ensures.out_after _ _ c.put_decimal-third.ensures.value
    c.put_decimal-third.ensures.out_after in
    omega (arith, c.requires, second)

pub overflow_add-third : goal.overflow_add-third
overflow_add-third c = let second = second_placed c.args.out.now _ _ c.args.first c.args.rows c.args.states c.requires
    c.put_decimal-second.ensures.value c.put_decimal-second.ensures.out_after _ _ c.put_decimal-third.ensures.value
    c.put_decimal-third.ensures.out_after in
    omega (arith, c.well_formed, c.requires, second)

pub bounds-out-end : goal.bounds-out-end
bounds-out-end c = let third = third_placed c.args.out.now _ _ c.args.first c.args.rows c.args.states c.requires
    c.put_decimal-second.ensures.value c.put_decimal-second.ensures.out_after _ _ c.put_decimal-third.ensures.value
    c.put_decimal-third.ensures.out_after _ _ c.put_decimal-end.ensures.value c.put_decimal-end.ensures.out_after in
    omega (arith, c.requires, third)

pub overflow_add-out : goal.overflow_add-out
overflow_add-out c = let third = third_placed c.args.out.now _ _ c.args.first c.args.rows c.args.states c.requires
    c.put_decimal-second.ensures.value c.put_decimal-second.ensures.out_after _ _ c.put_decimal-third.ensures.value
    c.put_decimal-third.ensures.out_after _ _ c.put_decimal-end.ensures.value c.put_decimal-end.ensures.out_after in
    omega (arith, c.well_formed, c.requires, third)

pub bounds-out-end-2 : goal.bounds-out-end-2
bounds-out-end-2 c = let third = third_placed c.args.out.now _ _ c.args.first c.args.rows c.args.states c.requires
    c.put_decimal-second.ensures.value c.put_decimal-second.ensures.out_after _ _ c.put_decimal-third.ensures.value
    c.put_decimal-third.ensures.out_after _ _ c.put_decimal-end.ensures.value c.put_decimal-end.ensures.out_after in
    simp length-set (omega (arith, c.requires, third))

pub overflow_add-result : goal.overflow_add-result
overflow_add-result c = let third = third_placed c.args.out.now _ _ c.args.first c.args.rows c.args.states c.requires
    c.put_decimal-second.ensures.value c.put_decimal-second.ensures.out_after _ _ c.put_decimal-third.ensures.value
    c.put_decimal-third.ensures.out_after _ _ c.put_decimal-end.ensures.value c.put_decimal-end.ensures.out_after in
    omega (arith, c.well_formed, c.requires, third)

pub returns : goal.returns
returns c = let third = third_placed c.args.out.now _ _ c.args.first c.args.rows c.args.states c.requires
    c.put_decimal-second.ensures.value c.put_decimal-second.ensures.out_after _ _ c.put_decimal-third.ensures.value
    c.put_decimal-third.ensures.out_after _ _ c.put_decimal-end.ensures.value c.put_decimal-end.ensures.out_after in
    let put = header-put c.args.out.now _ _ c.args.first c.args.rows c.args.states c.requires
    c.put_decimal-second.ensures.value c.put_decimal-second.ensures.out_after _ _ c.put_decimal-third.ensures.value
    c.put_decimal-third.ensures.out_after _ _ c.put_decimal-end.ensures.value c.put_decimal-end.ensures.out_after in
    record {
      value = third.0;
      out_after = put;
    }
