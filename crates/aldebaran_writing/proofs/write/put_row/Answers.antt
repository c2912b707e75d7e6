-- A row's line: bytes of the form, two numbers and the label.
use native.Mathlib.Omega.{arith}
use lib.ListN.{length-set}
use Rattle.tables.specs.Working.{triple_of}
use Rattle.aldebaran_writing.proofs.TextLengths.{length_row}
use Rattle.aldebaran_writing.proofs.TextPieces.{row_first, row_second, row_third, row_put}
use Rattle.hml.proofs.Clauses.{to_value_out_after}
use Rattle.aldebaran_writing.proofs.write.put_row.Goals as goal

pub bounds-out-at : goal.bounds-out-at
bounds-out-at c = omega (arith, c.requires, length_row (triple_of c.args.row))

pub bounds-out-from : goal.bounds-out-from
bounds-out-from c = let first = row_first c.args.out.now _ _ _ (triple_of c.args.row) c.requires
    c.put_decimal-from.ensures.value
    c.put_decimal-from.ensures.out_after in
    omega (arith, c.requires, first)

pub overflow_add-out : goal.overflow_add-out
overflow_add-out c = let first = row_first c.args.out.now _ _ _ (triple_of c.args.row) c.requires
    c.put_decimal-from.ensures.value
    c.put_decimal-from.ensures.out_after in
    omega (arith, c.well_formed, c.requires, first)

pub bounds-out-from-2 : goal.bounds-out-from-2
bounds-out-from-2 c = let first = row_first c.args.out.now _ _ _ (triple_of c.args.row) c.requires
    c.put_decimal-from.ensures.value
    c.put_decimal-from.ensures.out_after in
    simp length-set (omega (arith, c.requires, first))

pub overflow_add-from : goal.overflow_add-from
overflow_add-from c = let first = row_first c.args.out.now _ _ _ (triple_of c.args.row) c.requires
    c.put_decimal-from.ensures.value
    c.put_decimal-from.ensures.out_after in
    omega (arith, c.well_formed, c.requires, first)

pub put_label-label-requires : goal.put_label-label-requires
put_label-label-requires c = let first = row_first c.args.out.now _ _ _ (triple_of c.args.row) c.requires
    c.put_decimal-from.ensures.value
    c.put_decimal-from.ensures.out_after in
    simp length-set (omega (arith, c.requires, first))

pub bounds-out-label : goal.bounds-out-label
bounds-out-label c = let second = row_second c.args.out.now _ _ _ (triple_of c.args.row) c.requires
    c.put_decimal-from.ensures.value
    c.put_decimal-from.ensures.out_after _ _ c.put_label-label.ensures.value c.put_label-label.ensures.out_after in
    omega (arith, c.requires, second)

pub overflow_add-out-2 : goal.overflow_add-out-2
overflow_add-out-2 c = let second = row_second c.args.out.now _ _ _ (triple_of c.args.row) c.requires
    c.put_decimal-from.ensures.value
    c.put_decimal-from.ensures.out_after _ _ c.put_label-label.ensures.value c.put_label-label.ensures.out_after in
    omega (arith, c.well_formed, c.requires, second)

pub bounds-out-label-2 : goal.bounds-out-label-2
bounds-out-label-2 c = let second = row_second c.args.out.now _ _ _ (triple_of c.args.row) c.requires
    c.put_decimal-from.ensures.value
    c.put_decimal-from.ensures.out_after _ _ c.put_label-label.ensures.value c.put_label-label.ensures.out_after in
    simp length-set (omega (arith, c.requires, second))

pub overflow_add-label : goal.overflow_add-label
overflow_add-label c = let second = row_second c.args.out.now _ _ _ (triple_of c.args.row) c.requires
    c.put_decimal-from.ensures.value
    c.put_decimal-from.ensures.out_after _ _ c.put_label-label.ensures.value c.put_label-label.ensures.out_after in
    omega (arith, c.well_formed, c.requires, second)

pub bounds-out-to : goal.bounds-out-to
bounds-out-to c = let third = row_third c.args.out.now _ _ _ (triple_of c.args.row) c.requires
    c.put_decimal-from.ensures.value
    c.put_decimal-from.ensures.out_after _ _ c.put_label-label.ensures.value c.put_label-label.ensures.out_after _ _
    c.put_decimal-to.ensures.value c.put_decimal-to.ensures.out_after in
    omega (arith, c.requires, third)

pub overflow_add-out-3 : goal.overflow_add-out-3
overflow_add-out-3 c = let third = row_third c.args.out.now _ _ _ (triple_of c.args.row) c.requires
    c.put_decimal-from.ensures.value
    c.put_decimal-from.ensures.out_after _ _ c.put_label-label.ensures.value c.put_label-label.ensures.out_after _ _
    c.put_decimal-to.ensures.value c.put_decimal-to.ensures.out_after in
    omega (arith, c.well_formed, c.requires, third)

pub bounds-out-to-2 : goal.bounds-out-to-2
bounds-out-to-2 c = let third = row_third c.args.out.now _ _ _ (triple_of c.args.row) c.requires
    c.put_decimal-from.ensures.value
    c.put_decimal-from.ensures.out_after _ _ c.put_label-label.ensures.value c.put_label-label.ensures.out_after _ _
    c.put_decimal-to.ensures.value c.put_decimal-to.ensures.out_after in
    simp length-set (omega (arith, c.requires, third))

pub overflow_add-result : goal.overflow_add-result
overflow_add-result c = let third = row_third c.args.out.now _ _ _ (triple_of c.args.row) c.requires
    c.put_decimal-from.ensures.value
    c.put_decimal-from.ensures.out_after _ _ c.put_label-label.ensures.value c.put_label-label.ensures.out_after _ _
    c.put_decimal-to.ensures.value c.put_decimal-to.ensures.out_after in
    omega (arith, c.well_formed, c.requires, third)

pub returns : goal.returns
returns c = to_value_out_after (row_put c.args.out.now _ _ _ (triple_of c.args.row) c.requires
    c.put_decimal-from.ensures.value
    c.put_decimal-from.ensures.out_after _ _ c.put_label-label.ensures.value c.put_label-label.ensures.out_after _ _
    c.put_decimal-to.ensures.value c.put_decimal-to.ensures.out_after)
