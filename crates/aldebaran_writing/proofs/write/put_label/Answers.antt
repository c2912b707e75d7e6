-- The silent step, or the letter, the pair's number and the mark.
use native.Mathlib.Omega.{arith}
use Rattle.hml.specs.Labels.{positive}
use Rattle.aldebaran_writing.proofs.TextLengths.{length-silent, length-spelled}
use Rattle.aldebaran_writing.proofs.TextPieces.{label-silent, label-placed, label-odd, label_even}
use Rattle.hml.proofs.Clauses.{to_value_out_after}
use Rattle.aldebaran_writing.proofs.write.put_label.Goals as goal

pub bounds-out-at : goal.bounds-out-at
bounds-out-at c = omega (arith, c.requires, length-silent _ c.if-code-eq0.true)

pub returns-then-code-eq0 : goal.returns-then-code-eq0
returns-then-code-eq0 c = to_value_out_after (label-silent _ _ _ c.if-code-eq0.true)

pub bounds-out-at-2 : goal.bounds-out-at-2
bounds-out-at-2 c = omega (arith, c.requires, length-spelled _ (positive _ c.if-code-eq0.false))

pub bounds-out-end : goal.bounds-out-end
bounds-out-end c = let some = positive c.args.label.0 c.if-code-eq0.false in
    let placed = label-placed c.args.out.now _ _ _ _ c.requires some c.put_decimal-end.ensures.value
    c.put_decimal-end.ensures.out_after in
    omega (arith, c.requires, placed)

pub overflow_add-result-then-code-eq1 : goal.overflow_add-result-then-code-eq1
overflow_add-result-then-code-eq1 c = let some = positive c.args.label.0 c.if-code-eq0.false in
    let placed = label-placed c.args.out.now _ _ _ _ c.requires some c.put_decimal-end.ensures.value
    c.put_decimal-end.ensures.out_after in
    omega (arith, c.well_formed, c.requires, placed)

pub returns-then-code-eq1 : goal.returns-then-code-eq1
returns-then-code-eq1 c = let some = positive c.args.label.0 c.if-code-eq0.false in
    to_value_out_after (label-odd c.args.out.now _ _ _ _ c.requires some c.put_decimal-end.ensures.value
    c.put_decimal-end.ensures.out_after c.if-code-eq1.true)

pub bounds-out-end-2 : goal.bounds-out-end-2
bounds-out-end-2 c = let some = positive c.args.label.0 c.if-code-eq0.false in
    let placed = label-placed c.args.out.now _ _ _ _ c.requires some c.put_decimal-end.ensures.value
    c.put_decimal-end.ensures.out_after in
    omega (arith, c.requires, placed)

pub overflow_add-result-2 : goal.overflow_add-result-2
overflow_add-result-2 c = let some = positive c.args.label.0 c.if-code-eq0.false in
    let placed = label-placed c.args.out.now _ _ _ _ c.requires some c.put_decimal-end.ensures.value
    c.put_decimal-end.ensures.out_after in
    omega (arith, c.well_formed, c.requires, placed)

pub returns : goal.returns
returns c = let some = positive c.args.label.0 c.if-code-eq0.false in
    to_value_out_after (label_even c.args.out.now _ _ _ _ c.requires some c.put_decimal-end.ensures.value
    c.put_decimal-end.ensures.out_after c.if-code-eq1.false)
