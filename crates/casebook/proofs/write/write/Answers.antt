-- Everything is judged first, the output last; then the records are written.
use native.Mathlib.Omega.{arith}
use mathlib.Core.Path.{refl, sym, ◌∙◌}
use Rattle.casebook.proofs.Writing.{write_refused, write_short, write_whole, parts_small}
use Rattle.labels.proofs.Refusals.{handed_on_with}
use Rattle.hml.proofs.Clauses.{to_value_out_after}
use Rattle.casebook.proofs.write.write.Goals as goal

pub returns-in_err-check_parts : goal.returns-in_err-check_parts
returns-in_err-check_parts c = to_value_out_after (handed_on_with c.from_residual.ensures.1
    (write_refused _ _ _ _ _ _ _ (sym c.check_parts.ensures ∙ c.in_err-check_parts.was)))

pub overflow_add-total-2 : goal.overflow_add-total-2
overflow_add-total-2 c = omega (
  arith,
  parts_small c.args.labels c.args.left.now c.args.right.now c.args.run.now
      c.args.question.now
      (sym c.check_parts.ensures ∙ c.in_ok-check_parts.was) c.args.out.now,
)

pub overflow_add-total-3 : goal.overflow_add-total-3
overflow_add-total-3 c = omega (
  arith,
  parts_small c.args.labels c.args.left.now c.args.right.now c.args.run.now
      c.args.question.now
      (sym c.check_parts.ensures ∙ c.in_ok-check_parts.was) c.args.out.now,
)

pub overflow_add-total-4 : goal.overflow_add-total-4
overflow_add-total-4 c = omega (
  arith,
  parts_small c.args.labels c.args.left.now c.args.right.now c.args.run.now
      c.args.question.now
      (sym c.check_parts.ensures ∙ c.in_ok-check_parts.was) c.args.out.now,
)

pub returns-then-out-total : goal.returns-then-out-total
returns-then-out-total c = to_value_out_after (write_short _ _ _ _ _ (sym c.check_parts.ensures ∙ c.in_ok-check_parts.was) _
    c.if-out-total.true)

pub put_casebook-requires : goal.put_casebook-requires
put_casebook-requires c = let p = parts_small c.args.labels c.args.left.now c.args.right.now c.args.run.now
    c.args.question.now
    (sym c.check_parts.ensures ∙ c.in_ok-check_parts.was)
    c.args.out.now in
    record { left = p.0; right = p.1; run = p.2; question = p.3; room = c.if-out-total.false }

pub returns : goal.returns
returns c = to_value_out_after (write_whole _ _ _ _ _ (sym c.check_parts.ensures ∙ c.in_ok-check_parts.was) _ _
    _ refl c.if-out-total.false c.put_casebook.ensures)
