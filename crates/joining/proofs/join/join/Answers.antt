-- Everything is judged first, the output last; then the run is written.
use mathlib.Core.Path.{sym, ◌∙◌}
use Rattle.labels.proofs.Refusals.{handed_on}
use Rattle.joining.proofs.JoinCalls.{halves_call, join_refused, join_short, join-room, join_written}
use Rattle.hml.proofs.Clauses.{to_value_out_after}
use Rattle.joining.proofs.join.join.Goals as goal

pub returns-in_err-check_halves : goal.returns-in_err-check_halves
returns-in_err-check_halves c =
    let refused = join_refused _ _ _ _ _ c.args.out.now _ (sym c.check_halves.ensures ∙ c.in_err-check_halves.was) in
    record { value = handed_on c.from_residual.ensures.1 ∙ refused.0; out_after = refused.1 }

pub returns-then-out-len : goal.returns-then-out-len
returns-then-out-len c = let check = sym c.check_halves.ensures ∙ c.in_ok-check_halves.was in
    to_value_out_after (join_short _ _ _ _ _ _ check c.if-out-len.true)

pub write_run-requires : goal.write_run-requires
write_run-requires c = let check = sym c.check_halves.ensures ∙ c.in_ok-check_halves.was in
    let call = halves_call _ _ _ _ _ check in
    record {
      half_bytes = (call.left, call.right);
      right_value = call.match;
      right_in_bounds = join-room _ _ _ _ _ c.args.out.now check c.if-out-len.false;
    }

pub returns : goal.returns
returns c = let check = sym c.check_halves.ensures ∙ c.in_ok-check_halves.was in
    to_value_out_after (join_written _ _ _ _ _ _ check c.if-out-len.false c.write_run.ensures)
