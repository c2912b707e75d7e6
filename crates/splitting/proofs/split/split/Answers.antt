-- Everything is judged before a byte is written.
use mathlib.Core.Path.{sym, ◌∙◌}
use Rattle.labels.proofs.Refusals.{handed_on}
use Rattle.splitting.proofs.SplitCalls.{split_refused, split-log, split_below, split-room, split-answered}
use Rattle.hml.proofs.Clauses.{to_value_left_out_after_right_out_after}
use Rattle.splitting.proofs.split.split.Goals as goal

pub returns-in_err-check_split : goal.returns-in_err-check_split
returns-in_err-check_split c =
    let refused = split_refused _ _ _ _ _ c.args.left_out.now c.args.right_out.now _
    (sym c.check_split.ensures ∙ c.in_err-check_split.was) in
    record {
      value = handed_on c.from_residual.ensures.1 ∙ refused.0;
      left_out_after = refused.1.0;
      right_out_after = refused.1.1;
    }

pub write_halves-requires : goal.write_halves-requires
write_halves-requires c = let e = sym c.check_split.ensures ∙ c.in_ok-check_split.was in
    record {
      log = split-log _ _ _ _ _ _ _ e;
      number_in_bounds = split_below _ _ _ _ _ _ _ e;
      run_in_bounds = split-room _ _ _ _ _ _ _ e;
    }

pub returns : goal.returns
returns c = to_value_left_out_after_right_out_after (split-answered _ _ _ _ _ _ _
    (sym c.check_split.ensures ∙ c.in_ok-check_split.was) _ _
    c.write_halves.ensures.left_out_after c.write_halves.ensures.right_out_after)
