-- The checks, the copy, the verdict.
use Prim.Native.Nat.{◌+◌, ◌*◌}
use native.Mathlib.Omega.{arith}
use mathlib.Core.Path.{sym, ◌∙◌}
use lib.ListN.{length-take}
use lib.Seq.{length-take-le}
use Rattle.labels.proofs.Refusals.{handed_on}
use Rattle.labels.proofs.Slices.{copied_whole}
use Rattle.verdict.specs.Verdicts.{joint_verdict}
use Rattle.verdict.proofs.Calls.{joint-room, joint_tables, joint_legal, joint-held, joint_answer, front_copied}
use Rattle.verdict.proofs.Calls.{answer_refused}
use Rattle.verdict.proofs.joint.judged_joint.Goals as goal

pub returns-in_err-check_joint_call : goal.returns-in_err-check_joint_call
unfolding joint_verdict
returns-in_err-check_joint_call c = handed_on c.from_residual.ensures.1
    ∙ answer_refused _ _ _ (sym c.check_joint_call.ensures ∙ c.in_err-check_joint_call.was)

pub overflow_mul-len : goal.overflow_mul-len
overflow_mul-len c =
    omega (arith, joint-room _ _ _ _ _ _ (sym c.check_joint_call.ensures ∙ c.in_ok-check_joint_call.was))

pub overflow_add-len : goal.overflow_add-len
overflow_add-len c =
    omega (arith, joint-room _ _ _ _ _ _ (sym c.check_joint_call.ensures ∙ c.in_ok-check_joint_call.was))

pub slice_bounds-copy-end : goal.slice_bounds-copy-end
slice_bounds-copy-end c = let check = sym c.check_joint_call.ensures ∙ c.in_ok-check_joint_call.was in
    sym (length-take-le _ _ (joint-room _ _ _ _ _ _ check).0)

pub verdict_on-requires : goal.verdict_on-requires
verdict_on-requires c = let check = sym c.check_joint_call.ensures ∙ c.in_ok-check_joint_call.was in
    let room = joint-room _ _ _ _ _ _ check in
    let front = front_copied _ _ _ _ room.0 (copied_whole _ _ _ _
    (omega (arith, room, length-take (3 * c.args.point + 2) c.args.run.now)) c.copy.ensures.count c.copy.ensures.copied)
    in
    let held = joint-held _ _ _ _ _ _ check _ front (omega (arith, room, c.copy.auto.dst)) in
    record {
      tables = joint_tables _ _ _ _ _ _ check;
      held = (held, omega (arith, room), c.copy.auto.dst);
      legal = joint_legal _ _ _ _ _ _ check;
    }

pub returns : goal.returns
returns c = let check = sym c.check_joint_call.ensures ∙ c.in_ok-check_joint_call.was in
    let room = joint-room _ _ _ _ _ _ check in
    let front = front_copied _ _ _ _ room.0 (copied_whole _ _ _ _
    (omega (arith, room, length-take (3 * c.args.point + 2) c.args.run.now)) c.copy.ensures.count c.copy.ensures.copied)
    in
    joint_answer _ _ _ _ _ _ check _ front _ c.verdict_on.ensures
