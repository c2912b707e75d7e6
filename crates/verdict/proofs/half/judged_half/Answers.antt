-- The checks, the run beside a machine that never moves, the verdict.
use native.Mathlib.Omega.{arith}
use mathlib.Core.Path.{sym, ◌∙◌}
use Rattle.labels.proofs.Refusals.{handed_on}
use Rattle.verdict.specs.Verdicts.{half_verdict}
use Rattle.verdict.proofs.Calls.{half_room, half_tables, half_legal, half_held, half_answer, answer_refused}
use Rattle.verdict.proofs.half.judged_half.Goals as goal

pub returns-in_err-check_half_call : goal.returns-in_err-check_half_call
unfolding half_verdict
returns-in_err-check_half_call c = handed_on c.from_residual.ensures.1
    ∙ answer_refused _ _ _ (sym c.check_half_call.ensures ∙ c.in_err-check_half_call.was)

pub beside_still-requires : goal.beside_still-requires
beside_still-requires c =
    let room = half_room _ _ _ _ _ (sym c.check_half_call.ensures ∙ c.in_ok-check_half_call.was) in
    (room.0, omega (arith, room))

pub overflow_mul-point : goal.overflow_mul-point
overflow_mul-point c =
    omega (arith, half_room _ _ _ _ _ (sym c.check_half_call.ensures ∙ c.in_ok-check_half_call.was))

pub overflow_add-point : goal.overflow_add-point
overflow_add-point c =
    omega (arith, half_room _ _ _ _ _ (sym c.check_half_call.ensures ∙ c.in_ok-check_half_call.was))

pub verdict_on-requires : goal.verdict_on-requires
verdict_on-requires c = let check = sym c.check_half_call.ensures ∙ c.in_ok-check_half_call.was in
    let room = half_room _ _ _ _ _ check in
    let held = half_held _ _ _ _ _ check _ _ c.beside_still.ensures (omega (arith, room, c.beside_still.auto.run)) in
    record {
      tables = half_tables _ _ _ _ _ check;
      held = (held, omega (arith, room), c.beside_still.auto.run);
      legal = half_legal _ _ _ _ _ check;
    }

pub returns : goal.returns
returns c = let check = sym c.check_half_call.ensures ∙ c.in_ok-check_half_call.was in
    half_answer _ _ _ _ _ check _ _ c.beside_still.ensures _ c.verdict_on.ensures
