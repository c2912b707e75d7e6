-- The steps from step i on are written.
use Prim.Native.Nat.{◌-◌}
use native.Mathlib.Omega.{arith}
use mathlib.Core.Path.{sym, ◌∙◌}
use Rattle.splitting.proofs.Unrolling.{unrolled_start, unrolled_on, unrolled_left, unrolled_right, put-there, put_some}
use Rattle.splitting.proofs.Unrolling.{put-room, first-room}
use Rattle.splitting.proofs.split.write_halves.Goals as goal

pub loop-i-init : goal.loop-i-init
loop-i-init c = unrolled_start c.requires.log _ _ _ c.requires.number_in_bounds

pub put_way-n-requires-clause-nonzero : goal.put_way-n-requires-clause-nonzero
put_way-n-requires-clause-nonzero c = put_some c.requires.log _ _ _ c.requires.run_in_bounds _ _ _ _ c.loop-i.invariant
    _ (omega arith) _ (sym c.in-Some.is ∙ c.joint_step.ensures)

pub put_way-n-requires-clause-i_in_bounds : goal.put_way-n-requires-clause-i_in_bounds
put_way-n-requires-clause-i_in_bounds c =
    put-room c.requires.log _ _ _ c.requires.run_in_bounds _ _ _ _ c.loop-i.invariant _ (omega arith)

pub loop-i-preserved-in-Some : goal.loop-i-preserved-in-Some
loop-i-preserved-in-Some c = unrolled_on c.requires.log _ _ _ c.requires.run_in_bounds _ _ _ _ c.loop-i.invariant _
    (omega arith) _
    (sym c.in-Some.is ∙ c.joint_step.ensures) _ _ _ c.put_way-n.ensures.value c.put_way-n.ensures.left_out_after
    c.put_way-n.ensures.right_out_after

pub loop-i-preserved : goal.loop-i-preserved
loop-i-preserved c = absurd
    (put-there c.requires.log _ _ _ c.requires.run_in_bounds _ _ _ _ c.loop-i.invariant (c.loop-i.i - 1) (omega arith)
    (sym c.in_default.is ∙ c.joint_step.ensures))

pub bounds-left_out-0 : goal.bounds-left_out-0
bounds-left_out-0 c = (first-room c.requires.log _ _ _ c.requires.run_in_bounds _ _ _ _ c.loop-i.invariant
    (omega arith)).0

pub bounds-right_out-0 : goal.bounds-right_out-0
bounds-right_out-0 c = (first-room c.requires.log _ _ _ c.requires.run_in_bounds _ _ _ _ c.loop-i.invariant
    (omega arith)).1

pub returns-clause-left_out_after : goal.returns-clause-left_out_after
returns-clause-left_out_after c =
    unrolled_left c.requires.log _ _ _ c.requires.run_in_bounds _ _ _ _ c.loop-i.invariant (omega arith)

pub returns-clause-right_out_after : goal.returns-clause-right_out_after
returns-clause-right_out_after c =
    unrolled_right c.requires.log _ _ _ c.requires.run_in_bounds _ _ _ _ c.loop-i.invariant (omega arith)
