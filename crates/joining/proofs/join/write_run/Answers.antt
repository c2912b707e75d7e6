-- The two start states, then one joint step a turn.
use Prim.Native.Nat.{◌/◌}
use native.Mathlib.Omega.{arith}
use lib.ListN.{length}
use mathlib.Core.Path.{◌≡◌}
use mathlib.Core.Path.{sym, ◌∙◌}
use lib.ListN.{length-set}
use Rattle.joining.proofs.Joined.{join-length, write_start, write_room, write_on, write_matched, write_end}
use Rattle.joining.proofs.join.write_run.Goals as goal

pub bounds-out-0 : goal.bounds-out-0
bounds-out-0 c = omega (
  arith,
  join-length _ _ _ c.requires.half_bytes.0 c.requires.half_bytes.1 c.requires.right_value,
  c.requires.right_in_bounds,
)

pub bounds-out-1 : goal.bounds-out-1
bounds-out-1 c = simp length-set (omega (
  arith,
  join-length _ _ _ c.requires.half_bytes.0 c.requires.half_bytes.1 c.requires.right_value,
  c.requires.right_in_bounds,
))

pub loop-i-init : goal.loop-i-init
loop-i-init c = write_start _ _ _ c.requires.half_bytes.0 c.requires.half_bytes.1 c.requires.right_value
    c.args.out.now c.requires.right_in_bounds

pub bounds-right-i : goal.bounds-right-i
bounds-right-i c = (write_room _ _ _ c.requires.half_bytes.0 c.requires.half_bytes.1 c.requires.right_value
    c.args.out.now c.requires.right_in_bounds _ _ c.loop-i-test.true c.loop-i.invariant).1

pub put_joint_step-requires : goal.put_joint_step-requires
put_joint_step-requires c = (write_room _ _ _ c.requires.half_bytes.0 c.requires.half_bytes.1 c.requires.right_value
    c.args.out.now c.requires.right_in_bounds _ _ c.loop-i-test.true c.loop-i.invariant).2

pub returns-in_default : goal.returns-in_default
returns-in_default c = absurd (write_matched _ _ _ c.requires.half_bytes.0 c.requires.half_bytes.1
    c.requires.right_value c.args.out.now c.requires.right_in_bounds _ _ c.loop-i-test.true c.loop-i.invariant
    (sym c.in_default.is ∙ c.label_at.ensures))

pub loop-i-preserved : goal.loop-i-preserved
loop-i-preserved c = write_on _ _ _ c.requires.half_bytes.0 c.requires.half_bytes.1 c.requires.right_value
    c.args.out.now c.requires.right_in_bounds _ _ c.loop-i-test.true c.loop-i.invariant _
    (sym c.in-Some.is ∙ c.label_at.ensures) _ c.put_joint_step.ensures

pub returns : goal.returns
returns c = write_end _ _ _ c.requires.half_bytes.0 c.requires.half_bytes.1 c.requires.right_value
    c.args.out.now c.requires.right_in_bounds _
    (let e : length c.args.left.now / 2 ≡ c.loop-i.i = omega arith in rw e c.loop-i.invariant)
