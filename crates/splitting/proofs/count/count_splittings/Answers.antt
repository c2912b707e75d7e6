-- The product of the ways of the steps before step i, capped.
use Prim.Native.Nat.{◌/◌}
use native.Mathlib.Omega.{arith}
use mathlib.Core.Path.{◌≡◌, sym, ◌∙◌}
use lib.ListN.{length}
use Rattle.splitting.proofs.Counts.{counted_start, counted_on, counted_small, counted_there, counted_end, product_small}
use Rattle.splitting.proofs.count.count_splittings.Goals.{in-Some, in_default}
use Rattle.splitting.proofs.count.count_splittings.Goals as goal

pub loop-i-init : goal.loop-i-init
loop-i-init c = counted_start c.requires

pub overflow_mul-splittings : goal.overflow_mul-splittings
overflow_mul-splittings c = omega (
  arith,
  product_small _ _ (counted_small c.requires _ _ c.loop-i.invariant) c.ways_of.ensures.few,
)

pub loop-i-preserved : goal.loop-i-preserved
loop-i-preserved c = elim c.match-joint_step.branch [
  | in-Some w ↦ counted_on c.requires _ _ _ _ _ (sym w.in-Some.is ∙ c.joint_step.ensures) c.loop-i.invariant
      w.ways_of.ensures.exact (w.splittings-is ∙ w.min-splittings.ensures)
  | in_default w ↦ absurd
      (counted_there c.requires _ c.loop-i-test.true (sym w.in_default.is ∙ c.joint_step.ensures))
]

pub returns : goal.returns
returns c = let e : length c.args.run.now / 3 ≡ c.loop-i.i = omega arith in
    counted_end c.requires _ (rw e c.loop-i.invariant)
