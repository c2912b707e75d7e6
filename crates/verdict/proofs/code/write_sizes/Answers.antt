-- After n turns the trees of the last n nodes have their sizes.
use native.Mathlib.Omega.{arith}
use Rattle.verdict.proofs.Coding.{sizing_start, sizing_count, sizing_end, sizing_room, sizing_fits, sizing_on}
use Rattle.hml.proofs.Clauses.{to_first_le_n_first_bound, to_sizes_forwards}
use Rattle.verdict.proofs.code.write_sizes.Goals.{then-is_forward, else-is_forward}
use Rattle.verdict.proofs.code.write_sizes.Goals as goal

pub loop-n-init : goal.loop-n-init
loop-n-init c = sizing_start _ c.requires.whole _ c.requires.code_len

pub size-first-requires : goal.size-first-requires
size-first-requires c = to_first_le_n_first_bound (sizing_fits _ c.requires.whole _ _ _ _ c.loop-n.invariant
    c.loop-n-test.true)

pub bounds-code-n : goal.bounds-code-n
bounds-code-n c = omega (arith, sizing_room _ c.requires.whole _ _ _ _ c.loop-n.invariant c.loop-n-test.true)

pub overflow_add-forwards : goal.overflow_add-forwards
overflow_add-forwards c = omega (
  arith,
  sizing_count _ c.requires.whole _ _ _ _ c.loop-n.invariant c.loop-n-test.true,
  sizing_room _ c.requires.whole _ _ _ _ c.loop-n.invariant c.loop-n-test.true,
)

pub loop-n-preserved : goal.loop-n-preserved
loop-n-preserved c = sizing_on _ c.requires.whole _ _ _ _ c.loop-n.invariant c.loop-n-test.true _
    c.size-first.ensures _ (elim c.if-is_forward.branch [
      | then-is_forward w ↦ rw (← c.is_forward.ensures, w.if-is_forward.true) w.forwards-is
      | else-is_forward w ↦ rw (← c.is_forward.ensures, w.if-is_forward.false) (omega (arith, w.forwards-is))
    ])

pub returns : goal.returns
returns c = to_sizes_forwards (sizing_end _ c.requires.whole _ _ _ _ c.loop-n.invariant c.loop-n-test.false)
