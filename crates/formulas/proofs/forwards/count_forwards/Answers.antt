-- The first node is counted or not, and those behind it are left.
use native.Mathlib.Omega.{arith}
use mathlib.Core.Path.{sym, ◌∙◌}
use Rattle.formulas.proofs.ForwardCount.{node_forwards, forwards_few}
use Rattle.formulas.proofs.forwards.count_forwards.Goals as goal

pub overflow_add-count : goal.overflow_add-count
overflow_add-count c = let s = c.in-Some.ensures.steps in
    let first = node_forwards _ _ _ s.1.0 (s.1.1 ∙ c.loop-node.invariant.nodes) in
    omega (
      arith,
      rw (sym c.is_forward.ensures ∙ c.if-is_forward.true) at first,
      c.loop-node.invariant.counted,
      forwards_few c.args.f.now,
      c.well_formed,
    )

pub loop-node-preserved-then-is_forward : goal.loop-node-preserved-then-is_forward
loop-node-preserved-then-is_forward c = let s = c.in-Some.ensures.steps in
    let first = node_forwards _ _ _ s.1.0 (s.1.1 ∙ c.loop-node.invariant.nodes) in
    record {
      nodes = s.0 ∙ c.loop-node.invariant.nodes;
      counted = omega (arith, rw (sym c.is_forward.ensures ∙ c.if-is_forward.true) at first, c.loop-node.invariant.counted);
    }

pub loop-node-preserved : goal.loop-node-preserved
loop-node-preserved c = let s = c.in-Some.ensures.steps in
    let first = node_forwards _ _ _ s.1.0 (s.1.1 ∙ c.loop-node.invariant.nodes) in
    record {
      nodes = s.0 ∙ c.loop-node.invariant.nodes;
      counted = omega (arith, rw (sym c.is_forward.ensures ∙ c.if-is_forward.false) at first, c.loop-node.invariant.counted);
    }
