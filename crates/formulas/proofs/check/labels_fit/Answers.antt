-- The first node's label decides.
use mathlib.Core.Path.{sym, ◌∙◌}
use Rattle.formulas.proofs.FormulaLabels.{node_label}
use Rattle.formulas.proofs.check.labels_fit.Goals as goal

pub returns-then-not-has : goal.returns-then-not-has
returns-then-not-has c = let s = c.in-Some.ensures.steps in
    let label = node_label _ _ _ _ s.1.0 (s.1.1 ∙ c.loop-node.invariant.nodes) in
    sym (c.loop-node.invariant.left ∙ label ∙ rw (← c.has.ensures, c.if-not-has.true))

pub loop-node-preserved : goal.loop-node-preserved
loop-node-preserved c = let s = c.in-Some.ensures.steps in
    let label = node_label _ _ _ _ s.1.0 (s.1.1 ∙ c.loop-node.invariant.nodes) in
    record {
      nodes = s.0 ∙ c.loop-node.invariant.nodes;
      left = c.loop-node.invariant.left ∙ label ∙ rw (← c.has.ensures, c.if-not-has.false);
    }
