-- "Not" by "not", then true or false.
use native.Mathlib.Omega.{arith}
use mathlib.Core.Path.{sym, ◌∙◌}
use Rattle.verdict.proofs.Operands.{some_node}
use Rattle.verdict.proofs.Going.{turning_on, turning_top, turning_bottom}
use Rattle.verdict.proofs.never.fails_everywhere.Goals as goal

pub overflow_sub-nodes : goal.overflow_sub-nodes
overflow_sub-nodes c = some_node _ _ c.loop-even.invariant.tree

pub loop-even-smaller : goal.loop-even-smaller
loop-even-smaller c = omega (arith, some_node _ _ c.loop-even.invariant.tree)

pub loop-even-preserved : goal.loop-even-preserved
loop-even-preserved c = turning_on _ _ _ _ c.loop-even.invariant
    (sym c.operator_in.ensures ∙ c.loop-even-test.true)

pub returns-in-0 : goal.returns-in-0
returns-in-0 c odd = turning_top _ _ _ _ c.loop-even.invariant (sym c.operator_in-2.ensures ∙ c.in-0.is) odd

pub returns-in-1 : goal.returns-in-1
returns-in-1 c even = turning_bottom _ _ _ _ c.loop-even.invariant (sym c.operator_in-2.ensures ∙ c.in-1.is) even
