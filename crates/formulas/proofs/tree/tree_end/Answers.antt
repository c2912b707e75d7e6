-- The nodes from `at` on decide where the tree ends, with `due` trees due.
use native.Mathlib.Omega.{arith}
use mathlib.Core.Path.{sym, ◌∙◌}
use Rattle.formulas.proofs.Trees.{seek_end, seek_short, seek_bad, seek_on, operands-few}
use Rattle.formulas.proofs.tree.tree_end.Goals as goal

pub returns-then-f-at-lt2 : goal.returns-then-f-at-lt2
returns-then-f-at-lt2 c = seek_short _ _ _ c.loop-due.invariant c.loop-due-test.true c.if-f-at-lt2.true

pub returns-in_err-due : goal.returns-in_err-due
returns-in_err-due c = c.from_residual.ensures ∙ seek_bad _ _ _ c.loop-due.invariant c.loop-due-test.true
    c.if-f-at-lt2.false (sym c.in_err-due.was ∙ c.read_node.ensures)

pub overflow_add-due : goal.overflow_add-due
overflow_add-due c = omega (arith, operands-few _ _ _ (sym c.in_ok-due.was ∙ c.read_node.ensures))

pub loop-due-preserved : goal.loop-due-preserved
loop-due-preserved c = seek_on _ _ _ c.loop-due.invariant c.loop-due-test.true c.if-f-at-lt2.false _
    (sym c.in_ok-due.was ∙ c.read_node.ensures)

pub returns : goal.returns
returns c = seek_end _ _ _ c.loop-due.invariant c.loop-due-test.false
