-- "Not", "and", "or" and the back modalities, then true, false and the forward modalities.
use native.Mathlib.Omega.{arith}
use mathlib.Core.Path.{sym, ◌∙◌}
use Rattle.verdict.proofs.Operands as operands
use Rattle.verdict.proofs.Going as going
use Rattle.verdict.proofs.search.+judging.Goals as goal

pub holds-loop-word-preserved-then-operator-eq2 : goal.holds-loop-word-preserved-then-operator-eq2
holds-loop-word-preserved-then-operator-eq2 t c = let two = sym c.operator_in-operator.ensures ∙ c.if-operator-eq2.true
    in
    (c.loop-word.invariant.0, going.going_not _ _ _ _ _ _ _ _ _ _ c.loop-word.invariant.1 two)

pub holds-returns-then-not-steps_back-clause-value : goal.holds-returns-then-not-steps_back-clause-value
holds-returns-then-not-steps_back-clause-value t c = let o = rw c.operator_in-operator.ensures at
    (sym c.is_back.ensures ∙ c.if-is_back.true) in
    let q = rw (c.operator_in-operator.ensures, c.label_in.ensures, c.loop-word.invariant.0) at c.steps_back.ensures in
    going.going_nowhere _ _ _ _ _ _ _ _ _ _ c.loop-word.invariant.1 o _ q c.if-not-steps_back.true

pub holds-overflow_sub-len : goal.holds-overflow_sub-len
holds-overflow_sub-len t c = let o = rw c.operator_in-operator.ensures at (sym c.is_back.ensures ∙ c.if-is_back.true) in
    let q = rw (c.operator_in-operator.ensures, c.label_in.ensures, c.loop-word.invariant.0) at c.steps_back.ensures in
    omega (arith, going.going_long _ _ _ _ _ _ _ _ _ _ c.loop-word.invariant.1 o _ q c.if-not-steps_back.false)

pub holds-loop-word-preserved-then-is_back : goal.holds-loop-word-preserved-then-is_back
holds-loop-word-preserved-then-is_back t c = let o = rw c.operator_in-operator.ensures at
    (sym c.is_back.ensures ∙ c.if-is_back.true) in
    let q = rw (c.operator_in-operator.ensures, c.label_in.ensures, c.loop-word.invariant.0) at c.steps_back.ensures
    in (
      c.loop-word.invariant.0,
      going.going_back _ _ _ _ _ _ _ _ _ _ c.loop-word.invariant.1 o _ q
          c.if-not-steps_back.false,
    )

pub holds-operand-first-requires : goal.holds-operand-first-requires
holds-operand-first-requires t c = let on = rw c.operator_in.ensures at (sym c.goes_on.ensures ∙ c.loop-word-test.true)
    in
    let other = rw c.operator_in-operator.ensures at (sym c.is_back.ensures ∙ c.if-is_back.false) in
    let o = operands.two_operands _ on (λ z. c.if-operator-eq2.false (c.operator_in-operator.ensures ∙ z)) other in (
      omega (arith, c.loop-word.invariant.1.shorter, operands.some_node _ _ c.loop-word.invariant.1.ready.tree),
      (
        c.requires.two_grids,
        rw c.loop-word.invariant.0 (operands.first_ready _ _ _ _ _ c.loop-word.invariant.1.ready
            o),
      ),
    )

pub holds-returns-then-first-operator-clause-value : goal.holds-returns-then-first-operator-clause-value
holds-returns-then-first-operator-clause-value t c = let on = rw c.operator_in.ensures at
    (sym c.goes_on.ensures ∙ c.loop-word-test.true) in
    let other = rw c.operator_in-operator.ensures at (sym c.is_back.ensures ∙ c.if-is_back.false) in
    let o = operands.two_operands _ on (λ z. c.if-operator-eq2.false (c.operator_in-operator.ensures ∙ z)) other in
    let first = rw c.loop-word.invariant.0 at c.operand-first.ensures.value in
    going.going_settled _ _ _ _ _ _ _ _ _ _ c.loop-word.invariant.1 o _ first
    (rw c.operator_in-operator.ensures at c.if-first-operator.true)

pub holds-overflow_sub-nodes-in-loop-word-3 : goal.holds-overflow_sub-nodes-in-loop-word-3
holds-overflow_sub-nodes-in-loop-word-3 t c = let on = rw c.operator_in.ensures at
    (sym c.goes_on.ensures ∙ c.loop-word-test.true) in
    let other = rw c.operator_in-operator.ensures at (sym c.is_back.ensures ∙ c.if-is_back.false) in
    let o = operands.two_operands _ on (λ z. c.if-operator-eq2.false (c.operator_in-operator.ensures ∙ z)) other in
    omega (
      arith,
      operands.second_begins _ _ c.loop-word.invariant.1.ready.tree c.loop-word.invariant.1.ready.skips o,
      c.first_size_in.ensures,
    )

pub holds-loop-word-preserved : goal.holds-loop-word-preserved
holds-loop-word-preserved t c = let on = rw c.operator_in.ensures at (sym c.goes_on.ensures ∙ c.loop-word-test.true) in
    let other = rw c.operator_in-operator.ensures at (sym c.is_back.ensures ∙ c.if-is_back.false) in
    let o = operands.two_operands _ on (λ z. c.if-operator-eq2.false (c.operator_in-operator.ensures ∙ z)) other in
    let first = rw c.loop-word.invariant.0 at c.operand-first.ensures.value in (
      c.operand-first.ensures.run_unchanged ∙ c.loop-word.invariant.0,
      rw c.first_size_in.ensures
          (going.going_on _ _ _ _ _ _ _ _ _ _ c.loop-word.invariant.1 o _ first
          (rw c.operator_in-operator.ensures at c.if-first-operator.false)),
    )

pub operand-returns-in-0-clause-value : goal.operand-returns-in-0-clause-value
operand-returns-in-0-clause-value t c = operands.judged-top _ _ _ _ _ _ c.requires.ready.tree
    (sym c.operator_in.ensures ∙ c.in-0.is)

pub operand-returns-in-1-clause-value : goal.operand-returns-in-1-clause-value
operand-returns-in-1-clause-value t c = operands.judged-bottom _ _ _ _ _ _ c.requires.ready.tree
    (sym c.operator_in.ensures ∙ c.in-1.is)

pub judge-returns-in-0-clause-value : goal.judge-returns-in-0-clause-value
judge-returns-in-0-clause-value t c = operands.judged-top _ _ _ _ _ _ c.requires.ready.tree
    (sym c.operator_in.ensures ∙ c.in-0.is)

pub judge-returns-in-1-clause-value : goal.judge-returns-in-1-clause-value
judge-returns-in-1-clause-value t c = operands.judged-bottom _ _ _ _ _ _ c.requires.ready.tree
    (sym c.operator_in.ensures ∙ c.in-1.is)

pub judge-ahead-requires : goal.judge-ahead-requires
judge-ahead-requires t c = let looks = operands.looks-forward _ c.requires.ready.tree _
    (operands.operator_read _ _ c.requires.ready.tree)
    (λ z. omega (arith, z, c.operator_in.ensures))
    (λ z. omega (arith, z, c.operator_in.ensures)) c.requires.nodes_value in
    (omega arith, (c.requires.two_grids, (c.requires.ready, looks)))
