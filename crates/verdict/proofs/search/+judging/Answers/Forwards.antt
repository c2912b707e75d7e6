-- A forward modality: an idle; or the left's steps, the right's steps, then the handshakes.
use native.Mathlib.Omega.{arith}
use mathlib.Core.Path.{sym, ◌∙◌}
use borrow.Author.Tests.{eqb-true, eqb-false}
use Rattle.verdict.proofs.Operands as operands
use Rattle.machines.proofs.Buffers.{held-last}
use Rattle.verdict.specs.Working.{Never, targets_of, grid_by, state_by, other_by}
use Rattle.verdict.proofs.Ahead as ahead
use Rattle.verdict.proofs.search.+judging.Goals as goal

pub ahead-stay-requires : goal.ahead-stay-requires
ahead-stay-requires t c = (
  omega (arith, operands.some_node _ _ c.requires.ready.tree),
  (
    c.requires.two_grids,
    operands.idle_ready _ _ _ _ _ c.requires.ready
        (sym c.operator_in.ensures ∙ c.if-operator_in-eq7.true),
  ),
)

pub ahead-returns-then-operator_in-eq7-clause-value : goal.ahead-returns-then-operator_in-eq7-clause-value
ahead-returns-then-operator_in-eq7-clause-value t c =
    let seven = sym c.operator_in.ensures ∙ c.if-operator_in-eq7.true in
    operands.judged-idle _ _ _ _ _ _ c.requires.ready.tree _ _ seven c.stay.ensures.value

pub ahead-forward-requires : goal.ahead-forward-requires
ahead-forward-requires t c = let five = operands.forward_five _ c.requires.nodes_value
    (λ z. c.if-operator_in-eq7.false (c.operator_in.ensures ∙ z)) in
    let ready = operands.forward_ready _ _ _ _ _ c.requires.ready five in (
      omega (arith, operands.some_node _ _ c.requires.ready.tree),
      (c.requires.two_grids, (ready.0, rw c.label_in.ensures ready.1)),
    )

pub ahead-returns-clause-value : goal.ahead-returns-clause-value
ahead-returns-clause-value t c = let five = operands.forward_five _ c.requires.nodes_value
    (λ z. c.if-operator_in-eq7.false (c.operator_in.ensures ∙ z)) in
    operands.judged-forward _ _ _ _ _ _ c.requires.ready.tree _ five
    (rw c.label_in.ensures at c.forward.ensures.value)

pub forward-returns-then-fails_everywhere-clause-value : goal.forward-returns-then-fails_everywhere-clause-value
unfolding Never
forward-returns-then-fails_everywhere-clause-value t c =
    let never = c.fails_everywhere.ensures c.if-fails_everywhere.true in
    ahead.forward-none _ _ _ _ _ _ (λ i. never _ _ _ i)

pub forward-returns-then-try_alone-clause-value : goal.forward-returns-then-try_alone-clause-value
unfolding targets_of grid_by state_by other_by
forward-returns-then-try_alone-clause-value t c = let ends = held-last _ _ c.requires.ready.held in
    ahead.forward-left _ _ _ _ _ _ _ _ c.requires.shown ends _ c.try_alone.ensures.value c.if-try_alone.true

pub forward-returns-then-try_alone-2-clause-value : goal.forward-returns-then-try_alone-2-clause-value
unfolding targets_of grid_by state_by other_by
forward-returns-then-try_alone-2-clause-value t c = let ends = held-last _ _ c.requires.ready.held in
    let second = rw c.try_alone.ensures.run_unchanged at c.try_alone-2.ensures.value in
    ahead.forward-right _ _ _ _ _ _ _ _ c.requires.shown ends _ c.try_alone.ensures.value _ second
    c.if-try_alone.false c.if-try_alone-2.true

pub forward-returns-then-not-is_silent-clause-value : goal.forward-returns-then-not-is_silent-clause-value
unfolding targets_of grid_by state_by other_by
forward-returns-then-not-is_silent-clause-value t c = let ends = held-last _ _ c.requires.ready.held in
    let second = rw c.try_alone.ensures.run_unchanged at c.try_alone-2.ensures.value in
    ahead.forward_loud _ _ _ _ _ _ _ _ c.requires.shown ends _ c.try_alone.ensures.value _ second
    c.if-try_alone.false c.if-try_alone-2.false
    (eqb-false _ _ (sym c.is_silent.ensures ∙ c.if-not-is_silent.true))

pub forward-returns-clause-value : goal.forward-returns-clause-value
unfolding targets_of grid_by state_by other_by
forward-returns-clause-value t c = let ends = held-last _ _ c.requires.ready.held in
    let second = rw c.try_alone.ensures.run_unchanged at c.try_alone-2.ensures.value in
    ahead.forward-shaken _ _ _ _ _ _ _ _ c.requires.shown ends _ c.try_alone.ensures.value _ second
    c.if-try_alone.false c.if-try_alone-2.false
    (eqb-true _ _ (sym c.is_silent.ensures ∙ c.if-not-is_silent.false)) _
    (rw (c.try_alone-2.ensures.run_unchanged, c.try_alone.ensures.run_unchanged) at c.try_both.ensures.value)

pub try_alone-returns-clause-value : goal.try_alone-returns-clause-value
try_alone-returns-clause-value t c =
    rw (c.last_states-states.ensures.other, c.rows_from.ensures.exact, c.last_states-states.ensures.mover)
    at c.try_moves.ensures.value

pub try_both-returns-clause-value : goal.try_both-returns-clause-value
unfolding grid_by
try_both-returns-clause-value t c = rw c.rows_from-rows.ensures.exact at c.try_handshakes.ensures.value
