-- Back modalities by the last step, and the forward ones left to their disjuncts.
use native.Mathlib.Omega.{arith}
use mathlib.Core.Path.{refl, ◌∙◌, sym}
use Rattle.labels.proofs.Slices.{rest_length}
use Rattle.dividing.proofs.Counting as counting
use Rattle.dividing.proofs.Readiness.{back_ready}
use Rattle.formulas.proofs.Operators.{node_room}
use Rattle.formulas.proofs.Operands.{back-operator}
use Rattle.dividing.proofs.Texts as texts
use Rattle.dividing.proofs.count.+counting.Goals as goal

pub count_modal-overflow_sub-len : goal.count_modal-overflow_sub-len
count_modal-overflow_sub-len t c = let o = back-operator _ c.requires.le_limit.2
    (sym c.is_forward.ensures ∙ c.if-is_forward.false) in
    let read = sym c.in-Some.is ∙ c.past_node.ensures in
    omega (
      arith,
      texts.past_step _ c.args.table.now _ c.args.f.now c.requires.ready.part c.args.run.now c.args.len
          c.requires.ready.held o _
          read,
    )

pub count_modal-count_tree-n-requires : goal.count_modal-count_tree-n-requires
count_modal-count_tree-n-requires t c = let o = back-operator _ c.requires.le_limit.2
    (sym c.is_forward.ensures ∙ c.if-is_forward.false) in
    let read = sym c.in-Some.is ∙ c.past_node.ensures in
    let l = texts.past_step _ c.args.table.now _ c.args.f.now c.requires.ready.part c.args.run.now c.args.len
    c.requires.ready.held o _
    read in (
      omega (arith, rest_length 2 c.args.f.now, node_room _ c.requires.ready.part.tree),
      (c.requires.sound_table, (back_ready _ _ _ _ c.requires.ready o l, omega (arith, c.requires.le_limit.1))),
    )

pub count_modal-returns-in-Some : goal.count_modal-returns-in-Some
count_modal-returns-in-Some t c = let o = back-operator _ c.requires.le_limit.2
    (sym c.is_forward.ensures ∙ c.if-is_forward.false) in
    let read = sym c.in-Some.is ∙ c.past_node.ensures in
    let over = texts.past_over _ _ _ c.args.f.now c.requires.ready.part c.args.run.now c.args.len c.requires.ready.held
    o _ read in
    record {
      result_value = counting.count_over _ _ _ _ _ _ over c.requires.le_limit.0 c.count_tree-n.ensures.result_value;
      run_unchanged = c.count_tree-n.ensures.run_unchanged;
    }

pub count_modal-returns-in-None : goal.count_modal-returns-in-None
count_modal-returns-in-None t c = let o = back-operator _ c.requires.le_limit.2
    (sym c.is_forward.ensures ∙ c.if-is_forward.false) in
    let read = sym c.in-None.is ∙ c.past_node.ensures in
    record {
      result_value = counting.count-leaf _ _ _ _
          (texts.past_fails _ _ _ c.args.f.now c.requires.ready.part c.args.run.now c.args.len c.requires.ready.held o
          read);
      run_unchanged = refl;
    }
