-- Back modalities by the last step, and the forward ones left to their disjuncts.
use native.Mathlib.Omega.{arith}
use mathlib.Core.Path.{refl, ◌∙◌, sym}
use lib.ListN.{take}
use Rattle.labels.proofs.Slices.{rest_length}
use Rattle.halves.specs.Halves.{half_of}
use Rattle.labels.proofs.Outputs.{front_length}
use Rattle.dividing.proofs.Pieces.{two_pieces, second_fits, one_piece, node_over_length}
use Rattle.formulas.proofs.Operators.{node_room}
use Rattle.dividing.proofs.Readiness.{back_ready}
use Rattle.formulas.proofs.Operands.{back-operator}
use Rattle.dividing.proofs.Texts as texts
use Rattle.dividing.proofs.write.+writing.Goals as goal

pub write_modal-put_node-requires : goal.write_modal-put_node-requires
write_modal-put_node-requires t c = let some = texts.text-some c.args.labels c.args.table.now c.args.f.now
    (half_of (take c.args.len c.args.run.now)) in
    omega (arith, c.requires.run_in_bounds, some)

pub write_modal-overflow_sub-len : goal.write_modal-overflow_sub-len
write_modal-overflow_sub-len t c = let o = back-operator _ c.requires.f_value
    (sym c.is_forward.ensures ∙ c.if-is_forward.false) in
    let read = sym c.in-Some.is ∙ c.past_node.ensures in
    omega (
      arith,
      texts.past_step _ c.args.table.now _ c.args.f.now c.requires.ready.part c.args.run.now c.args.len
          c.requires.ready.held o _
          read,
    )

pub write_modal-slice_bounds-write_tree-count-in-Some : goal.write_modal-slice_bounds-write_tree-count-in-Some
write_modal-slice_bounds-write_tree-count-in-Some t c = let some = texts.text-some c.args.labels c.args.table.now
    c.args.f.now
    (half_of (take c.args.len c.args.run.now)) in
    let kept = front_length _ _ _ c.put_node.ensures (omega (arith, c.requires.run_in_bounds, some)) in
    omega (arith, c.requires.run_in_bounds, some, kept)

pub write_modal-slice_bounds-write_tree-start-in-Some : goal.write_modal-slice_bounds-write_tree-start-in-Some
write_modal-slice_bounds-write_tree-start-in-Some t c = let some = texts.text-some c.args.labels c.args.table.now
    c.args.f.now
    (half_of (take c.args.len c.args.run.now)) in
    let kept = front_length _ _ _ c.put_node.ensures (omega (arith, c.requires.run_in_bounds, some)) in
    omega (arith, c.requires.run_in_bounds, some, kept)

pub write_modal-write_tree-n-requires : goal.write_modal-write_tree-n-requires
write_modal-write_tree-n-requires t c = let o = back-operator _ c.requires.f_value
    (sym c.is_forward.ensures ∙ c.if-is_forward.false) in
    let read = sym c.in-Some.is ∙ c.past_node.ensures in
    let over = texts.past_over _ _ _ c.args.f.now c.requires.ready.part c.args.run.now c.args.len c.requires.ready.held
    o _ read in
    let l = texts.past_step _ c.args.table.now _ c.args.f.now c.requires.ready.part c.args.run.now c.args.len
    c.requires.ready.held o _
    read in
    let fits = second_fits _ _ _ _ over c.requires.run_in_bounds _ _ 2 refl refl c.put_node.ensures in (
      omega (arith, rest_length 2 c.args.f.now, node_room _ c.requires.ready.part.tree),
      (c.requires.sound_table, (back_ready _ _ _ _ c.requires.ready o l, fits)),
    )

pub write_modal-overflow_add-result : goal.write_modal-overflow_add-result
write_modal-overflow_add-result t c = let o = back-operator _ c.requires.f_value
    (sym c.is_forward.ensures ∙ c.if-is_forward.false) in
    let read = sym c.in-Some.is ∙ c.past_node.ensures in
    let over = texts.past_over _ _ _ c.args.f.now c.requires.ready.part c.args.run.now c.args.len c.requires.ready.held
    o _ read in
    let whole = node_over_length _ _ _ _ over c.write_tree-n.ensures.value in
    omega (arith, whole, c.requires.run_in_bounds, c.well_formed)

pub write_modal-put_node-requires-in-None : goal.write_modal-put_node-requires-in-None
write_modal-put_node-requires-in-None t c = let some = texts.text-some c.args.labels c.args.table.now c.args.f.now
    (half_of (take c.args.len c.args.run.now)) in
    omega (arith, c.requires.run_in_bounds, some)

pub write_modal-returns-in-Some : goal.write_modal-returns-in-Some
write_modal-returns-in-Some t c = let o = back-operator _ c.requires.f_value
    (sym c.is_forward.ensures ∙ c.if-is_forward.false) in
    let read = sym c.in-Some.is ∙ c.past_node.ensures in
    let over = texts.past_over _ _ _ c.args.f.now c.requires.ready.part c.args.run.now c.args.len c.requires.ready.held
    o _ read in
    let p = two_pieces _ _ _ _ _ _ 2 _ over refl c.put_node.ensures c.write_tree-n.ensures.value
    c.write_tree-n.ensures.out_after in
    record {
      value = p.0;
      out_after = p.1;
      run_unchanged = c.write_tree-n.ensures.run_unchanged;
    }

pub write_modal-returns-in-None : goal.write_modal-returns-in-None
write_modal-returns-in-None t c = let o = back-operator _ c.requires.f_value
    (sym c.is_forward.ensures ∙ c.if-is_forward.false) in
    let read = sym c.in-None.is ∙ c.past_node.ensures in
    let fails = texts.past_fails _ _ _ c.args.f.now c.requires.ready.part c.args.run.now c.args.len
    c.requires.ready.held o read in
    let p = one_piece _ _ _ _ 2 fails refl c.put_node-in-None.ensures in
    record {
      value = p.0;
      out_after = p.1;
      run_unchanged = refl;
    }
