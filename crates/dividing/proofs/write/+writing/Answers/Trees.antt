-- Trees of no operand, one or two, and the modalities left to their own.
use Prim.Native.Nat.{◌+◌, ◌-◌, ◌*◌, ◌/◌, ◌≤◌}
use native.Mathlib.Omega.{arith}
use mathlib.Core.Path.{refl, ◌∙◌, sym}
use mathlib.Core.List.{[], ◌∷◌, ◌++◌}
use lib.ListN.{get_or, take, length}
use Rattle.labels.proofs.Slices.{rest_length, rest}
use Rattle.halves.specs.Halves.{half_of}
use Rattle.dividing.specs.Working.{text}
use Rattle.labels.proofs.Outputs.{front_length}
use Rattle.dividing.proofs.Pieces.{joined, two_pieces, second_fits, one_piece}
use Rattle.formulas.proofs.Operators.{node_room}
use Rattle.dividing.proofs.Readiness.{connective_ready, second_ready}
use Rattle.formulas.proofs.Operands.{size_read, second_room, and-or, connective_operator}
use Rattle.dividing.proofs.Texts as texts
use Rattle.dividing.proofs.write.+writing.Goals as goal

pub write_tree-put_node-requires : goal.write_tree-put_node-requires
write_tree-put_node-requires t c = let r = half_of (take c.args.len c.args.run.now) in
    omega (arith, c.requires.run_in_bounds, texts.text-some c.args.labels c.args.table.now c.args.f.now r)

pub write_tree-returns-then-operator-lt2 : goal.write_tree-returns-then-operator-lt2
write_tree-returns-then-operator-lt2 t c = let r = half_of (take c.args.len c.args.run.now) in
    let p = one_piece _ _ _ _ 2 (texts.text-leaf _ _ _ c.args.f.now c.requires.ready.part r c.if-operator-lt2.true) refl
    c.put_node.ensures in
    record {
      value = p.0;
      out_after = p.1;
      run_unchanged = refl;
    }

pub write_tree-slice_bounds-write_tree-count-2 : goal.write_tree-slice_bounds-write_tree-count-2
write_tree-slice_bounds-write_tree-count-2 t c = let r = half_of (take c.args.len c.args.run.now) in
    omega (
      arith,
      c.requires.run_in_bounds,
      texts.text-some c.args.labels c.args.table.now c.args.f.now r,
      front_length _ _ _ c.put_node.ensures
          (omega (arith, c.requires.run_in_bounds, texts.text-some c.args.labels c.args.table.now c.args.f.now r)),
    )

pub write_tree-slice_bounds-write_tree-start-2 : goal.write_tree-slice_bounds-write_tree-start-2
write_tree-slice_bounds-write_tree-start-2 t c = let r = half_of (take c.args.len c.args.run.now) in
    omega (
      arith,
      c.requires.run_in_bounds,
      texts.text-some c.args.labels c.args.table.now c.args.f.now r,
      front_length _ _ _ c.put_node.ensures
          (omega (arith, c.requires.run_in_bounds, texts.text-some c.args.labels c.args.table.now c.args.f.now r)),
    )

pub write_tree-write_tree-n-requires : goal.write_tree-write_tree-n-requires
write_tree-write_tree-n-requires t c = let r = half_of (take c.args.len c.args.run.now) in
    let i = connective_operator _ c.requires.ready.part.tree c.if-operator-lt2.false
    (sym c.is_modality.ensures
    ∙ c.if-is_modality.false) in
    let j = joined (get_or c.args.f.now 0 0 ∷ 0 ∷ []) (text c.args.labels c.args.table.now (rest 2 c.args.f.now) r) in
    let inside : length ((get_or c.args.f.now 0 0 ∷ 0 ∷ []) ++ text c.args.labels c.args.table.now (rest 2 c.args.f.now)
    r)
    ≤ length c.args.out.now =
    omega (
      arith,
      texts.text_connective c.args.labels c.args.table.now _ c.args.f.now c.requires.ready.part r i,
      c.requires.run_in_bounds,
    ) in (
      omega (arith, rest_length 2 c.args.f.now, node_room _ c.requires.ready.part.tree),
      (
        c.requires.sound_table,
        (
          connective_ready _ _ _ _ c.requires.ready i,
          second_fits _ _ _ _ j inside _ _ 2 refl refl
              c.put_node.ensures,
        ),
      ),
    )

pub write_tree-overflow_add-at : goal.write_tree-overflow_add-at
write_tree-overflow_add-at t c = let r = half_of (take c.args.len c.args.run.now) in
    let i = connective_operator _ c.requires.ready.part.tree c.if-operator-lt2.false
    (sym c.is_modality.ensures
    ∙ c.if-is_modality.false) in
    let j = joined (get_or c.args.f.now 0 0 ∷ 0 ∷ []) (text c.args.labels c.args.table.now (rest 2 c.args.f.now) r) in
    let inside : length ((get_or c.args.f.now 0 0 ∷ 0 ∷ []) ++ text c.args.labels c.args.table.now (rest 2 c.args.f.now)
    r)
    ≤ length c.args.out.now =
    omega (
      arith,
      texts.text_connective c.args.labels c.args.table.now _ c.args.f.now c.requires.ready.part r i,
      c.requires.run_in_bounds,
    ) in
    omega (
      arith,
      c.write_tree-n.ensures.value,
      second_fits _ _ _ _ j inside _ _ 2 refl refl
          c.put_node.ensures,
      c.well_formed,
    )

pub write_tree-returns-then-operator-eq2 : goal.write_tree-returns-then-operator-eq2
write_tree-returns-then-operator-eq2 t c = let r = half_of (take c.args.len c.args.run.now) in
    let p = two_pieces _ _ _ _ _ _ 2 _ (texts.text-not _ _ _ c.args.f.now c.requires.ready.part r
    c.if-operator-eq2.true) refl c.put_node.ensures
    c.write_tree-n.ensures.value c.write_tree-n.ensures.out_after in
    record {
      value = p.0;
      out_after = p.1;
      run_unchanged = c.write_tree-n.ensures.run_unchanged;
    }

pub write_tree-overflow_sub-size : goal.write_tree-overflow_sub-size
write_tree-overflow_sub-size t c = let o = and-or _
    (connective_operator _ c.requires.ready.part.tree c.if-operator-lt2.false
    (sym c.is_modality.ensures
    ∙ c.if-is_modality.false))
    c.if-operator-eq2.false in
    omega (arith, size_read _ c.args.f.now c.requires.ready.part o, c.requires.ready.slots)

pub write_tree-offset_bounds-sizes-f : goal.write_tree-offset_bounds-sizes-f
write_tree-offset_bounds-sizes-f t c = let o = and-or _
    (connective_operator _ c.requires.ready.part.tree c.if-operator-lt2.false
    (sym c.is_modality.ensures
    ∙ c.if-is_modality.false))
    c.if-operator-eq2.false in
    omega (arith, size_read _ c.args.f.now c.requires.ready.part o, c.requires.ready.slots)

pub write_tree-bounds-sizes-f : goal.write_tree-bounds-sizes-f
write_tree-bounds-sizes-f t c = let o = and-or _
    (connective_operator _ c.requires.ready.part.tree c.if-operator-lt2.false
    (sym c.is_modality.ensures
    ∙ c.if-is_modality.false))
    c.if-operator-eq2.false in
    omega (arith, size_read _ c.args.f.now c.requires.ready.part o, c.requires.ready.slots)

pub write_tree-overflow_mul-second : goal.write_tree-overflow_mul-second
write_tree-overflow_mul-second t c = let o = and-or _
    (connective_operator _ c.requires.ready.part.tree
    c.if-operator-lt2.false
    (sym c.is_modality.ensures
    ∙ c.if-is_modality.false)) c.if-operator-eq2.false in
    let m = get_or c.args.sizes.now (length c.args.f.now / 2 - 2) 0 in
    omega (arith, second_room _ c.args.f.now c.requires.ready.part o m refl, c.well_formed)

pub write_tree-overflow_add-second : goal.write_tree-overflow_add-second
write_tree-overflow_add-second t c = let o = and-or _
    (connective_operator _ c.requires.ready.part.tree
    c.if-operator-lt2.false
    (sym c.is_modality.ensures
    ∙ c.if-is_modality.false)) c.if-operator-eq2.false in
    let m = get_or c.args.sizes.now (length c.args.f.now / 2 - 2) 0 in
    omega (arith, second_room _ c.args.f.now c.requires.ready.part o m refl, c.well_formed)

pub write_tree-slice_bounds-second-count : goal.write_tree-slice_bounds-second-count
write_tree-slice_bounds-second-count t c = let o = and-or _ (connective_operator _ c.requires.ready.part.tree
    c.if-operator-lt2.false
    (sym c.is_modality.ensures ∙ c.if-is_modality.false)) c.if-operator-eq2.false in
    let m = get_or c.args.sizes.now (length c.args.f.now / 2 - 2) 0 in
    second_room _ c.args.f.now c.requires.ready.part o m refl

pub write_tree-slice_bounds-second-start : goal.write_tree-slice_bounds-second-start
write_tree-slice_bounds-second-start t c = let o = and-or _ (connective_operator _ c.requires.ready.part.tree
    c.if-operator-lt2.false
    (sym c.is_modality.ensures ∙ c.if-is_modality.false)) c.if-operator-eq2.false in
    let m = get_or c.args.sizes.now (length c.args.f.now / 2 - 2) 0 in
    second_room _ c.args.f.now c.requires.ready.part o m refl

pub write_tree-slice_bounds-write_tree-count-3 : goal.write_tree-slice_bounds-write_tree-count-3
write_tree-slice_bounds-write_tree-count-3 t c = let r = half_of (take c.args.len c.args.run.now) in
    let i = connective_operator _ c.requires.ready.part.tree
    c.if-operator-lt2.false
    (sym c.is_modality.ensures
    ∙ c.if-is_modality.false) in
    let j = joined (get_or c.args.f.now 0 0 ∷ 0 ∷ []) (text c.args.labels c.args.table.now (rest 2 c.args.f.now) r) in
    let inside : length ((get_or c.args.f.now 0 0 ∷ 0 ∷ []) ++ text c.args.labels c.args.table.now (rest 2 c.args.f.now)
    r)
    ≤ length c.args.out.now =
    omega (
      arith,
      texts.text_connective c.args.labels c.args.table.now _ c.args.f.now c.requires.ready.part r i,
      c.requires.run_in_bounds,
    ) in
    let w = two_pieces _ _ _ _ _ _ 2 _ j refl
    c.put_node.ensures c.write_tree-n.ensures.value c.write_tree-n.ensures.out_after in
    omega (arith, w.0, inside, front_length _ _ _ w.1 inside)

pub write_tree-slice_bounds-write_tree-start-3 : goal.write_tree-slice_bounds-write_tree-start-3
write_tree-slice_bounds-write_tree-start-3 t c = let r = half_of (take c.args.len c.args.run.now) in
    let i = connective_operator _ c.requires.ready.part.tree
    c.if-operator-lt2.false
    (sym c.is_modality.ensures
    ∙ c.if-is_modality.false) in
    let j = joined (get_or c.args.f.now 0 0 ∷ 0 ∷ []) (text c.args.labels c.args.table.now (rest 2 c.args.f.now) r) in
    let inside : length ((get_or c.args.f.now 0 0 ∷ 0 ∷ []) ++ text c.args.labels c.args.table.now (rest 2 c.args.f.now)
    r)
    ≤ length c.args.out.now =
    omega (
      arith,
      texts.text_connective c.args.labels c.args.table.now _ c.args.f.now c.requires.ready.part r i,
      c.requires.run_in_bounds,
    ) in
    let w = two_pieces _ _ _ _ _ _ 2 _ j refl
    c.put_node.ensures c.write_tree-n.ensures.value c.write_tree-n.ensures.out_after in
    omega (arith, w.0, inside, front_length _ _ _ w.1 inside)

pub write_tree-write_tree-m-requires : goal.write_tree-write_tree-m-requires
write_tree-write_tree-m-requires t c = let r = half_of (take c.args.len c.args.run.now) in
    let j = joined (get_or c.args.f.now 0 0 ∷ 0 ∷ []) (text c.args.labels c.args.table.now (rest 2 c.args.f.now) r) in
    let o = and-or _
    (connective_operator _ c.requires.ready.part.tree
    c.if-operator-lt2.false
    (sym c.is_modality.ensures
    ∙ c.if-is_modality.false)) c.if-operator-eq2.false in
    let m = get_or c.args.sizes.now (length c.args.f.now / 2 - 2) 0 in
    let w = two_pieces _ _ _ _ _ _ 2 _ j refl
    c.put_node.ensures c.write_tree-n.ensures.value c.write_tree-n.ensures.out_after in (
      omega (arith, rest_length (2 * m + 2) c.args.f.now, second_room _ c.args.f.now c.requires.ready.part o m refl),
      (
        c.requires.sound_table,
        rw c.write_tree-n.ensures.run_unchanged (
          second_ready _ _ _ _ c.requires.ready o m refl,
          second_fits _ _ _ _ (texts.text-both _ _ _ c.args.f.now c.requires.ready.part r o m refl)
              c.requires.run_in_bounds _ _ _ refl w.0 w.1,
        ),
      ),
    )

pub write_tree-overflow_add-result : goal.write_tree-overflow_add-result
write_tree-overflow_add-result t c = let r = half_of (take c.args.len c.args.run.now) in
    let i = connective_operator _ c.requires.ready.part.tree
    c.if-operator-lt2.false
    (sym c.is_modality.ensures
    ∙ c.if-is_modality.false) in
    let j = joined (get_or c.args.f.now 0 0 ∷ 0 ∷ []) (text c.args.labels c.args.table.now (rest 2 c.args.f.now) r) in
    let inside : length ((get_or c.args.f.now 0 0 ∷ 0 ∷ []) ++ text c.args.labels c.args.table.now (rest 2 c.args.f.now)
    r)
    ≤ length c.args.out.now =
    omega (
      arith,
      texts.text_connective c.args.labels c.args.table.now _ c.args.f.now c.requires.ready.part r i,
      c.requires.run_in_bounds,
    ) in
    let o = and-or _
    (connective_operator _ c.requires.ready.part.tree
    c.if-operator-lt2.false
    (sym c.is_modality.ensures
    ∙ c.if-is_modality.false))
    c.if-operator-eq2.false in
    let m = get_or c.args.sizes.now (length c.args.f.now / 2 - 2) 0 in
    let w = two_pieces _ _ _ _ _ _ 2 _ j refl
    c.put_node.ensures
    c.write_tree-n.ensures.value
    c.write_tree-n.ensures.out_after in
    omega (
      arith,
      w.0,
      inside,
      rw c.write_tree-n.ensures.run_unchanged
          at c.write_tree-m.ensures.value,
      second_fits _ _ _ _ (texts.text-both _ _ _ c.args.f.now c.requires.ready.part r o m refl) c.requires.run_in_bounds
          _ _ _ refl w.0 w.1,
      c.well_formed,
    )

pub write_tree-returns : goal.write_tree-returns
write_tree-returns t c = let r = half_of (take c.args.len c.args.run.now) in
    let j = joined (get_or c.args.f.now 0 0 ∷ 0 ∷ []) (text c.args.labels c.args.table.now (rest 2 c.args.f.now) r) in
    let o = and-or _ (connective_operator _ c.requires.ready.part.tree c.if-operator-lt2.false
    (sym c.is_modality.ensures ∙ c.if-is_modality.false)) c.if-operator-eq2.false in
    let m = get_or c.args.sizes.now (length c.args.f.now / 2 - 2) 0 in
    let w = two_pieces _ _ _ _ _ _ 2 _ j refl c.put_node.ensures c.write_tree-n.ensures.value
    c.write_tree-n.ensures.out_after in
    let p = two_pieces _ _ _ _ _ _ _ _ (texts.text-both _ _ _ c.args.f.now c.requires.ready.part r o m refl) w.0 w.1
    (rw c.write_tree-n.ensures.run_unchanged at c.write_tree-m.ensures.value)
    (rw c.write_tree-n.ensures.run_unchanged at c.write_tree-m.ensures.out_after) in
    record {
      value = p.0;
      out_after = p.1;
      run_unchanged = c.write_tree-m.ensures.run_unchanged ∙ c.write_tree-n.ensures.run_unchanged;
    }
