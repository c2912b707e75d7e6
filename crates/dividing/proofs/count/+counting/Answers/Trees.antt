-- Trees of no operand, one or two, and the modalities left to their own.
use Prim.Native.Nat.{◌+◌, ◌-◌, ◌*◌, ◌/◌}
use native.Mathlib.Omega.{arith}
use mathlib.Core.Path.{refl, ◌∙◌, sym}
use lib.ListN.{get_or, take, length}
use Rattle.hml.specs.Labels.{positive}
use Rattle.labels.proofs.Slices.{rest_length}
use Rattle.halves.specs.Halves.{half_of}
use Rattle.dividing.proofs.Counting as counting
use Rattle.dividing.proofs.Readiness.{connective_ready, second_ready}
use Rattle.formulas.proofs.Operators.{node_room}
use Rattle.formulas.proofs.Operands.{size_read, second_room, and-or, connective_operator}
use Rattle.dividing.proofs.Texts as texts
use Rattle.dividing.specs.Working.{text}
use Rattle.dividing.proofs.count.+counting.Goals as goal

pub count_tree-returns-then-operator-lt2 : goal.count_tree-returns-then-operator-lt2
count_tree-returns-then-operator-lt2 t c = let r = half_of (take c.args.len c.args.run.now) in
    record {
      result_value = counting.count-leaf _ _ _ _ (texts.text-leaf _ _ _ c.args.f.now c.requires.ready.part r
          c.if-operator-lt2.true);
      run_unchanged = refl;
    }

pub count_tree-returns-then-limit-eq0 : goal.count_tree-returns-then-limit-eq0
count_tree-returns-then-limit-eq0 t c = let r = half_of (take c.args.len c.args.run.now) in
    record {
      result_value = counting.count_full (text c.args.labels c.args.table.now c.args.f.now r) _
          (texts.text-some c.args.labels c.args.table.now c.args.f.now r) c.if-limit-eq0.true;
      run_unchanged = refl;
    }

pub count_tree-count_tree-n-requires : goal.count_tree-count_tree-n-requires
count_tree-count_tree-n-requires t c = (
  omega (arith, rest_length 2 c.args.f.now, node_room _ c.requires.ready.part.tree),
  (
    c.requires.sound_table,
    (
      connective_ready _ _ _ _ c.requires.ready
          (connective_operator _ c.requires.ready.part.tree c.if-operator-lt2.false
          (sym c.is_modality.ensures ∙ c.if-is_modality.false)),
      omega (arith, c.requires.limit_bound),
    ),
  ),
)

pub count_tree-returns-then-operator-eq2 : goal.count_tree-returns-then-operator-eq2
count_tree-returns-then-operator-eq2 t c = let r = half_of (take c.args.len c.args.run.now) in
    record {
      result_value = counting.count_over _ _ _ _ _ _ (texts.text-not _ _ _ c.args.f.now c.requires.ready.part r
          c.if-operator-eq2.true)
          (positive _ c.if-limit-eq0.false)
          c.count_tree-n.ensures.result_value;
      run_unchanged = c.count_tree-n.ensures.run_unchanged;
    }

pub count_tree-returns-then-n-limit : goal.count_tree-returns-then-n-limit
count_tree-returns-then-n-limit t c = let r = half_of (take c.args.len c.args.run.now) in
    let o = and-or _ (connective_operator _ c.requires.ready.part.tree c.if-operator-lt2.false
    (sym c.is_modality.ensures ∙ c.if-is_modality.false)) c.if-operator-eq2.false in
    let m = get_or c.args.sizes.now (length c.args.f.now / 2 - 2) 0 in
    record {
      result_value = counting.count_enough _ _ _ _ _ (texts.text-both _ _ _ c.args.f.now c.requires.ready.part r o m
          refl) _ _
          (positive _ c.if-limit-eq0.false) c.count_tree-n.ensures.result_value c.if-n-limit.true;
      run_unchanged = c.count_tree-n.ensures.run_unchanged;
    }

pub count_tree-overflow_sub-size : goal.count_tree-overflow_sub-size
count_tree-overflow_sub-size t c = let o = and-or _
    (connective_operator _ c.requires.ready.part.tree
    c.if-operator-lt2.false
    (sym c.is_modality.ensures
    ∙ c.if-is_modality.false)) c.if-operator-eq2.false in
    omega (arith, size_read _ c.args.f.now c.requires.ready.part o, c.requires.ready.slots)

pub count_tree-offset_bounds-sizes-f : goal.count_tree-offset_bounds-sizes-f
count_tree-offset_bounds-sizes-f t c = let o = and-or _
    (connective_operator _ c.requires.ready.part.tree
    c.if-operator-lt2.false
    (sym c.is_modality.ensures
    ∙ c.if-is_modality.false)) c.if-operator-eq2.false in
    omega (arith, size_read _ c.args.f.now c.requires.ready.part o, c.requires.ready.slots)

pub count_tree-bounds-sizes-f : goal.count_tree-bounds-sizes-f
count_tree-bounds-sizes-f t c = let o = and-or _
    (connective_operator _ c.requires.ready.part.tree
    c.if-operator-lt2.false
    (sym c.is_modality.ensures
    ∙ c.if-is_modality.false)) c.if-operator-eq2.false in
    omega (arith, size_read _ c.args.f.now c.requires.ready.part o, c.requires.ready.slots)

pub count_tree-overflow_mul-second : goal.count_tree-overflow_mul-second
count_tree-overflow_mul-second t c = let o = and-or _
    (connective_operator _ c.requires.ready.part.tree
    c.if-operator-lt2.false
    (sym c.is_modality.ensures
    ∙ c.if-is_modality.false)) c.if-operator-eq2.false in
    let m = get_or c.args.sizes.now (length c.args.f.now / 2 - 2) 0 in
    omega (arith, second_room _ c.args.f.now c.requires.ready.part o m refl, c.well_formed)

pub count_tree-overflow_add-second : goal.count_tree-overflow_add-second
count_tree-overflow_add-second t c = let o = and-or _
    (connective_operator _ c.requires.ready.part.tree
    c.if-operator-lt2.false
    (sym c.is_modality.ensures
    ∙ c.if-is_modality.false)) c.if-operator-eq2.false in
    let m = get_or c.args.sizes.now (length c.args.f.now / 2 - 2) 0 in
    omega (arith, second_room _ c.args.f.now c.requires.ready.part o m refl, c.well_formed)

pub count_tree-slice_bounds-second-count : goal.count_tree-slice_bounds-second-count
count_tree-slice_bounds-second-count t c = let o = and-or _ (connective_operator _ c.requires.ready.part.tree
    c.if-operator-lt2.false
    (sym c.is_modality.ensures ∙ c.if-is_modality.false)) c.if-operator-eq2.false in
    let m = get_or c.args.sizes.now (length c.args.f.now / 2 - 2) 0 in
    second_room _ c.args.f.now c.requires.ready.part o m refl

pub count_tree-slice_bounds-second-start : goal.count_tree-slice_bounds-second-start
count_tree-slice_bounds-second-start t c = let o = and-or _ (connective_operator _ c.requires.ready.part.tree
    c.if-operator-lt2.false
    (sym c.is_modality.ensures ∙ c.if-is_modality.false)) c.if-operator-eq2.false in
    let m = get_or c.args.sizes.now (length c.args.f.now / 2 - 2) 0 in
    second_room _ c.args.f.now c.requires.ready.part o m refl

pub count_tree-count_tree-m-requires : goal.count_tree-count_tree-m-requires
count_tree-count_tree-m-requires t c = let o = and-or _
    (connective_operator _ c.requires.ready.part.tree
    c.if-operator-lt2.false
    (sym c.is_modality.ensures
    ∙ c.if-is_modality.false))
    c.if-operator-eq2.false in
    let m = get_or c.args.sizes.now (length c.args.f.now / 2 - 2) 0 in (
      omega (arith, rest_length (2 * m + 2) c.args.f.now, second_room _ c.args.f.now c.requires.ready.part o m refl),
      (
        c.requires.sound_table,
        (
          rw c.count_tree-n.ensures.run_unchanged (second_ready _ _ _ _ c.requires.ready o m refl),
          omega (arith, c.requires.limit_bound),
        ),
      ),
    )

pub count_tree-returns : goal.count_tree-returns
count_tree-returns t c = let r = half_of (take c.args.len c.args.run.now) in
    let o = and-or _ (connective_operator _ c.requires.ready.part.tree c.if-operator-lt2.false
    (sym c.is_modality.ensures ∙ c.if-is_modality.false)) c.if-operator-eq2.false in
    let m = get_or c.args.sizes.now (length c.args.f.now / 2 - 2) 0 in
    record {
      result_value = counting.count-both _ _ _ _ _ (texts.text-both _ _ _ c.args.f.now c.requires.ready.part r o m refl)
          _ _ _ c.count_tree-n.ensures.result_value
          (counting.count_left _ _ _ _ _ (texts.text-both _ _ _ c.args.f.now c.requires.ready.part r o m refl) _ _
          (positive _ c.if-limit-eq0.false) c.count_tree-n.ensures.result_value c.if-n-limit.false)
          (rw c.count_tree-n.ensures.run_unchanged at c.count_tree-m.ensures.result_value);
      run_unchanged = c.count_tree-m.ensures.run_unchanged ∙ c.count_tree-n.ensures.run_unchanged;
    }
