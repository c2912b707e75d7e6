-- Disjuncts joined by "or", each in the rest of the output behind the one before it.
use Prim.Native.Nat.{◌-◌}
use native.Mathlib.Omega.{arith}
use mathlib.Core.Path.{refl, ◌∙◌}
use mathlib.Core.List.{[], ◌∷◌}
use lib.ListN.{get_or, take}
use Rattle.labels.proofs.Slices.{rest_length}
use Rattle.halves.specs.Halves.{half_of}
use Rattle.dividing.specs.Working.{first_text}
use Rattle.labels.proofs.Outputs.{front_length}
use Rattle.dividing.proofs.Pieces.{joined, two_pieces, first_fits, second_fits}
use Rattle.dividing.proofs.Forwards.{listed_rest, texts-last, texts-more}
use Rattle.dividing.proofs.write.+writing.Goals as goal

pub write_disjuncts-write_disjunct-requires : goal.write_disjuncts-write_disjunct-requires
write_disjuncts-write_disjunct-requires t c = let r = half_of (take c.args.len c.args.run.now) in
    let q = get_or c.args.run.now (c.args.len - 1) 0 in (
      omega arith,
      (
        c.requires.sound_table,
        (
          c.requires.ready,
          (
            c.requires.listed,
            rw (texts-last q c.args.labels c.args.table.now c.args.f.now r c.args.disjuncts.now
                c.requires.listed c.if-disjuncts-lt8.true) c.requires.disjuncts_in_bounds,
          ),
        ),
      ),
    )

pub write_disjuncts-returns-then-disjuncts-lt8 : goal.write_disjuncts-returns-then-disjuncts-lt8
write_disjuncts-returns-then-disjuncts-lt8 t c = let r = half_of (take c.args.len c.args.run.now) in
    let q = get_or c.args.run.now (c.args.len - 1) 0 in
    rw (texts-last q c.args.labels c.args.table.now c.args.f.now r c.args.disjuncts.now c.requires.listed
    c.if-disjuncts-lt8.true) at c.write_disjunct.ensures

pub write_disjuncts-put_node-requires : goal.write_disjuncts-put_node-requires
write_disjuncts-put_node-requires t c = let r = half_of (take c.args.len c.args.run.now) in
    let q = get_or c.args.run.now (c.args.len - 1) 0 in
    let more = texts-more q c.args.labels c.args.table.now c.args.f.now r c.args.disjuncts.now c.requires.listed
    c.if-disjuncts-lt8.false in
    omega (arith, first_fits _ _ _ _ more c.requires.disjuncts_in_bounds)

pub write_disjuncts-slice_bounds-write_disjunct-count : goal.write_disjuncts-slice_bounds-write_disjunct-count
write_disjuncts-slice_bounds-write_disjunct-count t c = let r = half_of (take c.args.len c.args.run.now) in
    let q = get_or c.args.run.now (c.args.len - 1) 0 in
    let more = texts-more q c.args.labels c.args.table.now c.args.f.now r c.args.disjuncts.now c.requires.listed
    c.if-disjuncts-lt8.false in
    let inside = first_fits _ _ _ _ more c.requires.disjuncts_in_bounds in
    omega (arith, inside, front_length _ _ _ c.put_node.ensures (omega (arith, inside)))

pub write_disjuncts-slice_bounds-write_disjunct-start : goal.write_disjuncts-slice_bounds-write_disjunct-start
write_disjuncts-slice_bounds-write_disjunct-start t c = let r = half_of (take c.args.len c.args.run.now) in
    let q = get_or c.args.run.now (c.args.len - 1) 0 in
    let more = texts-more q c.args.labels c.args.table.now c.args.f.now r c.args.disjuncts.now c.requires.listed
    c.if-disjuncts-lt8.false in
    let inside = first_fits _ _ _ _ more c.requires.disjuncts_in_bounds in
    omega (arith, inside, front_length _ _ _ c.put_node.ensures (omega (arith, inside)))

pub write_disjuncts-write_disjunct-n-requires : goal.write_disjuncts-write_disjunct-n-requires
write_disjuncts-write_disjunct-n-requires t c = let r = half_of (take c.args.len c.args.run.now) in
    let q = get_or c.args.run.now (c.args.len - 1) 0 in
    let more = texts-more q c.args.labels c.args.table.now c.args.f.now r c.args.disjuncts.now c.requires.listed
    c.if-disjuncts-lt8.false in
    let inside = first_fits _ _ _ _ more c.requires.disjuncts_in_bounds in
    let j = joined (4 ∷ 0 ∷ []) (first_text c.args.labels c.args.table.now c.args.f.now r c.args.disjuncts.now) in (
      omega arith,
      (
        c.requires.sound_table,
        (c.requires.ready, (c.requires.listed, second_fits _ _ _ _ j inside _ _ 2 refl refl c.put_node.ensures)),
      ),
    )

pub write_disjuncts-overflow_add-at : goal.write_disjuncts-overflow_add-at
write_disjuncts-overflow_add-at t c = let r = half_of (take c.args.len c.args.run.now) in
    let q = get_or c.args.run.now (c.args.len - 1) 0 in
    let more = texts-more q c.args.labels c.args.table.now c.args.f.now r c.args.disjuncts.now c.requires.listed
    c.if-disjuncts-lt8.false in
    let inside = first_fits _ _ _ _ more c.requires.disjuncts_in_bounds in
    let j = joined (4 ∷ 0 ∷ []) (first_text c.args.labels c.args.table.now c.args.f.now r c.args.disjuncts.now) in
    omega (
      arith,
      c.write_disjunct-n.ensures.value,
      second_fits _ _ _ _ j inside _ _ 2 refl refl
          c.put_node.ensures,
      c.well_formed,
    )

pub write_disjuncts-slice_bounds-write_disjuncts-count-2 : goal.write_disjuncts-slice_bounds-write_disjuncts-count-2
write_disjuncts-slice_bounds-write_disjuncts-count-2 t c = let r = half_of (take c.args.len c.args.run.now) in
    let q = get_or c.args.run.now (c.args.len - 1) 0 in
    let more = texts-more q c.args.labels c.args.table.now c.args.f.now r c.args.disjuncts.now c.requires.listed
    c.if-disjuncts-lt8.false in
    let inside = first_fits _ _ _ _ more c.requires.disjuncts_in_bounds in
    let j = joined (4 ∷ 0 ∷ []) (first_text c.args.labels c.args.table.now c.args.f.now r c.args.disjuncts.now) in
    let w = two_pieces _ _ _ _ _ _ 2 _ j refl
    c.put_node.ensures
    c.write_disjunct-n.ensures.value c.write_disjunct-n.ensures.out_after in
    omega (arith, w.0, inside, front_length _ _ _ w.1 inside)

pub write_disjuncts-slice_bounds-write_disjuncts-start-2 : goal.write_disjuncts-slice_bounds-write_disjuncts-start-2
write_disjuncts-slice_bounds-write_disjuncts-start-2 t c = let r = half_of (take c.args.len c.args.run.now) in
    let q = get_or c.args.run.now (c.args.len - 1) 0 in
    let more = texts-more q c.args.labels c.args.table.now c.args.f.now r c.args.disjuncts.now c.requires.listed
    c.if-disjuncts-lt8.false in
    let inside = first_fits _ _ _ _ more c.requires.disjuncts_in_bounds in
    let j = joined (4 ∷ 0 ∷ []) (first_text c.args.labels c.args.table.now c.args.f.now r c.args.disjuncts.now) in
    let w = two_pieces _ _ _ _ _ _ 2 _ j refl
    c.put_node.ensures
    c.write_disjunct-n.ensures.value c.write_disjunct-n.ensures.out_after in
    omega (arith, w.0, inside, front_length _ _ _ w.1 inside)

pub write_disjuncts-write_disjuncts-m-requires : goal.write_disjuncts-write_disjuncts-m-requires
write_disjuncts-write_disjuncts-m-requires t c = let r = half_of (take c.args.len c.args.run.now) in
    let q = get_or c.args.run.now (c.args.len - 1) 0 in
    let more = texts-more q c.args.labels c.args.table.now c.args.f.now r c.args.disjuncts.now c.requires.listed
    c.if-disjuncts-lt8.false in
    let j = joined (4 ∷ 0 ∷ []) (first_text c.args.labels c.args.table.now c.args.f.now r c.args.disjuncts.now) in
    let w = two_pieces _ _ _ _ _ _ 2 _ j refl
    c.put_node.ensures
    c.write_disjunct-n.ensures.value c.write_disjunct-n.ensures.out_after in (
      omega (arith, rest_length 4 c.args.disjuncts.now),
      (
        c.requires.sound_table,
        rw c.write_disjunct-n.ensures.run_unchanged (
          c.requires.ready,
          (
            listed_rest q c.args.disjuncts.now c.requires.listed c.if-disjuncts-lt8.false,
            second_fits _ _ _ _ more c.requires.disjuncts_in_bounds _ _ _ refl w.0 w.1,
          ),
        ),
      ),
    )

pub write_disjuncts-overflow_add-result : goal.write_disjuncts-overflow_add-result
write_disjuncts-overflow_add-result t c = let r = half_of (take c.args.len c.args.run.now) in
    let q = get_or c.args.run.now (c.args.len - 1) 0 in
    let more = texts-more q c.args.labels c.args.table.now c.args.f.now r c.args.disjuncts.now c.requires.listed
    c.if-disjuncts-lt8.false in
    let inside = first_fits _ _ _ _ more c.requires.disjuncts_in_bounds in
    let j = joined (4 ∷ 0 ∷ []) (first_text c.args.labels c.args.table.now c.args.f.now r c.args.disjuncts.now) in
    let w = two_pieces _ _ _ _ _ _ 2 _ j refl
    c.put_node.ensures c.write_disjunct-n.ensures.value
    c.write_disjunct-n.ensures.out_after in
    omega (
      arith,
      w.0,
      inside,
      rw c.write_disjunct-n.ensures.run_unchanged
          at c.write_disjuncts-m.ensures.value,
      second_fits _ _ _ _ more c.requires.disjuncts_in_bounds _ _ _ refl w.0 w.1,
      c.well_formed,
    )

pub write_disjuncts-returns : goal.write_disjuncts-returns
write_disjuncts-returns t c = let r = half_of (take c.args.len c.args.run.now) in
    let q = get_or c.args.run.now (c.args.len - 1) 0 in
    let more = texts-more q c.args.labels c.args.table.now c.args.f.now r c.args.disjuncts.now c.requires.listed
    c.if-disjuncts-lt8.false in
    let j = joined (4 ∷ 0 ∷ []) (first_text c.args.labels c.args.table.now c.args.f.now r c.args.disjuncts.now) in
    let w = two_pieces _ _ _ _ _ _ 2 _ j refl c.put_node.ensures c.write_disjunct-n.ensures.value
    c.write_disjunct-n.ensures.out_after in
    let p = two_pieces _ _ _ _ _ _ _ _ more w.0 w.1
    (rw c.write_disjunct-n.ensures.run_unchanged at c.write_disjuncts-m.ensures.value)
    (rw c.write_disjunct-n.ensures.run_unchanged at c.write_disjuncts-m.ensures.out_after) in
    record {
      value = p.0;
      out_after = p.1;
      run_unchanged = c.write_disjuncts-m.ensures.run_unchanged ∙ c.write_disjunct-n.ensures.run_unchanged;
    }
