-- One disjunct, written over the run with one step more.
use Prim.Native.Nat.{◌-◌}
use native.Mathlib.Omega.{arith}
use mathlib.Core.Path.{refl}
use lib.ListN.{get_or, take}
use Rattle.halves.specs.Halves.{half_of}
use Rattle.labels.proofs.Outputs.{front_length}
use Rattle.dividing.proofs.Pieces.{two_pieces, first_fits, second_fits}
use Rattle.dividing.proofs.Forwards.{listed_keeps, first-text}
use Rattle.halves.proofs.HalfBuffers.{half_longer, put_two_back}
use Rattle.dividing.proofs.Readiness.{longer_ready}
use Rattle.dividing.proofs.write.+writing.Goals as goal

pub write_disjunct-put_node-requires : goal.write_disjunct-put_node-requires
write_disjunct-put_node-requires t c = let r = half_of (take c.args.len c.args.run.now) in
    let q = get_or c.args.run.now (c.args.len - 1) 0 in
    let over = first-text q c.args.labels c.args.table.now c.args.f.now r c.args.disjuncts.now in
    first_fits _ _ _ _ over c.requires.disjuncts_in_bounds

pub write_disjunct-slice_bounds-write_tree-count : goal.write_disjunct-slice_bounds-write_tree-count
write_disjunct-slice_bounds-write_tree-count t c = let r = half_of (take c.args.len c.args.run.now) in
    let q = get_or c.args.run.now (c.args.len - 1) 0 in
    let over = first-text q c.args.labels c.args.table.now c.args.f.now r c.args.disjuncts.now in
    omega (
      arith,
      first_fits _ _ _ _ over c.requires.disjuncts_in_bounds,
      front_length _ _ _ c.put_node.ensures
          (first_fits _ _ _ _ over c.requires.disjuncts_in_bounds),
    )

pub write_disjunct-slice_bounds-write_tree-start : goal.write_disjunct-slice_bounds-write_tree-start
write_disjunct-slice_bounds-write_tree-start t c = let r = half_of (take c.args.len c.args.run.now) in
    let q = get_or c.args.run.now (c.args.len - 1) 0 in
    let over = first-text q c.args.labels c.args.table.now c.args.f.now r c.args.disjuncts.now in
    omega (
      arith,
      first_fits _ _ _ _ over c.requires.disjuncts_in_bounds,
      front_length _ _ _ c.put_node.ensures
          (first_fits _ _ _ _ over c.requires.disjuncts_in_bounds),
    )

pub write_disjunct-write_tree-n-requires : goal.write_disjunct-write_tree-n-requires
write_disjunct-write_tree-n-requires t c = let r = half_of (take c.args.len c.args.run.now) in
    let q = get_or c.args.run.now (c.args.len - 1) 0 in
    let over = first-text q c.args.labels c.args.table.now c.args.f.now r c.args.disjuncts.now in (
      omega arith,
      (
        c.requires.sound_table,
        (
          longer_ready _ _ _ _ c.requires.ready _ _ (listed_keeps q c.args.disjuncts.now c.requires.listed),
          rw (half_longer c.args.run.now c.args.len c.requires.ready.held (get_or c.args.disjuncts.now 2 0)
              (get_or c.args.disjuncts.now 3 0) (omega (arith, c.requires.ready.room)))
              (second_fits _ _ _ _ over c.requires.disjuncts_in_bounds _ _ 2 refl refl
              c.put_node.ensures),
        ),
      ),
    )

pub write_disjunct-overflow_add-result : goal.write_disjunct-overflow_add-result
write_disjunct-overflow_add-result t c = let r = half_of (take c.args.len c.args.run.now) in
    let q = get_or c.args.run.now (c.args.len - 1) 0 in
    let over = first-text q c.args.labels c.args.table.now c.args.f.now r c.args.disjuncts.now in
    omega (
      arith,
      rw (half_longer c.args.run.now c.args.len c.requires.ready.held (get_or c.args.disjuncts.now 2 0)
          (get_or c.args.disjuncts.now 3 0) (omega (arith, c.requires.ready.room)))
          at c.write_tree-n.ensures.value,
      second_fits _ _ _ _ over c.requires.disjuncts_in_bounds _ _ 2 refl refl
          c.put_node.ensures,
      c.well_formed,
    )

pub write_disjunct-returns : goal.write_disjunct-returns
write_disjunct-returns t c = let r = half_of (take c.args.len c.args.run.now) in
    let q = get_or c.args.run.now (c.args.len - 1) 0 in
    let over = first-text q c.args.labels c.args.table.now c.args.f.now r c.args.disjuncts.now in
    let p = two_pieces _ _ _ _ _ _ 2 _ over refl
    c.put_node.ensures
    (rw (half_longer c.args.run.now c.args.len c.requires.ready.held (get_or c.args.disjuncts.now 2 0)
    (get_or c.args.disjuncts.now 3 0) (omega (arith, c.requires.ready.room)))
    at c.write_tree-n.ensures.value)
    (rw (half_longer c.args.run.now c.args.len c.requires.ready.held (get_or c.args.disjuncts.now 2 0)
    (get_or c.args.disjuncts.now 3 0) (omega (arith, c.requires.ready.room)))
    at c.write_tree-n.ensures.out_after) in
    record {
      value = p.0;
      out_after = p.1;
      run_unchanged = put_two_back c.args.run.now _ c.args.len _ _ c.write_tree-n.ensures.run_unchanged;
    }
