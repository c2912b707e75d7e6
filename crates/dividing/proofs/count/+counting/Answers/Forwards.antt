-- A forward modality, by its listed disjuncts.
use Prim.Native.Nat.{◌-◌}
use native.Mathlib.Omega.{arith}
use mathlib.Core.Path.{ap}
use lib.ListN.{get_or, take, length}
use Rattle.labels.proofs.Slices.{rest_length}
use Rattle.halves.specs.Halves.{half_of}
use Rattle.halves.proofs.HalfBuffers.{half_last}
use Rattle.dividing.proofs.Readiness.{forward_ready}
use Rattle.dividing.proofs.Forwards.{forward-texts, forward-listed}
use Rattle.formulas.proofs.Operators.{node_room}
use Rattle.dividing.proofs.Pieces.{taken, piece_within, piece_length}
use Rattle.dividing.proofs.Listing.{listed-fits}
use Rattle.dividing.proofs.count.+counting.Goals as goal

pub count_forward-slice_bounds-disjuncts-end : goal.count_forward-slice_bounds-disjuncts-end
count_forward-slice_bounds-disjuncts-end t c = piece_within _ _ _ _ c.list_disjuncts-n.ensures.out_after
    c.list_disjuncts-n.ensures.value

pub count_forward-slice_bounds-count_disjuncts-end : goal.count_forward-slice_bounds-count_disjuncts-end
count_forward-slice_bounds-count_disjuncts-end t c = piece_length _ _ _ _ c.list_disjuncts-n.ensures.out_after
    c.list_disjuncts-n.ensures.value

pub count_forward-count_disjuncts-requires : goal.count_forward-count_disjuncts-requires
count_forward-count_disjuncts-requires t c = let q = get_or c.args.run.now (c.args.len - 1) 0 in
    let listed = taken _ _ _ _ c.list_disjuncts-n.ensures.out_after c.list_disjuncts-n.ensures.value in (
      omega (
        arith,
        rest_length 2 c.args.f.now,
        node_room _ c.requires.ready.part.tree,
        ap length listed,
        listed-fits c.args.labels c.args.table.now (get_or c.args.f.now 0 0) (get_or c.args.f.now 1 0) q _ 68
            c.requires.sound_table
            (omega arith),
      ),
      (
        c.requires.sound_table,
        (
          forward_ready _ _ _ _ c.requires.ready c.requires.limit_bound.1,
          (c.requires.limit_bound.0, rw listed (forward-listed _ _ _ _ _ c.requires.sound_table)),
        ),
      ),
    )

pub count_forward-returns : goal.count_forward-returns
count_forward-returns t c = let r = half_of (take c.args.len c.args.run.now) in
    let q = get_or c.args.run.now (c.args.len - 1) 0 in
    let listed = taken _ _ _ _ c.list_disjuncts-n.ensures.out_after c.list_disjuncts-n.ensures.value in
    rw (
      listed,
      forward-texts c.args.labels c.args.table.now c.args.sizes.now c.args.f.now c.requires.ready.part r q
          c.requires.sound_table
          c.requires.limit_bound.1 (half_last c.args.run.now c.args.len c.requires.ready.held),
    ) at c.count_disjuncts.ensures
