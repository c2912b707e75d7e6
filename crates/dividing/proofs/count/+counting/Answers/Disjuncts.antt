-- Disjuncts joined by "or", and one of them over the run with one step more.
use Prim.Native.Nat.{◌-◌}
use native.Mathlib.Omega.{arith}
use mathlib.Core.Path.{refl, ◌∙◌}
use lib.ListN.{get_or, take}
use Rattle.hml.specs.Labels.{positive}
use Rattle.labels.proofs.Slices.{rest_length}
use Rattle.halves.specs.Halves.{half_of}
use Rattle.halves.proofs.HalfBuffers.{half_longer, put_two_back}
use Rattle.dividing.proofs.Counting as counting
use Rattle.dividing.proofs.Readiness.{longer_ready}
use Rattle.dividing.proofs.Forwards.{listed_keeps, listed_rest, texts-last, texts-more, first-text}
use Rattle.dividing.proofs.count.+counting.Goals as goal

pub count_disjuncts-returns-then-disjuncts-lt8 : goal.count_disjuncts-returns-then-disjuncts-lt8
count_disjuncts-returns-then-disjuncts-lt8 t c = let r = half_of (take c.args.len c.args.run.now) in
    let q = get_or c.args.run.now (c.args.len - 1) 0 in
    rw (texts-last q c.args.labels c.args.table.now c.args.f.now r c.args.disjuncts.now c.requires.limit_bound.1
    c.if-disjuncts-lt8.true)
    at c.count_disjunct.ensures

pub count_disjuncts-returns-then-limit-eq0 : goal.count_disjuncts-returns-then-limit-eq0
count_disjuncts-returns-then-limit-eq0 t c = let r = half_of (take c.args.len c.args.run.now) in
    let q = get_or c.args.run.now (c.args.len - 1) 0 in
    record {
      result_value = counting.full_both _ _ _ _ _ _
          (texts-more q c.args.labels c.args.table.now c.args.f.now r c.args.disjuncts.now c.requires.limit_bound.1
          c.if-disjuncts-lt8.false) c.if-limit-eq0.true;
      run_unchanged = refl;
    }

pub count_disjuncts-returns-then-n-limit : goal.count_disjuncts-returns-then-n-limit
count_disjuncts-returns-then-n-limit t c = let r = half_of (take c.args.len c.args.run.now) in
    let q = get_or c.args.run.now (c.args.len - 1) 0 in
    record {
      result_value = counting.count_enough _ _ _ _ _
          (texts-more q c.args.labels c.args.table.now c.args.f.now r c.args.disjuncts.now c.requires.limit_bound.1
          c.if-disjuncts-lt8.false)
          _ _ (positive _ c.if-limit-eq0.false) c.count_disjunct-n.ensures.result_value
          c.if-n-limit.true;
      run_unchanged = c.count_disjunct-n.ensures.run_unchanged;
    }

pub count_disjuncts-count_disjuncts-m-requires : goal.count_disjuncts-count_disjuncts-m-requires
count_disjuncts-count_disjuncts-m-requires t c = let q = get_or c.args.run.now (c.args.len - 1) 0 in (
  omega (arith, rest_length 4 c.args.disjuncts.now),
  (
    c.requires.sound_table,
    rw c.count_disjunct-n.ensures.run_unchanged (
      c.requires.ready,
      (
        omega (arith, c.requires.limit_bound.0),
        listed_rest q c.args.disjuncts.now c.requires.limit_bound.1 c.if-disjuncts-lt8.false,
      ),
    ),
  ),
)

pub count_disjuncts-returns : goal.count_disjuncts-returns
count_disjuncts-returns t c = let r = half_of (take c.args.len c.args.run.now) in
    let q = get_or c.args.run.now (c.args.len - 1) 0 in
    record {
      result_value = counting.count-both _ _ _ _ _ (texts-more q c.args.labels c.args.table.now c.args.f.now r
          c.args.disjuncts.now c.requires.limit_bound.1 c.if-disjuncts-lt8.false) _ _
          _ c.count_disjunct-n.ensures.result_value
          (counting.count_left _ _ _ _ _ (texts-more q c.args.labels c.args.table.now c.args.f.now r
          c.args.disjuncts.now c.requires.limit_bound.1 c.if-disjuncts-lt8.false)
          _ _ (positive _ c.if-limit-eq0.false) c.count_disjunct-n.ensures.result_value
          c.if-n-limit.false)
          (rw c.count_disjunct-n.ensures.run_unchanged at c.count_disjuncts-m.ensures.result_value);
      run_unchanged = c.count_disjuncts-m.ensures.run_unchanged ∙ c.count_disjunct-n.ensures.run_unchanged;
    }

pub count_disjunct-returns-then-limit-eq0 : goal.count_disjunct-returns-then-limit-eq0
count_disjunct-returns-then-limit-eq0 t c = let r = half_of (take c.args.len c.args.run.now) in
    let q = get_or c.args.run.now (c.args.len - 1) 0 in
    record {
      result_value = counting.full_over _ _ _ _ _ (first-text q c.args.labels c.args.table.now c.args.f.now r
          c.args.disjuncts.now) c.if-limit-eq0.true;
      run_unchanged = refl;
    }

pub count_disjunct-count_tree-n-requires : goal.count_disjunct-count_tree-n-requires
count_disjunct-count_tree-n-requires t c = let q = get_or c.args.run.now (c.args.len - 1) 0 in (
  omega arith,
  (
    c.requires.sound_table,
    (
      longer_ready _ _ _ _ c.requires.ready _ _
          (listed_keeps q c.args.disjuncts.now c.requires.limit_bound.1),
      omega (arith, c.requires.limit_bound.0),
    ),
  ),
)

pub count_disjunct-returns : goal.count_disjunct-returns
count_disjunct-returns t c = let r = half_of (take c.args.len c.args.run.now) in
    let q = get_or c.args.run.now (c.args.len - 1) 0 in
    record {
      result_value = counting.count_over _ _ _ _ _ _ (first-text q c.args.labels c.args.table.now c.args.f.now r
          c.args.disjuncts.now)
          (positive _ c.if-limit-eq0.false)
          (rw (half_longer c.args.run.now c.args.len c.requires.ready.held (get_or c.args.disjuncts.now 2 0)
          (get_or c.args.disjuncts.now 3 0) (omega (arith, c.requires.ready.room)))
          at c.count_tree-n.ensures.result_value);
      run_unchanged = put_two_back c.args.run.now _ c.args.len _ _ c.count_tree-n.ensures.run_unchanged;
    }
