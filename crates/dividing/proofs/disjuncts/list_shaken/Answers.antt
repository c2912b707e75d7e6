-- A row whose label has no partner is passed; the disjunct of another is put behind those that are written.
use mathlib.Core.Path.{refl, sym, ◌∙◌, ap}
use native.Mathlib.Omega.{arith}
use Rattle.std.specs.Slice.Iter.{chunks_exact_rest, chunks_exact_size}
use Rattle.dividing.proofs.Pieces.{none_written, skip_written, written_within, next_within, next_fits, next_written}
use Rattle.dividing.proofs.Pieces.{all_written}
use Rattle.dividing.proofs.Listing.{shaken-none, shaken_skip, shaken-more}
use Rattle.dividing.proofs.disjuncts.list_shaken.Goals as goal

pub loop-row-init : goal.loop-row-init
loop-row-init c =
    let begun = c.into_iter-row-iterator.ensures.into_iter_gives in
    record {
      rows = ap chunks_exact_size begun ∙ c.chunks_exact-row-items.ensures.size;
      written = rw (ap chunks_exact_rest begun ∙ c.chunks_exact-row-items.ensures.rest) (none_written _ _);
    }

pub slice_bounds-put_disjunct-count : goal.slice_bounds-put_disjunct-count
slice_bounds-put_disjunct-count c = written_within _ _ c.loop-row.invariant.written c.requires

pub slice_bounds-put_disjunct-start : goal.slice_bounds-put_disjunct-start
slice_bounds-put_disjunct-start c = written_within _ _ c.loop-row.invariant.written c.requires

pub put_disjunct-requires : goal.put_disjunct-requires
put_disjunct-requires c =
    let (_, (e, z), _) = c.in-Some.ensures.steps in
    let more = shaken-more _ _ _ _ e (z ∙ c.loop-row.invariant.rows) _ (sym c.in-Some-partner.is ∙ c.partner.ensures) in
    next_fits _ _ c.loop-row.invariant.written c.requires _ _ more

pub overflow_add-n : goal.overflow_add-n
overflow_add-n c =
    let (_, (e, z), _) = c.in-Some.ensures.steps in
    let more = shaken-more _ _ _ _ e (z ∙ c.loop-row.invariant.rows) _ (sym c.in-Some-partner.is ∙ c.partner.ensures) in
    let room = next_within _ _ c.loop-row.invariant.written c.requires _ _ more in
    omega (arith, room, c.well_formed)

pub loop-row-preserved-in-Some-partner : goal.loop-row-preserved-in-Some-partner
loop-row-preserved-in-Some-partner c =
    let (y, (e, z), _) = c.in-Some.ensures.steps in
    let more = shaken-more _ _ _ _ e (z ∙ c.loop-row.invariant.rows) _ (sym c.in-Some-partner.is ∙ c.partner.ensures) in
    record {
      rows = y ∙ c.loop-row.invariant.rows;
      written = next_written _ _ c.loop-row.invariant.written c.requires _ _ more _ refl _ c.put_disjunct.ensures;
    }

pub loop-row-preserved : goal.loop-row-preserved
loop-row-preserved c =
    let (y, (e, z), _) = c.in-Some.ensures.steps in
    record {
      rows = y ∙ c.loop-row.invariant.rows;
      written = skip_written _ _ c.loop-row.invariant.written
          (shaken_skip _ _ _ _ e (z ∙ c.loop-row.invariant.rows) (sym c.in_default.is ∙ c.partner.ensures));
    }

pub returns-clause-value : goal.returns-clause-value
returns-clause-value c =
    let (_, (less, _), _) = c.in-None.ensures.steps in
    (all_written _ _ c.loop-row.invariant.written (shaken-none _ _ (rw c.loop-row.invariant.rows at less))).0

pub returns-clause-out_after : goal.returns-clause-out_after
returns-clause-out_after c =
    let (_, (less, _), _) = c.in-None.ensures.steps in
    (all_written _ _ c.loop-row.invariant.written (shaken-none _ _ (rw c.loop-row.invariant.rows at less))).1
