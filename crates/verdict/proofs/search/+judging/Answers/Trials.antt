-- Moves of one side, tried one after the other, and the idle that an idle modality looks at.
use Prim.Native.Nat.{◌-◌}
use native.Mathlib.Omega.{arith}
use mathlib.Core.Path.{refl, sym, ◌∙◌, ap}
use lib.ListN.{get_or}
use Rattle.machines.proofs.Buffers.{put_back, length-put, longer-run, held-longer}
use Rattle.verdict.specs.Working.{judged}
use Rattle.hml.specs.Labels.{positive}
use Rattle.verdict.proofs.TwoGrids as two-grids
use Rattle.verdict.proofs.Written as written
use Rattle.verdict.proofs.search.+judging.Goals as goal

pub try_moves-returns-then-rows-eq0-clause-value : goal.try_moves-returns-then-rows-eq0-clause-value
try_moves-returns-then-rows-eq0-clause-value t c =
    let none = two-grids.no_rows _ _ c.args.grids.now c.wanted_rows-rows.result.at _
    c.if-rows-eq0.true in
    none ∙ c.wanted_rows-rows.ensures.same _

pub try_moves-try_rows-held-requires : goal.try_moves-try_rows-held-requires
try_moves-try_rows-held-requires t c = let some = positive _ c.if-rows-eq0.false in (
  omega (arith, c.requires.inside, c.wanted_rows-rows.ensures.few),
  (
    c.requires.two_grids,
    (
      written.written_ready _ _ _ _ _ c.requires.ready c.args.trial.shown.0 c.args.trial.other c.args.trial.other
          c.requires.inside.2,
      (
        (
          c.wanted_rows-rows.ensures.few.0,
          some,
          omega (arith, c.requires.inside, c.wanted_rows-rows.ensures.few),
          c.wanted_rows-rows.ensures.first some,
        ),
        (
          (c.args.trial.mover, c.place_by-place.ensures),
          rw (written.written-label _ _ _ _ _ c.requires.ready
              c.args.trial.shown.0 c.args.trial.other c.args.trial.other) c.requires.inside.2,
        ),
      ),
    ),
  ),
)

pub try_moves-returns : goal.try_moves-returns
try_moves-returns t c = record {
  value = (rw c.place_by-place.ensures at c.try_rows-held.ensures.value)
      ∙ written.steps-tried _ _ _ _ c.args.trial.mover _ _ c.requires.ready.held (omega (arith, c.requires.ready.room))
      _ _ _ _
      ∙ c.wanted_rows-rows.ensures.same _;
  run_unchanged = put_back c.args.run.now _ c.args.len _ _ _ c.try_rows-held.ensures.run_unchanged;
}

pub try_rows-bounds-run-place : goal.try_rows-bounds-run-place
try_rows-bounds-run-place t c = omega (
  arith,
  c.requires.ready.room,
  c.requires.ready.size,
  c.requires.placed.0.1,
  written.place-within c.requires.placed.0.0 c.args.len,
)

pub try_rows-bounds-run-place-2 : goal.try_rows-bounds-run-place-2
try_rows-bounds-run-place-2 t c = omega (
  arith,
  c.requires.ready.room,
  c.requires.ready.size,
  c.requires.placed.0.1,
  written.place-within c.requires.placed.0.0 c.args.len,
)

pub try_rows-operand-held-requires : goal.try_rows-operand-held-requires
try_rows-operand-held-requires t c = let (placed, shown) = c.requires.placed in (
  omega (arith, c.requires.inside),
  (c.requires.two_grids, rw placed.1 (written.moved_ready _ _ _ _ _ c.requires.ready placed.0 shown _)),
)

pub try_rows-bounds-run-place-3 : goal.try_rows-bounds-run-place-3
try_rows-bounds-run-place-3 t c = omega (
  arith,
  c.requires.ready.room,
  c.requires.ready.size,
  c.requires.placed.0.1,
  written.place-within c.requires.placed.0.0 c.args.len,
)

pub try_rows-returns-then-held : goal.try_rows-returns-then-held
try_rows-returns-then-held t c = record {
  value = two-grids.first_hit _ _ c.args.grids.now c.args.rows.at c.args.rows.count c.requires.inside.1
      c.requires.inside.3
      (sym c.if-held.true ∙ c.operand-held.ensures.value);
  run_unchanged = written.set_back c.args.run.now _ _ _ c.operand-held.ensures.run_unchanged;
}

pub try_rows-returns-then-rest-eq0 : goal.try_rows-returns-then-rest-eq0
try_rows-returns-then-rest-eq0 t c = record {
  value = two-grids.first_miss _ _ c.args.grids.now c.args.rows.at c.args.rows.count c.requires.inside.1
      c.requires.inside.3 _
      (sym c.if-held.false ∙ c.operand-held.ensures.value)
      (two-grids.no_rows _ _ c.args.grids.now c.wanted_rows-rest.result.at _ c.if-rest-eq0.true ∙
      c.wanted_rows-rest.ensures.same _);
  run_unchanged = written.set_back c.args.run.now _ _ _ c.operand-held.ensures.run_unchanged;
}

pub try_rows-try_rows-requires : goal.try_rows-try_rows-requires
try_rows-try_rows-requires t c = let (placed, shown) = c.requires.placed in
    let some = positive _ c.if-rest-eq0.false in
    let back = written.set_back c.args.run.now _ _ _ c.operand-held.ensures.run_unchanged in (
      omega (arith, c.requires.inside, c.wanted_rows-rest.ensures.few),
      (
        c.requires.two_grids,
        (
          rw back c.requires.ready,
          (
            (
              c.wanted_rows-rest.ensures.few.0,
              some,
              omega (arith, c.requires.inside, c.wanted_rows-rest.ensures.few),
              c.wanted_rows-rest.ensures.first some,
            ),
            (placed, rw back shown),
          ),
        ),
      ),
    )

pub try_rows-returns : goal.try_rows-returns
try_rows-returns t c = let back = written.set_back c.args.run.now _ _ _ c.operand-held.ensures.run_unchanged in
    record {
      value = two-grids.first_miss _ _ c.args.grids.now c.args.rows.at c.args.rows.count c.requires.inside.1
          c.requires.inside.3 _
          (sym c.if-held.false ∙ c.operand-held.ensures.value)
          ((rw back at c.try_rows.ensures.value) ∙ c.wanted_rows-rest.ensures.same _);
      run_unchanged = c.try_rows.ensures.run_unchanged ∙ back;
    }

pub stay-holds-held-requires : goal.stay-holds-held-requires
stay-holds-held-requires t c = let p = get_or c.args.run.now (c.args.len - 2) 0 in
    let q = get_or c.args.run.now (c.args.len - 1) 0 in
    let same = length-put c.args.run.now c.args.len 255 p q in (
      omega arith,
      (
        c.requires.two_grids,
        record {
          tree = c.requires.ready.tree;
          ranged = c.requires.ready.ranged;
          skips = c.requires.ready.skips;
          held = held-longer c.args.run.now c.args.len c.requires.ready.held 255 p q
              (omega (arith, c.requires.ready.room)) (λ e. (refl, refl));
          room = rw same (omega (arith, c.requires.ready.room));
          size = same ∙ c.requires.ready.size;
          few = c.requires.ready.few;
        },
      ),
    )

pub stay-returns : goal.stay-returns
stay-returns t c = let p = get_or c.args.run.now (c.args.len - 2) 0 in
    let q = get_or c.args.run.now (c.args.len - 1) 0 in
    let longer = longer-run c.args.run.now c.args.len c.requires.ready.held 255 p q
    (omega (arith, c.requires.ready.room)) in
    record {
      value = c.holds-held.ensures.value ∙ ap (judged c.args.labels _ _ _) longer;
      run_unchanged = put_back c.args.run.now _ c.args.len 255 p q c.holds-held.ensures.run_unchanged;
    }
