-- Halves are kept where the window has many splittings and each of its parts few.
use native.Mathlib.Omega.{arith}
use Rattle.sheet_lines.proofs.KeptTable.{halved_none, parts_fit, older_ready, newer_ready, halved-kept}
use Rattle.sheet_lines.proofs.kept.keep_halves.Goals as goal

pub returns-then-ways-lt64 : goal.returns-then-ways-lt64
returns-then-ways-lt64 c = halved_none _ _ c.requires.1

pub middle-mid-requires : goal.middle-mid-requires
middle-mid-requires c = (parts_fit _ c.requires.0 _ c.steps-steps.ensures 0 (omega arith)).1

pub part-older-requires : goal.part-older-requires
part-older-requires c = (
  omega arith,
  (parts_fit _ c.requires.0 _ c.steps-steps.ensures _
      c.middle-mid.ensures.within).0,
)

pub part-newer-requires : goal.part-newer-requires
part-newer-requires c = (
  c.middle-mid.ensures.within,
  (parts_fit _ c.requires.0 _
      c.steps-steps.ensures _ c.middle-mid.ensures.within).1,
)

pub returns-then-older_ways-gt256 : goal.returns-then-older_ways-gt256
returns-then-older_ways-gt256 c = halved_none _ _ c.requires.1

pub returns-then-newer_ways-gt256 : goal.returns-then-newer_ways-gt256
returns-then-newer_ways-gt256 c = halved_none _ _ c.requires.1

pub list_halves-requires : goal.list_halves-requires
list_halves-requires c = let x = older_ready _ c.requires.0 _
    c.steps-steps.ensures _
    c.middle-mid.ensures.within _
    c.part-older.ensures _
    c.splittings-older_ways.ensures in
    record {
      splits = x;
      n_bound = (omega arith, omega arith, c.requires.1);
    }

pub list_halves-requires-2 : goal.list_halves-requires-2
list_halves-requires-2 c = let x = newer_ready _ c.requires.0 _ c.steps-steps.ensures _
    c.middle-mid.ensures.within _ c.part-older.ensures _
    c.splittings-older_ways.ensures _ c.part-newer.ensures _ c.splittings-newer_ways.ensures in
    record {
      splits = x;
      n_bound = (omega arith, omega arith, omega (arith, c.list_halves.auto, c.requires.1));
    }

pub returns : goal.returns
returns c = halved-kept _ c.requires.0 _ c.steps-steps.ensures _
    c.middle-mid.ensures.within _ c.part-older.ensures _
    c.splittings-older_ways.ensures _ c.part-newer.ensures _ c.splittings-newer_ways.ensures
    _ _ (omega (arith, c.if-older_ways-gt256.false))
    (omega (arith, c.if-newer_ways-gt256.false))
    c.list_halves.ensures.halves_at c.list_halves-2.ensures.halves_at
    c.list_halves-2.ensures.halves_unchanged (omega (
      arith,
      c.list_halves.auto,
      c.list_halves-2.auto,
      c.requires.1,
    ))
