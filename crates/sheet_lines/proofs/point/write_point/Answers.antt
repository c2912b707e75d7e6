-- What the lines of the point share, then its lines.
use Prim.Native.Nat.{◌-◌, ◌<◌}
use native.Mathlib.Omega.{arith}
use Rattle.sheet_lines.proofs.Standing.{known_forgotten}
use Rattle.sheet_lines.proofs.PointLines.{point_bytes, window_splits, point_numbers, point_shared, point_lines}
use Rattle.sheet_lines.proofs.PointLines.{numbers_few}
use Rattle.sheet_lines.proofs.point.write_point.Goals as goal

pub part-window-requires : goal.part-window-requires
part-window-requires c = (
  omega (arith, c.window_start-first.ensures),
  (point_bytes _ c.requires.asked _ c.requires.back_value.1).0,
)

pub part-rest-requires : goal.part-rest-requires
part-rest-requires c = let fits = point_bytes _ c.requires.asked _ c.requires.back_value.1 in
    (omega (arith, fits, c.steps.ensures), omega (arith, fits, c.steps.ensures))

pub keep_halves-kept-requires : goal.keep_halves-kept-requires
keep_halves-kept-requires c = (
  window_splits _ c.requires.asked _ c.requires.back_value.1 c.requires.number_le_until.2 _ c.requires.back_value.0 _ _
      c.window_start-first.ensures
      c.steps.ensures _ _
      c.part-window.ensures
      c.part-rest.ensures,
  c.requires.at_in_bounds.1,
)

pub forget-requires : goal.forget-requires
forget-requires c = c.requires.at_in_bounds.2.ends_size

pub write_numbers-requires : goal.write_numbers-requires
write_numbers-requires c = let few : c.args.point < 1000 = omega
    (arith, point_bytes _ c.requires.asked _ c.requires.back_value.1) in
    let end = numbers_few _ _ c.requires.number_le_until.1 c.requires.number_le_until.2 in
    record {
      number_bound = (few, c.requires.number_le_until.0, end, c.requires.at_in_bounds.0);
      after_nonzero = point_numbers _ c.requires.asked _ c.requires.back_value.1 c.requires.number_le_until.2 _
          c.requires.back_value.0 _ _
          c.window_start-first.ensures
          c.steps.ensures _ _
          c.part-window.ensures
          c.part-rest.ensures
          _ _ _ c.letter_at-letter.ensures c.splittings-ways.ensures
          c.splittings_after-after.ensures;
      shared = point_shared _ c.requires.asked _ c.requires.back_value.1 c.requires.number_le_until.2 _
          c.requires.back_value.0 _ _
          c.window_start-first.ensures
          c.steps.ensures _ _
          c.part-window.ensures
          c.part-rest.ensures _ _ _ c.letter_at-letter.ensures
          c.splittings-ways.ensures c.splittings_after-after.ensures _ _
          c.keep_halves-kept.ensures;
      scratch = record {
        froms_size = c.requires.at_in_bounds.2.froms_size;
        ends_size = c.forget.ensures.ends_len;
        text_size = c.requires.at_in_bounds.2.text_size;
        line_size = c.requires.at_in_bounds.2.line_size;
      };
      endings_known = known_forgotten _ _ _ _ _ _ c.forget.ensures.forgotten;
    }

pub returns : goal.returns
returns c = let lines = point_lines _ c.requires.asked _ c.requires.back_value.1 c.requires.number_le_until.2 _
    c.requires.back_value.0 _ _
    c.window_start-first.ensures
    c.steps.ensures _ _
    c.part-window.ensures c.part-rest.ensures _ _
    _ c.letter_at-letter.ensures c.splittings-ways.ensures c.splittings_after-after.ensures
    c.keep_halves-kept.result c.args.number (c.args.until - c.args.number)
    (omega (arith, c.requires.number_le_until)) in
    record {
      full = rw lines at c.write_numbers.ensures.full;
      scratch = c.write_numbers.ensures.scratch_2;
    }
