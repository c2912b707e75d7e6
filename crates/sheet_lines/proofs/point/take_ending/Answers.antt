-- An ending that stands in the output is copied; another is found.
use mathlib.Core.Path.{◌∙◌, ap}
use native.Mathlib.Omega.{arith}
use lib.ListN.{length}
use Rattle.labels.proofs.Slices.{rest_length}
use Rattle.sheet_lines.specs.Working.{shown}
use Rattle.sheet_lines.specs.Working.{ending_in}
use Rattle.sheet_lines.proofs.EndingLaws.{ending_short}
use Rattle.sheet_lines.proofs.PointTurns.{standing_within, standing_bytes, copied_ending, made_ending}
use Rattle.labels.proofs.Slices.{copied_whole, copied_count}
use Rattle.sheet_lines.proofs.point.take_ending.Goals as goal

pub slice_bounds-copy-count : goal.slice_bounds-copy-count
slice_bounds-copy-count c = omega (
  arith,
  (standing_within _ _ _ _ _ _ _ c.requires.endings_known c.requires.t_lt_ways.0 c.if-end-ne0.true),
)

pub slice_bounds-copy-start : goal.slice_bounds-copy-start
slice_bounds-copy-start c = omega (
  arith,
  (standing_within _ _ _ _ _ _ _ c.requires.endings_known c.requires.t_lt_ways.0 c.if-end-ne0.true),
)

pub slice_bounds-copy-end : goal.slice_bounds-copy-end
slice_bounds-copy-end c = omega (
  arith,
  (standing_within _ _ _ _ _ _ _ c.requires.endings_known c.requires.t_lt_ways.0 c.if-end-ne0.true),
  c.requires.t_lt_ways.1,
)

pub returns-then-end-ne0 : goal.returns-then-end-ne0
returns-then-end-ne0 c = let b = (standing_bytes
    (ending_in (shown c.args.window) c.args.point.letter) _ _
    _ _ _ _ c.requires.endings_known c.requires.t_lt_ways.0 c.if-end-ne0.true) in
    let z = (copied_count _ _ _ (omega (
      arith,
      ap length
          (standing_bytes (ending_in (shown c.args.window) c.args.point.letter) _ _ _
          _ _ _
          c.requires.endings_known c.requires.t_lt_ways.0 c.if-end-ne0.true),
      (ending_short (shown c.args.window) c.args.point.letter c.args.t),
      rest_length 12 c.args.line.now,
      c.requires.scratch.line_size,
    )) c.copy.ensures.count) ∙ ap length b in
    record {
      value = z;
      line_after = copied_ending c.args.line.now _ _ _ (copied_count _ _ _ (omega (
        arith,
        ap length
            (standing_bytes (ending_in (shown c.args.window) c.args.point.letter) _ _ _
            _ _ _
            c.requires.endings_known c.requires.t_lt_ways.0 c.if-end-ne0.true),
        (ending_short (shown c.args.window) c.args.point.letter c.args.t),
        rest_length 12 c.args.line.now,
        c.requires.scratch.line_size,
      )) c.copy.ensures.count)
          (omega (
            arith,
            ap length b,
            (ending_short (shown c.args.window)
                c.args.point.letter c.args.t),
            c.requires.scratch.line_size,
          )) (copied_whole _ _ _ _ (omega (
            arith,
            ap length
                (standing_bytes (ending_in (shown c.args.window) c.args.point.letter) _ _ _
                _ _ _
                c.requires.endings_known c.requires.t_lt_ways.0 c.if-end-ne0.true),
            (ending_short (shown c.args.window) c.args.point.letter c.args.t),
            rest_length 12 c.args.line.now,
            c.requires.scratch.line_size,
          )) c.copy.ensures.count c.copy.ensures.copied)
          ∙ b;
      upper_bound = omega (
        arith,
        z,
        (ending_short (shown c.args.window) c.args.point.letter
            c.args.t),
      );
    }

pub find_ending-requires : goal.find_ending-requires
find_ending-requires c = record {
  asked = (
    c.requires.shared.asked,
    omega (arith, c.requires.t_lt_ways.0, c.requires.shared.counted),
    c.requires.shared.few,
  );
  halved = (c.requires.shared.halved, c.requires.scratch.text_size);
  ending_len = rest_length 12 c.args.line.now ∙ omega (arith, c.requires.scratch.line_size);
}

pub returns : goal.returns
returns c = record {
  value = c.find_ending.ensures.value;
  line_after = made_ending c.args.line.now c.find_ending.new.ending
      c.find_ending.result _ (omega (arith, c.requires.scratch.line_size)) c.find_ending.ensures.ending_after;
  upper_bound = c.find_ending.ensures.upper_bound;
}
