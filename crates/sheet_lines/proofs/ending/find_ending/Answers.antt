-- The quotient's text, or its number where it is refused.
use mathlib.Core.Path.{sym, ◌∙◌}
use native.Mathlib.Omega.{arith}
use lib.Seq.{length-take-le}
use Rattle.sheet_lines.specs.Working.{shown}
use Rattle.sheet_lines.proofs.EndingLaws.{text_told, fields_ending, refusal_ending}
use Rattle.sheet_lines.proofs.ending.find_ending.Goals as goal

pub slice_bounds-put_fields-end : goal.slice_bounds-put_fields-end
slice_bounds-put_fields-end c = omega (
  arith,
  text_told (shown c.args.window) 0 _ _ c.requires.halved.1 _
      (sym c.quotient_text.ensures.value ∙ c.in-Ok.is) _ c.quotient_text.ensures.text_after,
  c.requires.halved.1,
  c.quotient_text.auto,
)

pub slice_bounds-put_fields-end-in-Ok : goal.slice_bounds-put_fields-end-in-Ok
slice_bounds-put_fields-end-in-Ok c = sym (length-take-le _ _
    (omega (
      arith,
      text_told (shown c.args.window) 0 _ _ c.requires.halved.1 _
          (sym c.quotient_text.ensures.value ∙ c.in-Ok.is) _ c.quotient_text.ensures.text_after,
      c.requires.halved.1,
      c.quotient_text.auto,
    )))

pub returns-in-Ok : goal.returns-in-Ok
returns-in-Ok c = let x = fields_ending (shown c.args.window) c.args.letter _ _
    c.requires.halved.1 _
    _ c.requires.ending_len _ _
    (sym c.quotient_text.ensures.value ∙ c.in-Ok.is) _ c.quotient_text.ensures.text_after
    c.put_fields.ensures.value c.put_fields.ensures.out_after in
    record {
      value = x.0;
      ending_after = x.1;
      upper_bound = x.2;
    }

pub returns-in-Err : goal.returns-in-Err
returns-in-Err c = let x = refusal_ending (shown c.args.window) c.args.letter _
    c.args.text.now
    c.requires.halved.1 _ _
    c.requires.ending_len _ c.in-Err.refusal (sym c.quotient_text.ensures.value ∙ c.in-Err.is)
    c.put_refusal.ensures.value c.put_refusal.ensures.out_after in
    record {
      value = x.0;
      ending_after = x.1;
      upper_bound = x.2;
    }
