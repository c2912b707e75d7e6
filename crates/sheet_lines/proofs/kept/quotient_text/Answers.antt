-- The call by number, or the division by a half from the table: both answer the same.
use mathlib.Core.Path.{sym, ◌∙◌}
use native.Mathlib.Omega.{arith}
use lib.Seq.{length-take-le}
use Rattle.sheet_lines.proofs.KeptQuotients.{kept_parts, kept_numbers, kept-steps, half_together, kept-quotient}
use Rattle.hml.proofs.Clauses.{to_value_text_after}
use Rattle.sheet_lines.proofs.kept.quotient_text.Goals as goal

pub put_half-len-requires : goal.put_half-len-requires
put_half-len-requires c = let p = kept_parts _ _ _ c.requires.halved.0 c.if-kept-eq0.false in
    record {
      ways_nonzero = kept_numbers _ c.requires.asked.0.log _ c.requires.asked.1 _ _ p;
      newer_bound = (
        kept-steps _ c.requires.asked.0.log _ c.requires.asked.1 _ _ p,
        c.requires.halved.0.size,
        omega
            arith,
      );
    }

pub slice_bounds-half-end : goal.slice_bounds-half-end
slice_bounds-half-end c = let p = kept_parts _ _ _ c.requires.halved.0 c.if-kept-eq0.false in
    omega (
      arith,
      kept-steps _ c.requires.asked.0.log _ c.requires.asked.1 _ _ p,
      c.put_half-len.ensures.value,
      c.put_half-len.auto,
    )

pub slice_bounds-divide-end : goal.slice_bounds-divide-end
slice_bounds-divide-end c = let p = kept_parts _ _ _ c.requires.halved.0 c.if-kept-eq0.false in
    sym (length-take-le _ _
    (omega (
      arith,
      kept-steps _ c.requires.asked.0.log _ c.requires.asked.1 _ _ p,
      c.put_half-len.ensures.value,
      c.put_half-len.auto,
    )))

pub returns : goal.returns
returns c = let p = kept_parts _ _ _ c.requires.halved.0
    c.if-kept-eq0.false in
    to_value_text_after (kept-quotient _ c.requires.asked.0 _ c.requires.asked.1 c.requires.asked.2 _ _ _
    c.labels-labels.ensures c.right-2.ensures
    c.question-2.ensures _ _ _ _
    (c.put_half-len.ensures.half_after ∙ half_together _ c.requires.asked.0.log _ c.requires.asked.1 _ _ p)
    c.divide.ensures.value
    c.divide.ensures.out_after)
