-- The digits of two numbers, and four bytes.
use native.Mathlib.Omega.{arith}
use Rattle.sheet_lines.proofs.LineLaws.{length_head, head_short}
use Rattle.sheet_lines.proofs.line.head_length.Goals as goal

pub overflow_add-result : goal.overflow_add-result
overflow_add-result c = let counted = length_head c.args.point.number c.args.number c.args.point.letter in
    let short = head_short c.args.point.number c.args.number c.args.point.letter c.requires.0 c.requires.1 in
    omega (arith, counted, short, c.digit_count.ensures, c.digit_count-2.ensures)

pub overflow_add-result-2 : goal.overflow_add-result-2
overflow_add-result-2 c = let counted = length_head c.args.point.number c.args.number c.args.point.letter in
    let short = head_short c.args.point.number c.args.number c.args.point.letter c.requires.0 c.requires.1 in
    omega (arith, counted, short, c.digit_count.ensures, c.digit_count-2.ensures)

pub returns : goal.returns
returns c = let counted = length_head c.args.point.number c.args.number c.args.point.letter in
    let short = head_short c.args.point.number c.args.number c.args.point.letter c.requires.0 c.requires.1 in
    record {
      value = omega (arith, counted, c.digit_count.ensures, c.digit_count-2.ensures);
      few = omega (arith, counted, short, c.digit_count.ensures, c.digit_count-2.ensures);
    }
