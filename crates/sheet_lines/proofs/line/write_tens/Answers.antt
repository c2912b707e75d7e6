-- The head of the first line is put in front of the ending, then the lines go by their last digit.
use native.Mathlib.Omega.{arith}
use Rattle.sheet_lines.proofs.LineLaws.{length_head}
use Rattle.sheet_lines.proofs.TurnLaws.{tens_few, put-longer, put-lines, ending-kept}
use Rattle.sheet_lines.proofs.line.write_tens.Goals as goal

pub head_length-head-requires : goal.head_length-head-requires
head_length-head-requires c = (
  c.requires.number_bound.0,
  omega (arith, c.requires.number_bound.1, (tens_few _ _ c.requires.tens.0).0),
)

pub overflow_sub-head : goal.overflow_sub-head
overflow_sub-head c = omega (
  arith,
  c.head_length-head.ensures.value,
  length_head c.args.point.number c.args.number c.args.point.letter,
)

pub write_digits-requires : goal.write_digits-requires
write_digits-requires c = (
  c.requires.tens.0,
  c.requires.number_bound.1,
  omega (
    arith,
    c.head_length-head.ensures.value,
    length_head c.args.point.number c.args.number c.args.point.letter,
    put-longer c.args.point c.args.number c.args.line.now _ _ c.args.len
        (omega (arith, c.head_length-head.ensures.value)) (omega
        (arith, c.head_length-head.ensures.value, c.head_length-head.ensures.few)) c.requires.tens.1
        c.put_head.ensures.out_after,
  ),
  c.requires.number_bound.2,
)

pub returns : goal.returns
returns c = record {
  full = rw (put-lines c.args.point c.args.number c.args.line.now _ _ c.args.len
      (omega (arith, c.head_length-head.ensures.value)) (omega
      (arith, c.head_length-head.ensures.value, c.head_length-head.ensures.few)) c.requires.tens.1
      c.put_head.ensures.out_after _ _ c.requires.tens.0 c.head_length-head.ensures.value)
      at c.write_digits.ensures;
  line_unchanged = ending-kept c.args.point c.args.number c.args.line.now _ _ c.args.len
      (omega (arith, c.head_length-head.ensures.value)) (omega
      (arith, c.head_length-head.ensures.value, c.head_length-head.ensures.few)) c.requires.tens.1
      c.put_head.ensures.out_after;
}
