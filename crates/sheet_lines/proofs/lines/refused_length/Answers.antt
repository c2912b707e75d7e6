-- The number's digits, and three bytes.
use native.Mathlib.Omega.{arith}
use mathlib.Core.Path.{ap}
use lib.ListN.{length}
use Rattle.digits.specs.Digits.{decimal}
use Rattle.sheet_lines.proofs.LineLaws.{length_refused, number_small, digits_two}
use Rattle.sheet_lines.proofs.lines.refused_length.Goals as goal

pub overflow_add-result : goal.overflow_add-result
overflow_add-result c = let small = number_small c.args.refusal in
    omega (arith, c.digit_count.ensures, digits_two c.number.result (omega (arith, small, c.number.ensures)))

pub returns : goal.returns
returns c = omega (
  arith,
  length_refused c.args.refusal,
  c.digit_count.ensures,
  ap (λ n. length (decimal n)) c.number.ensures,
)
