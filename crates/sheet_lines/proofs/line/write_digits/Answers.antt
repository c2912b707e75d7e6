-- A loop over the last digit; the lines of the digits before it are written.
use Prim.Native.Nat.{◌+◌, ◌-◌, ◌%◌}
use mathlib.Core.Path.{◌≡◌}
use native.Mathlib.Omega.{arith}
use Rattle.sheet_lines.proofs.Filling.{kept, filled_none, filled_end}
use Rattle.sheet_lines.proofs.TurnLaws.{tens_few, digits_none, digits_more, digits_stop}
use Rattle.sheet_lines.proofs.line.write_digits.Goals as goal

pub returns-then-out-line : goal.returns-then-out-line
returns-then-out-line c = digits_none _ _ _ _ _ _ (tens_few _ _ c.requires.0).0 c.requires.3 c.if-out-line.true

pub overflow_sub-end : goal.overflow_sub-end
overflow_sub-end c = omega (arith, (tens_few _ _ c.requires.0).0)

pub overflow_cast-end : goal.overflow_cast-end
overflow_cast-end c = omega (arith, tens_few _ _ c.requires.0)

pub overflow_add-end : goal.overflow_add-end
overflow_add-end c = omega (arith, tens_few _ _ c.requires.0)

pub loop-digit-init : goal.loop-digit-init
loop-digit-init c = let few = tens_few _ _ c.requires.0 in
    let z : c.args.number + (48 + c.args.number % 10 - (48 + c.args.number % 10)) ≡ c.args.number = omega arith in
    (rw z (filled_none _ _ _ _ _ few.0 c.requires.3), omega arith, omega arith)

pub returns-then-last-to : goal.returns-then-last-to
returns-then-last-to c = digits_stop _ _ _ _ _ _ _ _ _ c.loop-digit.digit c.loop-digit.invariant.0
    (omega (arith, c.loop-digit.invariant.1, c.loop-digit-test.true)) (omega (arith, c.loop-digit.invariant.1))
    (omega (arith, c.if-last-to.true, c.if-out-line.false, kept _ _ _ _ _ _ _ _ c.loop-digit.invariant.0))

pub loop-digit-preserved : goal.loop-digit-preserved
loop-digit-preserved c = let z : c.args.number + (c.loop-digit.digit - (48 + c.args.number % 10)) + 1 ≡ c.args.number +
    (c.loop-digit.digit + 1 - (48 + c.args.number % 10)) = omega (arith, c.loop-digit.invariant.1) in (
      rw (← z) (digits_more _ _ _ _ _ _ _ _ _ _ c.loop-digit.invariant.0
          (omega (arith, c.loop-digit.invariant.1, c.loop-digit-test.true)) (omega (arith, c.loop-digit.invariant.1)) _
          (omega (arith, c.if-last-to.false, c.if-out-line.false, kept _ _ _ _ _ _ _ _ c.loop-digit.invariant.0))
          c.put_line.ensures),
      omega (arith, c.loop-digit.invariant.1),
      omega (arith, c.loop-digit-test.true),
    )

pub returns : goal.returns
returns c = let few = tens_few _ _ c.requires.0 in
    let z : c.args.number + (c.loop-digit.digit - (48 + c.args.number % 10))
    ≡ c.args.until = omega (arith, c.loop-digit.invariant.1, c.loop-digit.invariant.2, c.loop-digit-test.false, few.0)
    in
    filled_end _ _ _ _ _ _ _ _ (rw z at c.loop-digit.invariant.0) (omega arith)
