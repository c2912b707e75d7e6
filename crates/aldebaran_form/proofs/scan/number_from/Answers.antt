-- Digit by digit: what was read gives what will be read.
use native.Mathlib.Omega.{arith}
use mathlib.Core.Logic.{⊎_elim}
use mathlib.Core.Path.{sym, ◌∙◌}
use Rattle.aldebaran_form.proofs.Scanning.{read_over, read_led, read_long, read_again, digit_other, digit_end}
use Rattle.aldebaran_form.proofs.scan.number_from.Goals as goal

pub returns-then-value-eq0 : goal.returns-then-value-eq0
returns-then-value-eq0 c =
    let digit = sym c.is_ascii_digit.ensures.value ∙ c.if-is_ascii_digit.true in
    rw c.nowhere.ensures
    (⊎_elim (λ z. read_led _ _ _ _ _ c.loop-end.invariant c.loop-end-test.true digit z)
    (λ z. read_long _ _ _ _ _ c.loop-end.invariant c.loop-end-test.true digit (omega (arith, z)))
    c.then-value-eq0.either)

pub loop-end-preserved : goal.loop-end-preserved
loop-end-preserved c = rw c.from.ensures
    (read_again _ _ _ _ _ c.loop-end.invariant c.loop-end-test.true
    (sym c.is_ascii_digit.ensures.value ∙ c.if-is_ascii_digit.true) (λ z. omega (arith, z)) (omega arith))

pub returns-else-is_ascii_digit : goal.returns-else-is_ascii_digit
returns-else-is_ascii_digit c = read_over _ _ _ _ _ c.loop-end.invariant
    (digit_other _ c.loop-end.end c.loop-end-test.true
    (sym c.is_ascii_digit.ensures.value ∙ c.if-is_ascii_digit.false))

pub returns-after-loop-end : goal.returns-after-loop-end
returns-after-loop-end c = read_over _ _ _ _ _ c.loop-end.invariant (digit_end _ c.loop-end.end c.loop-end-test.false)
