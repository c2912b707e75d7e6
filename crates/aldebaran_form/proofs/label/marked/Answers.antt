-- 33 / 63 is 0 and 63 / 63 is 1, and no other byte is 30 times such a quotient and 33.
use native.Mathlib.Omega.{arith}
use Rattle.aldebaran_form.proofs.LabelReading.{no_mark, with_mark}
use Rattle.aldebaran_form.proofs.label.marked.Goals as goal

pub returns-then-mark-second : goal.returns-then-mark-second
returns-then-mark-second c = no_mark _ _ (λ e. c.if-mark-second.true (omega (arith, e)))
    (λ e. c.if-mark-second.true (omega (arith, e)))

pub returns : goal.returns
returns c = with_mark _ _ c.requires.0 c.requires.1 c.if-mark-second.false
