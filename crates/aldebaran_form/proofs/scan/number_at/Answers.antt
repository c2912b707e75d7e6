-- The first digit here, the others by number_from; or nothing is there.
use mathlib.Core.Path.{sym, ◌∙◌}
use Rattle.aldebaran_form.proofs.Scanning.{number_end, number_other, number-first}
use Rattle.aldebaran_form.proofs.scan.number_at.Goals as goal
use Rattle.aldebaran_form.proofs.scan.number_at.Goals.{then-text-at-via-then-text-at}
use Rattle.aldebaran_form.proofs.scan.number_at.Goals.{then-text-at-via-else-text-at+then-not-is_ascii_digit}

pub returns-then-text-at : goal.returns-then-text-at
returns-then-text-at c =
    elim c.then-text-at.branch [
      | then-text-at-via-then-text-at w ↦ rw c.nowhere.ensures (number_end _ _ w.if-text-at.true)
      | then-text-at-via-else-text-at+then-not-is_ascii_digit w ↦ rw c.nowhere.ensures
          (number_other _ _ w.if-text-at.false (sym w.is_ascii_digit.ensures.value ∙ w.if-not-is_ascii_digit.true))
    ]

pub returns : goal.returns
returns c = number-first _ _ c.if-text-at.false _ (sym c.is_ascii_digit.ensures.value ∙ c.if-not-is_ascii_digit.false)
    (c.number_from.ensures ∙ rw c.from.ensures)
