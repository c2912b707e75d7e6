-- The byte stands at the place, or another one does, or the text ends before it.
use native.Mathlib.Omega.{arith}
use Rattle.aldebaran_form.proofs.Scanning.{past_there, past_other, past_end}
use Rattle.aldebaran_form.proofs.scan.past.Goals as goal
use Rattle.aldebaran_form.proofs.scan.past.Goals.{else-at-text-via-then-at-text+else-text-at, else-at-text-via-else-at-text}

pub returns-then-text-at : goal.returns-then-text-at
returns-then-text-at c = past_there _ _ _ (omega arith) c.if-text-at.true

pub returns : goal.returns
returns c =
    elim c.else-at-text.branch [
      | else-at-text-via-then-at-text+else-text-at w ↦ past_other _ _ _ w.if-at-text.true w.if-text-at.false
      | else-at-text-via-else-at-text w ↦ past_end _ _ _ w.if-at-text.false
    ]
