-- An a, a digit from 1 to 9, and a mark.
use mathlib.Core.Path.{◌∙◌}
use Rattle.aldebaran_form.specs.Lines.{label_of}
use Rattle.aldebaran_form.specs.Working.{label_found}
use Rattle.aldebaran_form.proofs.LabelReading.{low_there}
use Rattle.aldebaran_form.proofs.label.low_label.Goals as goal

pub returns : goal.returns
returns c = c.marked.ensures
    ∙ low_there _ _ _ (λ l. label_found (label_of l)) c.if-letter-ne97.false
    c.if-digit-lt49.false c.if-digit-gt57.false
