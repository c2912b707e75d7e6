-- An a, a 1, a digit from 0 to 5, and a mark.
use mathlib.Core.Path.{◌∙◌}
use Rattle.aldebaran_form.specs.Lines.{label_of}
use Rattle.aldebaran_form.specs.Working.{label_found}
use Rattle.aldebaran_form.proofs.LabelReading.{high_there}
use Rattle.aldebaran_form.proofs.label.high_label.Goals as goal

pub returns : goal.returns
returns c = c.marked.ensures
    ∙ high_there _ _ _ _ (λ l. label_found (label_of l)) c.if-letter-ne97.false
    c.if-ten-ne49.false c.if-digit-lt48.false
    c.if-digit-gt53.false
