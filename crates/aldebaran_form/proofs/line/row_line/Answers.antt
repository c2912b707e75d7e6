-- `row_in` step by step, each from the place behind the one before; so the label is in the text.
use mathlib.Core.Path.{◌∙◌}
use borrow.Author.Tests.{le-leb}
use Rattle.aldebaran_form.specs.Working.{line_found}
use Rattle.aldebaran_form.proofs.LineReading.{row_places, row_inside, told_within, untold_beyond}
use Rattle.aldebaran_form.proofs.line.row_line.Goals as goal

pub returns-then-missing-clause-found : goal.returns-then-missing-clause-found
unfolding line_found
returns-then-missing-clause-found c = untold_beyond _ _ _ c.if-missing.true
    ∙ row_places _ _ _ _ _ _ _ _ _ _ _ _ c.past-opened.ensures c.number_at-from.ensures c.past-comma.ensures
    c.past-label.ensures c.quote_from-quote.ensures c.past-closed.ensures c.past-second.ensures c.number_at-to.ensures
    c.past-end.ensures c.past-behind.ensures

pub returns-clause-found : goal.returns-clause-found
unfolding line_found
returns-clause-found c = told_within _ _ _ c.if-missing.false
    ∙ row_places _ _ _ _ _ _ _ _ _ _ _ _ c.past-opened.ensures c.number_at-from.ensures c.past-comma.ensures
    c.past-label.ensures c.quote_from-quote.ensures c.past-closed.ensures c.past-second.ensures c.number_at-to.ensures
    c.past-end.ensures c.past-behind.ensures

pub returns-clause-inside : goal.returns-clause-inside
returns-clause-inside c = row_inside _ _ _ _ _ _ _ _ _ _ _ _ c.past-opened.ensures c.number_at-from.ensures c.past-comma.ensures
    c.past-label.ensures c.quote_from-quote.ensures c.past-closed.ensures c.past-second.ensures c.number_at-to.ensures
    c.past-end.ensures c.past-behind.ensures
    (le-leb _ _ c.if-missing.false)
