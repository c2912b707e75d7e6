-- `head_in` step by step, each from the place behind the one before.
use mathlib.Core.Path.{◌∙◌}
use Rattle.aldebaran_form.specs.Working.{header_found, head_found}
use Rattle.aldebaran_form.proofs.LineReading.{header_places, told_within, untold_beyond}
use Rattle.aldebaran_form.proofs.line.header_line.Goals as goal

pub returns-then-missing-clause-found : goal.returns-then-missing-clause-found
unfolding head_found
returns-then-missing-clause-found c = untold_beyond _ _ _ c.if-missing.true
    ∙ header_places _ _ _ _ _ _ _ _ _ c.past_des-opened.ensures c.number_at-first.ensures c.past-second.ensures
    c.number_at-rows.ensures c.past-third.ensures c.number_at-states.ensures c.past-end.ensures
    c.past-start.ensures

pub returns-clause-found : goal.returns-clause-found
unfolding head_found header_found
returns-clause-found c = told_within _ _ _ c.if-missing.false
    ∙ header_places _ _ _ _ _ _ _ _ _ c.past_des-opened.ensures c.number_at-first.ensures c.past-second.ensures
    c.number_at-rows.ensures c.past-third.ensures c.number_at-states.ensures c.past-end.ensures
    c.past-start.ensures
