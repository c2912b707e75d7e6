-- A connective, or a back modality.
use mathlib.Core.Path.{sym, ◌∙◌}
use Rattle.verdict.specs.Working.{goes_on}
use Rattle.verdict.proofs.back.goes_on.Goals as goal

pub returns-then-is_connective : goal.returns-then-is_connective
unfolding goes_on
returns-then-is_connective c = rw (sym c.is_connective.ensures ∙ c.if-is_connective.true) c.if-is_connective.true

pub returns-else-is_connective : goal.returns-else-is_connective
unfolding goes_on
returns-else-is_connective c = rw (sym c.is_connective.ensures ∙ c.if-is_connective.false) c.is_back.ensures
