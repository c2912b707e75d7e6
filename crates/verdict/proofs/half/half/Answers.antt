-- The labels, then all else.
use mathlib.Core.Path.{sym, ◌∙◌}
use Rattle.labels.proofs.Refusals.{handed_on}
use Rattle.verdict.specs.Verdicts.{half_verdict}
use Rattle.verdict.proofs.Calls.{half_unlabelled, answer_refused}
use Rattle.verdict.proofs.half.half.Goals as goal

pub returns-in_err-check : goal.returns-in_err-check
unfolding half_verdict
returns-in_err-check c = let labels = sym c.check.ensures ∙ c.in_err-check.was in
    handed_on c.from_residual.ensures.1 ∙ answer_refused _ _ _ (sym (half_unlabelled _ _ _ _ _ _ labels))
