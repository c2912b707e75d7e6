-- The verdict's number.
use mathlib.Core.Path.{◌∙◌, ap}
use Rattle.verdict.specs.Verdicts.{verdict_answer}
use Rattle.engine.specs.Answers.{packed, only}
use Rattle.engine.proofs.yenuslap_half_verdict.Goals as goal

pub returns : goal.returns
returns c = c.verdict_value.ensures ∙ ap (λ v. packed only (verdict_answer v))
    (rw c.of_pairs-labels.ensures at c.half.ensures)
