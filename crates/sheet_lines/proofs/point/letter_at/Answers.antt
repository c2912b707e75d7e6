-- The letter of the joint verdict on the case that the bytes show.
use mathlib.Core.Path.{◌∙◌, ap}
use Rattle.verdict.specs.Verdicts.{joint_verdict}
use Rattle.sheet_lines.specs.Sheets.{letter_of}
use Rattle.sheet_lines.specs.Working.{shown}
use Rattle.sheet_lines.proofs.CaseLaws.{case_shown}
use Rattle.sheet_lines.proofs.point.letter_at.Goals as goal

pub returns : goal.returns
returns c = c.letter_of.ensures
    ∙ ap letter_of
    (c.joint.ensures
    ∙ case_shown (shown c.args.case) _ _ _ _ c.labels-labels.ensures
    c.left.ensures c.right.ensures c.run.ensures _
    c.question.ensures (λ x l r j q. joint_verdict x l r j q c.args.point))
