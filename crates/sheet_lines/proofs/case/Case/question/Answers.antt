-- The body of the question's record.
use Rattle.casebook.specs.Reading.{case_of}
use Rattle.sheet_lines.proofs.case.Case.question.Goals as goal

pub returns : goal.returns
unfolding case_of
returns c = c.body.ensures
