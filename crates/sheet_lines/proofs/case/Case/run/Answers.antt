-- The body of the run's record.
use Rattle.casebook.specs.Reading.{case_of}
use Rattle.sheet_lines.proofs.case.Case.run.Goals as goal

pub returns : goal.returns
unfolding case_of
returns c = c.body.ensures
