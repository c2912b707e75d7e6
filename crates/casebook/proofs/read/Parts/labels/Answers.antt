-- The labels that the first record shows are those of the case.
use Rattle.casebook.specs.Reading.{case_of}
use Rattle.casebook.proofs.read.Parts.labels.Goals as goal

pub returns : goal.returns
unfolding case_of
returns c = c.labels.ensures
