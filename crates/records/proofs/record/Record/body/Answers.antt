-- What there is of the body.
use Rattle.std.proofs.Common.{arith}
use Rattle.std.proofs.lemmas.Grind.{common_steps}
use lib.Seq.{take_all}
use lib.ListN.{drop_of_length-le}
use Rattle.records.specs.Records.{body_of}
use Rattle.records.proofs.record.Record.body.Goals as goal

pub returns : goal.returns
unfolding body_of
returns c = grind (arith, common_steps, take_all, drop_of_length-le)
