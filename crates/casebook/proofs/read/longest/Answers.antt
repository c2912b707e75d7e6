-- The constant is the sum that the table of records gives.
use mathlib.Core.Path.{sym}
use Rattle.casebook.proofs.Values.{longest_is}
use Rattle.casebook.proofs.read.longest.Goals as goal

pub returns : goal.returns
returns c = sym longest_is
