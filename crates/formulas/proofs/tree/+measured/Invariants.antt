-- The bytes fall from call to call: an operand's are fewer.
use lib.ListN.{length}
use Rattle.formulas.proofs.tree.+measured.Given as goal

abbrev pub decreases-measured : goal.decreases-measured
decreases-measured l = length l.f.now
