-- The number falls from call to call.
use Rattle.digits.proofs.decimal.+write_long.Given as goal

abbrev pub decreases-write_long : goal.decreases-write_long
decreases-write_long l = l.n
