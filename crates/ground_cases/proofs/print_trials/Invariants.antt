-- Each trial ends behind its beginning, so what is left of the input falls.
use Rattle.std.proofs.Common.{length, ◌-◌}
use Rattle.ground_cases.proofs.print_trials.Given as goal

abbrev pub decreases-loop-at : goal.decreases-loop-at
decreases-loop-at g l = length l.input - l.at
