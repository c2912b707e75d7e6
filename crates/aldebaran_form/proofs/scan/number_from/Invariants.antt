-- What was read up to `end` gives what will be read (`NumberRead`); the bytes left fall.
use Prim.Native.Nat.{◌-◌}
use lib.ListN.{length}
use Rattle.aldebaran_form.proofs.Scanning.{NumberRead}
use Rattle.aldebaran_form.proofs.scan.number_from.Given as goal

abbrev pub invariant-loop-end : goal.invariant-loop-end
invariant-loop-end l = NumberRead l.text l.at l.first l.value l.end

abbrev pub decreases-loop-end : goal.decreases-loop-end
decreases-loop-end l = length l.text - l.end
