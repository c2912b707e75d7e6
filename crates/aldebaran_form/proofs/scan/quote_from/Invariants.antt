-- The label from `end` on ends where the one from `at` on does; the bytes left fall.
use Prim.Native.Nat.{◌+◌, ◌-◌}
use mathlib.Core.Path.{◌≡◌}
use lib.ListN.{length, drop}
use Rattle.aldebaran_form.specs.Working.{label_to}
use Rattle.aldebaran_form.proofs.scan.quote_from.Given as goal

abbrev pub invariant-loop-end : goal.invariant-loop-end
invariant-loop-end l = l.at + length (label_to (drop l.at l.text)) ≡ l.end + length (label_to (drop l.end l.text))

abbrev pub decreases-loop-end : goal.decreases-loop-end
decreases-loop-end l = length l.text - l.end
