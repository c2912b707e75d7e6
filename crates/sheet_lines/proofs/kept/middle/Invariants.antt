-- The cut stays in the window, and the places left in it fall.
use Prim.Native.Nat.{◌-◌, ◌≤◌}
use Rattle.sheet_lines.proofs.kept.middle.Given as goal

abbrev pub invariant-loop-low : goal.invariant-loop-low
invariant-loop-low l = (l.low ≤ l.high) × (l.high ≤ l.steps)

abbrev pub decreases-loop-low : goal.decreases-loop-low
decreases-loop-low l = l.high - l.low
