-- The lines of the numbers below i are `Filled` in, and the line keeps its end; the numbers left fall.
use Prim.Native.Nat.{◌-◌}
use mathlib.Core.Path.{◌≡◌}
use lib.ListN.{length, take, drop}
use Rattle.sheet_lines.specs.Working.{Filled, line_with}
use Rattle.sheet_lines.proofs.line.write_turn.Given as goal

abbrev pub invariant-loop-i : goal.invariant-loop-i
invariant-loop-i l = Filled (line_with l.point (take l.len (drop 12 l.initial.line))) l.initial.out l.at l.number
    l.until l.out l.to l.i
    × (take l.len (drop 12 l.line) ≡ take l.len (drop 12 l.initial.line)) × (length l.line ≡ length l.initial.line)

abbrev pub decreases-loop-i : goal.decreases-loop-i
decreases-loop-i l = l.until - l.i
