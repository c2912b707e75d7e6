-- The lines in front of i are `Filled` in; the lines left fall.
use Prim.Native.Nat.{◌-◌}
use mathlib.Core.Path.{◌≡◌}
use lib.ListN.{length}
use Rattle.sheet_lines.specs.Working.{shown}
use Rattle.sheet_lines.specs.Working.{Filled, Scratch, numbered_line}
use Rattle.sheet_lines.proofs.lines.fill.Given as goal

abbrev pub invariant-loop-i : goal.invariant-loop-i
invariant-loop-i l = Filled (numbered_line (shown l.case) l.splittings) l.initial.out 0 l.first l.end
    l.out l.at l.i × Scratch l.froms l.ends l.text l.line
    × (length l.halves ≡ 205312)

abbrev pub decreases-loop-i : goal.decreases-loop-i
decreases-loop-i l = l.end - l.i
