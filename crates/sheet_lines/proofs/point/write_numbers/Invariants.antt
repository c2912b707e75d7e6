-- The lines of the splittings below n are `Filled` in, and their endings known; the splittings left fall.
use Prim.Native.Nat.{◌-◌}
use Rattle.sheet_lines.specs.Working.{shown}
use Rattle.sheet_lines.specs.Working.{Filled, EndingsKnown, Scratch, ending_in, line_by}
use Rattle.sheet_lines.proofs.point.write_numbers.Given as goal

abbrev pub invariant-loop-n : goal.invariant-loop-n
invariant-loop-n l = Filled (line_by (shown l.window) l.point) l.initial.out l.at l.number l.until l.out
    l.to l.n
    × EndingsKnown (ending_in (shown l.window) l.point.letter) l.point.ways l.froms l.ends l.out l.to
    × Scratch l.froms l.ends l.text l.line

abbrev pub decreases-loop-n : goal.decreases-loop-n
decreases-loop-n l = l.until - l.n
