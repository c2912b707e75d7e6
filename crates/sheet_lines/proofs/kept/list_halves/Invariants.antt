-- The first i splittings have their halves in the table, and those in front keep theirs; the rest fall.
use Prim.Native.Nat.{◌*◌, ◌≤◌}
use mathlib.Core.Path.{◌≡◌}
use lib.ListN.{length, take}
use Rattle.sheet_lines.specs.Working.{shown}
use Rattle.sheet_lines.specs.Working.{HalvesAt}
use Rattle.sheet_lines.proofs.kept.list_halves.Given as goal

abbrev pub invariant-loop-i : goal.invariant-loop-i
invariant-loop-i l = HalvesAt (shown l.case) l.halves l.first l.i ×
    (take (401 * l.first) l.halves ≡ take (401 * l.first) l.initial.halves)
    × (length l.halves ≡ 205312) × (l.i ≤ l.n)
