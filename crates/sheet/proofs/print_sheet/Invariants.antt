-- Blocks are printed in order, and the next one begins where the last one ends; the lines left fall.
use Prim.Native.Nat.{◌+◌, ◌-◌, ◌≤◌}
use mathlib.Core.Path.{◌≡◌}
use lib.ListN.{length}
use Rattle.sheet_lines.specs.Sheets.{sheet_of}
use Rattle.sheet_lines.specs.Blocks.{block_from}
use Rattle.sheet.proofs.print_sheet.Given as goal

-- the lines in front of `first` were handed over and taken, and then those of the block that begins with it
abbrev pub invariant-loop-first : goal.invariant-loop-first
invariant-loop-first g l = (l.first ≤ length (sheet_of l.casebook)) ×
    (l.printed.next ≡ l.first + length (block_from l.casebook l.first))

abbrev pub decreases-loop-first : goal.decreases-loop-first
decreases-loop-first g l = length (sheet_of l.casebook) - l.first
