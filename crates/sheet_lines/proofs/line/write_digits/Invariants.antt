-- The lines of the digits below `digit` are `Filled` in; the digits left fall.
use Prim.Native.Nat.{◌+◌, ◌-◌, ◌%◌, ◌≤◌}
use Rattle.sheet_lines.specs.Working.{Filled, digit_line}
use Rattle.sheet_lines.proofs.line.write_digits.Given as goal

-- the number of the next line is as far above the first one as its digit is
abbrev pub invariant-loop-digit : goal.invariant-loop-digit
invariant-loop-digit l = Filled (digit_line l.line l.place l.number) l.initial.out l.at l.number l.until l.out l.to
    (l.number + (l.digit - (48 + l.number % 10)))
    × (48 + l.number % 10 ≤ l.digit) × (l.digit ≤ 48 + l.number % 10 + (l.until - l.number))
