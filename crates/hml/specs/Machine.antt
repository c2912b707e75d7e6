-- A machine of document 01: a table of rows is a system, and the moves that leave a state stand in the table's order.
use Rattle.std.specs.Prelude.{List, ℕ}
use Rattle.hml.specs.Lists.{same, only, each}
use Rattle.hml.specs.System.{System}

-- a row: from, label, to
abbrev pub Row : Type 0
Row = ℕ × ℕ × ℕ

unfoldable pub machine : List Row → System ℕ
machine rows p = each (λ r. only (same r.0 p) (r.1, r.2)) rows
