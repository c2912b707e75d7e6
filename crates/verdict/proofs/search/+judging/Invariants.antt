-- What falls from call to call: the formula's nodes left, then the rows left.
use Prim.Native.Nat.{ℕ, ◌+◌, ◌*◌}
use mathlib.Core.Path.{◌≡◌}
use Rattle.verdict.specs.Working.{left_in, right_in}
use Rattle.verdict.proofs.Going as going
use Rattle.verdict.proofs.search.+judging.Given as goal

-- at one number of nodes there are fewer steps down than this: at most eight rows leave a state
abbrev pub K : ℕ
K = 100

abbrev pub invariant-holds-loop-word : goal.invariant-holds-loop-word
invariant-holds-loop-word l = (l.run ≡ l.initial.run) × going.Going l.labels (left_in l.grids) (right_in l.grids) l.code
    l.initial.run l.len-2 l.nodes-2 l.len l.nodes l.even

abbrev pub decreases-holds-loop-word : goal.decreases-holds-loop-word
decreases-holds-loop-word l = l.nodes

abbrev pub decreases-ahead : goal.decreases-ahead
decreases-ahead l = l.nodes * K

abbrev pub decreases-forward : goal.decreases-forward
decreases-forward l = l.nodes * K + 25

abbrev pub decreases-holds : goal.decreases-holds
decreases-holds l = l.nodes * K + 2

abbrev pub decreases-judge : goal.decreases-judge
decreases-judge l = l.nodes * K + 1

abbrev pub decreases-operand : goal.decreases-operand
decreases-operand l = l.nodes * K + 3

abbrev pub decreases-stay : goal.decreases-stay
decreases-stay l = l.nodes * K + 4

abbrev pub decreases-try_both : goal.decreases-try_both
decreases-try_both l = l.nodes * K + 24

abbrev pub decreases-try_handshakes : goal.decreases-try_handshakes
decreases-try_handshakes l = l.nodes * K + 15 + l.rows.count

abbrev pub decreases-try_alone : goal.decreases-try_alone
decreases-try_alone l = l.nodes * K + 14

abbrev pub decreases-try_moves : goal.decreases-try_moves
decreases-try_moves l = l.nodes * K + 13

abbrev pub decreases-try_partner : goal.decreases-try_partner
decreases-try_partner l = l.nodes * K + 14

abbrev pub decreases-try_rows : goal.decreases-try_rows
decreases-try_rows l = l.nodes * K + 4 + l.rows.count
