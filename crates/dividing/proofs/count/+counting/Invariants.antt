-- What falls from call to call: the formula's bytes, then the disjuncts left.
use Prim.Native.Nat.{◌+◌, ℕ, ◌*◌}
use lib.ListN.{length}
use Rattle.dividing.proofs.count.+counting.Given as goal

-- at one formula's size there are fewer steps down than this: the disjuncts of a forward modality have 68 bytes at most
abbrev pub K : ℕ
K = 100

abbrev pub decreases-count_disjunct : goal.decreases-count_disjunct
decreases-count_disjunct l = length l.f.now * K + 3

abbrev pub decreases-count_disjuncts : goal.decreases-count_disjuncts
decreases-count_disjuncts l = length l.f.now * K + 4 + length l.disjuncts.now

abbrev pub decreases-count_forward : goal.decreases-count_forward
decreases-count_forward l = length l.f.now * K

abbrev pub decreases-count_modal : goal.decreases-count_modal
decreases-count_modal l = length l.f.now * K + 1

abbrev pub decreases-count_tree : goal.decreases-count_tree
decreases-count_tree l = length l.f.now * K + 2
