-- What falls from call to call: the formula's bytes, then the disjuncts left.
use Prim.Native.Nat.{◌+◌, ℕ, ◌*◌}
use lib.ListN.{length}
use Rattle.dividing.proofs.write.+writing.Given as goal

-- at one formula's size there are fewer steps down than this: the disjuncts of a forward modality have 68 bytes at most
abbrev pub K : ℕ
K = 100

abbrev pub decreases-write_disjunct : goal.decreases-write_disjunct
decreases-write_disjunct l = length l.f.now * K + 3

abbrev pub decreases-write_disjuncts : goal.decreases-write_disjuncts
decreases-write_disjuncts l = length l.f.now * K + 4 + length l.disjuncts.now

abbrev pub decreases-write_forward : goal.decreases-write_forward
decreases-write_forward l = length l.f.now * K

abbrev pub decreases-write_modal : goal.decreases-write_modal
decreases-write_modal l = length l.f.now * K + 1

abbrev pub decreases-write_tree : goal.decreases-write_tree
decreases-write_tree l = length l.f.now * K + 2
