-- The cycle that writes a quotient, each piece into the rest of the output that the one before it left. An answer of
-- one line stands here; a longer one in the room beside this file that tells of its function.
mod Disjuncts
mod Forwards
mod Modalities
mod OneDisjunct
mod Trees
use native.Mathlib.Omega.{arith}
use Rattle.formulas.proofs.Operators.{node_room}
use Rattle.dividing.proofs.write.+writing.Answers.Trees as trees
use Rattle.dividing.proofs.write.+writing.Answers.Modalities as modalities
use Rattle.dividing.proofs.write.+writing.Answers.Forwards as forwards
use Rattle.dividing.proofs.write.+writing.Answers.Disjuncts as disjuncts
use Rattle.dividing.proofs.write.+writing.Answers.OneDisjunct as one-disjunct
use Rattle.dividing.proofs.write.+writing.Goals as goal

pub write_disjuncts-write_disjunct-requires : goal.write_disjuncts-write_disjunct-requires
write_disjuncts-write_disjunct-requires t c = disjuncts.write_disjuncts-write_disjunct-requires t c

pub write_disjuncts-returns-then-disjuncts-lt8 : goal.write_disjuncts-returns-then-disjuncts-lt8
write_disjuncts-returns-then-disjuncts-lt8 t c = disjuncts.write_disjuncts-returns-then-disjuncts-lt8 t c

pub write_disjuncts-put_node-requires : goal.write_disjuncts-put_node-requires
write_disjuncts-put_node-requires t c = disjuncts.write_disjuncts-put_node-requires t c

pub write_disjuncts-slice_bounds-write_disjunct-count : goal.write_disjuncts-slice_bounds-write_disjunct-count
write_disjuncts-slice_bounds-write_disjunct-count t c = disjuncts.write_disjuncts-slice_bounds-write_disjunct-count t c

pub write_disjuncts-slice_bounds-write_disjunct-start : goal.write_disjuncts-slice_bounds-write_disjunct-start
write_disjuncts-slice_bounds-write_disjunct-start t c = disjuncts.write_disjuncts-slice_bounds-write_disjunct-start t c

pub write_disjuncts-write_disjunct-n-requires : goal.write_disjuncts-write_disjunct-n-requires
write_disjuncts-write_disjunct-n-requires t c = disjuncts.write_disjuncts-write_disjunct-n-requires t c

pub write_disjuncts-overflow_add-at : goal.write_disjuncts-overflow_add-at
write_disjuncts-overflow_add-at t c = disjuncts.write_disjuncts-overflow_add-at t c

pub write_disjuncts-slice_bounds-write_disjuncts-count-2 : goal.write_disjuncts-slice_bounds-write_disjuncts-count-2
write_disjuncts-slice_bounds-write_disjuncts-count-2 t c =
    disjuncts.write_disjuncts-slice_bounds-write_disjuncts-count-2 t c

pub write_disjuncts-slice_bounds-write_disjuncts-start-2 : goal.write_disjuncts-slice_bounds-write_disjuncts-start-2
write_disjuncts-slice_bounds-write_disjuncts-start-2 t c =
    disjuncts.write_disjuncts-slice_bounds-write_disjuncts-start-2 t c

pub write_disjuncts-write_disjuncts-m-requires : goal.write_disjuncts-write_disjuncts-m-requires
write_disjuncts-write_disjuncts-m-requires t c = disjuncts.write_disjuncts-write_disjuncts-m-requires t c

pub write_disjuncts-overflow_add-result : goal.write_disjuncts-overflow_add-result
write_disjuncts-overflow_add-result t c = disjuncts.write_disjuncts-overflow_add-result t c

pub write_disjuncts-returns : goal.write_disjuncts-returns
write_disjuncts-returns t c = disjuncts.write_disjuncts-returns t c

pub write_forward-bounds-f-0 : goal.write_forward-bounds-f-0
write_forward-bounds-f-0 t c = omega (arith, node_room _ c.requires.ready.part.tree)

pub write_forward-bounds-f-1 : goal.write_forward-bounds-f-1
write_forward-bounds-f-1 t c = omega (arith, node_room _ c.requires.ready.part.tree)

pub write_forward-slice_bounds-disjuncts-end : goal.write_forward-slice_bounds-disjuncts-end
write_forward-slice_bounds-disjuncts-end t c = forwards.write_forward-slice_bounds-disjuncts-end t c

pub write_forward-slice_bounds-write_disjuncts-end : goal.write_forward-slice_bounds-write_disjuncts-end
write_forward-slice_bounds-write_disjuncts-end t c = forwards.write_forward-slice_bounds-write_disjuncts-end t c

pub write_forward-slice_bounds-write_disjuncts-count : goal.write_forward-slice_bounds-write_disjuncts-count
write_forward-slice_bounds-write_disjuncts-count t c = omega (arith, node_room _ c.requires.ready.part.tree)

pub write_forward-slice_bounds-write_disjuncts-start : goal.write_forward-slice_bounds-write_disjuncts-start
write_forward-slice_bounds-write_disjuncts-start t c = omega (arith, node_room _ c.requires.ready.part.tree)

pub write_forward-write_disjuncts-requires : goal.write_forward-write_disjuncts-requires
write_forward-write_disjuncts-requires t c = forwards.write_forward-write_disjuncts-requires t c

pub write_forward-returns : goal.write_forward-returns
write_forward-returns t c = forwards.write_forward-returns t c

pub write_modal-bounds-f-0 : goal.write_modal-bounds-f-0
write_modal-bounds-f-0 t c = omega (arith, node_room _ c.requires.ready.part.tree)

pub write_modal-bounds-f-1 : goal.write_modal-bounds-f-1
write_modal-bounds-f-1 t c = omega (arith, node_room _ c.requires.ready.part.tree)

pub write_modal-put_node-requires : goal.write_modal-put_node-requires
write_modal-put_node-requires t c = modalities.write_modal-put_node-requires t c

pub write_modal-overflow_sub-len : goal.write_modal-overflow_sub-len
write_modal-overflow_sub-len t c = modalities.write_modal-overflow_sub-len t c

pub write_modal-slice_bounds-write_tree-count : goal.write_modal-slice_bounds-write_tree-count
write_modal-slice_bounds-write_tree-count t c = omega (arith, node_room _ c.requires.ready.part.tree)

pub write_modal-slice_bounds-write_tree-start : goal.write_modal-slice_bounds-write_tree-start
write_modal-slice_bounds-write_tree-start t c = omega (arith, node_room _ c.requires.ready.part.tree)

pub write_modal-slice_bounds-write_tree-count-in-Some : goal.write_modal-slice_bounds-write_tree-count-in-Some
write_modal-slice_bounds-write_tree-count-in-Some t c = modalities.write_modal-slice_bounds-write_tree-count-in-Some t c

pub write_modal-slice_bounds-write_tree-start-in-Some : goal.write_modal-slice_bounds-write_tree-start-in-Some
write_modal-slice_bounds-write_tree-start-in-Some t c = modalities.write_modal-slice_bounds-write_tree-start-in-Some t c

pub write_modal-write_tree-n-requires : goal.write_modal-write_tree-n-requires
write_modal-write_tree-n-requires t c = modalities.write_modal-write_tree-n-requires t c

pub write_modal-overflow_add-result : goal.write_modal-overflow_add-result
write_modal-overflow_add-result t c = modalities.write_modal-overflow_add-result t c

pub write_modal-put_node-requires-in-None : goal.write_modal-put_node-requires-in-None
write_modal-put_node-requires-in-None t c = modalities.write_modal-put_node-requires-in-None t c

pub write_modal-returns-in-Some : goal.write_modal-returns-in-Some
write_modal-returns-in-Some t c = modalities.write_modal-returns-in-Some t c

pub write_modal-returns-in-None : goal.write_modal-returns-in-None
write_modal-returns-in-None t c = modalities.write_modal-returns-in-None t c

pub write_disjunct-put_node-requires : goal.write_disjunct-put_node-requires
write_disjunct-put_node-requires t c = one-disjunct.write_disjunct-put_node-requires t c

pub write_disjunct-slice_bounds-write_tree-count : goal.write_disjunct-slice_bounds-write_tree-count
write_disjunct-slice_bounds-write_tree-count t c = one-disjunct.write_disjunct-slice_bounds-write_tree-count t c

pub write_disjunct-slice_bounds-write_tree-start : goal.write_disjunct-slice_bounds-write_tree-start
write_disjunct-slice_bounds-write_tree-start t c = one-disjunct.write_disjunct-slice_bounds-write_tree-start t c

pub write_disjunct-write_tree-n-requires : goal.write_disjunct-write_tree-n-requires
write_disjunct-write_tree-n-requires t c = one-disjunct.write_disjunct-write_tree-n-requires t c

pub write_disjunct-overflow_add-result : goal.write_disjunct-overflow_add-result
write_disjunct-overflow_add-result t c = one-disjunct.write_disjunct-overflow_add-result t c

pub write_disjunct-returns : goal.write_disjunct-returns
write_disjunct-returns t c = one-disjunct.write_disjunct-returns t c

pub write_tree-bounds-f-0 : goal.write_tree-bounds-f-0
write_tree-bounds-f-0 t c = omega (arith, node_room _ c.requires.ready.part.tree)

pub write_tree-put_node-requires : goal.write_tree-put_node-requires
write_tree-put_node-requires t c = trees.write_tree-put_node-requires t c

pub write_tree-returns-then-operator-lt2 : goal.write_tree-returns-then-operator-lt2
write_tree-returns-then-operator-lt2 t c = trees.write_tree-returns-then-operator-lt2 t c

pub write_tree-slice_bounds-write_tree-count : goal.write_tree-slice_bounds-write_tree-count
write_tree-slice_bounds-write_tree-count t c = omega (arith, node_room _ c.requires.ready.part.tree)

pub write_tree-slice_bounds-write_tree-start : goal.write_tree-slice_bounds-write_tree-start
write_tree-slice_bounds-write_tree-start t c = omega (arith, node_room _ c.requires.ready.part.tree)

pub write_tree-slice_bounds-write_tree-count-2 : goal.write_tree-slice_bounds-write_tree-count-2
write_tree-slice_bounds-write_tree-count-2 t c = trees.write_tree-slice_bounds-write_tree-count-2 t c

pub write_tree-slice_bounds-write_tree-start-2 : goal.write_tree-slice_bounds-write_tree-start-2
write_tree-slice_bounds-write_tree-start-2 t c = trees.write_tree-slice_bounds-write_tree-start-2 t c

pub write_tree-write_tree-n-requires : goal.write_tree-write_tree-n-requires
write_tree-write_tree-n-requires t c = trees.write_tree-write_tree-n-requires t c

pub write_tree-overflow_add-at : goal.write_tree-overflow_add-at
write_tree-overflow_add-at t c = trees.write_tree-overflow_add-at t c

pub write_tree-returns-then-operator-eq2 : goal.write_tree-returns-then-operator-eq2
write_tree-returns-then-operator-eq2 t c = trees.write_tree-returns-then-operator-eq2 t c

pub write_tree-overflow_sub-size : goal.write_tree-overflow_sub-size
write_tree-overflow_sub-size t c = trees.write_tree-overflow_sub-size t c

pub write_tree-offset_bounds-sizes-f : goal.write_tree-offset_bounds-sizes-f
write_tree-offset_bounds-sizes-f t c = trees.write_tree-offset_bounds-sizes-f t c

pub write_tree-bounds-sizes-f : goal.write_tree-bounds-sizes-f
write_tree-bounds-sizes-f t c = trees.write_tree-bounds-sizes-f t c

pub write_tree-overflow_mul-second : goal.write_tree-overflow_mul-second
write_tree-overflow_mul-second t c = trees.write_tree-overflow_mul-second t c

pub write_tree-overflow_add-second : goal.write_tree-overflow_add-second
write_tree-overflow_add-second t c = trees.write_tree-overflow_add-second t c

pub write_tree-slice_bounds-second-count : goal.write_tree-slice_bounds-second-count
write_tree-slice_bounds-second-count t c = trees.write_tree-slice_bounds-second-count t c

pub write_tree-slice_bounds-second-start : goal.write_tree-slice_bounds-second-start
write_tree-slice_bounds-second-start t c = trees.write_tree-slice_bounds-second-start t c

pub write_tree-slice_bounds-write_tree-count-3 : goal.write_tree-slice_bounds-write_tree-count-3
write_tree-slice_bounds-write_tree-count-3 t c = trees.write_tree-slice_bounds-write_tree-count-3 t c

pub write_tree-slice_bounds-write_tree-start-3 : goal.write_tree-slice_bounds-write_tree-start-3
write_tree-slice_bounds-write_tree-start-3 t c = trees.write_tree-slice_bounds-write_tree-start-3 t c

pub write_tree-write_tree-m-requires : goal.write_tree-write_tree-m-requires
write_tree-write_tree-m-requires t c = trees.write_tree-write_tree-m-requires t c

pub write_tree-overflow_add-result : goal.write_tree-overflow_add-result
write_tree-overflow_add-result t c = trees.write_tree-overflow_add-result t c

pub write_tree-returns : goal.write_tree-returns
write_tree-returns t c = trees.write_tree-returns t c
