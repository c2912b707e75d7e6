-- The cycle that counts the nodes of a quotient. An answer of one line stands here; a longer one in the room beside this
-- file that tells of its function.
mod Disjuncts
mod Forwards
mod Modalities
mod Trees
use native.Mathlib.Omega.{arith}
use Rattle.formulas.proofs.Operators.{node_room}
use Rattle.dividing.proofs.count.+counting.Answers.Trees as trees
use Rattle.dividing.proofs.count.+counting.Answers.Modalities as modalities
use Rattle.dividing.proofs.count.+counting.Answers.Forwards as forwards
use Rattle.dividing.proofs.count.+counting.Answers.Disjuncts as disjuncts
use Rattle.dividing.proofs.count.+counting.Goals as goal

pub count_disjuncts-returns-then-disjuncts-lt8 : goal.count_disjuncts-returns-then-disjuncts-lt8
count_disjuncts-returns-then-disjuncts-lt8 t c = disjuncts.count_disjuncts-returns-then-disjuncts-lt8 t c

pub count_disjuncts-returns-then-limit-eq0 : goal.count_disjuncts-returns-then-limit-eq0
count_disjuncts-returns-then-limit-eq0 t c = disjuncts.count_disjuncts-returns-then-limit-eq0 t c

pub count_disjuncts-returns-then-n-limit : goal.count_disjuncts-returns-then-n-limit
count_disjuncts-returns-then-n-limit t c = disjuncts.count_disjuncts-returns-then-n-limit t c

pub count_disjuncts-count_disjuncts-m-requires : goal.count_disjuncts-count_disjuncts-m-requires
count_disjuncts-count_disjuncts-m-requires t c = disjuncts.count_disjuncts-count_disjuncts-m-requires t c

pub count_disjuncts-returns : goal.count_disjuncts-returns
count_disjuncts-returns t c = disjuncts.count_disjuncts-returns t c

pub count_disjunct-returns-then-limit-eq0 : goal.count_disjunct-returns-then-limit-eq0
count_disjunct-returns-then-limit-eq0 t c = disjuncts.count_disjunct-returns-then-limit-eq0 t c

pub count_disjunct-count_tree-n-requires : goal.count_disjunct-count_tree-n-requires
count_disjunct-count_tree-n-requires t c = disjuncts.count_disjunct-count_tree-n-requires t c

pub count_disjunct-returns : goal.count_disjunct-returns
count_disjunct-returns t c = disjuncts.count_disjunct-returns t c

pub count_forward-bounds-f-0 : goal.count_forward-bounds-f-0
count_forward-bounds-f-0 t c = omega (arith, node_room _ c.requires.ready.part.tree)

pub count_forward-bounds-f-1 : goal.count_forward-bounds-f-1
count_forward-bounds-f-1 t c = omega (arith, node_room _ c.requires.ready.part.tree)

pub count_forward-slice_bounds-disjuncts-end : goal.count_forward-slice_bounds-disjuncts-end
count_forward-slice_bounds-disjuncts-end t c = forwards.count_forward-slice_bounds-disjuncts-end t c

pub count_forward-slice_bounds-count_disjuncts-end : goal.count_forward-slice_bounds-count_disjuncts-end
count_forward-slice_bounds-count_disjuncts-end t c = forwards.count_forward-slice_bounds-count_disjuncts-end t c

pub count_forward-slice_bounds-count_disjuncts-count : goal.count_forward-slice_bounds-count_disjuncts-count
count_forward-slice_bounds-count_disjuncts-count t c = omega (arith, node_room _ c.requires.ready.part.tree)

pub count_forward-slice_bounds-count_disjuncts-start : goal.count_forward-slice_bounds-count_disjuncts-start
count_forward-slice_bounds-count_disjuncts-start t c = omega (arith, node_room _ c.requires.ready.part.tree)

pub count_forward-count_disjuncts-requires : goal.count_forward-count_disjuncts-requires
count_forward-count_disjuncts-requires t c = forwards.count_forward-count_disjuncts-requires t c

pub count_forward-returns : goal.count_forward-returns
count_forward-returns t c = forwards.count_forward-returns t c

pub count_modal-bounds-f-0 : goal.count_modal-bounds-f-0
count_modal-bounds-f-0 t c = omega (arith, node_room _ c.requires.ready.part.tree)

pub count_modal-bounds-f-1 : goal.count_modal-bounds-f-1
count_modal-bounds-f-1 t c = omega (arith, node_room _ c.requires.ready.part.tree)

pub count_modal-overflow_sub-len : goal.count_modal-overflow_sub-len
count_modal-overflow_sub-len t c = modalities.count_modal-overflow_sub-len t c

pub count_modal-slice_bounds-count_tree-count : goal.count_modal-slice_bounds-count_tree-count
count_modal-slice_bounds-count_tree-count t c = omega (arith, node_room _ c.requires.ready.part.tree)

pub count_modal-slice_bounds-count_tree-start : goal.count_modal-slice_bounds-count_tree-start
count_modal-slice_bounds-count_tree-start t c = omega (arith, node_room _ c.requires.ready.part.tree)

pub count_modal-count_tree-n-requires : goal.count_modal-count_tree-n-requires
count_modal-count_tree-n-requires t c = modalities.count_modal-count_tree-n-requires t c

pub count_modal-returns-in-Some : goal.count_modal-returns-in-Some
count_modal-returns-in-Some t c = modalities.count_modal-returns-in-Some t c

pub count_modal-returns-in-None : goal.count_modal-returns-in-None
count_modal-returns-in-None t c = modalities.count_modal-returns-in-None t c

pub count_tree-bounds-f-0 : goal.count_tree-bounds-f-0
count_tree-bounds-f-0 t c = omega (arith, node_room _ c.requires.ready.part.tree)

pub count_tree-returns-then-operator-lt2 : goal.count_tree-returns-then-operator-lt2
count_tree-returns-then-operator-lt2 t c = trees.count_tree-returns-then-operator-lt2 t c

pub count_tree-returns-then-limit-eq0 : goal.count_tree-returns-then-limit-eq0
count_tree-returns-then-limit-eq0 t c = trees.count_tree-returns-then-limit-eq0 t c

pub count_tree-slice_bounds-count_tree-count : goal.count_tree-slice_bounds-count_tree-count
count_tree-slice_bounds-count_tree-count t c = omega (arith, node_room _ c.requires.ready.part.tree)

pub count_tree-slice_bounds-count_tree-start : goal.count_tree-slice_bounds-count_tree-start
count_tree-slice_bounds-count_tree-start t c = omega (arith, node_room _ c.requires.ready.part.tree)

pub count_tree-count_tree-n-requires : goal.count_tree-count_tree-n-requires
count_tree-count_tree-n-requires t c = trees.count_tree-count_tree-n-requires t c

pub count_tree-returns-then-operator-eq2 : goal.count_tree-returns-then-operator-eq2
count_tree-returns-then-operator-eq2 t c = trees.count_tree-returns-then-operator-eq2 t c

pub count_tree-returns-then-n-limit : goal.count_tree-returns-then-n-limit
count_tree-returns-then-n-limit t c = trees.count_tree-returns-then-n-limit t c

pub count_tree-overflow_sub-size : goal.count_tree-overflow_sub-size
count_tree-overflow_sub-size t c = trees.count_tree-overflow_sub-size t c

pub count_tree-offset_bounds-sizes-f : goal.count_tree-offset_bounds-sizes-f
count_tree-offset_bounds-sizes-f t c = trees.count_tree-offset_bounds-sizes-f t c

pub count_tree-bounds-sizes-f : goal.count_tree-bounds-sizes-f
count_tree-bounds-sizes-f t c = trees.count_tree-bounds-sizes-f t c

pub count_tree-overflow_mul-second : goal.count_tree-overflow_mul-second
count_tree-overflow_mul-second t c = trees.count_tree-overflow_mul-second t c

pub count_tree-overflow_add-second : goal.count_tree-overflow_add-second
count_tree-overflow_add-second t c = trees.count_tree-overflow_add-second t c

pub count_tree-slice_bounds-second-count : goal.count_tree-slice_bounds-second-count
count_tree-slice_bounds-second-count t c = trees.count_tree-slice_bounds-second-count t c

pub count_tree-slice_bounds-second-start : goal.count_tree-slice_bounds-second-start
count_tree-slice_bounds-second-start t c = trees.count_tree-slice_bounds-second-start t c

pub count_tree-count_tree-m-requires : goal.count_tree-count_tree-m-requires
count_tree-count_tree-m-requires t c = trees.count_tree-count_tree-m-requires t c

pub count_tree-returns : goal.count_tree-returns
count_tree-returns t c = trees.count_tree-returns t c
