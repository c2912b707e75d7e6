-- The measure of a tree, from those of its operands. What falls is the length of the bytes.
use native.Mathlib.Omega.{arith}
use mathlib.Core.Path.{sym, ◌∙◌}
use lib.ListN.{length, drop, length-take, length-drop}
use Rattle.formulas.proofs.Measures.{byte_told, tree-room, leaf_measure, body_tree, one_made, body_room, later_tree}
use Rattle.formulas.proofs.Measures.{later_room, two_made, body}
use Prim.Native.Nat.{◌-◌}
use Rattle.formulas.proofs.tree.+measured.Goals as goal

pub operands_of-operands-requires : goal.operands_of-operands-requires
operands_of-operands-requires t c = (tree-room _ c.requires).0

pub returns-then-operands-eq0 : goal.returns-then-operands-eq0
returns-then-operands-eq0 t c = leaf_measure _ c.requires (sym c.operands_of-operands.ensures ∙ c.if-operands-eq0.true)

pub slice_bounds-body-count : goal.slice_bounds-body-count
slice_bounds-body-count t c = (tree-room _ c.requires).0

pub measured-first-requires : goal.measured-first-requires
measured-first-requires t c = (
  omega (
    arith,
    (tree-room c.args.f.now c.requires).0,
    length-take (length c.args.f.now - 2) (drop 2 c.args.f.now),
    length-drop 2 c.args.f.now,
  ),
  body_tree c.args.f.now c.requires (λ z. c.if-operands-eq0.false (c.operands_of-operands.ensures ∙ z)),
)

pub overflow_add-result : goal.overflow_add-result
overflow_add-result t c = omega (
  arith,
  (body_room _ c.requires _ c.measured-first.ensures
      (λ z. c.if-operands-eq0.false (c.operands_of-operands.ensures ∙ z))).0,
  c.well_formed.0,
)

pub slice_bounds-measured-count : goal.slice_bounds-measured-count
slice_bounds-measured-count t c = (body_room _ c.requires _ c.measured-first.ensures
    (λ z. c.if-operands-eq0.false (c.operands_of-operands.ensures ∙ z))).0

pub measured-second-requires : goal.measured-second-requires
measured-second-requires t c = (
  omega (
    arith,
    (tree-room c.args.f.now c.requires).0,
    length-take (length (body c.args.f.now) - c.measured-first.result.len)
        (drop c.measured-first.result.len (body c.args.f.now)),
    length-drop c.measured-first.result.len (body c.args.f.now),
    length-take (length c.args.f.now - 2) (drop 2 c.args.f.now),
    length-drop 2 c.args.f.now,
  ),
  later_tree c.args.f.now c.requires _ c.measured-first.ensures
      (λ z. c.if-operands-eq0.false (c.operands_of-operands.ensures ∙ z))
      (λ z. c.if-operands-eq1.false (c.operands_of-operands.ensures ∙ z)),
)

pub overflow_add-result-2 : goal.overflow_add-result-2
overflow_add-result-2 t c = omega (
  arith,
  later_room _ c.requires _ c.measured-first.ensures
      (λ z. c.if-operands-eq0.false (c.operands_of-operands.ensures ∙ z))
      (λ z. c.if-operands-eq1.false (c.operands_of-operands.ensures ∙ z)) _ c.measured-second.ensures,
  c.well_formed.0,
)

pub overflow_add-result-3 : goal.overflow_add-result-3
overflow_add-result-3 t c = omega (
  arith,
  later_room _ c.requires _ c.measured-first.ensures
      (λ z. c.if-operands-eq0.false (c.operands_of-operands.ensures ∙ z))
      (λ z. c.if-operands-eq1.false (c.operands_of-operands.ensures ∙ z)) _ c.measured-second.ensures,
  c.well_formed.0,
)

pub returns : goal.returns
returns t c = two_made _ c.requires _ c.measured-first.ensures
    (λ z. c.if-operands-eq0.false (c.operands_of-operands.ensures ∙ z))
    (λ z. c.if-operands-eq1.false (c.operands_of-operands.ensures ∙ z)) _ c.measured-second.ensures _ _
    c.max.ensures c.max-2.ensures

pub slice_bounds-body-start : goal.slice_bounds-body-start
slice_bounds-body-start t c = omega (arith, (tree-room _ c.requires).0)

pub bounds-f-0 : goal.bounds-f-0
bounds-f-0 t c = omega (arith, (tree-room _ c.requires).0)

pub bounds-f-0-then-operands-eq1 : goal.bounds-f-0-then-operands-eq1
bounds-f-0-then-operands-eq1 t c = omega (arith, (tree-room _ c.requires).0)

pub overflow_add-result-then-operands-eq1 : goal.overflow_add-result-then-operands-eq1
overflow_add-result-then-operands-eq1 t c = omega (
  arith,
  body_room _ c.requires _ c.measured-first.ensures
      (λ z. c.if-operands-eq0.false (c.operands_of-operands.ensures ∙ z)),
  c.well_formed.0,
  c.from.ensures,
  (byte_told c.is_forward.result).1,
)

pub overflow_add-result-then-operands-eq1-2 : goal.overflow_add-result-then-operands-eq1-2
overflow_add-result-then-operands-eq1-2 t c = omega (
  arith,
  body_room _ c.requires _ c.measured-first.ensures
      (λ z. c.if-operands-eq0.false (c.operands_of-operands.ensures ∙ z)),
  c.well_formed.0,
  c.from-then-operands-eq1.ensures,
  (byte_told c.is_back.result).1,
)

pub returns-then-operands-eq1 : goal.returns-then-operands-eq1
returns-then-operands-eq1 t c = one_made _ c.requires _ _ _ c.measured-first.ensures
    (c.from.ensures ∙ (byte_told c.is_forward.result).0 ∙ rw (← c.is_forward.ensures))
    (c.from-then-operands-eq1.ensures ∙ (byte_told c.is_back.result).0 ∙ rw (← c.is_back.ensures))
    (sym c.operands_of-operands.ensures ∙ c.if-operands-eq1.true)

pub slice_bounds-measured-start : goal.slice_bounds-measured-start
slice_bounds-measured-start t c = omega (
  arith,
  (body_room _ c.requires _ c.measured-first.ensures
      (λ z. c.if-operands-eq0.false (c.operands_of-operands.ensures ∙ z))).0,
)
