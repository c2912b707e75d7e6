-- Each return is the size by what is known of the node and its operands.
use native.Mathlib.Omega.{arith}
use mathlib.Core.Path.{refl, sym, ◌∙◌}
use Rattle.formulas.proofs.TreeSizes.{bad-size, leaf-size, first_missing, one_size, second_missing, two_size}
use Rattle.formulas.proofs.TreeSizes.{size_known, sizes_fit}
use Rattle.formulas.proofs.sizes.first_size.Goals as goal

pub returns-then-operands-eq0 : goal.returns-then-operands-eq0
returns-then-operands-eq0 c = leaf-size _ c.requires.in_bounds _
    (sym c.in-Some.is ∙ c.read_node.ensures)
    c.if-operands-eq0.true

pub returns-then-n-eq0 : goal.returns-then-n-eq0
returns-then-n-eq0 c = first_missing _ c.requires.in_bounds _ (sym c.in-Some.is ∙ c.read_node.ensures)
    c.if-operands-eq0.false _ (size_known c.args.f.now _ c.requires.behind_value _ _ c.size_behind-n.ensures)
    c.if-n-eq0.true

pub overflow_add-result : goal.overflow_add-result
overflow_add-result c = omega (
  arith,
  c.well_formed.0,
  sizes_fit c.args.f.now c.args.behind.now c.requires.behind_value c.requires.in_bounds _ _
      c.size_behind-n.ensures refl,
)

pub returns-then-operands-eq1 : goal.returns-then-operands-eq1
returns-then-operands-eq1 c = one_size _ c.requires.in_bounds _ (sym c.in-Some.is ∙ c.read_node.ensures)
    c.if-operands-eq0.false _ (size_known c.args.f.now _ c.requires.behind_value _ _ c.size_behind-n.ensures)
    c.if-n-eq0.false c.if-operands-eq1.true

pub returns-then-m-eq0 : goal.returns-then-m-eq0
returns-then-m-eq0 c = second_missing _ c.requires.in_bounds _ (sym c.in-Some.is ∙ c.read_node.ensures)
    c.if-operands-eq0.false _ (size_known c.args.f.now _ c.requires.behind_value _ _ c.size_behind-n.ensures)
    c.if-n-eq0.false c.if-operands-eq1.false _
    (size_known c.args.f.now _ c.requires.behind_value _ _ c.size_behind-m.ensures) c.if-m-eq0.true

pub overflow_add-result-2 : goal.overflow_add-result-2
overflow_add-result-2 c = omega (
  arith,
  c.well_formed.0,
  sizes_fit c.args.f.now c.args.behind.now c.requires.behind_value c.requires.in_bounds _ _ c.size_behind-n.ensures
      c.size_behind-m.ensures,
)

pub overflow_add-result-3 : goal.overflow_add-result-3
overflow_add-result-3 c = omega (
  arith,
  c.well_formed.0,
  sizes_fit c.args.f.now c.args.behind.now c.requires.behind_value c.requires.in_bounds _ _ c.size_behind-n.ensures
      c.size_behind-m.ensures,
)

pub returns : goal.returns
returns c = two_size _ c.requires.in_bounds _ (sym c.in-Some.is ∙ c.read_node.ensures)
    c.if-operands-eq0.false _ (size_known c.args.f.now _ c.requires.behind_value _ _ c.size_behind-n.ensures)
    c.if-n-eq0.false c.if-operands-eq1.false _
    (size_known c.args.f.now _ c.requires.behind_value _ _ c.size_behind-m.ensures) c.if-m-eq0.false

pub returns-in_default : goal.returns-in_default
returns-in_default c = bad-size c.args.f.now c.requires.in_bounds (sym c.in_default.is ∙ c.read_node.ensures)
