-- At each return the tests say which case of `check_formula` holds.
use mathlib.Core.Path.{sym, ◌∙◌}
use Rattle.formulas.proofs.Checking.{over_limit, no_formula, not_whole, whole, tree_of_lem}
use Rattle.formulas.proofs.Checking.{label_refused, few_sound, nested_refused, formula_sound}
use Rattle.formulas.proofs.check.check_formula.Goals as goal
use Rattle.formulas.proofs.check.check_formula.Goals.{then-limit-f-via-then-limit-f}
use Rattle.formulas.proofs.check.check_formula.Goals.{then-limit-f-via-else-limit-f+then-ne}
use Rattle.formulas.proofs.check.check_formula.Goals.{then-limit-f-via-else-limit-f+else-ne+then-not-labels_fit}
use Rattle.formulas.proofs.check.check_formula.Goals.{else-count_forwards-gt4-via-then-count_forwards-gt4+else-measured-gt4}
use Rattle.formulas.proofs.check.check_formula.Goals.{else-count_forwards-gt4-via-else-count_forwards-gt4}

pub returns-then-limit-f : goal.returns-then-limit-f
returns-then-limit-f c = elim c.then-limit-f.branch [
  | then-limit-f-via-then-limit-f w ↦ over_limit _ _ _ w.if-limit-f.true
  | then-limit-f-via-else-limit-f+then-ne w ↦ no_formula _ _ _
      (not_whole _ _ _ w.tree_end.ensures w.ne.ensures w.if-ne.true)
  | then-limit-f-via-else-limit-f+else-ne+then-not-labels_fit w ↦
      let t = whole c.args.f.now _ _ w.tree_end.ensures w.ne.ensures w.if-ne.false in
      label_refused _ _ _ t.0 t.1 w.if-limit-f.false (sym w.labels_fit.ensures ∙ w.if-not-labels_fit.true)
]

pub measured-requires : goal.measured-requires
measured-requires c = let t = whole _ _ _ c.tree_end.ensures c.ne.ensures c.if-ne.false in tree_of_lem _ t.0 t.1

pub returns-then-measured-gt4 : goal.returns-then-measured-gt4
returns-then-measured-gt4 c = let t = whole _ _ _ c.tree_end.ensures c.ne.ensures c.if-ne.false in
    nested_refused _ _ _ t.0 t.1 c.if-limit-f.false (sym c.labels_fit.ensures ∙ c.if-not-labels_fit.false)
    _ c.measured.ensures c.if-measured-gt4.true

pub returns : goal.returns
returns c = let t = whole _ _ _ c.tree_end.ensures c.ne.ensures c.if-ne.false in
    let fit = sym c.labels_fit.ensures ∙ c.if-not-labels_fit.false in
    elim c.else-count_forwards-gt4.branch [
      | else-count_forwards-gt4-via-then-count_forwards-gt4+else-measured-gt4 w ↦
          formula_sound _ _ _ t.0 t.1 c.if-limit-f.false fit _ w.measured.ensures w.if-measured-gt4.false
      | else-count_forwards-gt4-via-else-count_forwards-gt4 w ↦
          few_sound _ _ _ t.0 t.1 c.if-limit-f.false fit _ c.count_forwards.ensures w.if-count_forwards-gt4.false
    ]
