-- The copy and the sizes; where the bytes do not surely fit, the count, then a refusal; then the bytes.
use mathlib.Core.Path.{◌≡◌, refl, sym, ◌∙◌}
use lib.ListN.{length}
use Rattle.dividing.proofs.Division.{half_copied, question_ready, Fits, sure_fits, answer_large, answer_short}
use Rattle.dividing.proofs.Division.{counted-fits, text-fits, answer_written}
use Rattle.hml.proofs.Clauses.{to_value_out_after}
use Rattle.dividing.proofs.divide.write_quotient.Goals.{then-not-surely_fits+else-too_large+else-out-nodes}
use Rattle.dividing.proofs.divide.write_quotient.Goals.{else-not-surely_fits}
use Rattle.dividing.proofs.divide.write_quotient.Goals as goal

pub count_tree-nodes-requires-clause-ready : goal.count_tree-nodes-requires-clause-ready
count_tree-nodes-requires-clause-ready c =
    let h = half_copied _ _ c.requires.half_value _ _ _ refl c.copy.ensures.count c.copy.ensures.copied in
    rw c.tree_sizes.ensures
    (question_ready c.args.labels c.args.table.now c.args.half.now c.args.question.now c.requires.half_value
    c.requires.legal
    _ h _ refl c.copy.auto.dst)

pub returns-then-too_large : goal.returns-then-too_large
returns-then-too_large c =
    let h = half_copied _ _ c.requires.half_value _ _ _ refl c.copy.ensures.count c.copy.ensures.copied in
    to_value_out_after
    (answer_large c.args.labels c.args.table.now c.args.half.now c.args.question.now c.requires.half_value
    c.requires.legal
    _ h _ c.count_tree-nodes.ensures.result_value _ c.if-too_large.true)

pub returns-then-out-nodes : goal.returns-then-out-nodes
returns-then-out-nodes c =
    let h = half_copied _ _ c.requires.half_value _ _ _ refl c.copy.ensures.count c.copy.ensures.copied in
    to_value_out_after
    (answer_short c.args.labels c.args.table.now c.args.half.now c.args.question.now c.requires.half_value
    c.requires.legal
    _ h _ c.count_tree-nodes.ensures.result_value c.if-too_large.false _ c.if-out-nodes.true)

pub write_tree-requires-clause-ready : goal.write_tree-requires-clause-ready
write_tree-requires-clause-ready c =
    let h = half_copied _ _ c.requires.half_value _ _ _ refl c.copy.ensures.count c.copy.ensures.copied in
    let same : c.if-not-surely_fits.run ≡ c.copy.new.dst = elim c.if-not-surely_fits.branch [
      | then-not-surely_fits+else-too_large+else-out-nodes w ↦ w.run-is ∙ w.count_tree-nodes.ensures.run_unchanged
      | else-not-surely_fits w ↦ w.run-is
    ] in
    rw (same, c.tree_sizes.ensures)
    (question_ready c.args.labels c.args.table.now c.args.half.now c.args.question.now c.requires.half_value
    c.requires.legal
    _ h _ refl c.copy.auto.dst)

pub write_tree-requires-clause-run_in_bounds : goal.write_tree-requires-clause-run_in_bounds
write_tree-requires-clause-run_in_bounds c =
    let h = half_copied _ _ c.requires.half_value _ _ _ refl c.copy.ensures.count c.copy.ensures.copied in
    let same : c.if-not-surely_fits.run ≡ c.copy.new.dst = elim c.if-not-surely_fits.branch [
      | then-not-surely_fits+else-too_large+else-out-nodes w ↦ w.run-is ∙ w.count_tree-nodes.ensures.run_unchanged
      | else-not-surely_fits w ↦ w.run-is
    ] in
    let fits : Fits c.args.labels c.args.table.now c.args.half.now c.args.question.now c.requires.half_value
    c.requires.legal
    (length c.args.out.now) = elim c.if-not-surely_fits.branch [
      | then-not-surely_fits+else-too_large+else-out-nodes w ↦ counted-fits
          c.args.labels c.args.table.now c.args.half.now c.args.question.now c.requires.half_value
          c.requires.legal
          _ h _ w.count_tree-nodes.ensures.result_value w.if-too_large.false c.args.out.now w.if-out-nodes.false
      | else-not-surely_fits w ↦ sure_fits
          c.args.labels c.args.table.now c.args.half.now c.args.question.now c.requires.half_value
          c.requires.legal
          _ (sym c.surely_fits.ensures ∙ w.if-not-surely_fits.false)
    ] in
    rw same
    (text-fits c.args.labels c.args.table.now c.args.half.now c.args.question.now c.requires.half_value
    c.requires.legal
    _ h c.args.out.now fits)

pub returns : goal.returns
returns c =
    let h = half_copied _ _ c.requires.half_value _ _ _ refl c.copy.ensures.count c.copy.ensures.copied in
    let same : c.if-not-surely_fits.run ≡ c.copy.new.dst = elim c.if-not-surely_fits.branch [
      | then-not-surely_fits+else-too_large+else-out-nodes w ↦ w.run-is ∙ w.count_tree-nodes.ensures.run_unchanged
      | else-not-surely_fits w ↦ w.run-is
    ] in
    let fits : Fits c.args.labels c.args.table.now c.args.half.now c.args.question.now c.requires.half_value
    c.requires.legal
    (length c.args.out.now) = elim c.if-not-surely_fits.branch [
      | then-not-surely_fits+else-too_large+else-out-nodes w ↦ counted-fits
          c.args.labels c.args.table.now c.args.half.now c.args.question.now c.requires.half_value
          c.requires.legal
          _ h _ w.count_tree-nodes.ensures.result_value w.if-too_large.false c.args.out.now w.if-out-nodes.false
      | else-not-surely_fits w ↦ sure_fits
          c.args.labels c.args.table.now c.args.half.now c.args.question.now c.requires.half_value
          c.requires.legal
          _ (sym c.surely_fits.ensures ∙ w.if-not-surely_fits.false)
    ] in
    to_value_out_after
    (answer_written c.args.labels c.args.table.now c.args.half.now c.args.question.now c.requires.half_value
    c.requires.legal
    _ h c.args.out.now fits _ _ (rw same at c.write_tree.ensures.value) (rw same at c.write_tree.ensures.out_after))
