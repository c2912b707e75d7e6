-- Each `?` and the last test say how far the reading came: the answer is that of the definition which goes on from
-- there.
use mathlib.Core.Path.{sym, ◌∙◌}
use Rattle.labels.proofs.Refusals.{handed_on}
use Rattle.tables.specs.Tables.{check_table}
use Rattle.formulas.specs.Formulas.{check_formula}
use Rattle.casebook.proofs.Reading.{seen, labels_seen, labels_sound, labels_refused, first_refused}
use Rattle.casebook.proofs.Reading.{left_sound, left_refused, no_left, right_sound, right_refused, no_right}
use Rattle.casebook.proofs.Reading.{run_seen, run_sound, run_refused, no_run}
use Rattle.casebook.proofs.Reading.{question_refused, bytes_after, whole, no_question}
use Rattle.casebook.proofs.read.read.Goals as goal

pub returns-in_err-first : goal.returns-in_err-first
returns-in_err-first c = handed_on c.from_residual.ensures.1 ∙ first_refused _ _
    (sym c.in_err-first.was ∙ c.next.ensures)

pub returns-in_err-check : goal.returns-in_err-check
returns-in_err-check c = handed_on c.from_residual-in_err-check.ensures.1 ∙ labels_refused _ _ _
    (sym c.in_ok-first.was ∙ c.next.ensures) _ (labels_seen c.labels-labels.ensures c.check.ensures
    c.in_err-check.was)

pub returns-in_err-left : goal.returns-in_err-left
returns-in_err-left c = let k = labels_sound _ _ _ (sym c.in_ok-first.was ∙ c.next.ensures)
    (labels_seen c.labels-labels.ensures c.check.ensures c.in_ok-check.was) in
    handed_on c.from_residual-in_err-left.ensures.1 ∙ k (no_left _ _ _ _ (sym c.in_err-left.was ∙ c.next-2.ensures))

pub returns-in_err-check_table : goal.returns-in_err-check_table
returns-in_err-check_table c = let k = labels_sound _ _ _ (sym c.in_ok-first.was ∙ c.next.ensures)
    (labels_seen c.labels-labels.ensures c.check.ensures c.in_ok-check.was) in
    handed_on c.from_residual-in_err-check_table.ensures.1 ∙ k
    (left_refused _ _ _ _ _ (sym c.in_ok-left.was ∙ c.next-2.ensures) _
    (seen check_table c.labels-labels.ensures c.body.ensures c.check_table.ensures c.in_err-check_table.was))

pub returns-in_err-right : goal.returns-in_err-right
returns-in_err-right c = let k = labels_sound _ _ _ (sym c.in_ok-first.was ∙ c.next.ensures)
    (labels_seen c.labels-labels.ensures c.check.ensures c.in_ok-check.was) in
    let l-sound = seen check_table c.labels-labels.ensures c.body.ensures c.check_table.ensures
    c.in_ok-check_table.was in
    let l = left_sound _ _ _ _ _ (sym c.in_ok-left.was ∙ c.next-2.ensures) l-sound in
    handed_on c.from_residual-in_err-right.ensures.1 ∙ k (l (no_right _ _ _ _ _
    (sym c.in_err-right.was ∙ c.next-3.ensures)))

pub returns-in_err-check_table-2 : goal.returns-in_err-check_table-2
returns-in_err-check_table-2 c = let k = labels_sound _ _ _ (sym c.in_ok-first.was ∙ c.next.ensures)
    (labels_seen c.labels-labels.ensures c.check.ensures c.in_ok-check.was) in
    let l-sound = seen check_table c.labels-labels.ensures c.body.ensures c.check_table.ensures
    c.in_ok-check_table.was in
    let l = left_sound _ _ _ _ _ (sym c.in_ok-left.was ∙ c.next-2.ensures) l-sound in
    handed_on c.from_residual-in_err-check_table-2.ensures.1 ∙ k
    (l (right_refused _ _ _ _ _ _ (sym c.in_ok-right.was ∙ c.next-3.ensures) _
    (seen check_table c.labels-labels.ensures c.body-2.ensures c.check_table-2.ensures c.in_err-check_table-2.was)))

pub returns-in_err-run : goal.returns-in_err-run
returns-in_err-run c = let k = labels_sound _ _ _ (sym c.in_ok-first.was ∙ c.next.ensures)
    (labels_seen c.labels-labels.ensures c.check.ensures c.in_ok-check.was) in
    let l-sound = seen check_table c.labels-labels.ensures c.body.ensures c.check_table.ensures
    c.in_ok-check_table.was in
    let l = left_sound _ _ _ _ _ (sym c.in_ok-left.was ∙ c.next-2.ensures) l-sound in
    let r-sound = seen check_table c.labels-labels.ensures c.body-2.ensures c.check_table-2.ensures
    c.in_ok-check_table-2.was in
    let r = right_sound _ _ _ _ _ _ (sym c.in_ok-right.was ∙ c.next-3.ensures) r-sound in
    handed_on c.from_residual-in_err-run.ensures.1 ∙ k (l (r (no_run _ _ _ _ _ _
    (sym c.in_err-run.was ∙ c.next-4.ensures))))

pub returns-in_err-check_joint : goal.returns-in_err-check_joint
returns-in_err-check_joint c = let k = labels_sound _ _ _ (sym c.in_ok-first.was ∙ c.next.ensures)
    (labels_seen c.labels-labels.ensures c.check.ensures c.in_ok-check.was) in
    let l-sound = seen check_table c.labels-labels.ensures c.body.ensures c.check_table.ensures
    c.in_ok-check_table.was in
    let l = left_sound _ _ _ _ _ (sym c.in_ok-left.was ∙ c.next-2.ensures) l-sound in
    let r-sound = seen check_table c.labels-labels.ensures c.body-2.ensures c.check_table-2.ensures
    c.in_ok-check_table-2.was in
    let r = right_sound _ _ _ _ _ _ (sym c.in_ok-right.was ∙ c.next-3.ensures) r-sound in
    handed_on c.from_residual-in_err-check_joint.ensures.1 ∙ k
    (l (r (run_refused _ _ _ _ _ _ _ (sym c.in_ok-run.was ∙ c.next-4.ensures) _
    (run_seen _ _ _ _ _ l-sound r-sound c.labels-labels.ensures c.body-3.ensures c.body-4.ensures c.body-5.ensures
    c.check_joint.ensures c.in_err-check_joint.was))))

pub returns-in_err-question : goal.returns-in_err-question
returns-in_err-question c = let k = labels_sound _ _ _ (sym c.in_ok-first.was ∙ c.next.ensures)
    (labels_seen c.labels-labels.ensures c.check.ensures c.in_ok-check.was) in
    let l-sound = seen check_table c.labels-labels.ensures c.body.ensures c.check_table.ensures
    c.in_ok-check_table.was in
    let l = left_sound _ _ _ _ _ (sym c.in_ok-left.was ∙ c.next-2.ensures) l-sound in
    let r-sound = seen check_table c.labels-labels.ensures c.body-2.ensures c.check_table-2.ensures
    c.in_ok-check_table-2.was in
    let r = right_sound _ _ _ _ _ _ (sym c.in_ok-right.was ∙ c.next-3.ensures) r-sound in
    let j = run_sound _ _ _ _ _ _ _ (sym c.in_ok-run.was ∙ c.next-4.ensures)
    (run_seen _ _ _ _ _ l-sound r-sound c.labels-labels.ensures c.body-3.ensures c.body-4.ensures c.body-5.ensures
    c.check_joint.ensures c.in_ok-check_joint.was) in
    handed_on c.from_residual-in_err-question.ensures.1 ∙ k (l
    (r (j (no_question _ _ _ _ _ _ _ (sym c.in_err-question.was ∙ c.next-5.ensures)))))

pub returns-in_err-check_formula : goal.returns-in_err-check_formula
returns-in_err-check_formula c = let k = labels_sound _ _ _ (sym c.in_ok-first.was ∙ c.next.ensures)
    (labels_seen c.labels-labels.ensures c.check.ensures c.in_ok-check.was) in
    let l-sound = seen check_table c.labels-labels.ensures c.body.ensures c.check_table.ensures
    c.in_ok-check_table.was in
    let l = left_sound _ _ _ _ _ (sym c.in_ok-left.was ∙ c.next-2.ensures) l-sound in
    let r-sound = seen check_table c.labels-labels.ensures c.body-2.ensures c.check_table-2.ensures
    c.in_ok-check_table-2.was in
    let r = right_sound _ _ _ _ _ _ (sym c.in_ok-right.was ∙ c.next-3.ensures) r-sound in
    let j = run_sound _ _ _ _ _ _ _ (sym c.in_ok-run.was ∙ c.next-4.ensures)
    (run_seen _ _ _ _ _ l-sound r-sound c.labels-labels.ensures c.body-3.ensures c.body-4.ensures c.body-5.ensures
    c.check_joint.ensures c.in_ok-check_joint.was) in
    handed_on c.from_residual-in_err-check_formula.ensures.1 ∙ k
    (l (r (j (question_refused _ _ _ _ _ _ _ _ (sym c.in_ok-question.was ∙ c.next-5.ensures) _
    (seen (λ x. check_formula x 64) c.labels-labels.ensures c.body-6.ensures c.check_formula.ensures
    c.in_err-check_formula.was)))))

pub returns-then-behind-s : goal.returns-then-behind-s
returns-then-behind-s c = let k = labels_sound _ _ _ (sym c.in_ok-first.was ∙ c.next.ensures)
    (labels_seen c.labels-labels.ensures c.check.ensures c.in_ok-check.was) in
    let l-sound = seen check_table c.labels-labels.ensures c.body.ensures c.check_table.ensures
    c.in_ok-check_table.was in
    let l = left_sound _ _ _ _ _ (sym c.in_ok-left.was ∙ c.next-2.ensures) l-sound in
    let r-sound = seen check_table c.labels-labels.ensures c.body-2.ensures c.check_table-2.ensures
    c.in_ok-check_table-2.was in
    let r = right_sound _ _ _ _ _ _ (sym c.in_ok-right.was ∙ c.next-3.ensures) r-sound in
    let j = run_sound _ _ _ _ _ _ _ (sym c.in_ok-run.was ∙ c.next-4.ensures)
    (run_seen _ _ _ _ _ l-sound r-sound c.labels-labels.ensures c.body-3.ensures c.body-4.ensures c.body-5.ensures
    c.check_joint.ensures c.in_ok-check_joint.was) in
    k (l (r (j (bytes_after _ _ _ _ _ _ _ _ (sym c.in_ok-question.was ∙ c.next-5.ensures)
    (seen (λ x. check_formula x 64) c.labels-labels.ensures c.body-6.ensures c.check_formula.ensures
    c.in_ok-check_formula.was) c.if-behind-s.true))))

pub returns : goal.returns
returns c = let k = labels_sound _ _ _ (sym c.in_ok-first.was ∙ c.next.ensures)
    (labels_seen c.labels-labels.ensures c.check.ensures c.in_ok-check.was) in
    let l-sound = seen check_table c.labels-labels.ensures c.body.ensures c.check_table.ensures
    c.in_ok-check_table.was in
    let l = left_sound _ _ _ _ _ (sym c.in_ok-left.was ∙ c.next-2.ensures) l-sound in
    let r-sound = seen check_table c.labels-labels.ensures c.body-2.ensures c.check_table-2.ensures
    c.in_ok-check_table-2.was in
    let r = right_sound _ _ _ _ _ _ (sym c.in_ok-right.was ∙ c.next-3.ensures) r-sound in
    let j = run_sound _ _ _ _ _ _ _ (sym c.in_ok-run.was ∙ c.next-4.ensures)
    (run_seen _ _ _ _ _ l-sound r-sound c.labels-labels.ensures c.body-3.ensures c.body-4.ensures c.body-5.ensures
    c.check_joint.ensures c.in_ok-check_joint.was) in
    k (l (r (j (whole _ _ _ _ _ _ _ _ (sym c.in_ok-question.was ∙ c.next-5.ensures)
    (seen (λ x. check_formula x 64) c.labels-labels.ensures c.body-6.ensures c.check_formula.ensures
    c.in_ok-check_formula.was) c.if-behind-s.false))))
