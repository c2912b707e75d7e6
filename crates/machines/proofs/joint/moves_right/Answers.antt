-- The right's table decides first; the rows of both sides are looked up for a handshake.
use mathlib.Core.Path.{refl, sym, ◌∙◌}
use Rattle.labels.specs.Labels.{pairing}
use Rattle.tables.specs.Tables.{table_of}
use Rattle.tables.proofs.Searching.{leaving-moves}
use Rattle.machines.proofs.Joints.{right_changed, right_alone, right_still, left_elsewhere, either, neither}
use Rattle.machines.proofs.joint.moves_right.Goals.{else-to-from-via-then-to-from+else-has_row, else-to-from-via-else-to-from}
use Rattle.machines.proofs.joint.moves_right.Goals as goal

pub returns-then-has_row : goal.returns-then-has_row
returns-then-has_row c = sym (right_changed (pairing c.args.labels) (table_of c.args.left.now)
    (table_of c.args.right.now) _ _ _ _ _ _ _ refl refl c.requires.changed
    ∙ either (right_alone (pairing c.args.labels) (table_of c.args.left.now) (table_of c.args.right.now) _ _ _ _ _
    c.if-to-from.true (sym (c.has_row.ensures.exact c.requires.ready.1.rising) ∙ c.if-has_row.true)) _)

pub returns : goal.returns
returns c = let right = leaving-moves _ _ _ (c.rows_leaving.ensures.exact c.requires.ready.1.rising) in
    c.is_handshake.ensures
    ∙ sym (right_changed (pairing c.args.labels) (table_of c.args.left.now) (table_of c.args.right.now) _ _ _ _ _ _ _
    (leaving-moves _ _ _ (c.rows_leaving-left.ensures.exact c.requires.ready.0.rising)) right c.requires.changed
    ∙ neither (elim c.else-to-from.branch [
      | else-to-from-via-then-to-from+else-has_row w ↦ right_still (pairing c.args.labels) (table_of c.args.left.now)
          (table_of c.args.right.now) _ _ _ _ _ _ right
          (sym (w.has_row.ensures.exact c.requires.ready.1.rising) ∙ w.if-has_row.false)
      | else-to-from-via-else-to-from w ↦ left_elsewhere (pairing c.args.labels) (table_of c.args.left.now)
          (table_of c.args.right.now) _ c.args.step.before.right _ _ _ _ w.if-to-from.false
    ]) _)
