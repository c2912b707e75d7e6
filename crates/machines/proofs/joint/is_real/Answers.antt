-- A joint idle is told by its label; the other ways are tried in the document's order, by the rows that leave the two
-- states.
use Rattle.std.proofs.Common.{rules}
use mathlib.Core.Path.{refl, sym, ◌∙◌}
use Rattle.labels.specs.Labels.{pairing}
use Rattle.tables.specs.Tables.{table_of}
use Rattle.tables.proofs.Searching.{leaving-moves}
use Rattle.machines.proofs.Joints.{idle_real, moves_tried, either}
use Rattle.machines.proofs.joint.is_real.Goals as goal

pub returns-then-is_joint_idle : goal.returns-then-is_joint_idle
returns-then-is_joint_idle c = sym (idle_real (pairing c.args.labels) (table_of c.args.left.now)
    (table_of c.args.right.now) _ _ _ _ _ (sym c.is_joint_idle.ensures ∙ c.if-is_joint_idle.true))

pub returns-then-moves_alone : goal.returns-then-moves_alone
returns-then-moves_alone c = sym (moves_tried (pairing c.args.labels) (table_of c.args.left.now)
    (table_of c.args.right.now) _ _ _ _ _ _ _ (leaving-moves _ _ _ (c.rows_leaving-left.ensures.exact c.requires.0.rising))
    refl (sym c.is_joint_idle.ensures ∙ c.if-is_joint_idle.false)
    ∙ either (sym c.moves_alone.ensures ∙ c.if-moves_alone.true) _)

pub returns-then-moves_alone-2 : goal.returns-then-moves_alone-2
returns-then-moves_alone-2 c = search rules
    ∙ sym (moves_tried (pairing c.args.labels) (table_of c.args.left.now) (table_of c.args.right.now) _ _ _ _ _ _ _
    (leaving-moves _ _ _ (c.rows_leaving-left.ensures.exact c.requires.0.rising))
    (leaving-moves _ _ _ (c.rows_leaving-right.ensures.exact c.requires.1.rising))
    (sym c.is_joint_idle.ensures ∙ c.if-is_joint_idle.false))

pub returns-else-moves_alone-2 : goal.returns-else-moves_alone-2
returns-else-moves_alone-2 c = search rules
    ∙ sym (moves_tried (pairing c.args.labels) (table_of c.args.left.now) (table_of c.args.right.now) _ _ _ _ _ _ _
    (leaving-moves _ _ _ (c.rows_leaving-left.ensures.exact c.requires.0.rising))
    (leaving-moves _ _ _ (c.rows_leaving-right.ensures.exact c.requires.1.rising))
    (sym c.is_joint_idle.ensures ∙ c.if-is_joint_idle.false))
