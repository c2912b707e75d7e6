-- How the code works: what functions ask for and promise that serve others. No call's promise cites this file.
use Rattle.std.specs.Prelude.{ℕ, List, [], ◌∷◌, length, None, Option, Some}
use Rattle.hml.specs.Lists.{guard}
use Rattle.hml.specs.System.{Pairing}
use Rattle.hml.specs.Compose.{shakes}
use Rattle.labels.specs.Refusals.{first_of, Check}
use Rattle.labels.specs.declared.label.Labels.{Labels}
use Rattle.tables.specs.Tables.{check_table}
use Rattle.halves.specs.Halves.{check_half}
use Rattle.halves.specs.Working.{HeldHalf}
use Rattle.halves.specs.declared.step.Step.{Step}
use Rattle.halves.specs.declared.step.Step.TheVariants as step

-- the tables' and the halves' numbers
unfoldable pub check_runs : Labels → List ℕ → List ℕ → List ℕ → List ℕ → Check
check_runs k l r a b = first_of (check_table k l ∷ check_table k r ∷ check_half l a ∷ check_half r b ∷ [])

-- bytes of a half run of some table: whole steps, and at each point the run ends in the state that is written there
abbrev pub HalfBytes : List ℕ → Type 0
HalfBytes a = HeldHalf a (length a)

-- the label of the joint step that two moves form: 0, if their labels shake hands
unfoldable pub shaken_label : Pairing → ℕ → ℕ → Option ℕ
shaken_label P a b = guard (shakes P a b) 0

-- that of two steps
unfoldable pub joint_label : Pairing → Step → Step → Option ℕ
joint_label P (step.Move m) (step.Move n) = shaken_label P m.label.0 n.label.0
joint_label P (step.Move m) step.Idle = Some m.label.0
joint_label P step.Idle (step.Move n) = Some n.label.0
joint_label P step.Idle step.Idle = Some 255

-- the label that what is read of each half forms; none where a half has no step
unfoldable pub label_read : Pairing → Option Step → Option Step → Option ℕ
label_read P (Some x) (Some y) = joint_label P x y
label_read P (Some x) None = None
label_read P None t = None
