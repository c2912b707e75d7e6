-- How the code works: what functions ask for and promise that serve others. No call's promise cites this file.
use Rattle.std.specs.Prelude.{ℕ, ◌+◌, ◌*◌, ◌%◌, List, length, set}
use Rattle.hml.specs.System.{move, idle}
use Rattle.hml.specs.Split.{options}
use Rattle.labels.specs.Labels.{pairing}
use Rattle.labels.specs.declared.label.Labels.{Labels}
use Rattle.hml.specs.Lists.{same}
use Rattle.hml.specs.System as theory
use Rattle.tables.specs.Tables.{table_of}
use Rattle.halves.specs.Runs.{step_of}
use Rattle.halves.specs.declared.step.Step.{Step}
use Rattle.halves.specs.declared.step.Step.TheVariants as step
use Rattle.machines.specs.Working.{Tables, AcceptedJoint, Held}
use Rattle.ways.specs.Working.{Steps, chosen}
use Rattle.machines.specs.declared.step.JointStep.{JointStep}

-- two tables and a joint run of them that no check refuses
pub record Log (k : Labels) (l r s : List ℕ) : Type 0 where
  pub tables : Tables k l r
  pub run : AcceptedJoint k l r s
  pub held : Held s (length s)

-- the splittings of a step, from the states before it
unfoldable pub options_of : Labels → List ℕ → List ℕ → JointStep → List Steps
options_of k l r s = options (pairing k) same same (table_of l) (table_of r) (s.before.left, s.before.right)
    (step_of s.label.0 (s.after.left, s.after.right))

-- the way of a step in splitting n of the steps up to it
unfoldable pub way_of : Labels → List ℕ → List ℕ → JointStep → ℕ → Steps
way_of k l r s n = chosen (options_of k l r s) (n % length (options_of k l r s))

-- a step of the program as the theory has it
unfoldable pub step_meant : Step → theory.Step ℕ
step_meant (step.Move m) = move m.label.0 m.target
step_meant step.Idle = idle

-- a step as its half writes it, from the state p: label and target
abbrev pub label_byte : theory.Step ℕ → ℕ
label_byte (move a q) = a
label_byte idle = 255

abbrev pub target_byte : ℕ → theory.Step ℕ → ℕ
target_byte p (move a q) = q
target_byte p idle = p

-- a half's bytes with step i written
unfoldable pub put_step : List ℕ → ℕ → ℕ → theory.Step ℕ → List ℕ
put_step out i p s = set (set out (2 * i + 1) (label_byte s)) (2 * i + 1 + 1) (target_byte p s)
