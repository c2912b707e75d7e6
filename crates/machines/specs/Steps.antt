-- Steps of a joint run: "A joint run has a left and a right start state and 0 to 200 steps (label, left target, right
-- target)."
use Rattle.std.specs.Prelude.{ℕ, ◌+◌, ◌*◌, ◌%◌, cond, ◌&&◌, List, length, get_or, ltb, eqb, None, Option, Some}
use Rattle.machines.specs.declared.step.JointStep.{JointStep}

-- the step that stands at i, from 0, in a joint run's bytes: its label and targets, and the two states before them
unfoldable pub joint_step_at : List ℕ → ℕ → JointStep
joint_step_at s i = record {
  before = record { left = get_or s (3 * i) 0; right = get_or s (3 * i + 1) 0 };
  label = record { 0 = get_or s (3 * i + 2) 0 };
  after = record { left = get_or s (3 * i + 3) 0; right = get_or s (3 * i + 4) 0 };
}

-- step i of a joint run's bytes: two states, then three bytes a step. Bytes of any other length are no joint run and
-- have no step
unfoldable pub joint_read : List ℕ → ℕ → Option JointStep
joint_read s i = cond (eqb (length s % 3) 2 && ltb (3 * i + 4) (length s)) (Some (joint_step_at s i)) None
