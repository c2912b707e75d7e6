-- Steps: "In a half run a step is either a move, with its label and target, or an idle that keeps the state."
use Rattle.std.specs.Prelude.{ℕ, ◌+◌, ◌*◌, ◌%◌, cond, ◌&&◌, List, length, get_or, ltb, eqb, None, Option, Some}
use Rattle.hml.specs.System as theory
use Rattle.halves.specs.Runs.{step_of}
use Rattle.halves.specs.declared.step.Step.{Step}
use Rattle.halves.specs.declared.step.Step.TheVariants as step

-- a step as the program holds it
unfoldable pub step_struct : theory.Step ℕ → Step
step_struct (theory.move a q) = step.Move (record { label = record { 0 = a }; target = q })
step_struct theory.idle = step.Idle

-- step i, from 0, of a half run's bytes: a state, then two bytes a step. Bytes of even length are no half run and have
-- no step
unfoldable pub step_read : List ℕ → ℕ → Option Step
step_read s i = cond (eqb (length s % 2) 1 && ltb (2 * i + 2) (length s))
    (Some (step_struct (step_of (get_or s (2 * i + 1) 0) (get_or s (2 * i + 2) 0))))
    None
