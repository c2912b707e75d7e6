-- How the code works: what functions ask for and promise that serve others. No call's promise cites this file.
use Rattle.std.specs.Prelude.{ℕ, ◌+◌, ◌*◌, ◌%◌, ◌≤◌, Bool, ◌≡◌, List, length, get_or, take}
use Rattle.hml.specs.Lists.{same}
use Rattle.hml.specs.System.{System, last}
use Rattle.tables.specs.Tables.{has_move}
use Rattle.halves.specs.declared.step.Step.{Step}
use Rattle.halves.specs.declared.step.Step.TheVariants as step
use Rattle.halves.specs.Halves.{half_of}

-- the first n bytes of xs are a half run, and at each of its points it ends in the state that is written there
pub record HeldHalf (xs : List ℕ) (n : ℕ) : Type 0 where
  pub odd : n % 2 ≡ 1
  pub within : n ≤ length xs
  pub kept : (m : ℕ) → 2 * m + 1 ≤ n → last (half_of (take (2 * m + 1) xs)) ≡ get_or xs (2 * m) 0

-- is the step from p, with the state q written after it, an idle that keeps the state, or a move of the system?
unfoldable pub read_fits : System ℕ → ℕ → Step → ℕ → Bool
read_fits M p (step.Move m) q = has_move M p m.label.0 m.target
read_fits M p step.Idle q = same q p
