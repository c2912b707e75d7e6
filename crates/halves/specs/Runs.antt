-- Runs as they are written, for half runs and joint runs alike: a start state, then a label and a target for each step.
use Rattle.std.specs.Prelude.{ℕ, Bool, true, cond, ◌&&◌, List, [], ◌∷◌, ◌++◌, eqb}
use Rattle.hml.specs.System.{Step, move, idle, Run, start, ◌▸◌, last}

module _ {S : Type 0} where
  -- the steps of a run as they are written: "label and target for each step (255 and the kept state for an idle)"
  unfoldable pub written : Run S → List (ℕ × S)
  written (start p) = []
  written (r ▸ move a q) = written r ++ (a, q) ∷ []
  written (r ▸ idle) = written r ++ (255, last r) ∷ []

  -- reading: a written step, and a run lengthened by written steps
  unfoldable pub step_of : ℕ → S → Step S
  step_of a q = cond (eqb a 255) idle (move a q)

  unfoldable pub lengthened : Run S → List (ℕ × S) → Run S
  lengthened r [] = r
  lengthened r (e ∷ es) = lengthened (r ▸ step_of e.0 e.1) es

  -- do written steps go on from a state, each fit for the state before it?
  unfoldable pub go_on : (S → ℕ → S → Bool) → S → List (ℕ × S) → Bool
  go_on fits p [] = true
  go_on fits p (e ∷ es) = fits p e.0 e.1 && go_on fits e.1 es
