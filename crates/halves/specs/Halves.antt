-- Half runs: document 01, "Machines and labels", and the number 15.
use Rattle.std.specs.Prelude.{ℕ, ◌%◌, ◌≤◌, ◌<◌, ◌≡◌, Bool, cond, ◌&&◌, not, List, [], ◌∷◌, length, get_or, drop, eqb, leb, ltb}
use Rattle.hml.specs.Lists.{same, each}
use Rattle.hml.specs.System.{System, Run, start, steps, first, RunOf}
use Rattle.labels.specs.Refusals.{refused_if, first_of, Check}
use Rattle.tables.specs.Tables.{states_of, table_of, has_move, check_table}
use Rattle.halves.specs.Runs.{written, lengthened, go_on}
use Rattle.labels.specs.declared.refusal.Refusal.TheVariants.{NotARun}
use Rattle.labels.specs.declared.label.Labels.{Labels}

-- a half run as bytes: "the state, then label and target for each step"
unfoldable pub half_bytes : Run ℕ → List ℕ
half_bytes r = first r ∷ each (λ (e : ℕ × ℕ). e.0 ∷ e.1 ∷ []) (written r)

-- the reading: bytes as written steps, two a step; a byte that fills no step is none
unfoldable pub twos : List ℕ → List (ℕ × ℕ)
twos [] = []
twos (a ∷ []) = []
twos (a ∷ q ∷ bytes) = (a, q) ∷ twos bytes

unfoldable pub half_of : List ℕ → Run ℕ
half_of [] = start 0
half_of (p ∷ bytes) = lengthened (start p) (twos bytes)

-- what it is for bytes to be a half run of a table: they spell a run of it of at most 200 steps that starts in one of
-- its states
unfoldable pub HalfRun : List ℕ → List ℕ → Type 0
HalfRun t s = (r : Run ℕ) × (s ≡ half_bytes r) × RunOf (table_of t) r × (first r < states_of t) × (steps r ≤ 200)

-- the same as a test. Is the step from p an idle that keeps it, or a move of the system?
unfoldable pub step_fits : System ℕ → ℕ → ℕ → ℕ → Bool
step_fits M p a q = cond (eqb a 255) (same q p) (has_move M p a q)

-- odd length, at most 200 steps, a start state of the table, and steps that fit
unfoldable pub is_half_run : List ℕ → List ℕ → Bool
is_half_run t s =
    (eqb (length s % 2) 1 && leb (length s) 401)
    && (ltb (get_or s 0 0) (states_of t) && go_on (step_fits (table_of t)) (get_or s 0 0) (twos (drop 1 s)))

-- 15: "a half is no run of its table (unfit length or over 200 steps included)"
unfoldable pub check_half : List ℕ → List ℕ → Check
check_half t s = refused_if (not (is_half_run t s)) NotARun

-- the check of a table and a half of it
unfoldable pub check_table_and_half : Labels → List ℕ → List ℕ → Check
check_table_and_half k t s = first_of (check_table k t ∷ check_half t s ∷ [])
