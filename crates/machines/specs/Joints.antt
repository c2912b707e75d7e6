-- Joint runs: document 01, "Machines and labels", and the numbers 3 and 8.
-- A joint run as bytes is two start states, then three bytes a step: label, left target, right target.
use Rattle.std.specs.Prelude.{ℕ, ◌%◌, ◌≤◌, ◌<◌, ◌≡◌, Bool, ◌&&◌, ◌||◌, not, List, [], ◌∷◌, map, length, get_or, drop, eqb, leb, ltb}
use Rattle.hml.specs.Lists.{same, any, present, each}
use Rattle.hml.specs.System.{System, Run, start, steps, first, RunOf, Pairing}
use Rattle.hml.specs.Compose.{beside}
use Rattle.labels.specs.Labels.{pairing}
use Rattle.labels.specs.Refusals.{refused_if, first_of, Check}
use Rattle.tables.specs.Tables.{states_of, threes, table_of, has_move, check_table}
use Rattle.halves.specs.Runs.{written, lengthened, go_on}
use Rattle.labels.specs.declared.refusal.Refusal.TheVariants.{WrongLength, NotReal}
use Rattle.labels.specs.declared.label.Labels.{Labels}

-- a joint run as bytes; a joint idle is 255 and both states kept
unfoldable pub joint_bytes : Run (ℕ × ℕ) → List ℕ
joint_bytes j = (first j).0 ∷ (first j).1 ∷ each (λ (e : ℕ × (ℕ × ℕ)). e.0 ∷ e.1.0 ∷ e.1.1 ∷ []) (written j)

-- the reading: bytes as written steps, three a step; bytes that fill no step are none
unfoldable pub joint_steps : List ℕ → List (ℕ × (ℕ × ℕ))
joint_steps bytes = map (λ r. (r.0, (r.1, r.2))) (threes bytes)

unfoldable pub joint_of : List ℕ → Run (ℕ × ℕ)
joint_of [] = start (0, 0)
joint_of (p ∷ []) = start (p, 0)
joint_of (p ∷ q ∷ bytes) = lengthened (start (p, q)) (joint_steps bytes)

-- what it is for bytes to be a joint run of two tables: they spell a run, of at most 200 steps, of the two systems
-- beside each other that starts in a state of each
unfoldable pub JointRun : Labels → List ℕ → List ℕ → List ℕ → Type 0
JointRun k l r s = (j : Run (ℕ × ℕ)) × (s ≡ joint_bytes j) × RunOf (beside (pairing k) (table_of l) (table_of r)) j
    × ((first j).0 < states_of l) × ((first j).1 < states_of r) × (steps j ≤ 200)

-- the same as a test: the four ways that make a step from (p, q) to (p', q') real
module _ (P : Pairing) (L R : System ℕ) (p q c p' q' : ℕ) where
  -- "left alone: q' = q and the left table has p, label, p'"
  unfoldable pub is_left_alone : Bool
  is_left_alone = same q' q && has_move L p c p'

  -- "right alone: p' = p and the right table has q, label, q'"
  unfoldable pub is_right_alone : Bool
  is_right_alone = same p' p && has_move R q c q'

-- does the left's move m lead to p', and the right's, by the partner of m's label, from q to q'?
unfoldable pub shakes_to : Pairing → System ℕ → ℕ → ℕ → ℕ → ℕ × ℕ → Bool
shakes_to P R q p' q' m = same m.1 p' && present (λ b. has_move R q b q') (P.partner m.0)

-- "joint idle: label 255, both states kept, both halves idle"
unfoldable pub is_joint_idle : ℕ → ℕ → ℕ → ℕ → ℕ → Bool
is_joint_idle p q c p' q' = same c 255 && (same p' p && same q' q)

module _ (P : Pairing) (L R : System ℕ) (p q c p' q' : ℕ) where
  -- "handshake on a (a at least 1): label 0, the left has p, a, p' and the right has q, partner of a, q'"
  unfoldable pub is_handshake : Bool
  is_handshake = same c 0 && any (shakes_to P R q p' q') (L p)

  unfoldable pub is_real : Bool
  is_real = is_left_alone P L R p q c p' q' || (is_right_alone P L R p q c p' q' || (is_handshake || is_joint_idle p q c p' q'))

-- the same for pairs of states
abbrev pub is_real_step : Pairing → System ℕ → System ℕ → ℕ × ℕ → ℕ → ℕ × ℕ → Bool
is_real_step P L R u c v = is_real P L R u.0 u.1 c v.0 v.1

-- 3: a joint run has 2 to 602 bytes, two more than a multiple of 3
unfoldable pub fit_joint : List ℕ → Bool
fit_joint s = eqb (length s % 3) 2 && leb (length s) 602

-- 8: "a start state out of range, or a step not real"
unfoldable pub is_joint_run : Labels → List ℕ → List ℕ → List ℕ → Bool
is_joint_run k l r s = ltb (get_or s 0 0) (states_of l) && (ltb (get_or s 1 0) (states_of r)
    && go_on (is_real_step (pairing k) (table_of l) (table_of r)) (get_or s 0 0, get_or s 1 0) (joint_steps (drop 2 s)))

unfoldable pub check_joint : Labels → List ℕ → List ℕ → List ℕ → Check
check_joint k l r s =
    first_of (refused_if (not (fit_joint s)) WrongLength ∷ refused_if (not (is_joint_run k l r s)) NotReal ∷ [])

-- the check of two tables and a joint run of them, in record order
unfoldable pub check_tables_and_joint : Labels → List ℕ → List ℕ → List ℕ → Check
check_tables_and_joint k l r s = first_of (check_table k l ∷ check_table k r ∷ check_joint k l r s ∷ [])
