-- How the code works: what functions ask for and promise that serve others. No call's promise cites this file.
use Rattle.std.specs.Prelude.{ℕ, ◌-◌, ◌/◌, ◌%◌, ◌≤◌, ◌<◌, ◌+◌, ◌*◌, Bool, true, cond, List, ◌≡◌, length, get_or, take, set, None, Option, Some}
use Rattle.hml.specs.Lists.{guard, present, same}
use Rattle.hml.specs.System.{Pairing, System, first, last, steps, RunOf}
use Rattle.tables.specs.Tables.{among, table_of, SoundTable, states_of}
use Rattle.hml.specs.Compose.{beside}
use Rattle.labels.specs.Labels.{pairing}
use Rattle.labels.specs.declared.label.Labels.{Labels}
use Rattle.machines.specs.Joints.{joint_bytes, joint_of}

-- what is there, if it passes the test
abbrev pub kept : (ℕ → Bool) → Option ℕ → Option ℕ
kept f None = None
kept f (Some b) = guard (f b) b

-- the label by which one of the right's moves answers the left's move m in a handshake to (p', q'), if one does
unfoldable pub answer_to : Pairing → List (ℕ × ℕ) → ℕ → ℕ → ℕ × ℕ → Option ℕ
answer_to P answers p' q' m = cond (same m.1 p') (kept (λ b. among answers b q') (P.partner m.0)) None

-- is a move of the left answered?
abbrev pub is_answered : Pairing → List (ℕ × ℕ) → ℕ → ℕ → ℕ × ℕ → Bool
is_answered P answers p' q' m = present (λ b. true) (answer_to P answers p' q' m)

-- the two tables beside each other
abbrev pub tables_of : Labels → List ℕ → List ℕ → System (ℕ × ℕ)
tables_of k l r = beside (pairing k) (table_of l) (table_of r)

-- two tables that no check refuses
pub record Tables (k : Labels) (l r : List ℕ) : Type 0 where
  pub left : SoundTable k l
  pub right : SoundTable k r

-- what an accepted joint run is
pub record AcceptedJoint (k : Labels) (l r s : List ℕ) : Type 0 where
  pub run : RunOf (tables_of k l r) (joint_of s)
  pub spelled : joint_bytes (joint_of s) ≡ s
  pub begins_left : (first (joint_of s)).0 < states_of l
  pub begins_right : (first (joint_of s)).1 < states_of r
  pub counted : steps (joint_of s) ≡ length s / 3
  pub few : steps (joint_of s) ≤ 200
  pub whole : length s % 3 ≡ 2
  pub ends : last (joint_of s) ≡ (get_or s (length s - 2) 0, get_or s (length s - 1) 0)

-- the first n bytes of xs are a joint run, and at each of its points it ends in the states that are written there
pub record Held (xs : List ℕ) (n : ℕ) : Type 0 where
  pub whole : n % 3 ≡ 2
  pub within : n ≤ length xs
  pub kept : (m : ℕ) → 3 * m + 2 ≤ n → last (joint_of (take (3 * m + 2) xs)) ≡ (get_or xs (3 * m) 0, get_or xs (3 * m + 1) 0)

-- three bytes in the place of those from n on
abbrev pub put : List ℕ → ℕ → ℕ → ℕ → ℕ → List ℕ
put xs n a p q = set (set (set xs n a) (n + 1) p) (n + 2) q
