-- Logs and halves that no check refuses, as runs of their tables; and the splittings of a log as runs.
use Prim.Native.Nat.{ℕ, ◌+◌, ◌*◌, ◌/◌, ◌≤◌, ◌<◌}
use mathlib.Core.Path.{◌≡◌, refl, ◌∙◌, ap}
use mathlib.Core.Bool.{true, not}
use mathlib.Core.List.{List}
use native.Mathlib.Omega.{arith}
use lib.ListN.{length, get_or}
use Rattle.hml.proofs.Tests.{decides, decided_true, tested-ℕ}
use Rattle.hml.proofs.Lists.{length-each, decided_present}
use Rattle.hml.specs.Lists.{present}
use Rattle.hml.specs.System.{Run, start, first, steps, RunOf}
use Rattle.hml.specs.Compose.{paired}
use Rattle.hml.proofs.Real.{JoinOf, join-run}
use Rattle.hml.proofs.Joins.{join-found, join_sound, join_first, join-steps}
use Rattle.hml.proofs.Splits.{splits_sound, splits_complete}
use Rattle.hml.proofs.Distinct.{splits_distinct}
use Rattle.hml.proofs.Indexed.{element, number_of, number_once}
use Rattle.labels.specs.Refusals.{first_of, refused_if}
use Rattle.labels.specs.Labels.{check_labels, pairing}
use Rattle.labels.proofs.Refusals.{judges, both_sound, passed}
use Rattle.labels.specs.declared.label.Labels.{Labels}
use Rattle.tables.specs.Tables.{states_of, table_of, check_table, SoundTable}
use Rattle.tables.proofs.SoundTables.{sound_table, no_idle-label, moves_distinct}
use Rattle.halves.specs.Runs.{written}
use Rattle.halves.specs.Halves.{half_bytes, half_of, HalfRun, is_half_run, check_half}
use Rattle.halves.proofs.Runs.{length-written, step_bytes}
use Rattle.halves.proofs.HalfRuns.{AcceptedHalf, accepted_half, half_read, judged_half, state_bytes, twos_chunks}
use Rattle.machines.specs.Joints.{joint_bytes, joint_of, JointRun, fit_joint, is_joint_run, check_joint}
use Rattle.machines.proofs.JointRuns.{accepted_joint, joint_read_lem, judged-joint}
use Rattle.machines.specs.Working.{AcceptedJoint, tables_of, Held}
use Rattle.splitting.specs.Splittings.{splittings_of, check_log, left_half, right_half, half_length}
use Rattle.machines.proofs.Buffers.{accepted_held}
use Rattle.splitting.specs.Working.{Log}
use Rattle.joining.specs.Joinings.{join_of, halves_match, join_bytes, check_halves}
use Rattle.std.specs.Prelude.{Ok, Some}

-- a half run has a state, and two bytes for each step
pub half_length_lem : (x : Run ℕ) → length (half_bytes x) ≡ 2 * steps x + 1
unfolding half_bytes
half_length_lem x = omega (arith, length-each (step_bytes state_bytes) 2 twos_chunks.sized (written x), length-written x)

-- a half that no check refuses
pub half_passed : (t a : List ℕ) → check_half t a ≡ Ok tt → AcceptedHalf t a
unfolding check_half
half_passed t a e = accepted_half t a (passed (is_half_run t a) _ e)

-- a run of a sound table is one
pub half_passes : (k : Labels) (t : List ℕ) → SoundTable k t → (x : Run ℕ) → RunOf (table_of t) x → first x < states_of t
    → steps x ≤ 200 → check_half t (half_bytes x) ≡ Ok tt
unfolding HalfRun
half_passes k t sound x run begins few = (judges (judged_half k t (half_bytes x) sound)).1 (x, refl, run, begins, few)

-- k and two tables that no check refuses
pub record SoundMachines (k : Labels) (l r : List ℕ) : Type 0 where
  pub labels : check_labels k ≡ Ok tt
  pub left : check_table k l ≡ Ok tt
  pub right : check_table k r ≡ Ok tt

-- a log that no check refuses
pub record SoundLog (k : Labels) (l r s : List ℕ) : Type 0 where
  pub machines : SoundMachines k l r
  pub run : AcceptedJoint k l r s
  pub held : Held s (length s)

-- halves that no check refuses: they join
pub record SoundHalves (k : Labels) (l r a b : List ℕ) : Type 0 where
  pub machines : SoundMachines k l r
  pub left : AcceptedHalf l a
  pub right : AcceptedHalf r b
  pub run : Run (ℕ × ℕ)
  pub joined : join_of k a b ≡ Some run

module _ {k : Labels} {l r : List ℕ} (t : SoundMachines k l r) where
  pub left_table : SoundTable k l
  left_table = sound_table k l t.left

  pub right_table : SoundTable k r
  right_table = sound_table k r t.right

  -- no label of the two tables marks an idle, so runs are read as they were written
  pub left_read : {x : Run ℕ} → RunOf (table_of l) x → half_of (half_bytes x) ≡ x
  left_read = half_read l (no_idle-label left_table)

  pub right_read : {y : Run ℕ} → RunOf (table_of r) y → half_of (half_bytes y) ≡ y
  right_read = half_read r (no_idle-label right_table)

  pub run_read : {j : Run (ℕ × ℕ)} → RunOf (tables_of k l r) j → joint_of (joint_bytes j) ≡ j
  run_read = joint_read_lem k l r (no_idle-label left_table) (no_idle-label right_table)

  -- a run of the two tables beside each other is an accepted log
  pub log_passes : (j : Run (ℕ × ℕ)) → RunOf (tables_of k l r) j → (first j).0 < states_of l → (first j).1 < states_of r
      → steps j ≤ 200 → check_log k l r (joint_bytes j) ≡ Ok tt
  unfolding check_log first_of JointRun
  log_passes j run left right few =
      rw (
        t.labels,
        t.left,
        t.right,
        (judges (judged-joint k l r (joint_bytes j) left_table right_table)).1 (j, refl, run, left, right, few),
      )

  -- accepted halves that join are accepted together
  pub halves_pass : (a b : List ℕ) → check_half l a ≡ Ok tt → check_half r b ≡ Ok tt → (j : Run (ℕ × ℕ))
      → join_of k a b ≡ Some j → check_halves k l r a b ≡ Ok tt
  unfolding check_halves first_of halves_match
  halves_pass a b left right j e = rw (t.labels, t.left, t.right, left, right, e)

-- what the checks let through
module _ (k : Labels) (l r : List ℕ) where
  pub sound_log : (s : List ℕ) → check_log k l r s ≡ Ok tt → SoundLog k l r s
  unfolding check_log first_of check_joint
  sound_log s e =
      let (labels, a) = both_sound (check_labels k) _ e in
      let (left, b) = both_sound (check_table k l) _ a in
      let (right, c) = both_sound (check_table k r) _ b in
      let (run, _) = both_sound (check_joint k l r s) _ c in
      let (fit, d) = both_sound (refused_if (not (fit_joint s)) _) _ run in
      let (real, _) = both_sound (refused_if (not (is_joint_run k l r s)) _) _ d in
      let t : SoundMachines k l r = record { labels = labels; left = left; right = right } in
      let f = passed (fit_joint s) _ fit in
      let g = passed (is_joint_run k l r s) _ real in
      record {
        machines = t;
        run = accepted_joint k l r (no_idle-label (left_table t)) (no_idle-label (right_table t)) s f g;
        held = accepted_held k l r (no_idle-label (left_table t)) (no_idle-label (right_table t)) s f g;
      }

  -- the same, as the functions inside the crate ask for it
  pub sound_ready : (s : List ℕ) → check_log k l r s ≡ Ok tt → Log k l r s
  sound_ready s e =
      let a = sound_log s e in
      record {
        tables = record { left = left_table a.machines; right = right_table a.machines };
        run = a.run;
        held = a.held;
      }

  pub sound_halves : (a b : List ℕ) → check_halves k l r a b ≡ Ok tt → SoundHalves k l r a b
  unfolding check_halves first_of halves_match
  sound_halves a b e =
      let (labels, u) = both_sound (check_labels k) _ e in
      let (left, v) = both_sound (check_table k l) _ u in
      let (right, w) = both_sound (check_table k r) _ v in
      let (x, p) = both_sound (check_half l a) _ w in
      let (y, q) = both_sound (check_half r b) _ p in
      let (m, _) = both_sound (refused_if (not (present (λ j. true) (join_of k a b))) _) _ q in
      let (j, f, _) = (decides (decided_present (λ j. decided_true true) (join_of k a b))).0
      (passed (present (λ j. true) (join_of k a b)) _ m) in
      record {
        machines = record { labels = labels; left = left; right = right };
        left = half_passed l a x;
        right = half_passed r b y;
        run = j;
        joined = f;
      }

-- how long a half of a log is, by the bytes of the log
pub half_room : {k : Labels} {l r s : List ℕ} → Log k l r s → half_length s ≡ 2 * (length s / 3) + 1
unfolding half_length
half_room g = rw g.run.counted

-- what joins as runs joins as bytes
module _ {k : Labels} {l r : List ℕ} (t : SoundMachines k l r) {x y : Run ℕ} {j : Run (ℕ × ℕ)}
    (join : JoinOf (pairing k) (table_of l) (table_of r) x y j) where
  pub runs_join : join_of k (half_bytes x) (half_bytes y) ≡ Some j
  unfolding join_of
  runs_join = rw (left_read t join.1, right_read t join.2) (join-found (pairing k) paired join.0)

  -- from states of the tables and of at most 200 steps, the halves and the log are accepted
  module _ (left : first x < states_of l) (right : first y < states_of r) (few : steps j ≤ 200) where
    pub runs_accepted : check_halves k l r (half_bytes x) (half_bytes y) ≡ Ok tt
    runs_accepted =
        let (m, n) = join-steps (pairing k) paired join.0 in
        halves_pass t _ _ (half_passes k l (left_table t) x join.1 left (omega (arith, m, few)))
        (half_passes k r (right_table t) y join.2 right (omega (arith, n, few))) j runs_join

    pub run_accepted : check_log k l r (joint_bytes j) ≡ Ok tt
    run_accepted =
        let e = join_first (pairing k) paired join.0 in
        log_passes t j (join-run (pairing k) (table_of l) (table_of r) join.0 join.1 join.2) (rw e left)
        (rw e right) few

-- halves that no check refuses, as runs
module _ {k : Labels} {l r a b : List ℕ} (h : SoundHalves k l r a b) where
  pub halves_join : JoinOf (pairing k) (table_of l) (table_of r) (half_of a) (half_of b) h.run
  unfolding join_of
  halves_join = (join_sound (pairing k) paired (half_of a) (half_of b) h.run h.joined, h.left.run, h.right.run)

  pub bytes-joined : join_bytes k a b ≡ joint_bytes h.run
  unfolding join_bytes
  bytes-joined = rw h.joined

  -- the log that they join to is read as that run
  pub joined_read : joint_of (join_bytes k a b) ≡ h.run
  joined_read =
      let (m, x, y) = halves_join in
      ap joint_of bytes-joined ∙ run_read h.machines (join-run (pairing k) (table_of l) (table_of r) m x y)

-- the splittings of a log, as runs
module _ (k : Labels) (l r s : List ℕ) where
  abbrev pub nth : ℕ → Run ℕ × Run ℕ
  nth n = get_or (splittings_of k l r s) n (start 0, start 0)

  -- each joins to the log's run
  pub nth_joins : (n : ℕ) → n < length (splittings_of k l r s)
      → JoinOf (pairing k) (table_of l) (table_of r) (nth n).0 (nth n).1 (joint_of s)
  unfolding splittings_of
  nth_joins n h =
      splits_sound (pairing k) tested-ℕ tested-ℕ (table_of l) (table_of r) (joint_of s) (nth n)
      (element (start 0, start 0) (splittings_of k l r s) n h)

  -- what joins to it is one of them
  pub all_numbered : {x y : Run ℕ} → JoinOf (pairing k) (table_of l) (table_of r) x y (joint_of s)
      → (n : ℕ) × (n < length (splittings_of k l r s)) × (nth n ≡ (x, y))
  unfolding splittings_of
  all_numbered (m, x, y) =
      number_of (start 0, start 0) (splits_complete (pairing k) tested-ℕ tested-ℕ (table_of l) (table_of r) m x y)

  -- none is listed twice
  pub numbered_once : SoundMachines k l r → (m n : ℕ) → m < length (splittings_of k l r s)
      → n < length (splittings_of k l r s) → nth m ≡ nth n → m ≡ n
  unfolding splittings_of
  numbered_once t m n h i e = number_once (start 0, start 0)
      (splits_distinct (pairing k) tested-ℕ tested-ℕ (table_of l) (table_of r) (moves_distinct (left_table t))
      (moves_distinct (right_table t)) (joint_of s)) m n h i e

  -- their halves have a state, and two bytes for each step of the log
  pub nth_length : (n : ℕ) → n < length (splittings_of k l r s)
      → (length (left_half k l r s n) ≡ half_length s) × (length (right_half k l r s n) ≡ half_length s)
  unfolding left_half right_half half_length
  nth_length n h =
      let (u, v) = join-steps (pairing k) paired (nth_joins n h).0 in (rw (half_length_lem, u), rw (half_length_lem, v))
