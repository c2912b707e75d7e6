-- All splittings of a log, each once, each joins to the log again; joining is the reverse. Theorems over the
-- definitions of what the calls answer, for all bytes. However many splittings there are: only calls that name one by
-- its number stop at 65,535.
use Prim.Native.Nat.{ℕ, ◌≤◌, ◌<◌}
use mathlib.Core.Path.{◌≡◌, refl, sym, ◌∙◌, ap}
use mathlib.Core.List.{List}
use native.Mathlib.Omega.{arith}
use lib.ListN.{length}
use Rattle.hml.proofs.Tests.{tested-ℕ}
use Rattle.hml.specs.System.{Run, start, ◌▸◌, steps}
use Rattle.hml.specs.Compose.{paired}
use Rattle.hml.proofs.Real.{JoinOf}
use Rattle.hml.proofs.Joins.{join_first, join-steps}
use Rattle.hml.specs.Split.{splits}
use Rattle.hml.proofs.NewestSteps.{splits-some}
use Rattle.labels.specs.Labels.{pairing}
use Rattle.hml.specs.Lists.{same}
use Rattle.labels.specs.declared.label.Labels.{Labels}
use Rattle.tables.specs.Tables.{table_of}
use Rattle.halves.specs.Halves.{half_bytes, half_of}
use Rattle.machines.specs.Joints.{joint_of}
use Rattle.splitting.specs.Splittings.{splittings_of, check_log, check_count, left_half, right_half, half_length}
use Rattle.splitting.specs.Splittings.{count_of}
use Rattle.joining.specs.Joinings.{join_of, join_bytes, check_halves}
use Rattle.splitting.proofs.LogRuns.{sound_log, sound_halves, left_read, right_read, runs_join, runs_accepted}
use Rattle.splitting.proofs.LogRuns.{run_accepted, halves_join, bytes-joined, joined_read, nth, nth_joins}
use Rattle.splitting.proofs.LogRuns.{nth_length, all_numbered, numbered_once}
use Rattle.splitting.proofs.Outcomes.{SplitGives, JoinGives, split_checked, split-given, room_gives, join_gives}
use Rattle.splitting.proofs.Outcomes.{join-given, count-answered}
use Rattle.std.specs.Prelude.{Ok, Some}

-- each splitting of a log joins to the log again: its halves are accepted, join to the log's run and give its bytes,
-- and have a state and two bytes a step
pub splitting_joins : (k : Labels) (l r s : List ℕ) (n : ℕ) → check_log k l r s ≡ Ok tt
    → n < length (splittings_of k l r s)
    → let a = left_half k l r s n in let b = right_half k l r s n in
    (check_halves k l r a b ≡ Ok tt) × (join_bytes k a b ≡ s) × (join_of k a b ≡ Some (joint_of s))
    × (length a ≡ half_length s) × (length b ≡ half_length s)
unfolding left_half right_half join_bytes
splitting_joins k l r s n e h =
    let log = sound_log k l r s e in
    let w = nth_joins k l r s n h in
    let f = join_first (pairing k) paired w.0 in
    let i = runs_join log.machines w in
    let (u, v) = nth_length k l r s n h in (
      runs_accepted log.machines w (rw f at log.run.begins_left) (rw f at log.run.begins_right)
          log.run.few,
      rw i log.run.spelled,
      i,
      u,
      v,
    )

-- two halves that join give a log: what they join to is accepted
pub joined-log : (k : Labels) (l r a b : List ℕ) → check_halves k l r a b ≡ Ok tt → check_log k l r (join_bytes k a b)
    ≡ Ok tt
joined-log k l r a b e =
    let h = sound_halves k l r a b e in
    let w = halves_join h in
    rw (bytes-joined h)
    (run_accepted h.machines w h.left.begins h.right.begins
    (omega (arith, (join-steps (pairing k) paired w.0).0, h.left.few)))

-- all splittings: two halves that join to a log are one of its splittings
pub joins_splitting : (k : Labels) (l r s a b : List ℕ) → check_halves k l r a b ≡ Ok tt → join_bytes k a b ≡ s
    → (n : ℕ) × (n < length (splittings_of k l r s)) × (left_half k l r s n ≡ a) × (right_half k l r s n ≡ b)
unfolding left_half right_half
joins_splitting k l r s a b e j =
    let h = sound_halves k l r a b e in
    let w : JoinOf (pairing k) (table_of l) (table_of r) (half_of a) (half_of b) (joint_of s) = rw (← j, joined_read h)
    (halves_join h) in
    let (n, i, f) = all_numbered k l r s w in
    (n, i, ap (λ z. half_bytes z.0) f ∙ h.left.spelled, ap (λ z. half_bytes z.1) f ∙ h.right.spelled)

-- each once: splittings with equal halves have one number
pub splitting_once : (k : Labels) (l r s : List ℕ) (m n : ℕ) → check_log k l r s ≡ Ok tt
    → m < length (splittings_of k l r s)
    → n < length (splittings_of k l r s)
    → left_half k l r s m ≡ left_half k l r s n → right_half k l r s m ≡ right_half k l r s n → m ≡ n
unfolding left_half right_half
splitting_once k l r s m n e h i f g =
    let t = (sound_log k l r s e).machines in
    let (_, x, y) = nth_joins k l r s m h in
    let (_, u, v) = nth_joins k l r s n i in
    let left : (nth k l r s m).0 ≡ (nth k l r s n).0 = sym (left_read t x) ∙ ap half_of f ∙ left_read t u in
    let right : (nth k l r s m).1 ≡ (nth k l r s n).1 = sym (right_read t y) ∙ ap half_of g ∙ right_read t v in
    numbered_once k l r s t m n h i (λ z. (left z, right z))

-- none missing, none twice: two halves that join to a log are exactly one of its splittings
pub exactly_one : (k : Labels) (l r s a b : List ℕ) → check_halves k l r a b ≡ Ok tt → join_bytes k a b ≡ s
    → (n : ℕ) × (n < length (splittings_of k l r s)) × (left_half k l r s n ≡ a) × (right_half k l r s n ≡ b)
    × ((m : ℕ) → m < length (splittings_of k l r s) → left_half k l r s m ≡ a → right_half k l r s m ≡ b → m ≡ n)
exactly_one k l r s a b e j =
    let (n, h, x, y) = joins_splitting k l r s a b e j in
    let log : check_log k l r s ≡ Ok tt = rw j at (joined-log k l r a b e) in
    (n, h, x, y, λ m i u v. splitting_once k l r s m n log i h (u ∙ sym x) (v ∙ sym y))

-- a log has at least one splitting
pub count-some : (k : Labels) (l r s : List ℕ) → check_log k l r s ≡ Ok tt → 1 ≤ length (splittings_of k l r s)
unfolding splittings_of
count-some k l r s e = splits-some (pairing k) tested-ℕ tested-ℕ (table_of l) (table_of r) (sound_log k l r s e).run.run

-- "Run of 0 steps: one splitting."
pub count-one : (k : Labels) (l r s : List ℕ) → steps (joint_of s) ≡ 0 → length (splittings_of k l r s) ≡ 1
unfolding splittings_of splits
count-one k l r s = go (joint_of s)
  where
    go : (j : Run (ℕ × ℕ)) → steps j ≡ 0 → length (splits (pairing k) same same (table_of l) (table_of r) j) ≡ 1
    go (start u) e = refl
    go (j ▸ t) e = absurd (omega (arith, e))

-- joining is the reverse: joining what a split gave gives the log again
pub split_then_join : (k : Labels) (l r s : List ℕ) (n : ℕ) (x y a b out : List ℕ) → SplitGives k l r s n x y a b
    → length s ≤ length out → JoinGives k l r a b out s
split_then_join k l r s n x y a b out g h =
    let (e, u, v) = split-given k l r s n x y a b g in
    let (log, i) = split_checked k l r s n (length x) (length y) e in
    let (halves, j, _, _, _) = splitting_joins k l r s n log i in
    rw (← u, ← v) (join_gives k l r _ _ out s halves j h)

-- and splitting what a join gave gives the halves again, by one number and no other, if the log has no more splittings
-- than can be numbered
pub join_then_split : (k : Labels) (l r a b out s : List ℕ) (c : ℕ) → JoinGives k l r a b out s
    → count_of k l r s ≡ Ok c
    → (n : ℕ) × (n < c) × ((x y : List ℕ) → length a ≤ length x → length b ≤ length y → SplitGives k l r s n x y a b)
    × ((m : ℕ) (x y : List ℕ) → SplitGives k l r s m x y a b → m ≡ n)
unfolding count_of
join_then_split k l r a b out s c g e =
    let (halves, j) = join-given k l r a b out s g in
    let (sound, z) = count-answered (check_count k l r s) (length (splittings_of k l r s)) c e in
    let (n, h, u, v, once) = exactly_one k l r s a b halves j in (
      n,
      omega (arith, h, z),
      room_gives k l r s n a b sound h u v,
      λ m x y f. let (i, p, q) = split-given k l r s m x y a b f in
          once m (split_checked k l r s m (length x) (length y) i).1 p q,
    )
