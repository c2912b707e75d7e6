-- The cases of the calls of count and split, each from what the code knows at its return.
use Prim.Native.Nat.{ℕ, ◌+◌, ◌*◌, ◌/◌, ◌≤◌, ◌<◌, min}
use mathlib.Core.Path.{◌≡◌, refl, sym, ap}
use mathlib.Core.Bool.{Bool, true, false, ◌||◌, false≢true}
use mathlib.Core.List.{List}
use mathlib.Core.Logic.{◌⊎◌, inl, inr}
use native.Mathlib.Omega.{arith}
use lib.ListN.{length}
use lib.Dec.{ltb}
use borrow.Author.Tests.{lt-ltb, le-ltb, le-leb, lt-leb, ltb-false}
use Rattle.hml.proofs.Tests.{apart}
use Rattle.labels.specs.Refusals.{first_of, refused_if, in_front, Check}
use Rattle.labels.specs.Labels.{check_labels}
use Rattle.labels.specs.declared.refusal.Refusal.{Refusal}
use Rattle.labels.specs.declared.refusal.Refusal.TheVariants.{TooManySplittings, NoSuchSplitting, OutputTooShort}
use Rattle.labels.proofs.Refusals.{both_sound, unrefused}
use Rattle.labels.specs.declared.label.Labels.{Labels}
use Rattle.machines.specs.Joints.{check_tables_and_joint}
use Rattle.splitting.specs.Splittings.{splittings_of, check_log, splitting_limit, check_count, check_number}
use Rattle.splitting.specs.Splittings.{check_split, left_half, right_half, half_length, counted, count_of, split_of}
use Rattle.splitting.specs.Splittings.{left_output, right_output}
use Rattle.splitting.specs.Working.{Log}
use Rattle.splitting.proofs.LogRuns.{sound_ready, half_room}
use Rattle.splitting.proofs.Outcomes.{count-answered, split_checked}
use Rattle.std.specs.Prelude.{Err, Ok}

module _ (k : Labels) (l r s : List ℕ) where
  -- the parts
  pub labels_refused : (x : Refusal) → check_labels k ≡ Err x → Err x ≡ check_log k l r s
  unfolding check_log first_of
  labels_refused x e = rw e

  pub labels_sound : check_labels k ≡ Ok tt → (c : Check) → c ≡ check_tables_and_joint k l r s → c ≡ check_log k l r s
  unfolding check_log check_tables_and_joint first_of
  labels_sound e c h = rw e h

  -- the count
  pub log_refused : (x : Refusal) → check_log k l r s ≡ Err x → Err x ≡ count_of k l r s
  unfolding count_of check_count first_of
  log_refused x e = rw e

  module _ (sound : check_log k l r s ≡ Ok tt) (n : ℕ) (e : n ≡ min (length (splittings_of k l r s)) 65536) where
    pub too_many : 65535 < n → Err TooManySplittings ≡ count_of k l r s
    unfolding count_of check_count first_of splitting_limit
    too_many h = rw (sound, lt-ltb 65535 (length (splittings_of k l r s)) (omega (arith, e, h)))

    pub few_enough : n ≤ 65535 → Ok n ≡ count_of k l r s
    unfolding count_of check_count first_of splitting_limit
    few_enough h =
        let z : n ≡ length (splittings_of k l r s) = omega (arith, e, h) in
        rw (sound, le-ltb 65535 (length (splittings_of k l r s)) (omega (arith, e, h)), z)

  -- what a count says of its checks
  count_checks : (c : Check) (m : ℕ) (x : Refusal) → counted c m ≡ Err x → c ≡ Err x
  count_checks (Ok _) m x e = absurd (apart cc)
  count_checks (Err y) m x e = let z : y ≡ x = cc in ap Err z

  pub count_told : (n : ℕ) → count_of k l r s ≡ Ok n
      → (check_count k l r s ≡ Ok tt) × (length (splittings_of k l r s) ≡ n)
  unfolding count_of
  count_told n e = count-answered (check_count k l r s) (length (splittings_of k l r s)) n e

  pub count-log : check_count k l r s ≡ Ok tt → check_log k l r s ≡ Ok tt
  unfolding check_count first_of
  count-log e = (both_sound (check_log k l r s) _ e).0

  module _ (i a b : ℕ) where
    -- the checks of a split
    pub count_refuses : (x : Refusal) → count_of k l r s ≡ Err x → Err x ≡ check_split k l r s i a b
    unfolding count_of check_split check_number first_of
    count_refuses x e = rw (count_checks (check_count k l r s) (length (splittings_of k l r s)) x e)

    module _ (n : ℕ) (e : count_of k l r s ≡ Ok n) where
      pub number_refused : n ≤ i → Err NoSuchSplitting ≡ check_split k l r s i a b
      unfolding check_split check_number first_of
      number_refused h =
          let (c, z) = count_told n e in rw (c, le-leb (length (splittings_of k l r s)) i (omega (arith, z, h)))

      module _ (h : i < n) where
        number_sound : check_number k l r s i ≡ Ok tt
        unfolding check_number first_of
        number_sound =
            let (c, z) = count_told n e in rw (c, lt-leb (length (splittings_of k l r s)) i (omega (arith, z, h)))

        size_told : half_length s ≡ 2 * (length s / 3) + 1
        size_told = half_room (sound_ready k l r s (count-log (count_told n e).0))

        pub room_short : (a < 2 * (length s / 3) + 1) ⊎ ((2 * (length s / 3) + 1 ≤ a) × (b < 2 * (length s / 3) + 1))
            → Err OutputTooShort ≡ check_split k l r s i a b
        unfolding check_split first_of
        room_short (inl j) = rw (number_sound, lt-ltb a (half_length s) (omega (arith, size_told, j)))
        room_short (inr (j, m)) =
            rw (
              number_sound,
              le-ltb a (half_length s) (omega (arith, size_told, j)),
              lt-ltb b (half_length s) (omega (arith, size_told, m)),
            )

        pub split_sound : 2 * (length s / 3) + 1 ≤ a → 2 * (length s / 3) + 1 ≤ b → Ok tt ≡ check_split k l r s i a b
        unfolding check_split first_of
        split_sound j m =
            rw (
              number_sound,
              le-ltb a (half_length s) (omega (arith, size_told, j)),
              le-ltb b (half_length s) (omega (arith, size_told, m)),
            )

-- what the checks of a split let through
module _ (k : Labels) (l r s : List ℕ) (i a b : ℕ) (e : check_split k l r s i a b ≡ Ok tt) where
  pub split-log : Log k l r s
  split-log = sound_ready k l r s (split_checked k l r s i a b e).0

  pub split_below : i < length (splittings_of k l r s)
  split_below = (split_checked k l r s i a b e).1

  pub split-room : (half_length s ≤ a) × (half_length s ≤ b)
  unfolding check_split first_of
  split-room =
      let (_, c) = both_sound (check_number k l r s i) _ e in
      let (d, _) = both_sound (refused_if (ltb a (half_length s) || ltb b (half_length s)) _) _ c in
      let (u, v) = neither (ltb a (half_length s)) (ltb b (half_length s)) (unrefused _ _ d) in
      (ltb-false a (half_length s) u, ltb-false b (half_length s) v)
    where
      neither : (a b : Bool) → (a || b) ≡ false → (a ≡ false) × (b ≡ false)
      neither true b e = absurd (false≢true (sym e))
      neither false b e = (refl, e)

-- the answer and the outputs of a split
module _ (k : Labels) (l r s : List ℕ) (i : ℕ) (x y : List ℕ) where
  pub split_refused : (z : Refusal) → check_split k l r s i (length x) (length y) ≡ Err z
      → (Err z ≡ split_of k l r s i (length x) (length y))
      × ((x ≡ left_output k l r s i x (length y)) × (y ≡ right_output k l r s i (length x) y))
  unfolding split_of left_output right_output
  split_refused z e = (rw e, (rw e, rw e))

  pub split-answered : check_split k l r s i (length x) (length y) ≡ Ok tt → (u v : List ℕ)
      → u ≡ in_front (left_half k l r s i) x → v ≡ in_front (right_half k l r s i) y
      → (Ok (2 * (length s / 3) + 1) ≡ split_of k l r s i (length x) (length y))
      × ((u ≡ left_output k l r s i x (length y)) × (v ≡ right_output k l r s i (length x) y))
  unfolding split_of left_output right_output
  split-answered e u v p q = (rw (e, half_room (split-log k l r s i (length x) (length y) e)), (rw e p, rw e q))
