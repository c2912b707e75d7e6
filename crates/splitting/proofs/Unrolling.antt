-- Writing the halves of a splitting from the last step to the first: "the first step varies slowest".
use Prim.Native.Nat.{ℕ, zero, suc, ◌+◌, ◌*◌, ◌/◌, ◌%◌, ◌≤◌, ◌<◌}
use mathlib.Core.Path.{◌≡◌, refl, sym, ◌∙◌, ap}
use mathlib.Core.List.{List, [], ◌∷◌, ◌++◌, append_assoc}
use native.Mathlib.Omega.{arith}
use native.Mathlib.Nat.{mul-zero, div-lt_iff_lt-mul}
use lib.ListN.{length, get_or, drop, set, length-set}
use Rattle.hml.proofs.Tests.{tested-ℕ}
use Rattle.hml.proofs.Lists.{each_append}
use Rattle.hml.specs.System.{Run, start, ◌▸◌, first, last, move, idle}
use Rattle.hml.specs.Compose.{paired}
use Rattle.hml.proofs.Composition.{last-join}
use Rattle.labels.specs.Labels.{pairing}
use Rattle.hml.specs.Split.{grown, splits}
use Rattle.hml.proofs.Splits.{splits_sound}
use Rattle.hml.proofs.Indexed.{element}
use Rattle.hml.proofs.Numbered.{splits_at}
use Rattle.hml.specs.System as theory
use Rattle.labels.specs.Refusals.{in_front}
use Rattle.labels.specs.declared.label.Labels.{Labels}
use Rattle.tables.specs.Tables.{table_of}
use Rattle.halves.specs.Runs.{written}
use Rattle.halves.specs.Halves.{half_bytes}
use Rattle.halves.specs.Steps.{step_struct}
use Rattle.splitting.specs.Splittings.{splittings_of, left_half, right_half, half_length}
use Rattle.machines.specs.Steps.{joint_step_at, joint_read}
use Rattle.machines.specs.declared.step.JointStep.{JointStep}
use Rattle.machines.proofs.Steps.{Found, step_found, none_found}
use Rattle.ways.specs.declared.step.Way.{Way}
use Rattle.ways.specs.Working.{Steps, way_struct, chosen}
use Rattle.splitting.specs.Working.{Log, options_of, way_of, step_meant, label_byte, target_byte, put_step}
use Rattle.splitting.proofs.Counts.{
  up_to,
  splits_up_to,
  options_at,
  up_to-start,
  up_to_end,
  states_before,
  one_step,
  step_splits,
}
use Rattle.splitting.proofs.LogRuns.{nth_length, half_room}
use Rattle.std.specs.Prelude.{None, Some}

-- a step of the theory, as the program holds it, is meant again
pub step_meant_lem : (s : theory.Step ℕ) → step_meant (step_struct s) ≡ s
unfolding step_meant step_struct
step_meant_lem (move a q) = refl
step_meant_lem idle = refl

-- the way of a step that a number says, written into both halves
module _ (k : Labels) (l r : List ℕ) (st : JointStep) (n : ℕ) (ways : List Steps) (e : ways ≡ options_of k l r st)
    (w : ℕ)
    (f : w ≡ length ways) where
  pub ways-some : 0 < length (options_of k l r st) → 0 < w
  ways-some h = omega (arith, f, ap length e, h)

  pub number_before : n / w ≡ n / length (options_of k l r st)
  number_before = rw (f, e)

  module _ (way : Way) (g : way ≡ way_struct (chosen ways (n % w))) where
    way_told : way ≡ way_struct (way_of k l r st n)
    unfolding way_of
    way_told = g ∙ rw (f, e)

    module _ (i p : ℕ) (xs ys : List ℕ) where
      pub left-put : ys ≡ put_step xs i p (step_meant way.left) → ys ≡ put_step xs i p (way_of k l r st n).0
      unfolding way_struct
      left-put q = q ∙ rw (way_told, step_meant_lem (way_of k l r st n).0)

      pub right-put : ys ≡ put_step xs i p (step_meant way.right) → ys ≡ put_step xs i p (way_of k l r st n).1
      unfolding way_struct
      right-put q = q ∙ rw (way_told, step_meant_lem (way_of k l r st n).1)

-- two bytes in the place of those from n on, seen from n on
drop_two : (xs : List ℕ) (n a b : ℕ) → suc n < length xs
    → drop n (set (set xs n a) (suc n) b) ≡ a ∷ b ∷ drop (suc (suc n)) xs
drop_two [] n a b h = absurd (omega arith)
drop_two (x ∷ []) n a b h = absurd (omega arith)
drop_two (x ∷ y ∷ xs) zero a b h = refl
drop_two (x ∷ y ∷ xs) (suc n) a b h = drop_two (y ∷ xs) n a b (omega (arith, h))

-- the bytes of a half with one step more
half_grown : (x : Run ℕ) (s : theory.Step ℕ)
    → half_bytes (x ▸ s) ≡ half_bytes x ++ label_byte s ∷ target_byte (last x) s ∷ []
unfolding half_bytes written
half_grown x (move a q) = ap (first x ∷◌) (each_append (λ (e : ℕ × ℕ). e.0 ∷ e.1 ∷ []) (written x) ((a, q) ∷ []))
half_grown x idle = ap (first x ∷◌) (each_append (λ (e : ℕ × ℕ). e.0 ∷ e.1 ∷ []) (written x) ((255, last x) ∷ []))

-- a half of the steps up to and with step i, with what is written behind it, is the half before step i, with step i and
-- that behind it
half_unrolled : (x : Run ℕ) (s : theory.Step ℕ) (p i : ℕ) (out : List ℕ) → last x ≡ p → 2 * i + 2 < length out
    → half_bytes (x ▸ s) ++ drop (2 * (i + 1) + 1) out ≡ half_bytes x ++ drop (2 * i + 1) (put_step out i p s)
unfolding put_step
half_unrolled x s p i out e h =
    let a : 2 * i + 1 + 1 ≡ suc (2 * i + 1) = omega arith in
    let b : 2 * (i + 1) + 1 ≡ suc (suc (2 * i + 1)) = omega arith in
    rw (
      half_grown x s,
      e,
      append_assoc,
      a,
      b,
      drop_two out (2 * i + 1) (label_byte s) (target_byte p s) (omega (arith, h)),
    )

length_step : (out : List ℕ) (i p : ℕ) (s : theory.Step ℕ) → length (put_step out i p s) ≡ length out
unfolding put_step
length_step out i p s =
    length-set (set out (2 * i + 1) (label_byte s)) (2 * i + 1 + 1) (target_byte p s)
    ∙ length-set out (2 * i + 1) (label_byte s)

-- a state in front
first-put : (xs : List ℕ) (p : ℕ) → 1 ≤ length xs → set xs 0 p ≡ p ∷ drop 1 xs
first-put [] p h = absurd (omega arith)
first-put (x ∷ xs) p h = refl

module _ (k : Labels) (l r s : List ℕ) where
  -- the way of step i in splitting n of the steps up to it
  abbrev way_at : ℕ → ℕ → Steps
  way_at i n = way_of k l r (joint_step_at s i) n

  abbrev nth_up_to : ℕ → ℕ → Run ℕ × Run ℕ
  nth_up_to i n = get_or (splits_up_to k l r s i) n (start 0, start 0)

  -- the steps from step i on are written, and splitting n of the steps before it is still to be
  pub record Unrolled (number : ℕ) (x₀ y₀ : List ℕ) (i n : ℕ) (x y : List ℕ) : Type 0 where
    pub within : i ≤ length s / 3
    pub below : n < length (splits_up_to k l r s i)
    pub left_size : length x ≡ length x₀
    pub right_size : length y ≡ length y₀
    pub left : half_bytes (nth_up_to i n).0 ++ drop (2 * i + 1) x ≡ in_front (left_half k l r s number) x₀
    pub right : half_bytes (nth_up_to i n).1 ++ drop (2 * i + 1) y ≡ in_front (right_half k l r s number) y₀

module _ {k : Labels} {l r s : List ℕ} (g : Log k l r s) where
  pub unrolled_start : (number : ℕ) (x y : List ℕ) → number < length (splittings_of k l r s)
      → Unrolled k l r s number x y (length s / 3) number x y
  unfolding splittings_of in_front left_half right_half
  unrolled_start number x y h =
      let (u, v) = nth_length k l r s number h in
      record {
        within = omega arith;
        below = rw (up_to_end g) h;
        left_size = refl;
        right_size = refl;
        left = rw (up_to_end g, u, half_room g);
        right = rw (up_to_end g, v, half_room g);
      }

  -- one step
  module _ (i n : ℕ) (h : i < length s / 3) (b : n < length (splits_up_to k l r s (i + 1))) where
    abbrev ways_of : ℕ
    ways_of = length (options_at k l r s i)

    pub some_way : 0 < ways_of
    some_way = go ways_of (rw (step_splits g i h) at b)
      where
        go : (w : ℕ) → n < length (splits_up_to k l r s i) * w → 0 < w
        go zero z = absurd (omega (arith, z, mul-zero (length (splits_up_to k l r s i))))
        go (suc w) z = omega arith

    before_below : n / ways_of < length (splits_up_to k l r s i)
    before_below = (div-lt_iff_lt-mul some_way).1 (rw (step_splits g i h) at b)

    -- the splitting of the number, by the last step
    unrolled_step : nth_up_to k l r s (i + 1) n ≡ grown (nth_up_to k l r s i (n / ways_of)) (way_at k l r s i n)
    unfolding way_of options_of joint_step_at
    unrolled_step =
        let e = states_before g i h in
        rw (one_step g i h, ← e) (splits_at (pairing k) tested-ℕ tested-ℕ (table_of l) (table_of r) (up_to k l r s i) _ n
        (start 0, start 0) (start 0, start 0) (idle, idle)
        (rw e some_way) (rw (one_step g i h) at b))

    -- its halves are then in the log's states
    ends_before : (last (nth_up_to k l r s i (n / ways_of)).0 ≡ get_or s (3 * i) 0)
        × (last (nth_up_to k l r s i (n / ways_of)).1 ≡ get_or s (3 * i + 1) 0)
    ends_before =
        let (j, _, _) = splits_sound (pairing k) tested-ℕ tested-ℕ (table_of l) (table_of r) (up_to k l r s i)
        (nth_up_to k l r s i (n / ways_of))
        (element (start 0, start 0) (splits_up_to k l r s i) (n / ways_of) before_below) in
        let e = sym (last-join (pairing k) paired j) ∙ states_before g i h in
        (ap (λ z. z.0) e, ap (λ z. z.1) e)

  -- the loop: j steps are still to be written, and i is the last of them
  module _ (number : ℕ) (x₀ y₀ : List ℕ) (room : (half_length s ≤ length x₀) × (half_length s ≤ length y₀)) (j n : ℕ)
      (x y : List ℕ) (u : Unrolled k l r s number x₀ y₀ j n x y) where
    module _ (i : ℕ) (e : j ≡ i + 1) where
      last_step : i < length s / 3
      last_step = omega (arith, u.within, e)

      last-below : n < length (splits_up_to k l r s (i + 1))
      last-below = rw e at u.below

      pub put-room : (2 * i + 2 < length x) × (2 * i + 2 < length y)
      put-room = (
        omega (arith, last_step, u.left_size, room.0, half_room g),
        omega (arith, last_step, u.right_size, room.1, half_room g),
      )

      -- it is there
      pub put-there : None ≡ joint_read s i → ⊥
      put-there a = omega (arith, last_step, none_found s i g.run.whole a)

      module _ (st : JointStep) (a : Some st ≡ joint_read s i) where
        found : Found s i st
        found = step_found s i st a

        pub put_some : 0 < length (options_of k l r st)
        put_some = rw found.here (some_way i n last_step last-below)

        pub unrolled_on : (m : ℕ) (x' y' : List ℕ) → m ≡ n / length (options_of k l r st)
            → x' ≡ put_step x i st.before.left (way_of k l r st n).0
            → y' ≡ put_step y i st.before.right (way_of k l r st n).1
            → Unrolled k l r s number x₀ y₀ i m x' y'
        unfolding joint_step_at
        unrolled_on m x' y' f p q = onward m x' y' (f ∙ rw found.here) (p ∙ rw found.here) (q ∙ rw found.here)
          where
            onward : (m : ℕ) (x' y' : List ℕ) → m ≡ n / length (options_at k l r s i)
                → x' ≡ put_step x i (get_or s (3 * i) 0) (way_at k l r s i n).0
                → y' ≡ put_step y i (get_or s (3 * i + 1) 0) (way_at k l r s i n).1
                → Unrolled k l r s number x₀ y₀ i m x' y'
            onward m x' y' f p q =
                let (a, b) = ends_before i n last_step last-below in
                let w = unrolled_step i n last_step last-below in
                let v = way_at k l r s i n in
                record {
                  within = omega (arith, last_step);
                  below = rw f (before_below i n last_step last-below);
                  left_size = ap length p ∙ length_step x i _ v.0 ∙ u.left_size;
                  right_size = ap length q ∙ length_step y i _ v.1 ∙ u.right_size;
                  left = rw (f, p) (sym (half_unrolled _ v.0 _ i x a put-room.0) ∙ rw (e, w) at u.left);
                  right = rw (f, q) (sym (half_unrolled _ v.1 _ i y b put-room.1) ∙ rw (e, w) at u.right);
                }

    module _ (z : j ≡ 0) where
      pub first-room : (1 ≤ length x) × (1 ≤ length y)
      first-room = (omega (arith, u.left_size, room.0, half_room g), omega (arith, u.right_size, room.1, half_room g))

      -- no step: the states in which the log starts
      start_left : half_bytes (nth_up_to k l r s j n).0 ≡ get_or s 0 0 ∷ []
      unfolding splits half_bytes written
      start_left = rw (z, up_to-start g, only_one)
        where
          only_one : n ≡ 0
          only_one = let b = rw (z, up_to-start g) at u.below in omega (arith, b)

      start_right : half_bytes (nth_up_to k l r s j n).1 ≡ get_or s 1 0 ∷ []
      unfolding splits half_bytes written
      start_right = rw (z, up_to-start g, only_one)
        where
          only_one : n ≡ 0
          only_one = let b = rw (z, up_to-start g) at u.below in omega (arith, b)

      pub unrolled_left : set x 0 (get_or s 0 0) ≡ in_front (left_half k l r s number) x₀
      unrolled_left = first-put x (get_or s 0 0) first-room.0 ∙ rw (start_left, z) at u.left

      pub unrolled_right : set y 0 (get_or s 1 0) ≡ in_front (right_half k l r s number) y₀
      unrolled_right = first-put y (get_or s 1 0) first-room.1 ∙ rw (start_right, z) at u.right
