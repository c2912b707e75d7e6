-- The table of halves: how it is filled with those of a window's two parts.
use Prim.Native.Nat.{ℕ, ◌+◌, ◌-◌, ◌*◌, ◌/◌, ◌≤◌, ◌<◌}
use mathlib.Core.Path.{◌≡◌, refl, sym, ◌∙◌, ap}
use mathlib.Core.Logic.{inl, inr}
use mathlib.Core.Bool.{Bool, true, false}
use mathlib.Core.List.{List, ◌++◌, append_assoc}
use native.Mathlib.Nat.{mul-le-mul}
use native.Mathlib.Omega.{arith}
use lib.ListN.{length, take, drop}
use lib.Dec.{ltb}
use lib.Seq.{sets-eq, take_at, drop_at, take-length, take-take, length-take-le}
use borrow.Rule.Slice.PartMut.{put_mid}
use borrow.Author.Tests.{le-ltb, lt-leb, ltb-true, ltb-false}
use Rattle.hml.specs.System.{steps}
use Rattle.labels.specs.Refusals.{first_of, in_front, output_of, Check}
use Rattle.labels.specs.declared.label.Labels.{Labels}
use Rattle.labels.proofs.Slices.{rest, rest_length}
use Rattle.machines.specs.Cases.{Case}
use Rattle.machines.specs.Joints.{joint_of}
use Rattle.splitting.specs.Splittings.{splitting_limit, check_count, check_number, check_split, count_of, counted}
use Rattle.splitting.specs.Splittings.{half_length, right_output}
use Rattle.splitting.proofs.LogRuns.{sound_log, nth_length}
use Rattle.splitting.proofs.Values.{count_most}
use Rattle.sheet_lines.specs.Working.{put_at, log_check, ways_of, count_in, half_in, Splits, counted_as}
use Rattle.sheet_lines.specs.Working.{between, older_part, newer_part, HalfAt, HalvesAt, Halved}
use Rattle.sheet_lines.proofs.Puts.{part-front, put_front, rest_copied}
use Rattle.sheet_lines.proofs.CaseLaws.{between_start, between_end}
use Rattle.sheet_lines.proofs.PointLines.{counted-log}
use Rattle.sheet_lines.proofs.KeptHalves.{Cut, cut_window}
use Rattle.std.specs.Prelude.{Err, Ok}

-- what is counted is at most the limit, so that its square is a number of the machine
counted-few : (c : Case) → counted_as (count_in c) ≤ 65535
unfolding counted_as count_of splitting_limit
counted-few c = go (check_count c.labels c.left c.right c.run) refl
  where
    go : (x : Check) → check_count c.labels c.left c.right c.run ≡ x
        → counted_as (counted x (ways_of c)) ≤ 65535
    go (Ok _) e = count_most _ _ _ _ e
    go (Err x) e = omega arith

pub square_few : (c : Case) (n : ℕ) → n ≡ counted_as (count_in c) → n * n ≤ 65535 * 65535
square_few c n e = let h : n ≤ 65535 = omega (arith, e, counted-few c) in mul-le-mul h h

-- a half that is written to its place stands there
half_here : (xs h : List ℕ) (i : ℕ) → 401 * i + length h ≤ length xs → HalfAt (put_at xs (401 * i) h) i h
unfolding HalfAt put_at
half_here xs h i l =
    let a : length (take (401 * i) xs) ≡ 401 * i = length-take-le (401 * i) xs (omega (arith, l)) in
    let b = drop (401 * i + length h) xs in
    ap (λ (o : List ℕ). take (length h) (drop (401 * i) o))
    (sets-eq h xs (401 * i) l ∙ append_assoc (take (401 * i) xs) h b)
    ∙ ap (take (length h)) (drop_at (take (401 * i) xs) (h ++ b) (401 * i) a) ∙ take_at h b (length h) refl

-- it stays where what stands in front of the next place is kept
half_stays : (xs ys h : List ℕ) (i p : ℕ) → take (401 * p) ys ≡ take (401 * p) xs → i < p → length h ≤ 401
    → HalfAt xs i h → HalfAt ys i h
unfolding HalfAt
half_stays xs ys h i p e l m s =
    let z : 401 * i + length h ≤ 401 * p = omega (arith, l, m) in
    let f : take (401 * i + length h) ys
    ≡ take (401 * i + length h) xs =
    sym (take-take (401 * i + length h) (401 * p) ys z) ∙ ap (take (401 * i + length h)) e
    ∙ take-take (401 * i + length h) (401 * p) xs z in
    part-front ys (401 * i) (length h) ∙ ap (drop (401 * i)) f ∙ sym (part-front xs (401 * i) (length h)) ∙ s

-- a case whose log no check refuses
module _ (c : Case) (sound : log_check c ≡ Ok tt) where
  count_sound : ways_of c ≤ splitting_limit → check_count c.labels c.left c.right c.run ≡ Ok tt
  unfolding check_count first_of splitting_limit
  count_sound few = rw (sound, le-ltb 65535 (ways_of c) few)

  -- a half of one of its splittings has a state and two bytes a step
  pub half_size : (i : ℕ) → i < ways_of c
      → (length (half_in c i) ≡ 2 * steps (joint_of c.run) + 1) × (length (half_in c i) ≤ 401)
  unfolding half_length
  half_size i h =
      let (_, e) = nth_length _ _ _ _ i h in
      (e, omega (arith, e, (sound_log _ _ _ _ sound).run.few))

  -- a split refuses none of them where there is room
  split_sound : (i a b : ℕ) → i < ways_of c → ways_of c ≤ splitting_limit
      → 401 ≤ a → 401 ≤ b → check_split c.labels c.left c.right c.run i a b ≡ Ok tt
  unfolding check_split check_number first_of half_length
  split_sound i a b below few x y =
      let h = (sound_log _ _ _ _ sound).run.few in
      rw (
        count_sound few,
        lt-leb (ways_of c) i below,
        le-ltb a (2 * steps (joint_of c.run) + 1) (omega (arith, h, x)),
        le-ltb b (2 * steps (joint_of c.run) + 1) (omega (arith, h, y)),
      )

  -- the half of one of them, split into the table
  pub half_listed : (x : Labels) (l r j : List ℕ) → x ≡ c.labels → l ≡ c.left → r ≡ c.right → j ≡ c.run
      → (i : ℕ) → (i < ways_of c) × (ways_of c ≤ splitting_limit)
      → (a place : ℕ) (xs ys : List ℕ) → ys ≡ right_output x l r j i a (rest (401 * place) xs)
      → 401 ≤ a → (place < 512) × (length xs ≡ 205312)
      → put_mid (401 * place) (length xs - 401 * place) xs ys ≡ put_at xs (401 * place) (half_in c i)
  unfolding right_output in_front
  half_listed x l r j p q u v i (below, few) a place xs ys e f (b, d) =
      let h = half_in c i in
      let y = rest (401 * place) xs in
      let n : 401 ≤ length y = omega (arith, rest_length (401 * place) xs, b, d) in
      let same : right_output x l r j i a y
      ≡ right_output c.labels c.left c.right c.run i a y = rw (p, q, u, v) in
      rest_copied xs h ys (401 * place) (omega (arith, half_size i below, b, d))
      (e ∙ same ∙ ap (λ o. output_of o h y) (split_sound i a (length y) below few f n)
      ∙ ap (◌++ drop (length h) y) (sym (take-length h)))

  -- all of them, one after the other
  pub listed-none : (xs : List ℕ) (first : ℕ) → HalvesAt c xs first 0
  unfolding HalvesAt
  listed-none xs first i h = absurd (omega arith)

  pub listed_more : (xs ys : List ℕ) (first n : ℕ) → n < ways_of c → first + n < 512
      → length xs ≡ 205312 → HalvesAt c xs first n
      → ys ≡ put_at xs (401 * (first + n)) (half_in c n) → HalvesAt c ys first (n + 1)
  unfolding HalvesAt
  listed_more xs ys first n below room size f e i h = go (ltb i n) refl
    where
      go : (b : Bool) → ltb i n ≡ b → HalfAt ys (first + i) (half_in c i)
      go true d =
          let j = ltb-true i n d in
          half_stays xs ys (half_in c i) (first + i) (first + n)
          (ap (take (401 * (first + n))) e
          ∙ put_front xs (401 * (first + n)) (401 * (first + n)) (half_in c n) (omega arith)) (omega (arith, j))
          (half_size i (omega (arith, j, below))).1 (f i j)
      go false d =
          let z : i ≡ n = omega (arith, ltb-false i n d, h) in
          rw (e, z) (half_here xs (half_in c n) (first + n) (omega (arith, half_size n below, room, size)))

  pub listed-all : (xs : List ℕ) (first i n : ℕ) → n ≤ i → HalvesAt c xs first i → HalvesAt c xs first n
  unfolding HalvesAt
  listed-all xs first i n h f j m = f j (omega (arith, h, m))

  -- halves in front of a place stay where what stands there is kept
  halves_stay : (xs ys : List ℕ) (n p : ℕ) → n ≤ ways_of c → n ≤ p
      → take (401 * p) ys ≡ take (401 * p) xs → HalvesAt c xs 0 n → HalvesAt c ys 0 n
  unfolding HalvesAt
  halves_stay xs ys n p few h e f i j =
      half_stays xs ys (half_in c i) (0 + i) p e (omega (arith, h, j)) (half_size i (omega (arith, few, j))).1
      (f i j)

-- what stands in front of the first place is kept
pub front_kept : (xs ys zs h : List ℕ) (first at : ℕ) → zs ≡ put_at ys at h
    → take (401 * first) ys ≡ take (401 * first) xs → 401 * first ≤ at → take (401 * first) zs ≡ take (401 * first) xs
front_kept xs ys zs h first at e f l = ap (take (401 * first)) e ∙ put_front ys at (401 * first) h l ∙ f

-- no halves are kept
pub halved_none : (c : Case) (halves : List ℕ) → length halves ≡ 205312
    → Halved c (record { older = 0; newer = 0; ways = 0 }) halves
halved_none c halves e = record { size = e; stands = inl refl }

-- the parts of a window of so many points, o and n, and how many splittings each has
module _ (c : Case) (splits : Splits c) (points : ℕ) (all : points ≡ length c.run / 3) (m : ℕ)
    (within : m ≤ points) where
  -- they are in the window
  pub parts_fit : (3 * m + 2 ≤ length c.run) × (3 * points + 2 ≤ length c.run)
  parts_fit = let a = (sound_log _ _ _ _ splits.log).run in omega (arith, all, within, a.counted, a.whole)

  pieces : Cut c m
  pieces = cut_window c m splits.log (omega (arith, all, within))

  module _ (o : Case) (first : o ≡ between c 0 m) (a : ℕ) (x : a ≡ counted_as (count_in o)) where
    older_is : o ≡ older_part c m
    unfolding older_part
    older_is = first ∙ between_start c m

    older_splits : Splits (older_part c m)
    older_splits = record { log = pieces.older; few = omega (arith, pieces.few_older, splits.few) }

    older_counted : a ≡ ways_of (older_part c m)
    older_counted = x ∙ ap (λ z. counted_as (count_in z)) older_is ∙ counted-log (older_part c m) older_splits

    -- what listing the halves of the older part asks for
    pub older_ready : Splits o × (a ≤ ways_of o)
    older_ready = rw older_is (older_splits, omega (arith, older_counted))

    module _ (n : Case) (last : n ≡ between c m points) (b : ℕ) (y : b ≡ counted_as (count_in n)) where
      newer_is : n ≡ newer_part c m
      unfolding newer_part
      newer_is = last ∙ ap (between c m) all ∙ between_end c splits.log m

      newer_splits : Splits (newer_part c m)
      newer_splits = record { log = pieces.newer; few = omega (arith, pieces.few_newer, splits.few) }

      newer_counted : b ≡ ways_of (newer_part c m)
      newer_counted = y ∙ ap (λ z. counted_as (count_in z)) newer_is ∙ counted-log (newer_part c m) newer_splits

      pub newer_ready : Splits n × (b ≤ ways_of n)
      newer_ready = rw newer_is (newer_splits, omega (arith, newer_counted))

      -- the halves of both are listed
      pub halved-kept : (ys zs : List ℕ) → a ≤ 256 → b ≤ 256 → HalvesAt o ys 0 a → HalvesAt n zs 256 b
          → take (401 * 256) zs ≡ take (401 * 256) ys → length zs ≡ 205312
          → Halved c (record { older = m; newer = points - m; ways = b }) zs
      halved-kept ys zs i j p q e size =
          let d = older_counted in
          let stay = halves_stay (older_part c m) pieces.older ys zs a 256 (omega (arith, d)) i e
          (rw older_is at p) in
          record {
            size = size;
            stands = inr (record {
              points = omega (arith, all, within);
              counted = newer_counted;
              few_older = omega (arith, d, i);
              few_newer = j;
              older_halves = rw d at stay;
              newer_halves = rw newer_is at q;
            });
          }
