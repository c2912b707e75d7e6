-- The half of a splitting of a window, put together from the table of halves; and the quotient by it.
use Prim.Native.Nat.{ℕ, ◌+◌, ◌-◌, ◌*◌, ◌/◌, ◌%◌, ◌≤◌, ◌<◌}
use mathlib.Core.Path.{◌≡◌, sym, ◌∙◌, ap, ap₂}
use mathlib.Core.Logic.{⊎_elim}
use mathlib.Core.List.{List, ◌++◌}
use native.Mathlib.Nat.{mod-lt}
use native.Mathlib.Omega.{arith}
use lib.ListN.{length, take, drop, length-append, length-drop}
use lib.Seq.{sets-eq, take_at, take-length, drop-drop, length-take-le}
use borrow.Rule.Slice.PartMut.{put_mid}
use Rattle.hml.specs.System.{steps, stop}
use Rattle.labels.specs.Refusals.{first_of}
use Rattle.labels.specs.declared.label.Labels.{Labels}
use Rattle.labels.proofs.Slices.{rest}
use Rattle.halves.specs.Halves.{half_of, check_half}
use Rattle.machines.specs.Cases.{Case}
use Rattle.machines.specs.Joints.{joint_of}
use Rattle.splitting.specs.Splittings.{splitting_limit}
use Rattle.splitting.proofs.LogRuns.{sound_log, half_passed}
use Rattle.splitting.proofs.AllSplittings.{splitting_joins}
use Rattle.dividing.specs.Quotients.{quotient_by, answer_of, output_after, check_division}
use Rattle.quotient.specs.Calls.{tree_by_half, tree_by_number, by_number, by_number_output}
use Rattle.quotient.proofs.SplitRuns.{LogParts, log_parts, split-run, by_number_sound}
use Rattle.sheet_lines.specs.declared.kept.Kept.{Kept}
use Rattle.sheet_lines.specs.Working.{put_at, log_check, ways_of, half_in, check_at, tree_at, quotient_in}
use Rattle.sheet_lines.specs.Working.{output_in, Asked, older_part, newer_part, HalfAt, HalvesAt, PartHalves, Halved}
use Rattle.sheet_lines.proofs.Puts.{part-front, rest_copied}
use Rattle.sheet_lines.proofs.KeptHalves.{Cut, cut_window}
use Rattle.sheet_lines.proofs.KeptTable.{half_size}
use Rattle.labels.specs.declared.refusal.Refusal.{Refusal}
use Rattle.std.specs.Prelude.{Ok, Result}

-- two parts of the table, copied one behind the other
pub half_put : (xs half y d : List ℕ) (from n then m : ℕ) → let a = take (from + n - from) (drop from xs) in
    let b = take (then + m - then) (drop then xs) in
    y ≡ take (length a) a ++ drop (length a) half → d ≡ take (length b) b ++ drop (length b) (rest n y)
    → from + n ≤ length xs → then + m ≤ length xs → n + m ≤ length half
    → take (n + m) (put_mid n (length y - n) y d) ≡ take n (drop from xs) ++ take m (drop then xs)
unfolding put_at
half_put xs half y d from n then m e f i j h =
    let a = take n (drop from xs) in
    let b = take m (drop then xs) in
    let p : from + n - from ≡ n = omega arith in
    let q : then + m - then ≡ m = omega arith in
    let la : length a ≡ n = length-take-le n (drop from xs) (omega (arith, i, length-drop from xs)) in
    let lb : length b ≡ m = length-take-le m (drop then xs) (omega (arith, j, length-drop then xs)) in
    let y₁ : y ≡ a ++ drop n half = e
    ∙ ap (λ c. let x = take c (drop from xs) in take (length x) x ++ drop (length x) half) p
    ∙ ap₂ (λ x c. x ++ drop c half) (take-length a) la in
    let d₁ : d ≡ take (length b) b ++ drop (length b) (rest n y) = f
    ∙ ap (λ c. let x = take c (drop then xs) in take (length x) x ++ drop (length x) (rest n y)) q in
    let ly : length y ≡ length half = ap length y₁ ∙ length-append a (drop n half)
    ∙ omega (arith, la, length-drop n half, h) in
    let room : n + length b ≤ length y = omega (arith, lb, ly, h) in
    let front : take n y ≡ a = ap (take n) y₁ ∙ take_at a (drop n half) n la in
    let size : length (take n y ++ b) ≡ n + m = length-append (take n y) b ∙ omega (arith, ap length front, la, lb) in
    ap (take (n + m)) (rest_copied y b d n room d₁ ∙ sets-eq b y n room)
    ∙ take_at (take n y ++ b) (drop (n + length b) y) (n + m) size ∙ ap (◌++ b) front

-- halves are kept where the newer part has splittings
pub kept_parts : (c : Case) (kept : Kept) (halves : List ℕ) → Halved c kept halves → (kept.ways ≡ 0 → ⊥)
    → PartHalves c kept halves
kept_parts c kept halves h n = ⊎_elim (λ e. absurd (n e)) (λ p. p) h.stands

-- the half of a splitting of a window, from those that are kept
module _ (c : Case) (sound : log_check c ≡ Ok tt) (t : ℕ) (below : t < ways_of c) (kept : Kept) (halves : List ℕ)
    (p : PartHalves c kept halves) where
  cut : Cut c kept.older
  cut = cut_window c kept.older sound (omega (arith, p.points))

  -- its numbers in the two parts
  older_number_lem : t / kept.ways < ways_of (older_part c kept.older)
  older_number_lem = rw p.counted (cut.older_number t below)

  newer_number : t % kept.ways < kept.ways
  newer_number = mod-lt t (rw p.counted cut.some_newer)

  -- they are places of the table
  pub kept_numbers : (0 < kept.ways) × (kept.ways ≤ 256) × (t / kept.ways < 256)
  kept_numbers = (omega (arith, newer_number), p.few_newer, omega (arith, older_number_lem, p.few_older))

  pub kept-steps : kept.older + kept.newer ≤ 200
  kept-steps =
      let a = (sound_log _ _ _ _ sound).run in
      omega (arith, p.points, a.counted, a.few)

  -- the two halves, as they stand there
  older_half : take (2 * kept.older + 1) (drop (401 * (t / kept.ways)) halves)
      ≡ half_in (older_part c kept.older) (t / kept.ways)
  unfolding HalvesAt HalfAt
  older_half =
      let size = half_size (older_part c kept.older) cut.older (t / kept.ways) older_number_lem in
      let z : 2 * kept.older + 1 ≡ length (half_in (older_part c kept.older) (t / kept.ways)) = omega
      (arith, size.0, cut.older_steps) in
      let y : t / kept.ways ≡ 0 + t / kept.ways = omega arith in
      ap₂ (λ a b. take a (drop (401 * b) halves)) z y ∙ p.older_halves (t / kept.ways) older_number_lem

  newer_half : take (2 * kept.newer) (drop (401 * (256 + t % kept.ways) + 1) halves)
      ≡ drop 1 (half_in (newer_part c kept.older) (t % kept.ways))
  unfolding HalvesAt HalfAt
  newer_half =
      let at = 401 * (256 + t % kept.ways) in
      let size = half_size (newer_part c kept.older) cut.newer (t % kept.ways)
      (omega (arith, newer_number, p.counted)) in
      let z : 1 + 2 * kept.newer ≡ length (half_in (newer_part c kept.older) (t % kept.ways)) = omega
      (arith, size.0, cut.newer_steps, p.points) in
      ap (take (2 * kept.newer)) (sym (drop-drop 1 at halves)) ∙ part-front (drop at halves) 1 (2 * kept.newer)
      ∙ ap (λ a. drop 1 (take a (drop at halves))) z ∙ ap (drop 1) (p.newer_halves (t % kept.ways) newer_number)

  pub half_together : take (2 * kept.older + 1) (drop (401 * (t / kept.ways)) halves)
      ++ take (2 * kept.newer) (drop (401 * (256 + t % kept.ways) + 1) halves)
      ≡ half_in c t
  half_together = ap₂ ◌++◌ older_half newer_half ∙ rw p.counted (sym (cut.half t below))

-- the quotient by the right half of a splitting of a window, at its end, is what the public call gives
module _ (c : Case) (asked : Asked c) (t : ℕ) (below : t < ways_of c) (few : ways_of c ≤ splitting_limit) where
  parts : LogParts c.labels c.left c.right c.run
  parts = log_parts _ _ _ _ asked.log

  points : steps (joint_of c.run) ≡ length c.run / 3
  points = (sound_log _ _ _ _ asked.log).run.counted

  abbrev h : List ℕ
  h = half_in c t

  half_sound : check_half c.right h ≡ Ok tt
  half_sound =
      let (e, j, _, _, _) = splitting_joins _ _ _ _ t asked.log below in
      (split-run _ _ _ _ _ _ (length c.run / 3) e j (omega (arith, points))).right

  division_sound : check_division c.labels c.right h c.question ≡ Ok tt
  unfolding check_division first_of
  division_sound = rw (parts.machines.labels, parts.machines.right, asked.question, half_sound)

  -- it is the run of all its steps
  whole : stop (length c.run / 3) (half_of h) ≡ half_of h
  whole =
      let z : steps (half_of h) - length c.run / 3
      ≡ 0 = omega (arith, (half_passed c.right h half_sound).counted, (half_size c asked.log t below).0, points) in
      rw z

  same-tree : quotient_by c.labels c.right (half_of h) c.question ≡ tree_at c (length c.run / 3) t
  unfolding tree_by_number tree_by_half
  same-tree = sym (ap (λ x. quotient_by c.labels c.right x c.question) whole)

  number_sound : check_at c (length c.run / 3) t
      ≡ Ok tt
  unfolding splitting_limit
  number_sound =
      by_number_sound _ _ _ _ parts (length c.run / 3)
      (omega (arith, points)) c.question asked.question t below few

  pub kept-quotient : (x : Labels) (u v : List ℕ) → x ≡ c.labels → u ≡ c.right → v ≡ c.question
      → (g out z : List ℕ) (q : Result ℕ Refusal) → g ≡ h
      → q ≡ answer_of (check_division x u g v) (quotient_by x u (half_of g) v) (length out)
      → z ≡ output_after (check_division x u g v) (quotient_by x u (half_of g) v) out
      → (q ≡ quotient_in c t (length out)) × (z ≡ output_in c t out)
  unfolding by_number by_number_output
  kept-quotient x u v i j l g out z q e a d =
      let check : check_division x u g v ≡ check_at c (length c.run / 3) t =
      rw (i, j, l, e) (division_sound ∙ sym number_sound) in
      let tree : quotient_by x u (half_of g) v ≡ tree_at c (length c.run / 3) t =
      rw (i, j, l, e) same-tree in
      (a ∙ ap₂ (λ m o. answer_of m o (length out)) check tree, d ∙ ap₂ (λ m o. output_after m o out) check tree)
