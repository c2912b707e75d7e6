-- The loop that writes a half run as a joint run: the first i steps stand, each turn adds one.
use Prim.Native.Nat.{ℕ, suc, ◌+◌, ◌*◌, ◌%◌, ◌≤◌, ◌<◌}
use mathlib.Core.Path.{◌≡◌, refl, ◌∙◌}
use mathlib.Core.List.{List, [], ◌∷◌, ◌++◌}
use native.Mathlib.Omega.{arith}
use lib.ListN.{length, get_or, take, drop, set, length-take, length-set}
use lib.Seq.{drop-set-lt}
use Rattle.labels.proofs.Slices.{take_two, written_behind}
use Rattle.verdict.specs.Working.{widened, beside_still}
use Rattle.verdict.proofs.Still.{still-length}

-- steps that follow whole ones are widened behind them
widened_more : (bs : List ℕ) (a q : ℕ) → length bs % 2 ≡ 0 → widened (bs ++ a ∷ q ∷ []) ≡ widened bs ++ a ∷ q ∷ 0 ∷ []
unfolding widened
widened_more [] a q h = refl
widened_more (x ∷ []) a q h = absurd (omega (arith, h))
widened_more (x ∷ y ∷ bs) a q h = rw (widened_more bs a q (omega (arith, h)))

still-more : (s : List ℕ) (a q : ℕ) → length s % 2 ≡ 1 → beside_still (s ++ a ∷ q ∷ []) ≡ beside_still s ++ a ∷ q ∷ 0 ∷ []
unfolding beside_still
still-more [] a q h = absurd (omega (arith, h))
still-more (p ∷ bs) a q h = rw (widened_more bs a q (omega (arith, h)))

-- the first i steps widened, written over the front of other bytes
abbrev still_over : List ℕ → ℕ → List ℕ → List ℕ
still_over half i run = beside_still (take (2 * i + 1) half) ++ drop (3 * i + 2) run

module _ (half : List ℕ) (i : ℕ) where
  -- the first i steps widened: two start states, and three bytes a step
  pub still-size : 2 * i + 1 ≤ length half → length (beside_still (take (2 * i + 1) half)) ≡ 3 * i + 2
  still-size h =
      let n = length-take (2 * i + 1) half in
      omega (arith, still-length (take (2 * i + 1) half) (omega arith))

  -- one more step of the half is one more step widened
  still-next : 2 * i + 3 ≤ length half
      → beside_still (take (2 * (i + 1) + 1) half)
      ≡ beside_still (take (2 * i + 1) half) ++ get_or half (2 * i + 1) 0 ∷ get_or half (2 * i + 2) 0 ∷ 0 ∷ []
  still-next h =
      let e : 2 * (i + 1) + 1 ≡ 2 * i + 1 + 2 = omega arith in
      let f : 2 * i + 2 ≡ 2 * i + 1 + 1 = omega arith in
      rw (e, f, take_two half (2 * i + 1) (omega arith))
      (still-more (take (2 * i + 1) half) (get_or half (2 * i + 1) 0) (get_or half (2 * i + 1 + 1) 0)
      (omega (arith, length-take (2 * i + 1) half)))

-- the loop has written the first i steps over what it began with
pub record Widening (half : List ℕ) (steps : ℕ) (begun run : List ℕ) (i : ℕ) : Type 0 where
  pub within : i ≤ steps
  pub kept : length run ≡ length begun
  pub same : run ≡ still_over half i begun

-- the output when the loop begins: the start state, and the state 0 beside it
abbrev pub begun_by : List ℕ → List ℕ → List ℕ
begun_by half run = set (set run 0 (get_or half 0 0)) 1 0

module _ (half : List ℕ) (steps : ℕ) where
  pub widen_start : (run : List ℕ) → 2 * steps + 1 ≤ length half → 3 * steps + 2 ≤ length run
      → Widening half steps (begun_by half run) (begun_by half run) 0
  unfolding beside_still widened
  widen_start run h k = record { within = omega arith; kept = refl; same = starts half run (omega arith) (omega arith) }
    where
      starts : (half run : List ℕ) → 1 ≤ length half → 2 ≤ length run
          → begun_by half run ≡ still_over half 0 (begun_by half run)
      starts [] run h k = absurd (omega arith)
      starts (p ∷ half) [] h k = absurd (omega arith)
      starts (p ∷ half) (x ∷ []) h k = absurd (omega arith)
      starts (p ∷ half) (x ∷ y ∷ run) h k = refl

  module _ (begun run : List ℕ) (i : ℕ) (w : Widening half steps begun run i) (h : 2 * steps + 1 ≤ length half)
      (k : 3 * steps + 2 ≤ length begun) where
    pub widen_on : i < steps
        → Widening half steps begun
        (set (set (set run (3 * i + 2) (get_or half (2 * i + 1) 0)) (3 * i + 3) (get_or half (2 * i + 2) 0)) (3 * i + 4) 0)
        (i + 1)
    widen_on t =
        let second : 3 * i + 3 ≡ suc (3 * i + 2) = omega arith in
        let third : 3 * i + 4 ≡ suc (suc (3 * i + 2)) = omega arith in
        let behind : 3 * (i + 1) + 2 ≡ 3 * i + 2 + 3 = omega arith in
        record {
          within = omega arith;
          kept = rw (length-set, length-set, length-set) w.kept;
          same =
              rw (w.same, second, third, behind, still-next half i (omega arith))
              (written_behind (beside_still (take (2 * i + 1) half))
              (get_or half (2 * i + 1) 0 ∷ get_or half (2 * i + 2) 0 ∷ 0 ∷ []) begun (3 * i + 2)
              (still-size half i (omega arith)) (omega arith));
        }

  -- the output keeps the length that it had first
  pub widen_kept : (first run : List ℕ) (i : ℕ) → Widening half steps (begun_by half first) run i
      → length run ≡ length first
  widen_kept first run i w = w.kept ∙ rw (length-set, length-set)

  -- all steps are written, and what stood behind them is kept
  pub widen_end : (first run : List ℕ) (i : ℕ) → Widening half steps (begun_by half first) run i → steps ≤ i
      → run ≡ still_over half steps first
  widen_end first run i w t =
      let e : i ≡ steps = omega (arith, w.within) in
      w.same ∙ rw (
        e,
        drop-set-lt (3 * steps + 2) (set first 0 (get_or half 0 0)) 1 0 (omega arith),
        drop-set-lt (3 * steps + 2) first 0 (get_or half 0 0) (omega arith),
      )
