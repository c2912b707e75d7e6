-- The newest steps of a run as a run of their own, and their splittings. "The first step varies slowest": so the
-- splitting of number i, stopped at a point, has the number i / S, with S splittings of what follows the point; and the
-- last steps of the splitting of number m are those of number m % W, with W splittings of these steps alone. A quotient
-- looks back over few steps only (Window), and so it is known by the splittings of these few.
use mathlib.Core.Path.{◌≡◌, refl, sym, ◌∙◌, ap}
use Prim.Native.Nat.{ℕ, zero, suc, ◌+◌, ◌-◌, ◌*◌, ◌/◌, ◌%◌, ◌≤◌, ◌<◌}
use native.Mathlib.Nat.{mul-one, mul-zero, mul-pos, le-mul_of_pos_right, mul_assoc, mul_comm, div-one, mod-lt}
use native.Mathlib.Nat.{div-div-eq-div-mul, div-lt_iff_lt-mul}
use native.Mathlib.Omega.{arith}
use lib.Arith.{mod-mul, digits_div, digits_mod}
use lib.ListN.{length, get_or}
use Rattle.hml.proofs.Tests.{Tested}
use Rattle.hml.specs.System.{System, Step, move, idle, Run, start, ◌▸◌, first, last, steps, undo, stop, Pairing}
use Rattle.hml.specs.System.{RunOf, begins, goes}
use Rattle.hml.specs.Compose.{paired, beside}
use Rattle.hml.proofs.Composition.{Join, last-join}
use Rattle.hml.proofs.Real.{run-joined}
use Rattle.hml.proofs.Joins.{join-steps}
use Rattle.hml.specs.Split.{grown, options, splits}
use Rattle.hml.proofs.Splits.{splits_complete, splits_sound, splits-count}
use Rattle.hml.proofs.Indexed.{element, number_of}
use Rattle.hml.proofs.Numbered.{splits_at}
use Rattle.hml.proofs.Window.{Alike, ends, begins as alike-begins, steps as alike_steps}

module _ {S : Type 0} where
  -- the newest n steps of a run, as a run of their own, from the state before them; all of it where it has no more
  abbrev pub behind : ℕ → Run S → Run S
  behind zero r = start (last r)
  behind (suc n) (start p) = start p
  behind (suc n) (r ▸ s) = behind n r ▸ s

  -- of a run without steps they are all
  behind-start : (n : ℕ) (p : S) → behind n (start p) ≡ start p
  behind-start zero p = refl
  behind-start (suc n) p = refl

  -- they end where the run ends, and start where the steps before them end
  pub last-behind : (n : ℕ) (r : Run S) → last (behind n r) ≡ last r
  last-behind zero r = refl
  last-behind (suc n) (start p) = refl
  last-behind (suc n) (r ▸ move a p) = refl
  last-behind (suc n) (r ▸ idle) = last-behind n r

  pub first-behind : (n : ℕ) (r : Run S) → first (behind n r) ≡ last (undo n r)
  first-behind zero r = refl
  first-behind (suc n) (start p) = refl
  first-behind (suc n) (r ▸ s) = first-behind n r

  -- they are as many as asked for, or as the run has
  pub steps-behind : (n : ℕ) (r : Run S) → steps (behind n r) ≡ steps r - (steps r - n)
  steps-behind zero r = omega arith
  steps-behind (suc n) (start p) = omega arith
  steps-behind (suc n) (r ▸ s) = omega (arith, steps-behind n r)

  pub steps-from : (n : ℕ) (r : Run S) → steps (behind (steps r - n) r) ≡ steps r - n
  steps-from n r = steps-behind (steps r - n) r ∙ omega arith

  steps-undo : (n : ℕ) (r : Run S) → steps (undo n r) ≡ steps r - n
  steps-undo zero r = omega arith
  steps-undo (suc n) (start p) = omega arith
  steps-undo (suc n) (r ▸ s) = omega (arith, steps-undo n r)

  -- asking for more steps than there are is asking for all
  pub behind-all : (n : ℕ) (r : Run S) → behind (steps r - (steps r - n)) r ≡ behind n r
  behind-all zero r = let z : steps r - (steps r - 0) ≡ 0 = omega arith in rw z
  behind-all (suc n) (start p) = let z : 0 - (0 - suc n) ≡ 0 = omega arith in rw z
  behind-all (suc n) (r ▸ s) =
      let z : suc (steps r) - (suc (steps r) - suc n) ≡ suc (steps r - (steps r - n)) = omega arith in
      rw z (ap (◌▸ s) (behind-all n r))

  -- the newest n steps before the newest m
  behind-undo : (m n : ℕ) (r : Run S) → undo m (behind (m + n) r) ≡ behind n (undo m r)
  behind-undo zero n r = let z : 0 + n ≡ n = omega arith in rw z
  behind-undo (suc m) n (start p) = let z : suc m + n ≡ suc (m + n) = omega arith in rw z (sym (behind-start n p))
  behind-undo (suc m) n (r ▸ s) = let z : suc m + n ≡ suc (m + n) = omega arith in rw z (behind-undo m n r)

  -- the window of a point, its last n steps or all: what follows the window's start, stopped at the point
  module _ (n p : ℕ) (r : Run S) (h : p ≤ steps r) where
    pub window_cut : stop (p - (p - n)) (behind (steps r - (p - n)) r) ≡ behind n (stop p r)
    window_cut =
        let y : steps (behind (steps r - (p - n)) r) - (p - (p - n))
        ≡ steps r - p = ap (◌- (p - (p - n))) (steps-from (p - n) r) ∙ omega arith in
        let z : steps r - (p - n) ≡ (steps r - p) + (p - (p - n)) = omega arith in
        let x : p ≡ steps (stop p r) = omega (arith, steps-undo (steps r - p) r) in
        rw y (ap (λ m. undo (steps r - p) (behind m r)) z ∙ behind-undo (steps r - p) (p - (p - n)) r
        ∙ ap (λ m. behind (m - (m - n)) (stop p r)) x ∙ behind-all n (stop p r))

    pub window_steps : steps (behind n (stop p r)) ≡ p - (p - n)
    window_steps = omega (arith, steps-behind n (stop p r), steps-undo (steps r - p) r)

module _ {S : Type 0} (M : System S) where
  -- the parts of a run of a system are runs of it
  pub run-undo : (n : ℕ) {r : Run S} → RunOf M r → RunOf M (undo n r)
  run-undo zero x = x
  run-undo (suc n) begins = begins
  run-undo (suc n) (goes x a) = run-undo n x

  pub run-behind : (n : ℕ) {r : Run S} → RunOf M r → RunOf M (behind n r)
  run-behind zero x = begins
  run-behind (suc n) begins = begins
  run-behind (suc n) (goes {r = r} {s = s} x a) = goes {s = s} (run-behind n x) (rw (last-behind n r) a)

-- the two lowest digits of a number, the lowest to the base w and the next to the base W
module _ (m : ℕ) {W w : ℕ} (next : 0 < W) (lowest : 0 < w) where
  next_digit : m % (W * w) / w ≡ m / w % W
  next_digit = ap (◌/ w) (mod-mul m next lowest) ∙ digits_div (m / w % W) (mod-lt m lowest)

  lowest_digit : m % (W * w) % w ≡ m % w
  lowest_digit = ap (◌% w) (mod-mul m next lowest) ∙ digits_mod (m / w % W) (mod-lt m lowest)

-- a factor of a positive product is positive
positive : (a b : ℕ) → 0 < a * b → 0 < b
positive a zero h = absurd (omega (arith, h, mul-zero a))
positive a (suc b) h = omega arith

module _ (P : Pairing) {S T : Type 0} (A : Tested S) (B : Tested T) (L : System S) (R : System T) where
  -- the number of splittings of a run, and of a step from its end
  abbrev count : Run (S × T) → ℕ
  count j = length (splits P A.equal B.equal L R j)

  abbrev choices : Run (S × T) → Step (S × T) → ℕ
  choices j s = length (options P A.equal B.equal L R (last j) s)

  -- a run of the two systems has a splitting, and so has each of its steps
  pub splits-some : {j : Run (S × T)} → RunOf (beside P L R) j → 0 < count j
  splits-some x =
      let (l, r, (m, y, z)) = run-joined P L R x in
      let (i, h, _) = number_of (l, r) (splits_complete P A B L R m y z) in
      omega (arith, h)

  choices_some : (j : Run (S × T)) (s : Step (S × T)) → RunOf (beside P L R) (j ▸ s) → 0 < choices j s
  choices_some j s x = positive (count j) (choices j s) (rw (splits-count P A B L R j s) at (splits-some x))

  -- what is left of a number when the last step is chosen numbers a splitting of the steps before it
  number_before : (j : Run (S × T)) (s : Step (S × T)) → 0 < choices j s → (i : ℕ) → i < count (j ▸ s)
      → i / choices j s < count j
  number_before j s w i h = (div-lt_iff_lt-mul w).1 (rw (splits-count P A B L R j s) at h)

  -- behind the newest steps alone a step has the same splittings
  count-behind : (n : ℕ) (j : Run (S × T)) (s : Step (S × T))
      → count (behind n j ▸ s) ≡ count (behind n j) * choices j s
  count-behind n j s = splits-count P A B L R (behind n j) s ∙ rw (last-behind n j)

  divided-behind : (n : ℕ) (j : Run (S × T)) (s : Step (S × T)) (i : ℕ)
      → i / choices j s / count (behind n j) ≡ i / count (behind n j ▸ s)
  divided-behind n j s i =
      rw (count-behind n j s, mul_comm (count (behind n j)) (choices j s))
      (div-div-eq-div-mul i (choices j s) (count (behind n j)))

  -- the splittings of a run are as many as those of its newest steps and those of the steps before, multiplied
  pub count_parts : (n : ℕ) (j : Run (S × T)) → count j ≡ count (undo n j) * count (behind n j)
  unfolding splits
  count_parts zero j = sym (mul-one (count j))
  count_parts (suc n) (start u) = refl
  count_parts (suc n) (j ▸ s) =
      splits-count P A B L R j s ∙ ap (◌* choices j s) (count_parts n j)
      ∙ mul_assoc (count (undo n j)) (count (behind n j)) (choices j s)
      ∙ ap (count (undo n j) *◌) (sym (count-behind n j s))

  -- so neither part has more than the run
  module _ (n : ℕ) {j : Run (S × T)} (x : RunOf (beside P L R) j) where
    pub fewer_undone : count (undo n j) ≤ count j
    fewer_undone =
        rw (count_parts n j) (le-mul_of_pos_right (count (undo n j)) (splits-some (run-behind (beside P L R) n x)))

    pub fewer_behind : count (behind n j) ≤ count j
    fewer_behind =
        rw (count_parts n j, mul_comm (count (undo n j)) (count (behind n j)))
        (le-mul_of_pos_right (count (behind n j)) (splits-some (run-undo (beside P L R) n x)))

  -- the splitting of a number; d stands where there is none
  module _ (d : Run S × Run T) where
    abbrev pub nth : Run (S × T) → ℕ → Run S × Run T
    nth j i = get_or (splits P A.equal B.equal L R j) i d

    abbrev nth_option : Run (S × T) → Step (S × T) → ℕ → Step S × Step T
    nth_option j s i = get_or (options P A.equal B.equal L R (last j) s) i (idle, idle)

    -- a run without steps has one
    only_one : (u : S × T) (i : ℕ) → i < 1 → nth (start u) i ≡ (start u.0, start u.1)
    unfolding splits
    only_one u i h = let z : i ≡ 0 = omega arith in rw z

    -- without its newest steps it is a splitting of the run without them: its number is divided by how many splittings
    -- the newest steps have
    pub nth_undone : (n : ℕ) (j : Run (S × T)) → RunOf (beside P L R) j → (i : ℕ) → i < count j
        → let h = nth j i in (undo n h.0, undo n h.1) ≡ nth (undo n j) (i / count (behind n j))
    unfolding splits
    nth_undone zero j x i h = ap (nth j) (sym (div-one i))
    nth_undone (suc n) (start u) x i h = rw (only_one u i h, only_one u (i / 1) (rw (div-one i) h))
    nth_undone (suc n) (j ▸ s) (goes x a) i h =
        let w = choices_some j s (goes x a) in
        rw (splits_at P A B L R j s i d d (idle, idle) w h)
        (nth_undone n j x (i / choices j s) (number_before j s w i h) ∙ ap (nth (undo n j)) (divided-behind n j s i))

    -- its halves join to the run
    nth_joins : (j : Run (S × T)) (i : ℕ) → i < count j → Join P paired (nth j i).0 (nth j i).1 j
    nth_joins j i h = (splits_sound P A B L R j (nth j i) (element d (splits P A.equal B.equal L R j) i h)).0

    -- a remainder numbers a splitting of newest steps: the last of them by its lowest digit, those before it by the
    -- next
    nth_remainder : (n : ℕ) (j : Run (S × T)) (s : Step (S × T)) → 0 < count (behind n j) → 0 < choices j s → (i : ℕ)
        → nth (behind n j ▸ s) (i % count (behind n j ▸ s))
        ≡ grown (nth (behind n j) (i / choices j s % count (behind n j))) (nth_option j s (i % choices j s))
    nth_remainder n j s W w i =
        let e : last (behind n j) ≡ last j = last-behind n j in
        let c = count-behind n j s in
        let h : i % count (behind n j ▸ s) < count (behind n j ▸ s) = mod-lt i (rw c (mul-pos W w)) in
        splits_at P A B L R (behind n j) s (i % count (behind n j ▸ s)) d d (idle, idle) (rw e w) h
        ∙ rw (e, c, next_digit i W w, lowest_digit i W w)

    -- its newest steps are those of the splitting of these alone whose number is the remainder
    pub nth_alike : (n : ℕ) (j : Run (S × T)) → RunOf (beside P L R) j → (i : ℕ) → i < count j
        → let h =
        nth j i in let g = nth (behind n j) (i % count (behind n j)) in Alike n h.0 g.0 × Alike n h.1 g.1
    unfolding splits
    nth_alike zero j x i h =
        let e = last-join P paired (nth_joins j i h) in
        rw (only_one (last j) (i % 1) (mod-lt i (omega arith)))
        (ends (ap (λ u. u.0) (sym e)), ends (ap (λ u. u.1) (sym e)))
    nth_alike (suc n) (start u) x i h =
        rw (only_one u i h, only_one u (i % 1) (mod-lt i (omega arith))) (alike-begins u.0, alike-begins u.1)
    nth_alike (suc n) (j ▸ s) (goes x a) i h =
        let w = choices_some j s (goes x a) in
        let W = splits-some (run-behind (beside P L R) n x) in
        let e = nth_alike n j x (i / choices j s) (number_before j s w i h) in
        rw (splits_at P A B L R j s i d d (idle, idle) w h, nth_remainder n j s W w i) (
          alike_steps (nth_option j s (i % choices j s)).0 e.0,
          alike_steps (nth_option j s (i % choices j s)).1 e.1,
        )

    -- both together: stopped at a point, it ends as a splitting of the window, the last n steps before the point
    pub nth_window : (n p : ℕ) (j : Run (S × T)) → RunOf (beside P L R) j → (i : ℕ) → i < count j
        → let h =
        nth j i in let w = behind n (stop p j) in let g = nth w (i / count (behind (steps j - p) j) % count w) in
        Alike n (stop p h.0) g.0 × Alike n (stop p h.1) g.1
    nth_window n p j x i h =
        let (u, v) = join-steps P paired (nth_joins j i h) in
        let c = steps j - p in
        let k : i / count (behind c j) < count (undo c j) = (div-lt_iff_lt-mul
        (splits-some (run-behind (beside P L R) c x))).1 (rw (count_parts c j) at h) in
        let e = nth_undone c j x i h in
        let a = nth_alike n (undo c j) (run-undo (beside P L R) c x) (i / count (behind c j)) k in
        rw (u, v, ap (λ z. z.0) e, ap (λ z. z.1) e) a
