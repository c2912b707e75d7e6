-- A half run in the first bytes of a buffer, which is lengthened by a step and shortened again.
use Prim.Native.Nat.{ℕ, suc, ◌+◌, ◌-◌, ◌*◌, ◌/◌, ◌%◌, ◌≤◌, ◌<◌}
use mathlib.Core.Path.{◌≡◌, refl, sym, ◌∙◌, ap}
use mathlib.Core.Bool.{Bool, true, false}
use mathlib.Core.List.{List, [], ◌∷◌, ◌++◌, append_assoc}
use native.Mathlib.Omega.{arith}
use native.Mathlib.Numerals.{add-one}
use lib.ListN.{length, get_or, take, set, length-set}
use lib.Seq.{take-take, take-suc-set, take-set-le, set_comm, set-set, set-get_or, get_or-set_same, get_or-set_other}
use lib.Seq.{length-take-le, get_or-take}
use lib.Dec.{leb}
use borrow.Author.Tests.{leb-true, leb-false}
use Rattle.hml.specs.System.{start, ◌▸◌, last}
use Rattle.labels.proofs.Slices.{take_two}
use Rattle.halves.specs.Runs.{step_of, lengthened}
use Rattle.halves.specs.Halves.{half_of, twos, is_half_run}
use Rattle.halves.proofs.Runs.{ends_in}
use Rattle.halves.proofs.HalfRuns.{accepted_half, half_more, half_stopped}
use Rattle.halves.specs.Working.{HeldHalf}

-- an accepted half is so held in its own bytes
pub accepted_held : (t a : List ℕ) → is_half_run t a ≡ true → HeldHalf a (length a)
accepted_held t a e = record { odd = (accepted_half t a e).odd; within = omega arith; kept = kept }
  where
    kept : (m : ℕ) → 2 * m + 1 ≤ length a → last (half_of (take (2 * m + 1) a)) ≡ get_or a (2 * m) 0
    kept m i =
        let n : length (take (2 * m + 1) a) - 1 ≡ 2 * m = omega (arith, length-take-le (2 * m + 1) a i) in
        rw ((accepted_half t (take (2 * m + 1) a) (half_stopped t a m e)).ends, n)
        (get_or-take (2 * m + 1) a (2 * m) 0 (omega arith))

-- a half held up to a point is held up to each before it
pub held_to : (xs : List ℕ) (n m : ℕ) → HeldHalf xs n → m % 2 ≡ 1 → m ≤ n → HeldHalf xs m
held_to xs n m h o l =
    record { odd = o; within = omega (arith, h.within, l); kept = λ i j. h.kept i (omega (arith, j, l)) }

-- a half that is copied to the front of a buffer is held there
pub held_copied : (a xs : List ℕ) (n : ℕ) → HeldHalf a n → take n xs ≡ take n a → n ≤ length xs → HeldHalf xs n
held_copied a xs n h e i = record { odd = h.odd; within = i; kept = kept }
  where
    kept : (m : ℕ) → 2 * m + 1 ≤ n → last (half_of (take (2 * m + 1) xs)) ≡ get_or xs (2 * m) 0
    kept m j =
        let same = sym (take-take (2 * m + 1) n xs j) ∙ ap (take (2 * m + 1)) e ∙ take-take (2 * m + 1) n a j in
        let at = sym (get_or-take n xs (2 * m) 0 (omega arith)) ∙ ap (λ l. get_or l (2 * m) 0) e
        ∙ get_or-take n a (2 * m) 0 (omega arith) in
        rw (same, at) (h.kept m j)

-- two bytes in the place of those from n on
abbrev pub put_two : List ℕ → ℕ → ℕ → ℕ → List ℕ
put_two xs n a q = set (set xs n a) (n + 1) q

pub length-put_two : (xs : List ℕ) (n a q : ℕ) → length (put_two xs n a q) ≡ length xs
length-put_two xs n a q = length-set (set xs n a) (n + 1) q ∙ length-set xs n a

-- bytes that were written over can be put back
pub put_two_back : (xs ys : List ℕ) (n a q : ℕ) → ys ≡ put_two xs n a q
    → put_two ys n (get_or xs n 0) (get_or xs (n + 1) 0) ≡ xs
put_two_back xs ys n a q e = rw (
  e,
  set_comm (set xs n a) (n + 1) n q (get_or xs n 0) (λ h. omega arith),
  set-set xs n a (get_or xs n 0),
  set-get_or xs n 0,
  set-set xs (n + 1) q (get_or xs (n + 1) 0),
  set-get_or xs (n + 1) 0,
)

-- the bytes before the two are as before
module _ (xs : List ℕ) (n a q : ℕ) where
  before_put : (m : ℕ) → m ≤ n → take m (put_two xs n a q) ≡ take m xs
  before_put m h = take-set-le m (set xs n a) (n + 1) q (omega arith) ∙ take-set-le m xs n a h

  below_put : (j : ℕ) → j < n → get_or (put_two xs n a q) j 0 ≡ get_or xs j 0
  below_put j h =
      get_or-set_other (set xs n a) (n + 1) j q 0 (λ e. omega arith) ∙ get_or-set_other xs n j a 0 (λ e. omega arith)

  module _ (h : n + 2 ≤ length xs) where
    -- and with the two they are one step more
    longer-put : take (n + 2) (put_two xs n a q) ≡ take n xs ++ a ∷ q ∷ []
    longer-put =
        let two : n + 2 ≡ suc (n + 1) = omega arith in
        ap (λ (k : ℕ). take k (put_two xs n a q)) two
        ∙ take-suc-set (set xs n a) (n + 1) q (omega (arith, length-set xs n a))
        ∙ ap (λ (k : ℕ). take k (set xs n a) ++ q ∷ []) (add-one n)
        ∙ ap (◌++ q ∷ []) (take-suc-set xs n a (omega arith))
        ∙ append_assoc (take n xs) (a ∷ []) (q ∷ [])

    put_second : get_or (put_two xs n a q) (n + 1) 0 ≡ q
    put_second = get_or-set_same (set xs n a) (n + 1) q 0 (omega (arith, length-set xs n a))

-- one byte is a run of no step
pub half_first : (xs : List ℕ) → 1 ≤ length xs → half_of (take 1 xs) ≡ start (get_or xs 0 0)
unfolding half_of twos lengthened
half_first [] l = absurd (omega arith)
half_first (p ∷ xs) l = refl

module _ (xs : List ℕ) (n : ℕ) (h : HeldHalf xs n) where
  -- the run ends in the state that is written last
  pub half_last : last (half_of (take n xs)) ≡ get_or xs (n - 1) 0
  half_last =
      let i : 2 * (n / 2) ≡ n - 1 = omega (arith, h.odd) in
      let j : 2 * (n / 2) + 1 ≡ n = omega (arith, h.odd) in
      let e = h.kept (n / 2) (omega (arith, h.odd)) in
      rw (j, i) at e

  -- a run of no step
  pub half_empty : n < 3 → half_of (take n xs) ≡ start (get_or xs 0 0)
  half_empty l = let z : n ≡ 1 = omega (arith, h.odd) in rw z (half_first xs (omega (arith, h.within, h.odd)))

  module _ (l : 3 ≤ n) where
    -- the run without its last step, and that step
    pub half_shorter : HeldHalf xs (n - 2)
    half_shorter = held_to xs n (n - 2) h (omega (arith, h.odd, l)) (omega arith)

    pub half_step : half_of (take n xs) ≡ half_of (take (n - 2) xs) ▸ step_of (get_or xs (n - 2) 0) (get_or xs (n - 1) 0)
    half_step =
        let i : n - 2 + 2 ≡ n = omega arith in
        let j : n - 2 + 1 ≡ n - 1 = omega arith in
        let e = take_two xs (n - 2) (omega (arith, h.within)) in
        ap half_of (rw (i, j) at e)
        ∙ half_more (take (n - 2) xs) (get_or xs (n - 2) 0) (get_or xs (n - 1) 0)
        (rw (length-take-le (n - 2) xs (omega (arith, h.within))) (omega (arith, h.odd, l)))

  module _ (a q : ℕ) (room : n + 2 ≤ length xs) where
    -- the run with one step more
    pub half_longer : half_of (take (n + 2) (put_two xs n a q)) ≡ half_of (take n xs) ▸ step_of a q
    half_longer =
        ap half_of (longer-put xs n a q room) ∙ half_more (take n xs) a q (rw (length-take-le n xs h.within) h.odd)

    pub held-longer : (a ≡ 255 → q ≡ get_or xs (n - 1) 0) → HeldHalf (put_two xs n a q) (n + 2)
    held-longer k =
        record {
          odd = omega (arith, h.odd);
          within = omega (arith, room, length-put_two xs n a q);
          kept = λ m i. at m i (leb (2 * m + 1) n) refl;
        }
      where
        at : (m : ℕ) → 2 * m + 1 ≤ n + 2 → (b : Bool) → leb (2 * m + 1) n ≡ b
            → last (half_of (take (2 * m + 1) (put_two xs n a q))) ≡ get_or (put_two xs n a q) (2 * m) 0
        at m i true e =
            let l = leb-true (2 * m + 1) n e in
            rw (before_put xs n a q (2 * m + 1) l, below_put xs n a q (2 * m) (omega arith)) (h.kept m l)
        at m i false e =
            let l = leb-false (2 * m + 1) n e in
            let z : 2 * m + 1 ≡ n + 2 = omega (arith, h.odd, i, l) in
            let x : 2 * m ≡ n + 1 = omega (arith, z) in
            rw (z, x, put_second xs n a q room, half_longer)
            (ends_in (half_of (take n xs)) a q (λ g. rw (k g) half_last))
