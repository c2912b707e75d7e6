-- A joint run in the first bytes of a buffer, which is lengthened by a step and shortened again.
use Prim.Native.Nat.{ℕ, suc, ◌+◌, ◌-◌, ◌*◌, ◌/◌, ◌≤◌, ◌<◌}
use mathlib.Core.Path.{◌≡◌, refl, ◌∙◌, ap}
use mathlib.Core.Bool.{Bool, true, false}
use mathlib.Core.List.{List, [], ◌∷◌, ◌++◌, append_assoc}
use native.Mathlib.Omega.{arith}
use native.Mathlib.Numerals.{add-one}
use lib.ListN.{length, get_or, take, set, length-set}
use lib.Seq.{take-suc-set, take-set-le, set_comm, set-set, set-get_or, get_or-set_same, get_or-set_other, length-take-le}
use lib.Seq.{take-suc, get_or-take}
use lib.Dec.{leb}
use borrow.Author.Tests.{leb-true, leb-false}
use Rattle.hml.specs.System.{start, ◌▸◌, last}
use Rattle.labels.specs.declared.label.Labels.{Labels}
use Rattle.tables.specs.Tables.{threes, table_of}
use Rattle.halves.specs.Runs.{step_of, lengthened}
use Rattle.halves.proofs.Runs.{NoIdleLabel, ends_in}
use Rattle.machines.specs.Joints.{joint_of, joint_steps, fit_joint, is_joint_run}
use Rattle.machines.proofs.JointRuns.{accepted_joint, joint-more, joint_stopped}
use Rattle.machines.specs.Working.{Held, put}

-- an accepted joint run is so held in its own bytes
pub accepted_held : (k : Labels) (l r : List ℕ) → NoIdleLabel (table_of l) → NoIdleLabel (table_of r) → (s : List ℕ)
    → fit_joint s ≡ true → is_joint_run k l r s ≡ true → Held s (length s)
accepted_held k l r fl fr s fit real =
    record { whole = (accepted_joint k l r fl fr s fit real).whole; within = omega arith; kept = kept }
  where
    kept : (m : ℕ) → 3 * m + 2 ≤ length s
        → last (joint_of (take (3 * m + 2) s)) ≡ (get_or s (3 * m) 0, get_or s (3 * m + 1) 0)
    kept m i =
        let (f, e) = joint_stopped k l r s m fit real in
        let a = accepted_joint k l r fl fr (take (3 * m + 2) s) f e in
        let n : length (take (3 * m + 2) s) ≡ 3 * m + 2 = length-take-le (3 * m + 2) s i in
        let u : length (take (3 * m + 2) s) - 2 ≡ 3 * m = omega (arith, n) in
        let v : length (take (3 * m + 2) s) - 1 ≡ 3 * m + 1 = omega (arith, n) in
        rw (
          a.ends,
          u,
          v,
          get_or-take (3 * m + 2) s (3 * m) 0 (omega arith),
          get_or-take (3 * m + 2) s (3 * m + 1) 0 (omega arith),
        )

pub length-put : (xs : List ℕ) (n a p q : ℕ) → length (put xs n a p q) ≡ length xs
length-put xs n a p q =
    length-set (set (set xs n a) (n + 1) p) (n + 2) q ∙ length-set (set xs n a) (n + 1) p ∙ length-set xs n a

-- bytes that were written over can be put back
pub put_back : (xs ys : List ℕ) (n a p q : ℕ) → ys ≡ put xs n a p q
    → put ys n (get_or xs n 0) (get_or xs (n + 1) 0) (get_or xs (n + 2) 0) ≡ xs
put_back xs ys n a p q e = rw (
  e,
  set_comm (set (set xs n a) (n + 1) p) (n + 2) n q (get_or xs n 0) (λ h. omega arith),
  set_comm (set xs n a) (n + 1) n p (get_or xs n 0) (λ h. omega arith),
  set-set xs n a (get_or xs n 0),
  set-get_or xs n 0,
  set_comm (set xs (n + 1) p) (n + 2) (n + 1) q (get_or xs (n + 1) 0) (λ h. omega arith),
  set-set xs (n + 1) p (get_or xs (n + 1) 0),
  set-get_or xs (n + 1) 0,
  set-set xs (n + 2) q (get_or xs (n + 2) 0),
  set-get_or xs (n + 2) 0,
)

-- the bytes before the three are as before
module _ (xs : List ℕ) (n a p q : ℕ) where
  before_put : (m : ℕ) → m ≤ n → take m (put xs n a p q) ≡ take m xs
  before_put m h =
      take-set-le m (set (set xs n a) (n + 1) p) (n + 2) q (omega arith)
      ∙ take-set-le m (set xs n a) (n + 1) p (omega arith)
      ∙ take-set-le m xs n a h

  below_put : (j : ℕ) → j < n → get_or (put xs n a p q) j 0 ≡ get_or xs j 0
  below_put j h =
      get_or-set_other (set (set xs n a) (n + 1) p) (n + 2) j q 0 (λ e. omega arith)
      ∙ get_or-set_other (set xs n a) (n + 1) j p 0 (λ e. omega arith)
      ∙ get_or-set_other xs n j a 0 (λ e. omega arith)

  module _ (h : n + 3 ≤ length xs) where
    -- and with the three they are one step more
    longer-put : take (n + 3) (put xs n a p q) ≡ take n xs ++ a ∷ p ∷ q ∷ []
    longer-put =
        ap (λ (k : ℕ). take k (put xs n a p q)) (three n)
        ∙ take-suc-set (set (set xs n a) (n + 1) p) (n + 2) q
        (omega (arith, length-set (set xs n a) (n + 1) p, length-set xs n a))
        ∙ ap (λ (k : ℕ). take k (set (set xs n a) (n + 1) p) ++ q ∷ []) (two n)
        ∙ ap (◌++ q ∷ []) (take-suc-set (set xs n a) (n + 1) p (omega (arith, length-set xs n a)))
        ∙ ap (λ (k : ℕ). (take k (set xs n a) ++ p ∷ []) ++ q ∷ []) (add-one n)
        ∙ ap (λ (l : List ℕ). (l ++ p ∷ []) ++ q ∷ []) (take-suc-set xs n a (omega arith))
        ∙ append_assoc (take n xs ++ a ∷ []) (p ∷ []) (q ∷ [])
        ∙ append_assoc (take n xs) (a ∷ []) (p ∷ q ∷ [])
      where
        three : (n : ℕ) → n + 3 ≡ suc (n + 2)
        three n = omega arith

        two : (n : ℕ) → n + 2 ≡ suc (n + 1)
        two n = omega arith

    put_second : get_or (put xs n a p q) (n + 1) 0 ≡ p
    put_second =
        get_or-set_other (set (set xs n a) (n + 1) p) (n + 2) (n + 1) q 0 (λ e. omega arith)
        ∙ get_or-set_same (set xs n a) (n + 1) p 0 (omega (arith, length-set xs n a))

    put_third : get_or (put xs n a p q) (n + 2) 0 ≡ q
    put_third =
        get_or-set_same (set (set xs n a) (n + 1) p) (n + 2) q 0
        (omega (arith, length-set (set xs n a) (n + 1) p, length-set xs n a))

-- two bytes are a run of no step
first_two : (xs : List ℕ) → 2 ≤ length xs → joint_of (take 2 xs) ≡ start (get_or xs 0 0, get_or xs 1 0)
unfolding joint_of joint_steps threes lengthened
first_two [] l = absurd (omega arith)
first_two (p ∷ []) l = absurd (omega arith)
first_two (p ∷ q ∷ xs) l = refl

-- three bytes more
take_three : (xs : List ℕ) (m : ℕ) → m + 3 ≤ length xs
    → take (m + 3) xs ≡ take m xs ++ get_or xs m 0 ∷ get_or xs (m + 1) 0 ∷ get_or xs (m + 2) 0 ∷ []
take_three xs m l =
    let a : m + 3 ≡ suc (m + 2) = omega arith in
    let b : m + 2 ≡ suc (m + 1) = omega arith in
    ap (λ (k : ℕ). take k xs) a
    ∙ take-suc xs (m + 2) 0 (omega arith)
    ∙ ap (λ (k : ℕ). take k xs ++ get_or xs (m + 2) 0 ∷ []) b
    ∙ ap (◌++ get_or xs (m + 2) 0 ∷ []) (take-suc xs (m + 1) 0 (omega arith))
    ∙ ap (λ (k : ℕ). (take k xs ++ get_or xs (m + 1) 0 ∷ []) ++ get_or xs (m + 2) 0 ∷ []) (add-one m)
    ∙ ap (λ (l : List ℕ). (l ++ get_or xs (m + 1) 0 ∷ []) ++ get_or xs (m + 2) 0 ∷ []) (take-suc xs m 0 (omega arith))
    ∙ append_assoc (take m xs ++ get_or xs m 0 ∷ []) (get_or xs (m + 1) 0 ∷ []) (get_or xs (m + 2) 0 ∷ [])
    ∙ append_assoc (take m xs) (get_or xs m 0 ∷ []) (get_or xs (m + 1) 0 ∷ get_or xs (m + 2) 0 ∷ [])

module _ (xs : List ℕ) (n : ℕ) (h : Held xs n) where
  n_points : 3 * (n / 3) + 2 ≡ n
  n_points = omega (arith, h.whole)

  -- the run ends in the states that are written last
  pub held-last : last (joint_of (take n xs)) ≡ (get_or xs (n - 2) 0, get_or xs (n - 1) 0)
  held-last =
      let i : 3 * (n / 3) ≡ n - 2 = omega (arith, h.whole) in
      let j : 3 * (n / 3) + 1 ≡ n - 1 = omega (arith, h.whole) in
      let e = h.kept (n / 3) (omega (arith, h.whole)) in
      rw (n_points, j, i) at e

  -- a run of no step
  pub held_empty : n < 5 → joint_of (take n xs) ≡ start (get_or xs 0 0, get_or xs 1 0)
  held_empty l = let z : n ≡ 2 = omega (arith, h.whole) in rw z (first_two xs (omega (arith, h.within)))

  module _ (l : 5 ≤ n) where
    -- the run without its last step, and that step
    pub held_shorter : Held xs (n - 3)
    held_shorter =
        record {
          whole = omega (arith, h.whole, l);
          within = omega (arith, h.within);
          kept = λ m i. h.kept m (omega arith);
        }

    pub held_step : joint_of (take n xs)
        ≡ joint_of (take (n - 3) xs) ▸ step_of (get_or xs (n - 3) 0) (get_or xs (n - 2) 0, get_or xs (n - 1) 0)
    held_step =
        let i : n - 3 + 3 ≡ n = omega arith in
        let j : n - 3 + 1 ≡ n - 2 = omega arith in
        let k : n - 3 + 2 ≡ n - 1 = omega arith in
        let e = take_three xs (n - 3) (omega (arith, h.within)) in
        ap joint_of (rw (i, j, k) at e)
        ∙ joint-more (take (n - 3) xs) (get_or xs (n - 3) 0) (get_or xs (n - 2) 0) (get_or xs (n - 1) 0)
        (rw (length-take-le (n - 3) xs (omega (arith, h.within))) (omega (arith, h.whole, l)))

  module _ (a p q : ℕ) (room : n + 3 ≤ length xs) where
    -- the run with one step more
    pub longer-run : joint_of (take (n + 3) (put xs n a p q)) ≡ joint_of (take n xs) ▸ step_of a (p, q)
    longer-run =
        ap joint_of (longer-put xs n a p q room)
        ∙ joint-more (take n xs) a p q (rw (length-take-le n xs h.within) h.whole)

    pub held-longer : (a ≡ 255 → (p ≡ get_or xs (n - 2) 0) × (q ≡ get_or xs (n - 1) 0)) → Held (put xs n a p q) (n + 3)
    held-longer k =
        record {
          whole = omega (arith, h.whole);
          within = omega (arith, room, length-put xs n a p q);
          kept = λ m i. at m i (leb (3 * m + 2) n) refl;
        }
      where
        at : (m : ℕ) → 3 * m + 2 ≤ n + 3 → (b : Bool) → leb (3 * m + 2) n ≡ b
            → last (joint_of (take (3 * m + 2) (put xs n a p q)))
            ≡ (get_or (put xs n a p q) (3 * m) 0, get_or (put xs n a p q) (3 * m + 1) 0)
        at m i true e =
            let l = leb-true (3 * m + 2) n e in
            rw (
              before_put xs n a p q (3 * m + 2) l,
              below_put xs n a p q (3 * m) (omega arith),
              below_put xs n a p q (3 * m + 1) (omega arith),
            ) (h.kept m l)
        at m i false e =
            let l = leb-false (3 * m + 2) n e in
            let z : 3 * m + 2 ≡ n + 3 = omega (arith, h.whole, i, l) in
            let x : 3 * m ≡ n + 1 = omega (arith, z) in
            let y : 3 * m + 1 ≡ n + 2 = omega (arith, z) in
            rw (y, z, x, put_second xs n a p q room, put_third xs n a p q room, longer-run)
            (ends_in (joint_of (take n xs)) a (p, q) (λ g. rw ((k g).0, (k g).1) held-last))
