-- Half runs as joint runs beside a machine that stays in state 0: how their bytes are read, counted and cut.
use Prim.Native.Nat.{ℕ, zero, suc, ◌+◌, ◌*◌, ◌/◌, ◌%◌, ◌≤◌}
use mathlib.Core.Path.{◌≡◌, refl, ◌∙◌, ap}
use mathlib.Core.Bool.{Bool, true, false, cond}
use mathlib.Core.List.{List, [], ◌∷◌}
use native.Mathlib.Omega.{arith}
use lib.ListN.{length, get_or, take, length-take}
use lib.Seq.{take-nil, get_or-take}
use lib.Dec.{eqb}
use Rattle.hml.specs.System.{move, idle, Run, start, ◌▸◌, last}
use Rattle.hml.proofs.Alone.{alone, last_alone}
use Rattle.tables.specs.Tables.{threes}
use Rattle.halves.specs.Runs.{step_of, lengthened}
use Rattle.halves.specs.Halves.{twos, half_of, is_half_run}
use Rattle.halves.proofs.HalfRuns.{accepted_half, half_stopped}
use Rattle.machines.specs.Joints.{joint_steps, joint_of}
use Rattle.verdict.specs.Working.{widened, beside_still}

-- a written step beside the kept state
alone_step : (q : ℕ) (r : Run ℕ) (a p : ℕ) → alone q (r ▸ step_of a p) ≡ alone q r ▸ step_of a (p, q)
unfolding alone step_of
alone_step q r a p = go (eqb a 255)
  where
    go : (b : Bool) → alone q (r ▸ cond b idle (move a p)) ≡ alone q r ▸ cond b idle (move a (p, q))
    go true = refl
    go false = refl

-- the written steps of a half run beside the kept state
alone_lengthened : (bs : List ℕ) (r : Run ℕ)
    → lengthened (alone 0 r) (joint_steps (widened bs)) ≡ alone 0 (lengthened r (twos bs))
unfolding widened joint_steps threes twos lengthened
alone_lengthened [] r = refl
alone_lengthened (a ∷ []) r = refl
alone_lengthened (a ∷ q ∷ bs) r = rw (← alone_step 0 r a q) (alone_lengthened bs (r ▸ step_of a q))

-- the reading of the widened bytes is the run beside the kept state
pub still_read : (s : List ℕ) → length s % 2 ≡ 1 → joint_of (beside_still s) ≡ alone 0 (half_of s)
unfolding beside_still joint_of half_of alone
still_read [] odd = refl
still_read (p ∷ bs) odd = alone_lengthened bs (start p)

-- three bytes for each two of a step
length-widened : (bs : List ℕ) → length (widened bs) ≡ 3 * (length bs / 2)
unfolding widened
length-widened [] = refl
length-widened (a ∷ []) = refl
length-widened (a ∷ q ∷ bs) = omega (arith, length-widened bs)

-- two start states, and three bytes for each step
pub still-length : (s : List ℕ) → length s % 2 ≡ 1 → length (beside_still s) ≡ 3 * (length s / 2) + 2
unfolding beside_still
still-length [] odd = absurd (omega (arith, odd))
still-length (p ∷ bs) odd = omega (arith, odd, length-widened bs)

three_more : (n : ℕ) → 3 * suc n ≡ suc (suc (suc (3 * n)))
three_more n = omega arith

two_more : (n : ℕ) → 2 * suc n ≡ suc (suc (2 * n))
two_more n = omega arith

-- the first n steps
take-widened : (bs : List ℕ) (n : ℕ) → take (3 * n) (widened bs) ≡ widened (take (2 * n) bs)
unfolding widened
take-widened [] n = rw (take-nil (3 * n), take-nil (2 * n))
take-widened (a ∷ []) zero = refl
take-widened (a ∷ []) (suc n) = rw (take-nil, two_more n)
take-widened (a ∷ q ∷ bs) zero = refl
take-widened (a ∷ q ∷ bs) (suc n) = rw (three_more n, two_more n, take-widened bs n)

-- a part of the widened bytes is the widened part
pub still-take : (s : List ℕ) (n : ℕ) → 2 * n + 1 ≤ length s
    → take (3 * n + 2) (beside_still s) ≡ beside_still (take (2 * n + 1) s)
unfolding beside_still
still-take [] n h = absurd (omega arith)
still-take (p ∷ bs) n h =
    let e : 3 * n + 2 ≡ suc (suc (3 * n)) = omega arith in
    let f : 2 * n + 1 ≡ suc (2 * n) = omega arith in
    rw (e, f, take-widened bs n)

-- state m of the widened bytes is that of the half run, and 0 beside it
state_at : (m : ℕ) (p : ℕ) (bs : List ℕ) → 2 * m ≤ length bs
    → (get_or (p ∷ 0 ∷ widened bs) (3 * m) 0 ≡ get_or (p ∷ bs) (2 * m) 0) × (get_or (p ∷ 0 ∷ widened bs) (3 * m + 1) 0 ≡ 0)
unfolding widened
state_at zero p bs h = (refl, refl)
state_at (suc m) p [] h = absurd (omega arith)
state_at (suc m) p (a ∷ []) h = absurd (omega arith)
state_at (suc m) p (a ∷ q ∷ bs) h =
    let e : 3 * suc m + 1 ≡ suc (suc (suc (3 * m + 1))) = omega arith in
    rw (e, three_more m, two_more m) (state_at m q bs (omega arith))

still_at : (s : List ℕ) (m : ℕ) → 2 * m + 1 ≤ length s
    → (get_or (beside_still s) (3 * m) 0 ≡ get_or s (2 * m) 0) × (get_or (beside_still s) (3 * m + 1) 0 ≡ 0)
unfolding beside_still
still_at [] m h = absurd (omega arith)
still_at (p ∷ bs) m h = state_at m p bs (omega arith)

-- an accepted half beside the kept state ends, at each of its points, in the two states written last
pub still-ends : (t s : List ℕ) → is_half_run t s ≡ true → (m : ℕ) → 2 * m + 1 ≤ length s
    → last (joint_of (take (3 * m + 2) (beside_still s)))
    ≡ (get_or (beside_still s) (3 * m) 0, get_or (beside_still s) (3 * m + 1) 0)
still-ends t s e m h =
    let a = accepted_half t (take (2 * m + 1) s) (half_stopped t s m e) in
    let (x, y) = still_at s m h in
    let n : length (take (2 * m + 1) s) ≡ 2 * m + 1 = omega (arith, length-take (2 * m + 1) s) in
    let z : last (half_of (take (2 * m + 1) s)) ≡ get_or s (2 * m) 0 = a.ends
    ∙ ap (λ i. get_or (take (2 * m + 1) s) i 0) (omega arith) ∙ get_or-take (2 * m + 1) s (2 * m) 0 (omega arith) in
    rw (still-take s m h, still_read (take (2 * m + 1) s) a.odd, last_alone, x, y, z)
