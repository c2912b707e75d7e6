-- A quotient looks back no further than its formula nests back modalities: by two runs that end in the same state and
-- in the same last steps it is the same.
use mathlib.Core.Path.{◌≡◌, refl, ap, ap₂, fun_ext}
use Prim.Native.Nat.{ℕ, zero, suc, ◌≤◌}
use native.Mathlib.Omega.{arith}
use mathlib.Core.List.{◌++◌}
use Rattle.hml.specs.Lists.{same, each, only, given}
use Rattle.hml.specs.System.{System, Step, move, idle, Run, start, ◌▸◌, last, Pairing}
use Rattle.hml.specs.Formula.{Formula, top, bottom, not, and, or, fwd, back, fwd_idle, back_idle}
use Rattle.hml.specs.Working.{backs}
use Rattle.hml.specs.Quotient.{ors, of_partner, back_by, quotient}

-- two runs that end in the same state, with the same last n steps, or that are the same where they have no more
module _ {S : Type 0} where
  pub data Alike : ℕ → Run S → Run S → Type 0 where
    ends : {r s : Run S} → last r ≡ last s → Alike zero r s
    begins : {n : ℕ} (p : S) → Alike (suc n) (start p) (start p)
    steps : {n : ℕ} {r s : Run S} (t : Step S) → Alike n r s → Alike (suc n) (r ▸ t) (s ▸ t)

  -- they end in the same state
  pub alike_last : {n : ℕ} {r s : Run S} → Alike n r s → last r ≡ last s
  alike_last (ends e) = e
  alike_last (begins p) = refl
  alike_last (steps (move a p) h) = refl
  alike_last (steps idle h) = alike_last h

  -- and are alike in fewer steps
  pub alike_fewer : {n : ℕ} {r s : Run S} → Alike (suc n) r s → Alike n r s
  alike_fewer {n} h = go n h
    where
      go : (n : ℕ) {r s : Run S} → Alike (suc n) r s → Alike n r s
      go zero h = ends (alike_last h)
      go (suc n) (begins p) = begins p
      go (suc n) (steps t h) = steps t (go n h)

module _ (P : Pairing) {T : Type 0} (K : System T) where
  -- what is said of a formula
  abbrev Window : Formula → Type 0
  Window φ = (n : ℕ) (r s : Run T) → backs φ ≤ n → Alike n r s → quotient P K φ r ≡ quotient P K φ s

  -- the disjuncts of a forward modality, from the quotients by the run with each step and the state in which the run
  -- ends
  abbrev disjuncts : ℕ → (Step T → Formula) → T → Formula
  disjuncts a q p = ors (fwd a (q idle))
      (each (λ (m : ℕ × T). only (same m.0 a) (fwd_idle (q (move m.0 m.1)))) (K p)
      ++ each (λ (m : ℕ × T). of_partner (P.partner m.0) (λ c. fwd c (q (move m.0 m.1))))
      (given (same 0 a) (K p)))

  fwd_alike : (a : ℕ) (φ : Formula) → Window φ → Window (fwd a φ)
  unfolding quotient backs
  fwd_alike a φ w n r s i h =
      ap₂ (disjuncts a) (fun_ext (λ t. w n (r ▸ t) (s ▸ t) i (alike_fewer (steps t h)))) (alike_last h)

  back_alike : (a : ℕ) (φ : Formula) → Window φ → Window (back a φ)
  unfolding quotient backs
  back_alike a φ w n r s i (ends e) = absurd (omega (arith, i))
  back_alike a φ w n r s i (begins p) = refl
  back_alike a φ w n r s i (steps {n = m} {r = x} {s = y} (move b q) h) = ap
      (back_by (same b a) (same 0 a) (P.partner b)) (w m x y (omega (arith, i)) h)
  back_alike a φ w n r s i (steps {n = m} {r = x} {s = y} idle h) = ap (back a) (w m x y (omega (arith, i)) h)

  back-idle_alike : (φ : Formula) → Window φ → Window (back_idle φ)
  unfolding quotient backs
  back-idle_alike φ w n r s i (ends e) = absurd (omega (arith, i))
  back-idle_alike φ w n r s i (begins p) = refl
  back-idle_alike φ w n r s i (steps (move b q) h) = refl
  back-idle_alike φ w n r s i (steps {n = m} {r = x} {s = y} idle h) = ap back_idle (w m x y (omega (arith, i)) h)

  -- by two such runs the quotient is the same
  pub quotient_alike : (φ : Formula) → Window φ
  unfolding quotient backs
  quotient_alike top n r s i h = refl
  quotient_alike bottom n r s i h = refl
  quotient_alike (not φ) n r s i h = ap not (quotient_alike φ n r s i h)
  quotient_alike (and φ ψ) n r s i h =
      ap₂ and (quotient_alike φ n r s (omega (arith, i)) h) (quotient_alike ψ n r s (omega (arith, i)) h)
  quotient_alike (or φ ψ) n r s i h =
      ap₂ or (quotient_alike φ n r s (omega (arith, i)) h) (quotient_alike ψ n r s (omega (arith, i)) h)
  quotient_alike (fwd a φ) n r s i h = fwd_alike a φ (λ m x y. quotient_alike φ m x y) n r s i h
  quotient_alike (back a φ) n r s i h = back_alike a φ (λ m x y. quotient_alike φ m x y) n r s i h
  quotient_alike (fwd_idle φ) n r s i h =
      ap fwd_idle (quotient_alike φ n (r ▸ idle) (s ▸ idle) i (alike_fewer (steps idle h)))
  quotient_alike (back_idle φ) n r s i h = back-idle_alike φ (λ m x y. quotient_alike φ m x y) n r s i h
