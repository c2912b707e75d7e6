-- The test `holds` decides the meaning `Sat` (`decided`).
use mathlib.Core.Path.{◌≡◌, refl, sym, ap, subst}
use mathlib.Core.List.Memᴰ.{cast as ∈-cast}
use Prim.Native.Nat.{ℕ}
use Rattle.hml.proofs.Tests.{apart, Decides, proves, refutes, decided_not, decided_and, decided_or, decided_iff}
use Rattle.hml.proofs.Tests.{decided_same}
use Rattle.hml.proofs.Lists.{decided_any}
use Rattle.hml.specs.System.{System, move, idle, Run, start, ◌▸◌, last}
use Rattle.hml.specs.Formula.{Formula, top, bottom, not, and, or, fwd, back, fwd_idle, back_idle, Sat, holds}

module _ {S : Type 0} (M : System S) where
  -- the test decides the meaning
  pub decided : (φ : Formula) (r : Run S) → Decides (Sat M φ r) (holds M φ r)
  unfolding Sat holds
  decided top r = proves tt
  decided bottom r = refutes (λ x. x)
  decided (not φ) r = decided_not (decided φ r)
  decided (and φ ψ) r = decided_and (decided φ r) (decided ψ r)
  decided (or φ ψ) r = decided_or (decided φ r) (decided ψ r)
  decided (fwd a φ) r = decided_iff
      (λ t. (
        t.0.1,
        ∈-cast (ap {B = ℕ × S} (λ b. (b, t.0.1)) (sym t.2.0)) t.1,
        subst (λ b. Sat M φ (r ▸ move b t.0.1)) t.2.0 t.2.1,
      ))
      (λ t. ((a, t.0), t.1, (refl, t.2)))
      (decided_any (λ m. decided_and (decided_same m.0 a) (decided φ (r ▸ move m.0 m.1))) (M (last r)))
  decided (back a φ) (start p) = refutes (λ t. let e = t.2 in apart cc)
  decided (back a φ) (r ▸ move b p) =
      decided_iff (λ t. (r, p, ap (λ c. r ▸ move c p) t.0, t.1))
      (λ t. let e = t.2 in let h : r ≡ t.0 = cc in (cc, rw h t.3)) (decided_and (decided_same b a) (decided φ r))
  decided (back a φ) (r ▸ idle) = refutes (λ t. let e = t.2 in apart cc)
  decided (fwd_idle φ) r = decided φ (r ▸ idle)
  decided (back_idle φ) (start p) = refutes (λ t. let e = t.1 in apart cc)
  decided (back_idle φ) (r ▸ move b p) = refutes (λ t. let e = t.1 in apart cc)
  decided (back_idle φ) (r ▸ idle) =
      decided_iff (λ s. (r, refl, s)) (λ t. let e = t.1 in let h : r ≡ t.0 = cc in rw h t.2) (decided φ r)
