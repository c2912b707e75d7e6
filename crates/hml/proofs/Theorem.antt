-- The verdict on a joint run is the verdict on either half under the quotient by the other, at every point of the run.
use mathlib.Core.Path.{◌≡◌}
use Prim.Native.Nat.{ℕ, zero, suc, ◌-◌}
use Rattle.hml.specs.System.{System, Run, Pairing, steps, undo, stop}
use Rattle.hml.specs.Formula.{Formula, holds}
use Rattle.hml.specs.Compose.{paired, beside}
use Rattle.hml.proofs.Composition.{flipped, beside_composed, composed_flip, Join, starts, ◌▹◌, join_flip}
use Rattle.hml.proofs.Tests.{Tested}
use Rattle.hml.specs.Lists.{◌∈◌}
use Rattle.hml.proofs.Joins.{join-steps}
use Rattle.hml.specs.Split.{splits}
use Rattle.hml.proofs.Splits.{splits_sound}
use Rattle.hml.specs.Quotient.{quotient}
use Rattle.hml.proofs.Quotients.{quotient_sound}

module _ (P : Pairing) {S T U : Type 0} (pair : S → T → U) where
  join-undo : (n : ℕ) {l : Run S} {r : Run T} {j : Run U} → Join P pair l r j
      → Join P pair (undo n l) (undo n r) (undo n j)
  join-undo zero m = m
  join-undo (suc n) starts = starts
  join-undo (suc n) (m ▹ w) = join-undo n m

  -- halves and joint run may be stopped together
  pub join-stop : (n : ℕ) {l : Run S} {r : Run T} {j : Run U} → Join P pair l r j
      → Join P pair (stop n l) (stop n r) (stop n j)
  join-stop n {l} {r} {j} m = rw ((join-steps P pair m).0, (join-steps P pair m).1) (join-undo (steps j - n) m)

module _ (P : Pairing) {S T : Type 0} (L : System S) (R : System T) (φ : Formula) {l : Run S} {r : Run T}
    {j : Run (S × T)} where
  pub by_right : Join P paired l r j → holds (beside P L R) φ j ≡ holds L (quotient P R φ r) l
  by_right = quotient_sound P paired L R (beside P L R) (beside_composed P L R) φ

  pub by_left : Join P paired l r j → holds (beside P L R) φ j ≡ holds R (quotient P L φ l) r
  by_left m =
      quotient_sound P (flipped P paired) R L (beside P L R)
      (composed_flip P paired L R (beside P L R) (beside_composed P L R)) φ (join_flip P paired m)

-- the claim as a whole: every splitting, every point, both known sides
module _ (P : Pairing) {S T : Type 0} (A : Tested S) (B : Tested T) (L : System S) (R : System T) where
  pub verdicts_agree : (φ : Formula) (j : Run (S × T)) (h : Run S × Run T) → h ∈ splits P A.equal B.equal L R j
      → (n : ℕ) →
      (holds (beside P L R) φ (stop n j) ≡ holds L (quotient P R φ (stop n h.1)) (stop n h.0))
      × (holds (beside P L R) φ (stop n j) ≡ holds R (quotient P L φ (stop n h.0)) (stop n h.1))
  verdicts_agree φ j h i n =
      let m = join-stop P paired n (splits_sound P A B L R j h i).0 in (by_right P L R φ m, by_left P L R φ m)
