-- A line of any number of machines: a first one, and each further one beside all that stand before it.
use mathlib.Core.Path.{◌≡◌, ◌∙◌, ap}
use mathlib.Core.List.{List, [], ◌∷◌}
use Rattle.hml.specs.System.{System, Run, Pairing}
use Rattle.hml.specs.Formula.{Formula, holds}
use Rattle.hml.specs.Compose.{paired, beside}
use Rattle.hml.proofs.Composition.{beside_composed, Join}
use Rattle.hml.specs.Quotient.{quotient}
use Rattle.hml.proofs.Quotients.{quotient_sound}

module _ (P : Pairing) {S : Type 0} (L : System S) where
  -- a further machine and its part of the run
  abbrev pub Part : Type 0
  Part = System S × Run S

  abbrev pub State : List Part → Type 0
  State [] = S
  State (k ∷ ks) = State ks × S

  unfoldable pub line : (ks : List Part) → System (State ks)
  line [] = L
  line (k ∷ ks) = beside P (line ks) k.0

  -- the parts, and the first machine's run l, join to the run j of the line
  abbrev pub Joins : Run S → (ks : List Part) → Run (State ks) → Type 0
  Joins l [] j = j ≡ l
  Joins l (k ∷ ks) j = (i : Run (State ks)) × Joins l ks i × Join P paired i k.1 j

  -- the quotient by the last part, then by the one before it, and so on
  unfoldable pub quotients : List Part → Formula → Formula
  quotients [] φ = φ
  quotients (k ∷ ks) φ = quotients ks (quotient P k.0 φ k.1)

  pub line_kept : (l : Run S) (ks : List Part) (φ : Formula) (j : Run (State ks)) → Joins l ks j
      → holds (line ks) φ j ≡ holds L (quotients ks φ) l
  unfolding line quotients
  line_kept l [] φ j e = ap (holds L φ) e
  line_kept l (k ∷ ks) φ j (i, h, m) =
      quotient_sound P paired (line ks) k.0 (beside P (line ks) k.0) (beside_composed P (line ks) k.0) φ m
      ∙ line_kept l ks (quotient P k.0 φ k.1) i h
