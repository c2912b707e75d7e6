-- A machine beside one that never moves. A run of it is a joint run, and every formula holds on both or on neither.
use mathlib.Core.Path.{◌≡◌, refl, ◌∙◌, ap}
use mathlib.Core.Bool.{Bool, ◌&&◌, not as negate, or-false}
use mathlib.Core.List.{[]}
use Prim.Native.Nat.{ℕ}
use Rattle.hml.specs.Lists.{same, any}
use Rattle.hml.proofs.Lists.{any_cong, any_false}
use Rattle.hml.specs.System.{System, move, idle, Run, start, ◌▸◌, last, Pairing}
use Rattle.hml.specs.Formula.{Formula, top, bottom, not, and, or, fwd, back, fwd_idle, back_idle, holds}
use Rattle.hml.specs.Compose.{beside}
use Rattle.hml.proofs.Composition.{Composed, beside_composed}

-- a run beside the state q, which is kept
unfoldable pub alone : {S T : Type 0} → T → Run S → Run (S × T)
alone q (start p) = start (p, q)
alone q (r ▸ move a p) = alone q r ▸ move a (p, q)
alone q (r ▸ idle) = alone q r ▸ idle

pub last_alone : {S T : Type 0} (q : T) (r : Run S) → last (alone q r) ≡ (last r, q)
unfolding alone
last_alone q (start p) = refl
last_alone q (r ▸ move a p) = refl
last_alone q (r ▸ idle) = last_alone q r

module _ (P : Pairing) {S T : Type 0} (M : System S) (R : System T) (q : T) (still : R q ≡ []) where
  -- beside a state without moves, only the machine itself moves
  alone_moves : (f : ℕ × (S × T) → Bool) (p : S) → any f (beside P M R (p, q)) ≡ any (λ m. f (m.0, (m.1, q))) (M p)
  unfolding Composed
  alone_moves f p =
      beside_composed P M R f p q ∙ rw (still, any_false (M p)) (or-false (any (λ m. f (m.0, (m.1, q))) (M p)))

  -- the verdict is the same
  pub holds_alone : (φ : Formula) (r : Run S) → holds (beside P M R) φ (alone q r) ≡ holds M φ r
  unfolding holds alone
  holds_alone top r = refl
  holds_alone bottom r = refl
  holds_alone (not φ) r = ap negate (holds_alone φ r)
  holds_alone (and φ ψ) r = rw (holds_alone φ r, holds_alone ψ r)
  holds_alone (or φ ψ) r = rw (holds_alone φ r, holds_alone ψ r)
  holds_alone (fwd a φ) r =
      rw (last_alone q r)
      (alone_moves (λ m. same m.0 a && holds (beside P M R) φ (alone q r ▸ move m.0 m.1)) (last r)
      ∙ any_cong (λ m. ap (same m.0 a &&◌) (holds_alone φ (r ▸ move m.0 m.1))) (M (last r)))
  holds_alone (back a φ) (start p) = refl
  holds_alone (back a φ) (r ▸ move b p) = ap (same b a &&◌) (holds_alone φ r)
  holds_alone (back a φ) (r ▸ idle) = refl
  holds_alone (fwd_idle φ) r = holds_alone φ (r ▸ idle)
  holds_alone (back_idle φ) (start p) = refl
  holds_alone (back_idle φ) (r ▸ move b p) = refl
  holds_alone (back_idle φ) (r ▸ idle) = holds_alone φ r
