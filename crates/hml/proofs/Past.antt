-- A formula that looks at no longer run: it has the same verdict in every system.
use mathlib.Core.Path.{◌≡◌, refl, ap, ap₂}
use mathlib.Core.Bool.{◌&&◌, ◌||◌, not as negate}
use native.Mathlib.Omega.{arith}
use Rattle.hml.specs.Lists.{same}
use Rattle.hml.specs.System.{System, move, idle, Run, start, ◌▸◌}
use Rattle.hml.specs.Formula.{Formula, top, bottom, not, and, or, fwd, back, fwd_idle, back_idle, nesting, holds}

-- a formula with no forward modality has the same verdict in every system
pub holds_past : {S : Type 0} (A B : System S) (φ : Formula) (r : Run S) → nesting φ ≡ 0 → holds A φ r ≡ holds B φ r
unfolding nesting holds
holds_past A B top r e = refl
holds_past A B bottom r e = refl
holds_past A B (not φ) r e = ap negate (holds_past A B φ r e)
holds_past A B (and φ ψ) r e =
    ap₂ ◌&&◌ (holds_past A B φ r (omega (arith, e))) (holds_past A B ψ r (omega (arith, e)))
holds_past A B (or φ ψ) r e =
    ap₂ ◌||◌ (holds_past A B φ r (omega (arith, e))) (holds_past A B ψ r (omega (arith, e)))
holds_past A B (fwd a φ) r e = absurd (omega (arith, e))
holds_past A B (back a φ) (start p) e = refl
holds_past A B (back a φ) (r ▸ move b p) e = ap (same b a &&◌) (holds_past A B φ r e)
holds_past A B (back a φ) (r ▸ idle) e = refl
holds_past A B (fwd_idle φ) r e = absurd (omega (arith, e))
holds_past A B (back_idle φ) (start p) e = refl
holds_past A B (back_idle φ) (r ▸ move b p) e = refl
holds_past A B (back_idle φ) (r ▸ idle) e = holds_past A B φ r e
