-- The size of a quotient of a formula without forward modalities: no node has more than one in its place.
use Prim.Native.Nat.{ℕ, ◌+◌, ◌≤◌}
use mathlib.Core.Path.{◌≡◌}
use mathlib.Core.Bool.{Bool, true, false}
use native.Mathlib.Omega.{arith}
use Rattle.hml.specs.Lists.{same}
use Rattle.hml.specs.System.{System, move, idle, Run, start, ◌▸◌, Pairing}
use Rattle.hml.specs.Formula.{Formula, top, bottom, not, and, or, fwd, back, fwd_idle, back_idle, size, nesting}
use Rattle.hml.specs.Quotient.{back_by, quotient}
use Rattle.std.specs.Prelude.{None, Option, Some}

-- what stands for "back by label" is at most one node over the rest
back-size : (t z : Bool) (o : Option ℕ) (φ : Formula) → size (back_by t z o φ) ≤ 1 + size φ
unfolding size
back-size true z o φ = omega arith
back-size false false o φ = omega arith
back-size false true None φ = omega arith
back-size false true (Some c) φ = omega arith

module _ (P : Pairing) {T : Type 0} (K : System T) where
  -- the quotient has no more nodes than the formula
  pub quotient-size : (φ : Formula) (r : Run T) → nesting φ ≡ 0 → size (quotient P K φ r) ≤ size φ
  unfolding size nesting quotient
  quotient-size top r h = omega arith
  quotient-size bottom r h = omega arith
  quotient-size (not φ) r h = omega (arith, quotient-size φ r h)
  quotient-size (and φ ψ) r h =
      omega (arith, quotient-size φ r (omega (arith, h)), quotient-size ψ r (omega (arith, h)))
  quotient-size (or φ ψ) r h = omega (arith, quotient-size φ r (omega (arith, h)), quotient-size ψ r (omega (arith, h)))
  quotient-size (fwd a φ) r h = absurd (omega (arith, h))
  quotient-size (back a φ) (start q) h = omega arith
  quotient-size (back a φ) (r ▸ move b q) h =
      omega (arith, back-size (same b a) (same 0 a) (P.partner b) (quotient P K φ r), quotient-size φ r h)
  quotient-size (back a φ) (r ▸ idle) h = omega (arith, quotient-size φ r h)
  quotient-size (fwd_idle φ) r h = absurd (omega (arith, h))
  quotient-size (back_idle φ) (start q) h = omega arith
  quotient-size (back_idle φ) (r ▸ move b q) h = omega arith
  quotient-size (back_idle φ) (r ▸ idle) h = omega (arith, quotient-size φ r h)
