-- Laws of answers: which numbers refusals have, and how large values can be.
use Prim.Native.Nat.{ℕ, zero, suc, ◌≤◌}
use mathlib.Core.List.{List, [], ◌∷◌}
use native.Mathlib.Omega.{arith}
use lib.ListN.{get_or}
use Rattle.labels.specs.Refusals.{number_of}
use Rattle.labels.specs.declared.refusal.Refusal.{Refusal}
use Rattle.labels.specs.declared.refusal.Refusal.TheVariants as refusal

-- a refusal's number is 1 to 21, so 0 says that nothing is refused
pub refusal_numbers : (r : Refusal) → (1 ≤ number_of r) × (number_of r ≤ 21)
refusal_numbers refusal.Truncated = omega arith
refusal_numbers refusal.WrongKind = omega arith
refusal_numbers refusal.WrongLength = omega arith
refusal_numbers refusal.TooManyPairs = omega arith
refusal_numbers refusal.OutOfRange = omega arith
refusal_numbers refusal.RowNotAbove = omega arith
refusal_numbers refusal.NinthRow = omega arith
refusal_numbers refusal.NotReal = omega arith
refusal_numbers refusal.NotATree = omega arith
refusal_numbers refusal.NestedTooDeep = omega arith
refusal_numbers refusal.BytesAfter = omega arith
refusal_numbers refusal.PointBeyond = omega arith
refusal_numbers refusal.TooManySplittings = omega arith
refusal_numbers refusal.NoSuchSplitting = omega arith
refusal_numbers refusal.NotARun = omega arith
refusal_numbers refusal.HalvesDoNotMatch = omega arith
refusal_numbers refusal.QuotientTooLarge = omega arith
refusal_numbers refusal.OutputTooShort = omega arith
refusal_numbers refusal.NotOfForm = omega arith
refusal_numbers refusal.WrongHeader = omega arith
refusal_numbers refusal.UnknownLabel = omega arith

-- values of which none is over a bound
pub data Within (most : ℕ) : List ℕ → Type 0 where
  none : Within most []
  next : {n : ℕ} {ns : List ℕ} → n ≤ most → Within most ns → Within most (n ∷ ns)

pub within_at : {most : ℕ} {ns : List ℕ} → Within most ns → (i : ℕ) → get_or ns i 0 ≤ most
within_at none i = omega arith
within_at (next h w) zero = h
within_at (next h w) (suc i) = within_at w i
