-- What a cut is of an accepted half, which others cite.
use Prim.Native.Nat.{ℕ, ◌+◌, ◌*◌, ◌/◌, ◌%◌, ◌≤◌}
use mathlib.Core.Path.{◌≡◌, refl, sym, ◌∙◌, ap}
use mathlib.Core.Logic.{◌↔◌}
use mathlib.Core.Bool.{Bool, true, false, ◌||◌}
use native.Mathlib.Omega.{arith}
use lib.Dec.{eqb, ltb}
use mathlib.Core.List.{List, []}
use lib.ListN.{length, take, length-take}
use borrow.Author.Tests.{ne_eqb, eqb-false, ltb-false}
use Rattle.hml.proofs.Tests.{apart}
use Rattle.hml.specs.System.{steps, stop}
use Rattle.halves.specs.Halves.{half_of, is_half_run}
use Rattle.halves.proofs.HalfRuns.{accepted_half, half_stop, half_stopped}
use Rattle.halves.specs.Cuts.{beyond, prefix_of, cut_of}
use Rattle.halves.specs.declared.side.Side.TheVariants as side

-- "A caller who names no side now gets .. from a cut the left half" (document 02, 2/12)
pub unnamed_cut : (l r : List ℕ) (point : ℕ) → cut_of l r side.Unnamed point ≡ prefix_of l point
unfolding cut_of
unnamed_cut l r point = refl

odd_of : (n : ℕ) → (n % 2 ≡ 0 → ⊥) → n % 2 ≡ 1
odd_of n h = omega (arith, h)

-- what the cases mean for a half: a point is one of its own, or beyond it
data Placed (s : List ℕ) (point : ℕ) : Bool → Type 0 where
  outside : prefix_of s point ≡ [] → Placed s point true
  inside : length s % 2 ≡ 1 → point ≤ length s / 2 → prefix_of s point ≡ take (2 * point + 1) s → Placed s point false

placed : (s : List ℕ) (point : ℕ) → Placed s point (beyond s point)
unfolding beyond prefix_of
placed s point = go (eqb (length s % 2) 0) (ltb (length s / 2) point) refl refl
  where
    go : (a b : Bool) → eqb (length s % 2) 0 ≡ a → ltb (length s / 2) point ≡ b → Placed s point (a || b)
    go true b e f = outside (rw e)
    go false true e f = outside (rw (e, f))
    go false false e f = inside (odd_of (length s) (eqb-false (length s % 2) 0 e)) (ltb-false _ _ f) (rw (e, f))

module _ (s : List ℕ) (point : ℕ) where
  -- a cut is empty exactly where it is refused
  pub refused_empty : (beyond s point ≡ true) ↔ (prefix_of s point ≡ [])
  refused_empty = go (placed s point)
    where
      go : {b : Bool} → Placed s point b → (b ≡ true) ↔ (prefix_of s point ≡ [])
      go (outside e) = (λ h. e, λ h. refl)
      go (inside o h e) =
          (λ f. absurd (apart cc), λ f. absurd (omega (arith, ap length (sym e ∙ f), length-take (2 * point + 1) s, o)))

  -- the reading of a cut is the reading of the half, stopped
  pub cut_stopped : beyond s point ≡ false → half_of (prefix_of s point) ≡ stop point (half_of s)
  cut_stopped = go (placed s point)
    where
      go : {b : Bool} → Placed s point b → b ≡ false → half_of (prefix_of s point) ≡ stop point (half_of s)
      go (outside e) f = absurd (apart cc)
      go (inside o h e) f = rw e (half_stop s point)

  -- a cut of a run of a table is one
  pub cut_accepted : (t : List ℕ) → is_half_run t s ≡ true → beyond s point ≡ false
      → is_half_run t (prefix_of s point) ≡ true
  cut_accepted t a = go (placed s point)
    where
      go : {b : Bool} → Placed s point b → b ≡ false → is_half_run t (prefix_of s point) ≡ true
      go (outside e) f = absurd (apart cc)
      go (inside o h e) f = rw e (half_stopped t s point a)

  -- the points of a run of a table are 0 to its number of steps
  pub cut-points : (t : List ℕ) → is_half_run t s ≡ true → beyond s point ≡ ltb (steps (half_of s)) point
  unfolding beyond
  cut-points t e =
      let a = accepted_half t s e in rw (a.counted, ne_eqb (length s % 2) 0 (λ z. omega (arith, z, a.odd)))
