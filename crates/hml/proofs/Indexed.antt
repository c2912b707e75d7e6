-- The elements of a list by their numbers, from 0: each number below the length has an element, each element a number,
-- and in a list without repetition only one.
use mathlib.Core.Path.{◌≡◌, refl, sym, ap}
use mathlib.Core.List.Memᴰ.{cast as ∈-cast}
use mathlib.Core.List.Memᴰ.{head as here}
use mathlib.Core.List.Memᴰ.{tail as there}
use mathlib.Core.List.{List, [], ◌∷◌}
use Prim.Native.Nat.{ℕ, zero, suc, ◌<◌}
use native.Mathlib.Omega.{arith}
use lib.ListN.{length, get_or}
use Rattle.hml.specs.Lists.{◌∈◌}
use Rattle.hml.proofs.Distinct.{Distinct, none, some}

module _ {A : Type 0} (d : A) where
  -- the element of a number is in the list
  pub element : (xs : List A) (i : ℕ) → i < length xs → get_or xs i d ∈ xs
  element [] i h = absurd (omega arith)
  element (x ∷ xs) zero h = here refl
  element (x ∷ xs) (suc i) h = there (element xs i (omega arith))

  -- an element of the list has a number
  pub number_of : {x : A} {xs : List A} → x ∈ xs → (i : ℕ) × (i < length xs) × (get_or xs i d ≡ x)
  number_of (here e) = (0, omega arith, sym e)
  number_of (there m) = let (i, h, e) = number_of m in (suc i, omega (arith, h), e)

  -- only one, if the list is without repetition
  pub number_once : {xs : List A} → Distinct xs → (i j : ℕ) → i < length xs → j < length xs → get_or xs i d ≡ get_or xs j d
      → i ≡ j
  number_once none i j h k e = absurd (omega (arith, h))
  number_once (some n u) zero zero h k e = refl
  number_once (some {xs = xs} n u) zero (suc j) h k e = absurd (n (∈-cast e (element xs j (omega (arith, k)))))
  number_once (some {xs = xs} n u) (suc i) zero h k e = absurd (n (∈-cast (sym e) (element xs i (omega (arith, h)))))
  number_once (some n u) (suc i) (suc j) h k e = ap suc (number_once u i j (omega (arith, h)) (omega (arith, k)) e)
