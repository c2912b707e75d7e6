-- The equality test on labels and states, and searching and making lists: the small functions that the definitions use.
use Rattle.std.specs.Prelude.{Bool, true, false, ◌||◌, ℕ, eqb, None, Option, Some}
use mathlib.Core.List.{List, [], ◌∷◌, ◌++◌, Memᴰ}

-- the equality test on labels and states
abbrev pub same : ℕ → ℕ → Bool
same a b = eqb a b

-- membership
infix 5 ◌∈◌
abbrev pub ◌∈◌ : {A : Type 0} → A → List A → Type 0
x ∈ xs = Memᴰ x xs

module _ {A : Type 0} where
  -- x if the test passes, else nothing
  abbrev pub guard : Bool → A → Option A
  guard true x = Some x
  guard false x = None

  -- the list of x alone if the test passes, else the empty list
  unfoldable pub only : Bool → A → List A
  only true x = x ∷ []
  only false x = []

  -- the list if the test passes, else the empty list
  abbrev pub given : Bool → List A → List A
  given true xs = xs
  given false xs = []

  -- does the test pass for what is there?
  abbrev pub present : (A → Bool) → Option A → Bool
  present f None = false
  present f (Some x) = f x

  -- does the test pass for one of the elements?
  abbrev pub any : (A → Bool) → List A → Bool
  any f [] = false
  any f (x ∷ xs) = f x || any f xs

module _ {A B : Type 0} where
  -- the lists made from each element, one after the other
  abbrev pub each : (A → List B) → List A → List B
  each g [] = []
  each g (x ∷ xs) = g x ++ each g xs
