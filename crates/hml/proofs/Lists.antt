-- What a search of a list finds, and what stands in a list made from another: laws of `any`, `each` and `only`.
use mathlib.Core.Path.{◌≡◌, refl, sym, ◌∙◌, ap, fun_ext}
use mathlib.Core.Logic.{◌↔◌, ◌⊎◌, inl, inr}
use mathlib.Core.Bool.{Bool, true, false, ◌&&◌, ◌||◌, or_assoc, or-false, false≢true}
use mathlib.Core.List.{List, [], ◌∷◌, ◌++◌, map, append-nil, append_assoc}
use mathlib.Core.List.Memᴰ.{head as here}
use mathlib.Core.List.Memᴰ.{not-nil as nowhere}
use mathlib.Core.List.Memᴰ.{tail as there}
use mathlib.Core.List.Memᴰ.{cases_cons as ∈-cons}
use mathlib.Core.List.Memᴰ.{eq_of_singleton as ∈-single}
use mathlib.Core.List.Memᴰ.{append_cases as ∈-append}
use mathlib.Core.List.Memᴰ.{append_left as ∈-left}
use mathlib.Core.List.Memᴰ.{append_right as ∈-right}
use Prim.Native.Nat.{ℕ, ◌*◌}
use native.Mathlib.Nat.{zero-mul, suc-mul, add_comm}
use lib.ListN.{length, length-append}
use Rattle.hml.proofs.Tests.{apart, Decides, refutes, decided_or, decided_iff, or_interchange}
use Rattle.hml.specs.Lists.{◌∈◌, only, given, present, any, each}
use Rattle.std.specs.Prelude.{None, Option, Some}

module _ {A : Type 0} where
  pub decided_any : {P : A → Type 0} {f : A → Bool} → ((x : A) → Decides (P x) (f x)) → (xs : List A)
      → Decides ((x : A) × x ∈ xs × P x) (any f xs)
  decided_any d [] = refutes (λ t. nowhere t.1)
  decided_any {P} d (x ∷ xs) = decided_iff found lost (decided_or (d x) (decided_any d xs))
    where
      found : P x ⊎ ((y : A) × y ∈ xs × P y) → (y : A) × y ∈ (x ∷ xs) × P y
      found (inl h) = (x, here refl, h)
      found (inr t) = (t.0, there t.1, t.2)

      lost : (y : A) × y ∈ (x ∷ xs) × P y → P x ⊎ ((y : A) × y ∈ xs × P y)
      lost (y, m, h) = elim (∈-cons m) [ inl e ↦ inl (rw e at h) | inr m' ↦ inr (y, m', h) ]

  pub ∈-only : {y x : A} (b : Bool) → y ∈ only b x ↔ ((b ≡ true) × (y ≡ x))
  unfolding only
  ∈-only true = (λ i. (refl, ∈-single i), λ t. here t.1)
  ∈-only false = (λ i. absurd (nowhere i), λ t. absurd (false≢true t.0))

  pub decided_present : {P : A → Type 0} {f : A → Bool} → ((x : A) → Decides (P x) (f x)) → (o : Option A)
      → Decides ((x : A) × (o ≡ Some x) × P x) (present f o)
  decided_present d None = refutes (λ t. let e = t.1 in apart cc)
  decided_present {P} d (Some x) =
      decided_iff (λ h. (x, refl, h)) (λ t. let e = t.1 in let h : x ≡ t.0 = cc in rw h t.2) (d x)

  pub any_cong : {f g : A → Bool} → ((x : A) → f x ≡ g x) → (xs : List A) → any f xs ≡ any g xs
  any_cong h xs = ap (λ f. any f xs) (fun_ext h)

  pub any_false : (xs : List A) → any (λ x. false) xs ≡ false
  any_false [] = refl
  any_false (x ∷ xs) = any_false xs

  pub any-only : (f : A → Bool) (b : Bool) (x : A) → any f (only b x) ≡ (b && f x)
  unfolding only
  any-only f true x = or-false (f x)
  any-only f false x = refl

  pub any_append : (f : A → Bool) (xs ys : List A) → any f (xs ++ ys) ≡ (any f xs || any f ys)
  any_append f [] ys = refl
  any_append f (x ∷ xs) ys = rw (any_append f xs ys) (sym (or_assoc (f x) (any f xs) (any f ys)))

  any-or : (f g : A → Bool) (xs : List A) → any (λ x. f x || g x) xs ≡ (any f xs || any g xs)
  any-or f g [] = refl
  any-or f g (x ∷ xs) = rw (any-or f g xs) (or_interchange (f x) (g x) (any f xs) (any g xs))

module _ {A B : Type 0} where
  pub ∈-each : (g : A → List B) {y : B} {x : A} {xs : List A} → x ∈ xs → y ∈ g x → y ∈ each g xs
  ∈-each g (here {xs = xs} e) i = ∈-left (each g xs) (rw e at i)
  ∈-each g (there {x = x} k) i = ∈-right (g x) (∈-each g k i)

  pub each-∈ : (g : A → List B) {y : B} (xs : List A) → y ∈ each g xs → (x : A) × x ∈ xs × y ∈ g x
  each-∈ g [] i = absurd (nowhere i)
  each-∈ g {y} (x ∷ xs) i = go (∈-append (g x) i) (λ k. each-∈ g xs k)
    where
      go : y ∈ g x ⊎ y ∈ each g xs → (y ∈ each g xs → (z : A) × z ∈ xs × y ∈ g z) → (z : A) × z ∈ (x ∷ xs) × y ∈ g z
      go (inl k) later = (x, here refl, k)
      go (inr k) later = let t = later k in (t.0, there t.1, t.2)

  pub any-map : (f : B → Bool) (g : A → B) (xs : List A) → any f (map g xs) ≡ any (λ x. f (g x)) xs
  any-map f g [] = refl
  any-map f g (x ∷ xs) = ap (f (g x) ||◌) (any-map f g xs)

  pub any-each : (f : B → Bool) (g : A → List B) (xs : List A) → any f (each g xs) ≡ any (λ x. any f (g x)) xs
  any-each f g [] = refl
  any-each f g (x ∷ xs) = any_append f (g x) (each g xs) ∙ ap (any f (g x) ||◌) (any-each f g xs)

  -- the order of two searches does not matter
  pub any_swap : (f : A → B → Bool) (xs : List A) (ys : List B)
      → any (λ x. any (f x) ys) xs ≡ any (λ y. any (λ x. f x y) xs) ys
  any_swap f [] ys = sym (any_false ys)
  any_swap f (x ∷ xs) ys = rw (any_swap f xs ys) (sym (any-or (f x) (λ y. any (λ x. f x y) xs) ys))

  pub length-each : (g : A → List B) (k : ℕ) → ((x : A) → length (g x) ≡ k) → (xs : List A)
      → length (each g xs) ≡ length xs * k
  length-each g k h [] = sym (zero-mul k)
  length-each g k h (x ∷ xs) =
      length-append (g x) (each g xs)
      ∙ rw (h x, length-each g k h xs, suc-mul (length xs) k) (add_comm k (length xs * k))

  -- lists made from each element of two lists, of a list that was changed, or of a list that was so made
  pub each_append : (g : A → List B) (xs ys : List A) → each g (xs ++ ys) ≡ each g xs ++ each g ys
  each_append g [] ys = refl
  each_append g (x ∷ xs) ys = rw (each_append g xs ys) (sym (append_assoc (g x) (each g xs) (each g ys)))

  pub each_cong : {g h : A → List B} → ((x : A) → g x ≡ h x) → (xs : List A) → each g xs ≡ each h xs
  each_cong h xs = ap (λ g. each g xs) (fun_ext h)

  pub each_none : (g : A → List B) → ((x : A) → g x ≡ []) → (xs : List A) → each g xs ≡ []
  each_none g h [] = refl
  each_none g h (x ∷ xs) = rw (h x, each_none g h xs)

  pub each-only : (g : A → List B) (b : Bool) (x : A) → each g (only b x) ≡ given b (g x)
  unfolding only
  each-only g true x = append-nil (g x)
  each-only g false x = refl

module _ {A B C : Type 0} where
  pub each_map : (g : B → List C) (f : A → B) (xs : List A) → each g (map f xs) ≡ each (λ x. g (f x)) xs
  each_map g f [] = refl
  each_map g f (x ∷ xs) = ap (g (f x) ++◌) (each_map g f xs)

  pub each-each : (g : B → List C) (f : A → List B) (xs : List A) → each g (each f xs) ≡ each (λ x. each g (f x)) xs
  each-each g f [] = refl
  each-each g f (x ∷ xs) = each_append g (f x) (each f xs) ∙ ap (each g (f x) ++◌) (each-each g f xs)
