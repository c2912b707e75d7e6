-- The splitting of a number, from 0 on: "the first step varies slowest". With w ways at the last step, splitting i of a
-- run is splitting i / w of the run without that step, and its way i % w.
use mathlib.Core.Path.{◌≡◌, refl, ◌∙◌, ap}
use mathlib.Core.Bool.{Bool, true, false}
use mathlib.Core.List.{List, [], ◌∷◌, ◌++◌, map}
use Prim.Native.Nat.{ℕ, zero, suc, ◌-◌, ◌*◌, ◌/◌, ◌%◌, ◌≤◌, ◌<◌}
use native.Mathlib.Omega.{arith}
use native.Mathlib.Nat.{zero-mul, suc-mul, div-eq_of_lt, div-eq-sub-div, mod-eq_of_lt, mod-eq-sub-mod, mod-lt}
use native.Mathlib.Numerals.{add-one}
use lib.ListN.{length, get_or, length-map, get_or-append}
use lib.Dec.{ltb}
use borrow.Author.Tests.{ltb-true, ltb-false}
use Rattle.hml.specs.Lists.{each}
use Rattle.hml.proofs.Tests.{Tested}
use Rattle.hml.specs.System.{System, Step, Run, ◌▸◌, last, Pairing}
use Rattle.hml.specs.Split.{grown, options, splits}
use Rattle.hml.proofs.Splits.{splits-count}

module _ {A : Type 0} where
  -- an element of the second of two lists, one behind the other
  at_second : (xs ys : List A) (i : ℕ) (d : A) → length xs ≤ i → get_or (xs ++ ys) i d ≡ get_or ys (i - length xs) d
  at_second [] ys i d h = let z : i ≡ i - 0 = omega arith in ap (λ n. get_or ys n d) z
  at_second (x ∷ xs) ys zero d h = absurd (omega arith)
  at_second (x ∷ xs) ys (suc i) d h =
      at_second xs ys i d (omega arith)
      ∙ (let z : i - length xs ≡ suc i - suc (length xs) = omega arith in ap (λ n. get_or ys n d) z)

  -- an element of a list whose elements are changed
  at_map : {B : Type 0} (f : A → B) (xs : List A) (i : ℕ) (a : A) (b : B) → i < length xs
      → get_or (map f xs) i b ≡ f (get_or xs i a)
  at_map f [] i a b h = absurd (omega arith)
  at_map f (x ∷ xs) zero a b h = refl
  at_map f (x ∷ xs) (suc i) a b h = at_map f xs i a b (omega arith)

module _ {A B : Type 0} (g : A → List B) (k : ℕ) (some : 0 < k) (equal : (x : A) → length (g x) ≡ k) (a : A) (b : B)
  where
    -- an element of lists of equal length, one behind the other: which list, and where in it
    at_each : (xs : List A) (i : ℕ) → i < length xs * k → get_or (each g xs) i b ≡ get_or (g (get_or xs (i / k) a)) (i % k) b
    at_each [] i h = absurd (let z = zero-mul k in omega (arith, z))
    at_each (x ∷ xs) i h = go (ltb i k) refl (at_each xs (i - k))
      where
        go : (t : Bool) → ltb i k ≡ t
            → (i - k < length xs * k → get_or (each g xs) (i - k) b ≡ get_or (g (get_or xs ((i - k) / k) a)) ((i - k) % k) b)
            → get_or (g x ++ each g xs) i b ≡ get_or (g (get_or (x ∷ xs) (i / k) a)) (i % k) b
        go true e r =
            let l = ltb-true i k e in
            get_or-append (g x) (each g xs) b i (omega (arith, equal x)) ∙ rw (div-eq_of_lt l, mod-eq_of_lt l)
        go false e r =
            let l = ltb-false i k e in
            let n : i / k ≡ suc ((i - k) / k) = div-eq-sub-div some l ∙ add-one ((i - k) / k) in
            at_second (g x) (each g xs) i b (omega (arith, equal x))
            ∙ rw (equal x, n, mod-eq-sub-mod l) (r (omega (arith, suc-mul (length xs) k)))

module _ (P : Pairing) {S T : Type 0} (A : Tested S) (B : Tested T) (L : System S) (R : System T) where
  -- the splitting of a number, by the last step
  pub splits_at : (j : Run (S × T)) (s : Step (S × T)) (i : ℕ) (d e : Run S × Run T) (o : Step S × Step T)
      → 0 < length (options P A.equal B.equal L R (last j) s)
      → i < length (splits P A.equal B.equal L R (j ▸ s))
      → get_or (splits P A.equal B.equal L R (j ▸ s)) i d
      ≡ grown (get_or (splits P A.equal B.equal L R j) (i / length (options P A.equal B.equal L R (last j) s))
      e) (get_or (options P A.equal B.equal L R (last j) s)
      (i % length (options P A.equal B.equal L R (last j) s)) o)
  unfolding splits
  splits_at j s i d e o some h =
      let opts = options P A.equal B.equal L R (last j) s in
      at_each (λ h. map (grown h) opts) (length opts) some (λ h. length-map opts (grown h)) e d
      (splits P A.equal B.equal L R j) i (rw (splits-count P A B L R j s) at h)
      ∙ at_map (grown (get_or (splits P A.equal B.equal L R j) (i / length opts) e)) opts (i % length opts) o d
      (mod-lt i some)
