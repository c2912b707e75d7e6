-- The cases of what the lines of a point share.
use Prim.Native.Nat.{ℕ, zero, suc, ◌≤◌, ◌<◌, min}
use mathlib.Core.Path.{◌≡◌, refl, ◌∙◌}
use mathlib.Core.Logic.{◌⊎◌, inl, inr}
use mathlib.Core.Bool.{Bool, true, false}
use mathlib.Core.List.{List, ◌++◌}
use native.Mathlib.Omega.{arith}
use lib.ListN.{length, get_or, take, replicate, get_or-eq_default}
use lib.Dec.{ltb}
use lib.Seq.{length-take-le}
use borrow.Author.Tests.{ltb-true, ltb-false, ne_eqb}
use Rattle.labels.specs.declared.refusal.Refusal.{Refusal}
use Rattle.sheet_lines.specs.Sheets.{letter_of}
use Rattle.sheet_lines.specs.Working.{counted_as, after_of, Forgotten}
use Rattle.std.specs.Prelude.{Err, Ok, Result}

module _ (v : Result Bool Refusal) where
  pub letter_holds : v ≡ Ok true → 84 ≡ letter_of v
  unfolding letter_of
  letter_holds e = rw e

  pub letter_fails : v ≡ Ok false → 70 ≡ letter_of v
  unfolding letter_of
  letter_fails e = rw e

  pub letter_refused : (x : Refusal) → v ≡ Err x → 45 ≡ letter_of v
  unfolding letter_of
  letter_refused x e = rw e

module _ (c : Result ℕ Refusal) where
  pub counted_splittings : (n : ℕ) → c ≡ Ok n → n ≡ counted_as c
  unfolding counted_as
  counted_splittings n e = rw e

  pub counted_refused : (x : Refusal) → c ≡ Err x → 1 ≡ counted_as c
  unfolding counted_as
  counted_refused x e = rw e

-- entries filled with 0 are forgotten
pub forgotten_filled : (n : ℕ) (rest : List ℕ) → Forgotten (replicate n 0 ++ rest) n
unfolding Forgotten
forgotten_filled n rest = go n
  where
    go : (n t : ℕ) → t < n → get_or (replicate n 0 ++ rest) t 0 ≡ 0
    go zero t h = absurd (omega arith)
    go (suc n) zero h = refl
    go (suc n) (suc t) h = go n t (omega (arith, h))

-- behind the list there is no entry
pub forgotten_all : (xs : List ℕ) (i n : ℕ) → Forgotten xs i → (n ≤ i) ⊎ (length xs ≤ i) → Forgotten xs n
unfolding Forgotten
forgotten_all xs i n f h t l = go (ltb t i) refl
  where
    outside : (n ≤ i) ⊎ (length xs ≤ i) → i ≤ t → length xs ≤ t
    outside (inl q) m = absurd (omega (arith, q, l, m))
    outside (inr q) m = omega (arith, q, m)

    go : (b : Bool) → ltb t i ≡ b → get_or xs t 0 ≡ 0
    go true e = f t (ltb-true t i e)
    go false e = get_or-eq_default xs 0 (outside h (ltb-false t i e))

-- by how many splittings numbers are divided
pub after_one : (ways n : ℕ) → ways ≡ 1 → 65536 ≡ after_of ways n
unfolding after_of
after_one ways n e = rw e

pub after_more : (ways n m : ℕ) → (ways ≡ 1 → ⊥) → m ≡ n → m ≡ after_of ways n
unfolding after_of
after_more ways n m h e = rw (ne_eqb ways 1 h) e

-- all entries, or as many as there are
pub forgotten_enough : (xs : List ℕ) (i n : ℕ) → length xs ≡ 8192 → min n 8192 ≤ i → (n ≤ i) ⊎ (length xs ≤ i)
forgotten_enough xs i n e h = go (ltb 8192 n) refl
  where
    go : (b : Bool) → ltb 8192 n ≡ b → (n ≤ i) ⊎ (length xs ≤ i)
    go true q = inr (omega (arith, e, h, ltb-true 8192 n q))
    go false q = inl (omega (arith, h, ltb-false 8192 n q))

-- the first entries of so many filled with 0
pub forgotten_front : (xs ys rest : List ℕ) (n m : ℕ) → length xs ≡ 8192 → m ≡ min n 8192
    → ys ≡ replicate (length (take m xs)) 0 → length (ys ++ rest) ≡ length xs → Forgotten (ys ++ rest) n
forgotten_front xs ys rest n m l h f k =
    let z : length (take m xs) ≡ m = length-take-le m xs (omega (arith, h, l)) in
    forgotten_all (ys ++ rest) m n (rw (f, z) (forgotten_filled m rest))
    (forgotten_enough (ys ++ rest) m n (k ∙ l) (omega (arith, h)))
