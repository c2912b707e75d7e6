-- The bytes that a list begins with, as long as they pass a test.
use Prim.Native.Nat.{ℕ, ◌≤◌}
use mathlib.Core.Path.{◌≡◌, refl, ◌∙◌, ap}
use mathlib.Core.Bool.{Bool, true, false, cond}
use mathlib.Core.List.{List, [], ◌∷◌, ◌++◌}
use native.Mathlib.Omega.{arith}
use lib.ListN.{length, take, drop, length-append}
use lib.Seq.{take-append_seam}
use Rattle.aldebaran_form.specs.Lines.{front}

module _ (passes : ℕ → Bool) where
  -- they are in front, and the others behind them
  pub front-split : (l : List ℕ) → l ≡ front passes l ++ drop (length (front passes l)) l
  unfolding front
  front-split [] = refl
  front-split (b ∷ l) = go (passes b) (front-split l)
    where
      go : (x : Bool) → l ≡ front passes l ++ drop (length (front passes l)) l
          → b ∷ l
          ≡ cond x (b ∷ front passes l) [] ++ drop (length (cond x (b ∷ front passes l) [])) (b ∷ l)
      go true r = ap (b ∷◌) r
      go false r = refl

  pub front_fit : (l : List ℕ) → length (front passes l) ≤ length l
  front_fit l = omega
      (arith, ap length (front-split l), length-append (front passes l) (drop (length (front passes l)) l))

  pub front_taken : (l : List ℕ) → take (length (front passes l)) l ≡ front passes l
  front_taken l = ap (take (length (front passes l))) (front-split l)
      ∙ take-append_seam (front passes l) (drop (length (front passes l)) l)

  -- what does not begin with such bytes changes nothing behind them
  pub front_before : (l tail : List ℕ) → front passes tail ≡ [] → front passes (l ++ tail) ≡ front passes l
  unfolding front
  front_before [] tail e = e
  front_before (b ∷ l) tail e = rw (front_before l tail e)
