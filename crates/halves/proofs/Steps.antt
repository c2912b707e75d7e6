-- What a reading of a step tells.
use Prim.Native.Nat.{ℕ, ◌+◌, ◌*◌, ◌/◌, ◌%◌, ◌≤◌, ◌<◌}
use mathlib.Core.Path.{◌≡◌, refl, ◌∙◌}
use mathlib.Core.Bool.{Bool, true, false, cond, ◌&&◌}
use mathlib.Core.List.{List}
use native.Mathlib.Omega.{arith}
use lib.ListN.{length, get_or}
use lib.Dec.{eqb, ltb}
use borrow.Author.Tests.{eq-eqb, eqb-true, ltb-true, ltb-false}
use Rattle.hml.proofs.Tests.{apart, both_true}
use Rattle.halves.specs.Runs.{step_of}
use Rattle.halves.specs.Steps.{step_read, step_struct}
use Rattle.halves.specs.declared.step.Step.{Step}
use Rattle.std.specs.Prelude.{None, Some}

module _ (s : List ℕ) (i : ℕ) where
  -- a step is read exactly where it stands, in bytes of fit length
  pub record Found (x : Step) : Type 0 where
    pub here : x ≡ step_struct (step_of (get_or s (2 * i + 1) 0) (get_or s (2 * i + 2) 0))
    pub odd : length s % 2 ≡ 1
    pub within : i < length s / 2

  pub step_found : (x : Step) → Some x ≡ step_read s i → Found x
  unfolding step_read
  step_found x e = go (eqb (length s % 2) 1 && ltb (2 * i + 2) (length s)) refl e
    where
      go : (b : Bool) → (eqb (length s % 2) 1 && ltb (2 * i + 2) (length s)) ≡ b
          → Some x ≡ cond b (Some (step_struct (step_of (get_or s (2 * i + 1) 0) (get_or s (2 * i + 2) 0))))
          None
          → Found x
      go false f e = absurd (apart cc)
      go true f e =
          let (odd, within) = both_true f in
          record {
            here = cc;
            odd = eqb-true (length s % 2) 1 odd;
            within = omega (arith, ltb-true (2 * i + 2) (length s) within);
          }

  pub none_found : length s % 2 ≡ 1 → None ≡ step_read s i → length s / 2 ≤ i
  unfolding step_read
  none_found odd e = go (ltb (2 * i + 2) (length s)) refl (e ∙ rw (eq-eqb _ _ odd))
    where
      go : (b : Bool) → ltb (2 * i + 2) (length s) ≡ b
          → None ≡ cond b (Some (step_struct (step_of (get_or s (2 * i + 1) 0) (get_or s (2 * i + 2) 0))))
          None
          → length s / 2 ≤ i
      go false f e = omega (arith, ltb-false (2 * i + 2) (length s) f)
      go true f e = absurd (apart cc)
