-- What a reading of a step of a joint run tells.
use Prim.Native.Nat.{ℕ, ◌+◌, ◌*◌, ◌/◌, ◌%◌, ◌≤◌, ◌<◌}
use mathlib.Core.Path.{◌≡◌, refl, ◌∙◌}
use mathlib.Core.Bool.{Bool, true, false, cond, ◌&&◌}
use mathlib.Core.List.{List}
use native.Mathlib.Omega.{arith}
use lib.ListN.{length}
use lib.Dec.{eqb, ltb}
use borrow.Author.Tests.{eq-eqb, eqb-true, ltb-true, ltb-false}
use Rattle.hml.proofs.Tests.{apart, both_true}
use Rattle.machines.specs.Steps.{joint_step_at, joint_read}
use Rattle.machines.specs.declared.step.JointStep.{JointStep}
use Rattle.std.specs.Prelude.{None, Some}

module _ (s : List ℕ) (i : ℕ) where
  -- a step is read exactly where it stands, in bytes of fit length
  pub record Found (x : JointStep) : Type 0 where
    pub here : x ≡ joint_step_at s i
    pub fit : length s % 3 ≡ 2
    pub within : i < length s / 3

  pub step_found : (x : JointStep) → Some x ≡ joint_read s i → Found x
  unfolding joint_read
  step_found x e = go (eqb (length s % 3) 2 && ltb (3 * i + 4) (length s)) refl e
    where
      go : (b : Bool) → (eqb (length s % 3) 2 && ltb (3 * i + 4) (length s)) ≡ b
          → Some x ≡ cond b (Some (joint_step_at s i)) None → Found x
      go false f e = absurd (apart cc)
      go true f e =
          let (fit, within) = both_true f in
          record {
            here = cc;
            fit = eqb-true (length s % 3) 2 fit;
            within = omega (arith, ltb-true (3 * i + 4) (length s) within);
          }

  pub none_found : length s % 3 ≡ 2 → None ≡ joint_read s i → length s / 3 ≤ i
  unfolding joint_read
  none_found fit e = go (ltb (3 * i + 4) (length s)) refl (e ∙ rw (eq-eqb _ _ fit))
    where
      go : (b : Bool) → ltb (3 * i + 4) (length s) ≡ b
          → None ≡ cond b (Some (joint_step_at s i)) None
          → length s / 3 ≤ i
      go false f e = omega (arith, ltb-false (3 * i + 4) (length s) f)
      go true f e = absurd (apart cc)
