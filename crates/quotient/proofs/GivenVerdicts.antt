-- A verdict whose call refuses nothing is the theory's, on the formula that the bytes spell.
use Prim.Native.Nat.{ℕ}
use mathlib.Core.Path.{◌≡◌}
use mathlib.Core.List.{List, []}
use Rattle.hml.specs.System.{stop}
use Rattle.hml.specs.Formula.{Formula, holds}
use Rattle.hml.specs.Compose.{beside}
use Rattle.labels.specs.Labels.{pairing}
use Rattle.hml.specs.Spell.{spell}
use Rattle.labels.specs.declared.label.Labels.{Labels}
use Rattle.tables.specs.Tables.{table_of}
use Rattle.halves.specs.Halves.{half_of}
use Rattle.machines.specs.Joints.{joint_of}
use Rattle.formulas.proofs.Checking.{formula_spell}
use Rattle.verdict.specs.Verdicts.{joint_holds, half_holds, check_joint_call, check_half_call, verdict_of, answered}
use Rattle.verdict.specs.Verdicts.{joint_verdict, half_verdict}
use Rattle.std.specs.Prelude.{Ok}

module _ (k : Labels) (f : List ℕ) (φ : Formula) (spelled : f ≡ spell φ []) (point : ℕ) where
  -- on a joint run
  pub joint-holds : (l r s : List ℕ)
      → joint_holds k l r s f point ≡ holds (beside (pairing k) (table_of l) (table_of r)) φ (stop point (joint_of s))
  unfolding joint_holds
  joint-holds l r s = rw (spelled, formula_spell φ)

  pub joint-given : (l r s : List ℕ) → check_joint_call k l r s f point ≡ Ok tt
      → joint_verdict k l r s f point ≡ verdict_of
      (holds (beside (pairing k) (table_of l) (table_of r)) φ (stop point (joint_of s)))
  unfolding joint_verdict answered
  joint-given l r s e = rw (e, joint-holds l r s)

  -- on a half
  pub half_holds_lem : (t h : List ℕ) → half_holds t h f point ≡ holds (table_of t) φ (stop point (half_of h))
  unfolding half_holds
  half_holds_lem t h = rw (spelled, formula_spell φ)

  pub half_given : (t h : List ℕ) → check_half_call k t h f point ≡ Ok tt
      → half_verdict k t h f point ≡ verdict_of (holds (table_of t) φ (stop point (half_of h)))
  unfolding half_verdict answered
  half_given t h e = rw (e, half_holds_lem t h)
