-- The loops that go on with an operand: what is left has the verdict of the whole, or the other one (`Going`, of the
-- search; `Turning`, of "not" alone).
use Prim.Native.Nat.{ℕ, ◌-◌, ◌%◌, ◌≤◌}
use mathlib.Core.Path.{◌≡◌, refl, sym, ◌∙◌, ap}
use mathlib.Core.Bool.{Bool, true, false, not as negate, false≢true, beq}
use mathlib.Core.List.{List}
use native.Mathlib.Omega.{arith}
use lib.ListN.{get_or, take}
use lib.Dec.{eqb}
use Rattle.hml.specs.System.{Run}
use Rattle.hml.specs.Formula.{not}
use Rattle.labels.specs.declared.label.Labels.{Labels}
use Rattle.machines.specs.Joints.{joint_of}
use Rattle.formulas.specs.Operators.{is_back}
use Rattle.formulas.specs.Working.{Tree}
use Rattle.formulas.proofs.Operators.{at}
use Rattle.formulas.proofs.Operands.{AndOr}
use Rattle.verdict.specs.Working.{Ready, Never, steps_back, judged, tree_at, text_of, operator_in, first_size_in}
use Rattle.verdict.proofs.Operands.{operator_read, operand_tree, not_ready, back_ready, second_ready}
use Rattle.verdict.proofs.Operands.{judged-top, judged-bottom, judged-not, judged_settled, judged_second}
use Rattle.verdict.proofs.Operands.{back_other, back_long, back-same}

-- "not" turns a verdict round
pub upright : (b : Bool) → beq b true ≡ b
upright true = refl
upright false = refl

pub turned : (b e : Bool) → beq b (negate e) ≡ beq (negate b) e
turned true true = refl
turned true false = refl
turned false true = refl
turned false false = refl

pub failing : (e : Bool) → negate e ≡ beq false e
failing true = refl
failing false = refl

-- going on with the operand of "not", the second one of "and" and "or", and the one of a back modality on the shorter
-- run: what is left has the verdict of the whole, or the other one where "not" stands an odd number of times before it
pub record Going (labels : Labels) (l r ws xs : List ℕ) (n₀ i₀ n i : ℕ) (even : Bool) : Type 0 where
  pub ready : Ready labels ws xs n 0 i
  pub shorter : i ≤ i₀
  pub same : beq (judged labels l r (tree_at ws i) (joint_of (take n xs))) even
      ≡ judged labels l r (tree_at ws i₀) (joint_of (take n₀ xs))

pub going_start : (labels : Labels) (l r ws xs : List ℕ) (n i : ℕ)
    → Ready labels ws xs n 0 i → Going labels l r ws xs n i n i true
going_start labels l r ws xs n i y = record { ready = y; shorter = omega arith; same = upright _ }

module _
    (labels : Labels) (l r ws xs : List ℕ) (n₀ i₀ n i : ℕ) (even : Bool)
    (g : Going labels l r ws xs n₀ i₀ n i even) where
  abbrev run : Run (ℕ × ℕ)
  run = joint_of (take n xs)

  abbrev whole : Bool
  whole = judged labels l r (tree_at ws i₀) (joint_of (take n₀ xs))

  pub going_end : (v : Bool) → v ≡ judged labels l r (tree_at ws i) run → beq v even ≡ whole
  going_end v p = ap (λ b. beq b even) p ∙ g.same

  pub going_not : operator_in (get_or ws i 0) ≡ 2 → Going labels l r ws xs n₀ i₀ n (i - 1) (negate even)
  going_not e = record {
    ready = not_ready labels ws xs n i g.ready e;
    shorter = omega (arith, g.shorter);
    same = turned (judged labels l r (tree_at ws (i - 1)) run) even
        ∙ going_end _ (judged-not labels l r ws i run g.ready.tree _ e refl);
  }

  -- a back modality
  module _ (o : is_back (operator_in (get_or ws i 0)) ≡ true) (b : Bool)
      (q : b ≡ steps_back (operator_in (get_or ws i 0)) (get_or ws i 0 % 256) xs n) where
    pub going_nowhere : b ≡ false → negate even ≡ whole
    going_nowhere e = failing even ∙ going_end false (back_other labels l r ws xs n i g.ready o b q e)

    pub going_long : b ≡ true → 5 ≤ n
    going_long e = back_long labels l r ws xs n i g.ready o b q e

    pub going_back : b ≡ true → Going labels l r ws xs n₀ i₀ (n - 3) (i - 1) even
    going_back e = record {
      ready = back_ready labels ws xs n i g.ready o (going_long e);
      shorter = omega (arith, g.shorter);
      same = going_end _ (back-same labels l r ws xs n i g.ready o b q e);
    }

  -- "and" and "or"
  module _ (o : AndOr (operator_in (get_or ws i 0))) (a : Bool) (p : a ≡ judged labels l r (tree_at ws (i - 1)) run) where
    pub going_settled : beq a (eqb (operator_in (get_or ws i 0)) 4) ≡ true → beq a even ≡ whole
    going_settled s = going_end a (judged_settled labels l r ws i run g.ready.tree g.ready.skips o a p s)

    pub going_on : beq a (eqb (operator_in (get_or ws i 0)) 4) ≡ false
        → Going labels l r ws xs n₀ i₀ n (i - 1 - first_size_in (get_or ws i 0)) even
    going_on s = record {
      ready = second_ready labels ws xs n i g.ready o;
      shorter = omega (arith, g.shorter);
      same = going_end _ (judged_second labels l r ws i run g.ready.tree g.ready.skips o a p s);
    }

-- the same of "not" alone, on every run
pub record Turning (ws : List ℕ) (i₀ i : ℕ) (even : Bool) : Type 0 where
  pub tree : Tree (text_of ws i)
  pub shorter : i ≤ i₀
  pub same : (k : Labels) (l r : List ℕ) (j : Run (ℕ × ℕ))
      → beq (judged k l r (tree_at ws i) j) even ≡ judged k l r (tree_at ws i₀) j

pub turning_start : (ws : List ℕ) (i : ℕ) → Tree (text_of ws i) → Turning ws i i true
turning_start ws i t = record { tree = t; shorter = omega arith; same = λ k l r j. upright _ }

module _ (ws : List ℕ) (i₀ i : ℕ) (even : Bool) (g : Turning ws i₀ i even) where
  pub turning_on : operator_in (get_or ws i 0) ≡ 2 → Turning ws i₀ (i - 1) (negate even)
  turning_on e = record {
    tree = operand_tree ws i g.tree not (at (text_of ws i) g.tree 2 (operator_read ws i g.tree ∙ e));
    shorter = omega (arith, g.shorter);
    same = λ k l r j. turned (judged k l r (tree_at ws (i - 1)) j) even
        ∙ ap (λ b. beq b even) (judged-not k l r ws i j g.tree _ e refl) ∙ g.same k l r j;
  }

  -- true behind an odd number of "not"s, and false behind an even one
  pub turning_top : operator_in (get_or ws i 0) ≡ 0 → negate even ≡ true → Never ws i₀
  unfolding Never
  turning_top e n k l r j =
      sym (odd even n) ∙ ap (λ b. beq b even) (judged-top k l r ws i j g.tree e) ∙ g.same k l r j
    where
      odd : (b : Bool) → negate b ≡ true → beq true b ≡ false
      odd true n = absurd (false≢true n)
      odd false n = refl

  pub turning_bottom : operator_in (get_or ws i 0) ≡ 1 → even ≡ true → Never ws i₀
  unfolding Never
  turning_bottom e n k l r j =
      ap (λ b. beq false b) (sym n)
      ∙ ap (λ b. beq b even) (judged-bottom k l r ws i j g.tree e) ∙ g.same k l r j
