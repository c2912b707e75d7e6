-- Chains: what is left of the formula has the verdict of the whole, or the other one.
use Prim.Native.Nat.{ℕ, ◌+◌, ◌-◌, ◌≤◌}
use mathlib.Core.Path.{◌≡◌, refl, ◌∙◌, ap}
use mathlib.Core.Bool.{Bool, true, false, not as negate, beq}
use mathlib.Core.List.{List, []}
use native.Mathlib.Omega.{arith}
use native.Mathlib.Nat.{add-zero}
use lib.ListN.{length, get_or, take, drop, length-drop}
use lib.Seq.{drop-drop, get_or-drop}
use Rattle.hml.specs.System.{System, Run}
use Rattle.hml.specs.Formula.{not, labelled, holds}
use Rattle.labels.specs.Labels.{count}
use Rattle.labels.proofs.Labels.{count_most}
use Rattle.labels.specs.declared.label.Labels.{Labels}
use Rattle.machines.specs.Joints.{joint_of}
use Rattle.machines.specs.Working.{Held}
use Rattle.machines.proofs.Buffers.{held_shorter}
use Rattle.formulas.specs.Formulas.{quotient_limit, Legal}
use Rattle.formulas.specs.Operators.{is_back}
use Rattle.formulas.specs.Working.{Tree, tree_of}
use Rattle.formulas.proofs.Operators.{Unary, at, node_room}
use Rattle.formulas.proofs.Operands.{back_operand, legal_labels}
use Rattle.verdict.specs.Working.{steps_back, Tells}
use Rattle.verdict.proofs.Backs.{back_other, back_long, back-same}
use Rattle.verdict.proofs.Going.{upright, turned, failing}
use Rattle.std.specs.Prelude.{Option, Some}

-- what is left begins at `place`, and is judged on the run in the first n bytes
pub record Chain (k : Labels) (f xs : List ℕ) (n₀ place n : ℕ) (even : Bool) : Type 0 where
  pub tree : Tree (drop place f)
  pub ranged : labelled (count k) (tree_of (drop place f)) ≡ true
  pub held : Held xs n
  pub short : n ≤ n₀
  pub same : (M : System (ℕ × ℕ)) → beq (holds M (tree_of (drop place f)) (joint_of (take n xs))) even
      ≡ holds M (tree_of f) (joint_of (take n₀ xs))

pub chain_start : (k : Labels) (f xs : List ℕ) (n : ℕ) → Legal k quotient_limit f → Held xs n
    → Chain k f xs n 0 n true
unfolding Legal Tree
chain_start k f xs n legal h = record {
  tree = let (φ, e, s, l, d) = legal in (φ, [], e);
  ranged = legal_labels k quotient_limit f legal;
  held = h;
  short = omega arith;
  same = λ M. upright _;
}

-- a verdict that is told is so
tells : (f : List ℕ) (j : Run (ℕ × ℕ)) (b : Bool) (r : Option Bool) → r ≡ Some b
    → ((M : System (ℕ × ℕ)) → b ≡ holds M (tree_of f) j) → Tells r f j
unfolding Tells
tells f j true r e h = rw e h
tells f j false r e h = rw e h

module _ (k : Labels) (f xs : List ℕ) (n₀ place n : ℕ) (even : Bool) (g : Chain k f xs n₀ place n even) where
  pub chain_room : place + 2 ≤ length f
  chain_room = omega (arith, node_room (drop place f) g.tree, length-drop place f)

  operator-here : get_or (drop place f) 0 0 ≡ get_or f place 0
  operator-here = get_or-drop place f 0 0 ∙ ap (λ i. get_or f i 0) (add-zero place)

  label-here : get_or (drop place f) 1 0 ≡ get_or f (place + 1) 0
  label-here = get_or-drop place f 1 0

  behind-here : drop 2 (drop place f) ≡ drop (place + 2) f
  behind-here = drop-drop 2 place f

  chain_end : (M : System (ℕ × ℕ)) (v : Bool) → v ≡ holds M (tree_of (drop place f)) (joint_of (take n xs))
      → beq v even ≡ holds M (tree_of f) (joint_of (take n₀ xs))
  chain_end M v p = ap (λ b. beq b even) p ∙ g.same M

  upright_end : (b : Bool) → b ≡ beq true b
  upright_end true = refl
  upright_end false = refl

  pub chain_true : get_or f place 0 ≡ 0 → (r : Option Bool) → r ≡ Some even → Tells r f (joint_of (take n₀ xs))
  unfolding holds
  chain_true e r p =
      tells f _ even r p (λ M. upright_end even
      ∙ chain_end M true (rw (at (drop place f) g.tree 0 (operator-here ∙ e))))

  pub chain_false : get_or f place 0 ≡ 1 → (r : Option Bool) → r ≡ Some (negate even) → Tells r f (joint_of (take n₀ xs))
  unfolding holds
  chain_false e r p =
      tells f _ (negate even) r p (λ M. failing even
      ∙ chain_end M false (rw (at (drop place f) g.tree 1 (operator-here ∙ e))))

  pub chain_not : get_or f place 0 ≡ 2 → Chain k f xs n₀ (place + 2) n (negate even)
  unfolding holds labelled
  chain_not e =
      let u : Unary (drop place f) not = at (drop place f) g.tree 2 (operator-here ∙ e) in
      let tree = u.operand in
      let is = u.is in
      let ranged = g.ranged in
      record {
        tree = rw behind-here at tree;
        ranged = rw (is, behind-here) at ranged;
        held = g.held;
        short = g.short;
        same = λ M. turned (holds M (tree_of (drop (place + 2) f)) (joint_of (take n xs))) even
            ∙ chain_end M (negate (holds M (tree_of (drop (place + 2) f)) (joint_of (take n xs)))) (rw (is, behind-here));
      }

  -- a back modality
  module _ (o : is_back (get_or f place 0) ≡ true) (b : Bool)
      (q : b ≡ steps_back (get_or f place 0) (get_or f (place + 1) 0) xs n) where
    back-here : is_back (get_or (drop place f) 0 0) ≡ true
    back-here = rw operator-here o

    asked : b ≡ steps_back (get_or (drop place f) 0 0) (get_or (drop place f) 1 0) xs n
    asked = rw (operator-here, label-here) q

    pub chain_nowhere : b ≡ false → (r : Option Bool) → r ≡ Some (negate even) → Tells r f (joint_of (take n₀ xs))
    chain_nowhere e r p =
        tells f _ (negate even) r p (λ M. failing even
        ∙ chain_end M false
        (back_other M (count k) (drop place f) xs n g.tree (count_most k) g.ranged g.held back-here b asked e))

    pub chain_long : b ≡ true → 5 ≤ n
    chain_long e = back_long xs n _ _ b q e

    pub chain_back : b ≡ true → Chain k f xs n₀ (place + 2) (n - 3) even
    chain_back e =
        let x = back_operand (drop place f) g.tree back-here in
        let tree = x.tree.operand in
        let is = x.tree.is in
        let ranged = g.ranged in
        record {
          tree = rw behind-here at tree;
          ranged = x.ranged (count k) _ (rw (is, behind-here) at ranged);
          held = held_shorter xs n g.held (chain_long e);
          short = omega (arith, g.short);
          same = λ M. chain_end M (holds M (tree_of (drop (place + 2) f)) (joint_of (take (n - 3) xs))) (rw (← behind-here)
              (back-same M (count k) (drop place f) xs n g.tree (count_most k) g.ranged g.held back-here b asked e));
        }
