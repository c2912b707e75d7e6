-- The cases of the table of operators, each from what the code knows at its return.
use Prim.Native.Nat.{ℕ, zero, suc, ◌≤◌, ◌<◌}
use mathlib.Core.Path.{◌≡◌, refl, sym, ◌∙◌}
use mathlib.Core.Logic.{⊎_elim}
use mathlib.Core.Bool.{true, false}
use native.Mathlib.Omega.{arith}
use Rattle.hml.specs.Lists.{present}
use Rattle.hml.proofs.Tests.{decides, decided_or, decided_same}
use Rattle.formulas.specs.Operators.{Operator, operator_of, takes_label}
use Rattle.formulas.specs.Working.{fits, node_by, node_of}
use Rattle.formulas.proofs.OperatorTable.{no_operator, label_numbers}
use Rattle.std.specs.Prelude.{None, Option, Some}

-- any label byte fits an operator that takes one; where none belongs it may not be set
module _ (o a : ℕ) where
  pub label_node : takes_label o ≡ true → Some 1 ≡ node_of o a
  unfolding node_of node_by
  label_node e =
      ⊎_elim (λ z. rw z) (λ z. rw z)
      ((decides (decided_or (decided_same o 5) (decided_same o 6))).0 (sym (label_numbers o) ∙ e))

  pub set_bad : (a ≡ 0 → ⊥) → takes_label o ≡ false → None ≡ node_of o a
  unfolding takes_label node_of node_by
  set_bad n e = go (operator_of o) e
    where
      set : (a : ℕ) → (a ≡ 0 → ⊥) → fits false a ≡ false
      set zero n = absurd (n refl)
      set (suc a) n = refl

      go : (w : Option Operator) → present (λ v. v.labelled) w ≡ false → None ≡ node_by w a
      go None e = refl
      go (Some v) e = rw (e, set a n)

pub leaf_node : (o : ℕ) → o ≤ 1 → Some 0 ≡ node_of o 0
unfolding node_of node_by
leaf_node zero h = refl
leaf_node (suc zero) h = refl
leaf_node (suc (suc o)) h = absurd (omega arith)

pub not_node : (o : ℕ) → o ≡ 2 → Some 1 ≡ node_of o 0
unfolding node_of node_by
not_node o e = rw e

pub binary_node : (o : ℕ) → 2 < o → o ≤ 4 → Some 2 ≡ node_of o 0
unfolding node_of node_by
binary_node o l h = go o (omega arith) (omega arith)
  where
    go : (o : ℕ) → 2 < o → o < 5 → Some 2 ≡ node_of o 0
    go zero l h = absurd (omega arith)
    go (suc zero) l h = absurd (omega arith)
    go (suc (suc zero)) l h = absurd (omega arith)
    go (suc (suc (suc zero))) l h = refl
    go (suc (suc (suc (suc zero)))) l h = refl
    go (suc (suc (suc (suc (suc o))))) l h = absurd (omega arith)

pub modal_node : (o : ℕ) → 4 < o → o ≤ 8 → Some 1 ≡ node_of o 0
unfolding node_of node_by
modal_node o l h = go o (omega arith) (omega arith)
  where
    go : (o : ℕ) → 4 < o → o < 9 → Some 1 ≡ node_of o 0
    go zero l h = absurd (omega arith)
    go (suc zero) l h = absurd (omega arith)
    go (suc (suc zero)) l h = absurd (omega arith)
    go (suc (suc (suc zero))) l h = absurd (omega arith)
    go (suc (suc (suc (suc zero)))) l h = absurd (omega arith)
    go (suc (suc (suc (suc (suc zero))))) l h = refl
    go (suc (suc (suc (suc (suc (suc zero)))))) l h = refl
    go (suc (suc (suc (suc (suc (suc (suc zero))))))) l h = refl
    go (suc (suc (suc (suc (suc (suc (suc (suc zero)))))))) l h = refl
    go (suc (suc (suc (suc (suc (suc (suc (suc (suc o))))))))) l h = absurd (omega arith)

pub above_node : (o : ℕ) → 8 < o → None ≡ node_of o 0
unfolding node_of node_by
above_node o h = rw (no_operator o (omega (arith, h)))

-- the nodes without a label byte
pub ruleset bare_nodes = (leaf_node, not_node, binary_node, modal_node, above_node)
