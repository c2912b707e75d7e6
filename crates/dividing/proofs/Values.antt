-- How large the value of an answer can be.
use Prim.Native.Nat.{ℕ, ◌*◌, ◌≤◌}
use mathlib.Core.Path.{◌≡◌, refl}
use native.Mathlib.Omega.{arith}
use borrow.Author.Tests.{ltb-false}
use Rattle.hml.specs.Formula.{Formula}
use Rattle.labels.specs.Refusals.{value_answer, first_of, Check}
use Rattle.labels.proofs.Refusals.{both_sound, unrefused}
use Rattle.labels.proofs.Answers.{Within, none, next}
use Rattle.formulas.specs.Formulas.{quotient_limit}
use Rattle.dividing.specs.Quotients.{nodes_of, check_size, check_tree, written, answer_of, quotient_answer}
use Rattle.std.specs.Prelude.{Err, Ok, Option}

-- whatever the checks of a call's parts say, and whatever the tree is
module _ (parts : Check) (tree : Option Formula) (room : ℕ) where
  -- a tree that no check refuses has at most 4,096 nodes
  tree_most : check_tree parts tree room ≡ Ok tt → nodes_of tree ≤ quotient_limit
  unfolding check_tree check_size first_of
  tree_most e =
      let (_, a) = both_sound parts _ e in
      let (b, _) = both_sound (check_size tree) _ a in
      ltb-false _ _ (unrefused _ _ b)

  -- of a quotient: at most 8,192
  pub quotient-within : Within (2 * quotient_limit) (quotient_answer (answer_of parts tree room)).values
  unfolding answer_of value_answer
  quotient-within = go (check_tree parts tree room) refl
    where
      go : (c : Check) → check_tree parts tree room ≡ c
          → Within (2 * quotient_limit) (quotient_answer (written c (2 * nodes_of tree))).values
      go (Ok _) e = let h : 2 * nodes_of tree ≤ 2 * quotient_limit = omega (arith, tree_most e) in next h none
      go (Err x) e = none
