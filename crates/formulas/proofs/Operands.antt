-- A formula's part whose trees' sizes are known: what it is made of, and its operands as parts again.
use Prim.Native.Nat.{ℕ, zero, suc, ◌+◌, ◌-◌, ◌*◌, ◌/◌, ◌≤◌, ◌<◌, max}
use mathlib.Core.Path.{◌≡◌, refl, sym, ◌∙◌, ap}
use mathlib.Core.Logic.{◌⊎◌, inl, inr, ⊎_elim}
use mathlib.Core.Bool.{Bool, true, false, cond, ◌&&◌, ◌||◌, or-false}
use mathlib.Core.List.{List, []}
use native.Mathlib.Omega.{arith}
use lib.ListN.{length, get_or, drop, length-drop}
use lib.Seq.{drop-drop}
use lib.Dec.{eqb, ltb, leb}
use borrow.Author.Tests.{le-ltb}
use Rattle.hml.proofs.Tests.{both_true, decides, decided_or, decided_same}
use Rattle.hml.specs.Lists.{present}
use Rattle.labels.specs.Labels.{count}
use Rattle.hml.specs.Formula.{Formula, and, or, fwd, back, fwd_idle, back_idle, size, nesting, labelled}
use Rattle.labels.proofs.Slices.{rest, rest_of}
use Rattle.labels.specs.declared.label.Labels.{Labels}
use Rattle.formulas.specs.Operators.{Operator, operator_of, is_operator, is_forward, is_back, is_modality}
use Rattle.formulas.specs.Operators.{is_connective}
use Rattle.formulas.specs.Working.{node_by, node_of, Tree, tree_of, Part, tree_size, sizes_over}
use Rattle.formulas.specs.Formulas.{Legal}
use Rattle.formulas.proofs.Measures.{size-some}
use Rattle.formulas.proofs.OperatorTable.{connective_numbers, operator_numbers}
use Rattle.formulas.proofs.Operators.{Unary, Binary, at, tree-spell, node_room, ForwardTree, BackTree}
use Rattle.formulas.proofs.Operators.{forward-label, forward-idle, back-label, back-idle}
use Rattle.formulas.proofs.Operators.{forward-tree, back-tree}
use Rattle.formulas.proofs.TreeSizes.{bad-size, size-spell, sized-room, sized-part, sized-first, sizes_over_lem}
use Rattle.formulas.proofs.Checking.{formula_length}
use Rattle.std.specs.Prelude.{None, Option, Some}

-- an operator with two operands is "and" or "or"
abbrev pub AndOr : ℕ → Type 0
AndOr o = (o ≡ 3) ⊎ (o ≡ 4)

abbrev pub connected : ℕ → Formula → Formula → Formula
connected o φ ψ = cond (eqb o 3) (and φ ψ) (or φ ψ)

-- the size of the first tree
pub tree-size : (f : List ℕ) → Tree f → tree_size f ≡ size (tree_of f)
unfolding Tree
tree-size f (φ, rest, e) = rw (e, size-spell φ rest, tree-spell φ rest)

module _ (sizes f : List ℕ) (p : Part sizes f) where
  -- the operand of an operator that has one
  pub operand_part : (g : Formula → Formula) → Unary f g → Part sizes (rest 2 f)
  operand_part g u = rw (rest_of 2 f) (record { tree = u.operand; sized = sized-part sizes f 1 p.sized })

  pub operand_is : (g : Formula → Formula) → Unary f g → tree_of f ≡ g (tree_of (rest 2 f))
  operand_is g u = rw (rest_of 2 f) u.is

  -- the operands of one that has two: the second begins where the first one ends, which the sizes tell
  module _ (o : AndOr (get_or f 0 0)) where
    two : Binary f (connected (get_or f 0 0))
    two = ⊎_elim
        (λ e. rw e (at f p.tree 3 e))
        (λ e. rw e (at f p.tree 4 e)) o

    pub first_part : Part sizes (rest 2 f)
    first_part = rw (rest_of 2 f) (record { tree = two.first; sized = sized-part sizes f 1 p.sized })

    pub size_read : (4 ≤ length f) × (length f / 2 - 2 < length sizes)
    size_read = omega (arith, two.room, size-some (tree_of (drop 2 f)), sized-room sizes f p.sized)

    module _ (m : ℕ) (e : m ≡ get_or sizes (length f / 2 - 2) 0) where
      first-size : m ≡ size (tree_of (drop 2 f))
      first-size =
          let l = length-drop 2 f in
          let i : length f / 2 - 2 ≡ length (drop 2 f) / 2 - 1 = omega (arith, l, size_read) in
          e ∙ ap (λ i. get_or sizes i 0) i ∙ sized-first sizes (drop 2 f) (sized-part sizes f 1 p.sized)
          (omega (arith, l, size_read))
          ∙ tree-size (drop 2 f) two.first

      second_begins : rest (2 * m + 2) f ≡ drop (2 * size (tree_of (drop 2 f))) (drop 2 f)
      second_begins =
          let i : 2 * m + 2 ≡ 2 + 2 * size (tree_of (drop 2 f)) = omega (arith, first-size) in
          rest_of (2 * m + 2) f ∙ ap (λ i. drop i f) i ∙ sym (drop-drop (2 * size (tree_of (drop 2 f))) 2 f)

      pub second_room : 2 * m + 2 ≤ length f
      second_room = omega (arith, two.room, first-size)

      pub second_part : Part sizes (rest (2 * m + 2) f)
      second_part = rw second_begins (record {
        tree = two.second;
        sized = sized-part sizes (drop 2 f) (size (tree_of (drop 2 f))) (sized-part sizes f 1 p.sized);
      })

      pub operands_are : tree_of f ≡ connected (get_or f 0 0) (tree_of (rest 2 f)) (tree_of (rest (2 * m + 2) f))
      operands_are = rw (second_begins, rest_of 2 f) two.is

-- a legal formula, with the sizes of its trees, is such a part, and looks ahead four steps at most
module _ (k : Labels) (limit : ℕ) (f : List ℕ) (legal : Legal k limit f) where
  pub legal_part : (sizes : List ℕ) → limit ≤ length sizes → Part (sizes_over f sizes) f
  unfolding Legal Tree
  legal_part sizes h =
      let (φ, e, s, l, d) = legal in
      record { tree = (φ, [], e); sized = sizes_over_lem f sizes (omega (arith, formula_length f φ e, s, h)) }

  pub legal_nesting : nesting (tree_of f) ≤ 4
  unfolding Legal
  legal_nesting = let (φ, e, s, l, d) = legal in omega (arith, ap nesting (ap tree_of e ∙ tree-spell φ []), d)

  pub legal_labels : labelled (count k) (tree_of f) ≡ true
  unfolding Legal
  legal_labels = let (φ, e, s, l, d) = legal in ap (labelled (count k)) (ap tree_of e ∙ tree-spell φ []) ∙ l

-- the modalities nest in a connective as deep as in one of its operands
pub nesting_connected : (o : ℕ) (φ ψ : Formula) → nesting (connected o φ ψ) ≡ max (nesting φ) (nesting ψ)
unfolding nesting
nesting_connected o φ ψ = go (eqb o 3)
  where
    go : (b : Bool) → nesting (cond b (and φ ψ) (or φ ψ)) ≡ max (nesting φ) (nesting ψ)
    go true = refl
    go false = refl

-- and its labels are in range if those of both operands are
pub labelled_connected : (n o : ℕ) (φ ψ : Formula) → labelled n (connected o φ ψ) ≡ (labelled n φ && labelled n ψ)
unfolding labelled
labelled_connected n o φ ψ = go (eqb o 3)
  where
    go : (b : Bool) → labelled n (cond b (and φ ψ) (or φ ψ)) ≡ (labelled n φ && labelled n ψ)
    go true = refl
    go false = refl

-- the operand of a modality: the modality nests so much deeper, and its operand's labels are in range if its own are
pub record Operand (f : List ℕ) (deeper : ℕ) : Type 0 where
  pub over : Formula → Formula
  pub tree : Unary f over
  pub nests : (φ : Formula) → nesting (over φ) ≡ deeper + nesting φ
  pub ranged : (n : ℕ) (φ : Formula) → labelled n (over φ) ≡ true → labelled n φ ≡ true

module _ (f : List ℕ) (t : Tree f) where
  pub forward_operand : is_forward (get_or f 0 0) ≡ true → Operand f 1
  unfolding nesting labelled
  forward_operand e = go (forward-tree f t e)
    where
      go : ForwardTree f → Operand f 1
      go (forward-label z u) = record {
        over = fwd (get_or f 1 0);
        tree = u;
        nests = λ φ. refl;
        ranged = λ n φ l. (both_true {a = leb (get_or f 1 0) n} {b = labelled n φ} l).1;
      }
      go (forward-idle z u) = record { over = fwd_idle; tree = u; nests = λ φ. refl; ranged = λ n φ l. l }

  pub back_operand : is_back (get_or f 0 0) ≡ true → Operand f 0
  unfolding nesting labelled
  back_operand e = go (back-tree f t e)
    where
      go : BackTree f → Operand f 0
      go (back-label z u) = record {
        over = back (get_or f 1 0);
        tree = u;
        nests = λ φ. omega arith;
        ranged = λ n φ l. (both_true {a = leb (get_or f 1 0) n} {b = labelled n φ} l).1;
      }
      go (back-idle z u) = record { over = back_idle; tree = u; nests = λ φ. omega arith; ranged = λ n φ l. l }

  -- the operator of a tree is in the table
  pub tree-operator : is_operator (get_or f 0 0) ≡ true
  unfolding is_operator node_of node_by
  tree-operator = go (operator_of (get_or f 0 0)) refl
    where
      go : (w : Option Operator) → operator_of (get_or f 0 0) ≡ w → present (λ x. true) w ≡ true
      go None e =
          absurd (omega (arith, bad-size f (node_room f t) (rw e), tree-size f t, size-some (tree_of f)))
      go (Some x) e = refl

  -- so it is true or false, a connective or a modality: what it is, by the tests that it failed
  any_class : (ltb (get_or f 0 0) 2 || (is_connective (get_or f 0 0) || is_modality (get_or f 0 0))) ≡ true
  any_class = sym (operator_numbers (get_or f 0 0)) ∙ tree-operator

  module _ (h : 2 ≤ get_or f 0 0) where
    larger_class : (is_connective (get_or f 0 0) || is_modality (get_or f 0 0)) ≡ true
    larger_class = rw (le-ltb (get_or f 0 0) 2 h) at any_class

    pub connective_operator : is_modality (get_or f 0 0) ≡ false → is_connective (get_or f 0 0) ≡ true
    connective_operator e = sym (or-false _) ∙ (rw e at larger_class)

    pub modality_operator : is_connective (get_or f 0 0) ≡ false → is_modality (get_or f 0 0) ≡ true
    modality_operator e = rw e at larger_class

-- a modality that does not look forward looks back
pub back-operator : (o : ℕ) → is_modality o ≡ true → is_forward o ≡ false → is_back o ≡ true
unfolding is_modality
back-operator o e n = rw n at e

-- a connective is "not", or has two operands
pub connectives : (o : ℕ) → is_connective o ≡ true → (o ≡ 2) ⊎ AndOr o
connectives o e =
    (decides (decided_or (decided_same o 2) (decided_or (decided_same o 3) (decided_same o 4)))).0
    (sym (connective_numbers o) ∙ e)

pub and-or : (o : ℕ) → is_connective o ≡ true → (o ≡ 2 → ⊥) → AndOr o
and-or o e n = ⊎_elim (λ z. absurd (n z)) (λ z. z) (connectives o e)

-- an operator below 2 is a leaf's, and none other is
pub leaf-operator : (o : ℕ) → o < 2 → (o ≡ 0) ⊎ (o ≡ 1)
leaf-operator zero h = inl refl
leaf-operator (suc zero) h = inr refl
leaf-operator (suc (suc o)) h = absurd (omega arith)

pub two_up : (o : ℕ) → (o ≡ 0 → ⊥) → (o ≡ 1 → ⊥) → 2 ≤ o
two_up zero a b = absurd (a refl)
two_up (suc zero) a b = absurd (b refl)
two_up (suc (suc o)) a b = omega arith
