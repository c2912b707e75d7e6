-- The nodes of a whole formula: each begins a tree, whose first node says what its size is made of; and the last nodes,
-- where they begin and what is behind their first one.
use Prim.Native.Nat.{ℕ, zero, suc, ◌+◌, ◌-◌, ◌*◌, ◌/◌, ◌≤◌, ◌<◌}
use mathlib.Core.Path.{◌≡◌, refl, sym, ◌∙◌, ap}
use mathlib.Core.Bool.{true, false, false≢true}
use mathlib.Core.List.{List, [], ◌∷◌}
use native.Mathlib.Omega.{arith}
use native.Mathlib.Nat.{add-zero}
use lib.ListN.{length, get_or, drop, length-drop}
use lib.Seq.{drop-drop, drop-length, get_or-drop}
use borrow.Author.Tests.{lt-leb}
use Rattle.hml.specs.Formula.{Formula, top, bottom, not, and, or, fwd, back, fwd_idle, back_idle, size}
use Rattle.hml.specs.Spell.{spell}
use Rattle.hml.proofs.Spelling.{length-spell}
use Rattle.formulas.specs.Working.{Tree, tree_size}
use Rattle.formulas.proofs.Measures.{spell-drop, size-some}
use Rattle.formulas.proofs.TreeSizes.{size-spell, size_room}
use Rattle.verdict.specs.Working.{has_two, Whole, last_nodes, size_by}

-- a tree's first node: its operator is in the table, its operands make its size, and "and" and "or" have no label and
-- room behind their first operand
pub record Node (f : List ℕ) : Type 0 where
  pub low : get_or f 0 0 ≤ 8
  pub sum : tree_size f
      ≡ size_by (get_or f 0 0) (tree_size (drop 2 f)) (tree_size (drop (2 * tree_size (drop 2 f)) (drop 2 f)))
  pub bare : has_two (get_or f 0 0) ≡ true → get_or f 1 0 ≡ 0
  pub room : has_two (get_or f 0 0) ≡ true → 4 + 2 * tree_size (drop 2 f) ≤ length f

-- a formula over one operand has a node more
spelled-sum : (φ ψ : Formula) (rest : List ℕ) → size φ ≡ 1 + size ψ
    → tree_size (spell φ rest) ≡ 1 + tree_size (spell ψ rest)
spelled-sum φ ψ rest e = omega (arith, size-spell φ rest, size-spell ψ rest)

-- a node with fewer operands than two
few : (o a : ℕ) (l : List ℕ) → o ≤ 8 → has_two o ≡ false
    → tree_size (o ∷ a ∷ l) ≡ size_by o (tree_size l) (tree_size (drop (2 * tree_size l) l)) → Node (o ∷ a ∷ l)
few o a l low one sum = record {
  low = low;
  sum = sum;
  bare = λ e. absurd (false≢true (sym one ∙ e));
  room = λ e. absurd (false≢true (sym one ∙ e));
}

-- a node with two: the second begins where the first one ends
two : (o : ℕ) (g : Formula → Formula → Formula) (φ ψ : Formula) (rest : List ℕ) → 2 ≤ o → o ≤ 8 → has_two o ≡ true
    → spell (g φ ψ) rest ≡ o ∷ 0 ∷ spell φ (spell ψ rest) → size (g φ ψ) ≡ 1 + size φ + size ψ
    → Node (o ∷ 0 ∷ spell φ (spell ψ rest))
unfolding size_by
two o g φ ψ rest high low both e s = record {
  low = low;
  sum =
      rw (lt-leb o 1 high, both, size-spell φ (spell ψ rest), spell-drop φ (spell ψ rest), size-spell ψ rest, ← e)
      (size-spell (g φ ψ) rest ∙ s);
  bare = λ h. refl;
  room = λ h. omega (
    arith,
    size-spell φ (spell ψ rest),
    length-spell φ (spell ψ rest),
    length-spell ψ rest,
    size-some ψ,
  );
}

-- the first node of a formula, then of any tree
spelled_node : (φ : Formula) (rest : List ℕ) → Node (spell φ rest)
unfolding spell size size_by has_two
spelled_node top rest = few 0 0 rest (omega arith) refl (size-spell top rest)
spelled_node bottom rest = few 1 0 rest (omega arith) refl (size-spell bottom rest)
spelled_node (not φ) rest =
    few 2 0 (spell φ rest) (omega arith) refl (spelled-sum (not φ) φ rest refl)
spelled_node (and φ ψ) rest = two 3 and φ ψ rest (omega arith) (omega arith) refl refl refl
spelled_node (or φ ψ) rest = two 4 or φ ψ rest (omega arith) (omega arith) refl refl refl
spelled_node (fwd a φ) rest =
    few 5 a (spell φ rest) (omega arith) refl (spelled-sum (fwd a φ) φ rest refl)
spelled_node (back a φ) rest =
    few 6 a (spell φ rest) (omega arith) refl (spelled-sum (back a φ) φ rest refl)
spelled_node (fwd_idle φ) rest =
    few 7 0 (spell φ rest) (omega arith) refl (spelled-sum (fwd_idle φ) φ rest refl)
spelled_node (back_idle φ) rest =
    few 8 0 (spell φ rest) (omega arith) refl (spelled-sum (back_idle φ) φ rest refl)

tree_node : (f : List ℕ) → Tree f → Node f
unfolding Tree
tree_node f (φ, rest, e) = rw e (spelled_node φ rest)

-- every node of these bytes begins a tree
abbrev Trees : List ℕ → Type 0
Trees l = (m : ℕ) → 2 * m < length l → Tree (drop (2 * m) l)

more-trees : (o a : ℕ) (l : List ℕ) → Tree (o ∷ a ∷ l) → Trees l → Trees (o ∷ a ∷ l)
more-trees o a l t h zero k = t
more-trees o a l t h (suc m) k = let e : 2 * suc m ≡ suc (suc (2 * m)) = omega arith in rw e (h m (omega arith))

-- those of a formula do if those behind it do
spelled-trees : (φ : Formula) (rest : List ℕ) → Trees rest → Trees (spell φ rest)
unfolding Tree spell
spelled-trees top rest h = more-trees 0 0 rest (top, rest, refl) h
spelled-trees bottom rest h = more-trees 1 0 rest (bottom, rest, refl) h
spelled-trees (not φ) rest h = more-trees 2 0 (spell φ rest) (not φ, rest, refl) (spelled-trees φ rest h)
spelled-trees (and φ ψ) rest h =
    more-trees 3 0 (spell φ (spell ψ rest)) (and φ ψ, rest, refl)
    (spelled-trees φ (spell ψ rest) (spelled-trees ψ rest h))
spelled-trees (or φ ψ) rest h =
    more-trees 4 0 (spell φ (spell ψ rest)) (or φ ψ, rest, refl)
    (spelled-trees φ (spell ψ rest) (spelled-trees ψ rest h))
spelled-trees (fwd a φ) rest h = more-trees 5 a (spell φ rest) (fwd a φ, rest, refl) (spelled-trees φ rest h)
spelled-trees (back a φ) rest h = more-trees 6 a (spell φ rest) (back a φ, rest, refl) (spelled-trees φ rest h)
spelled-trees (fwd_idle φ) rest h = more-trees 7 0 (spell φ rest) (fwd_idle φ, rest, refl) (spelled-trees φ rest h)
spelled-trees (back_idle φ) rest h = more-trees 8 0 (spell φ rest) (back_idle φ, rest, refl) (spelled-trees φ rest h)

-- the last n nodes: how many bytes they are, where they begin, and their own last nodes
module _ (f : List ℕ) where
  pub last-length : (n : ℕ) → 2 * n ≤ length f → length (last_nodes f n) ≡ 2 * n
  unfolding last_nodes
  last-length n h = omega (arith, length-drop (length f - 2 * n) f)

  pub last-from : (at n : ℕ) → length f ≡ at + 2 * n → last_nodes f n ≡ drop at f
  unfolding last_nodes
  last-from at n e = let z : length f - 2 * n ≡ at = omega arith in rw z

  pub last_none : last_nodes f 0 ≡ []
  last_none = last-from (length f) 0 (omega arith) ∙ drop-length f

  pub last-drop : (m n : ℕ) → m ≤ n → 2 * n ≤ length f → drop (2 * m) (last_nodes f n) ≡ last_nodes f (n - m)
  unfolding last_nodes
  last-drop m n h k =
      let z : length f - 2 * n + 2 * m ≡ length f - 2 * (n - m) = omega arith in
      drop-drop (2 * m) (length f - 2 * n) f ∙ ap (λ i. drop i f) z

  -- of a whole formula they begin a tree
  module _ (whole : Whole f) where
    pub whole_nodes : (length f ≡ 2 * (length f / 2)) × (length f ≤ 8192)
    unfolding Whole
    whole_nodes = let (φ, e, s) = whole in omega (arith, ap length e ∙ length-spell φ [], s)

    last_node : (n : ℕ) → 1 ≤ n → 2 * n ≤ length f → Node (last_nodes f n)
    unfolding Whole
    last_node n h k =
        let (φ, e, s) = whole in
        let m : ℕ = length f / 2 - n in
        let all : Trees f = rw e (spelled-trees φ [] (λ m l. absurd (omega arith))) in
        rw (last-from (2 * m) n (omega (arith, whole_nodes)))
        (tree_node (drop (2 * m) f) (all m (omega (arith, whole_nodes))))

    -- which has no more nodes than they are
    pub last_fits : (n : ℕ) → 2 * n ≤ length f → tree_size (last_nodes f n) ≤ n
    last_fits n k = omega (arith, size_room (last_nodes f n), last-length n k)

    -- a node's bytes stand at `at`, and m nodes are behind it
    module _ (at n m : ℕ) (e : length f ≡ at + 2 * n) (b : n ≡ m + 1) where
      pub here-few : (2 * n ≤ length f) × (n ≤ 4096)
      here-few = omega (arith, whole_nodes)

      pub here_node : Node (last_nodes f n)
      here_node = last_node n (omega arith) (omega arith)

      pub here-operator : get_or (last_nodes f n) 0 0 ≡ get_or f at 0
      here-operator = rw (last-from at n e) (get_or-drop at f 0 0 ∙ ap (λ i. get_or f i 0) (add-zero at))

      pub here_label : get_or (last_nodes f n) 1 0 ≡ get_or f (at + 1) 0
      here_label = rw (last-from at n e) (get_or-drop at f 1 0)

      pub here-behind : drop 2 (last_nodes f n) ≡ last_nodes f m
      here-behind =
          let z : n - 1 ≡ m = omega arith in last-drop 1 n (omega arith) (omega arith) ∙ ap (last_nodes f) z

      -- the first operand of "and" and "or" leaves a node at least for the second one
      pub here-room : has_two (get_or f at 0) ≡ true → tree_size (last_nodes f m) < m
      here-room h =
          let k = here_node.room (rw here-operator h) in
          let j : 4 + 2 * tree_size (last_nodes f m) ≤ length (last_nodes f n) = rw here-behind at k in
          omega (arith, j, last-length n (omega arith))
