-- The first tree of some bytes by its operator: what it is made of, and where its operands begin.
use Prim.Native.Nat.{ℕ, zero, suc, ◌+◌, ◌*◌, ◌≤◌}
use mathlib.Core.Path.{◌≡◌, refl, sym, ◌∙◌, ap, subst}
use mathlib.Core.Logic.{⊎_elim}
use mathlib.Core.Bool.{true}
use mathlib.Core.List.{List}
use native.Mathlib.Omega.{arith}
use lib.ListN.{length, get_or, drop}
use Rattle.hml.specs.Formula.{Formula, top, bottom, not, and, or, fwd, back, fwd_idle, back_idle, size}
use Rattle.hml.specs.Spell.{spell}
use Rattle.hml.proofs.Spelling.{length-spell, parse-spell}
use Rattle.hml.proofs.Tests.{decides, decided_or, decided_same}
use Rattle.formulas.specs.Operators.{is_forward, is_back}
use Rattle.formulas.specs.Working.{Tree, tree_in, tree_of}
use Rattle.formulas.proofs.OperatorTable.{forward_numbers, back_numbers}
use Rattle.formulas.proofs.Measures.{spell-drop, size-some}

-- the first tree of what spells one is that
pub tree-spell : (φ : Formula) (rest : List ℕ) → tree_of (spell φ rest) ≡ φ
unfolding tree_of tree_in
tree-spell φ rest = rw (parse-spell φ rest)

-- a tree with one operand, which begins behind the first node
pub record Unary (f : List ℕ) (g : Formula → Formula) : Type 0 where
  pub is : tree_of f ≡ g (tree_of (drop 2 f))
  pub operand : Tree (drop 2 f)

-- a tree with two: "the second operand begins where the first one ends"
pub record Binary (f : List ℕ) (g : Formula → Formula → Formula) : Type 0 where
  pub is : tree_of f ≡ g (tree_of (drop 2 f)) (tree_of (drop (2 * size (tree_of (drop 2 f))) (drop 2 f)))
  pub first : Tree (drop 2 f)
  pub second : Tree (drop (2 * size (tree_of (drop 2 f))) (drop 2 f))
  pub room : 2 + 2 * size (tree_of (drop 2 f)) + 2 ≤ length f

-- the table of operators
abbrev pub At : ℕ → List ℕ → Type 0
At zero f = tree_of f ≡ top
At (suc zero) f = tree_of f ≡ bottom
At (suc (suc zero)) f = Unary f not
At (suc (suc (suc zero))) f = Binary f and
At (suc (suc (suc (suc zero)))) f = Binary f or
At (suc (suc (suc (suc (suc zero))))) f = Unary f (fwd (get_or f 1 0))
At (suc (suc (suc (suc (suc (suc zero)))))) f = Unary f (back (get_or f 1 0))
At (suc (suc (suc (suc (suc (suc (suc zero))))))) f = Unary f fwd_idle
At (suc (suc (suc (suc (suc (suc (suc (suc zero)))))))) f = Unary f back_idle
At (suc (suc (suc (suc (suc (suc (suc (suc (suc o))))))))) f = ⊥

one : (φ : Formula) (g : Formula → Formula) (rest : List ℕ) → drop 2 (spell (g φ) rest) ≡ spell φ rest
    → Unary (spell (g φ) rest) g
unfolding Tree
one φ g rest d =
    record { is = tree-spell (g φ) rest ∙ ap g (sym (tree-spell φ rest) ∙ ap tree_of (sym d)); operand = (φ, rest, d) }

two : (φ ψ : Formula) (g : Formula → Formula → Formula) (rest : List ℕ)
    → drop 2 (spell (g φ ψ) rest) ≡ spell φ (spell ψ rest) → size (g φ ψ) ≡ 1 + size φ + size ψ
    → Binary (spell (g φ ψ) rest) g
unfolding Tree
two φ ψ g rest d s =
    let e : tree_of (drop 2 (spell (g φ ψ) rest)) ≡ φ = ap tree_of d ∙ tree-spell φ (spell ψ rest) in
    let b : drop (2 * size φ) (drop 2 (spell (g φ ψ) rest)) ≡ spell ψ rest = ap (drop (2 * size φ)) d
    ∙ spell-drop φ (spell ψ rest) in
    record {
      is = rw (e, b, tree-spell ψ rest, tree-spell (g φ ψ) rest);
      first = (φ, spell ψ rest, d);
      second = rw e (ψ, rest, b);
      room = rw e (omega (arith, length-spell (g φ ψ) rest, s, size-some ψ));
    }

at_spell : (φ : Formula) (rest : List ℕ) → At (get_or (spell φ rest) 0 0) (spell φ rest)
unfolding spell size
at_spell top rest = tree-spell top rest
at_spell bottom rest = tree-spell bottom rest
at_spell (not φ) rest = one φ not rest refl
at_spell (and φ ψ) rest = two φ ψ and rest refl refl
at_spell (or φ ψ) rest = two φ ψ or rest refl refl
at_spell (fwd a φ) rest = one φ (fwd a) rest refl
at_spell (back a φ) rest = one φ (back a) rest refl
at_spell (fwd_idle φ) rest = one φ fwd_idle rest refl
at_spell (back_idle φ) rest = one φ back_idle rest refl

-- a tree by its operator's number
pub at : (f : List ℕ) → Tree f → (o : ℕ) → get_or f 0 0 ≡ o → At o f
unfolding Tree
at f (φ, rest, e) o h = subst (λ (o : ℕ). At o f) h (rw e (at_spell φ rest))

-- a tree whose operator looks forward, and one whose operator looks back, by the operators that do
pub data ForwardTree (f : List ℕ) : Type 0 where
  forward-label : get_or f 0 0 ≡ 5 → Unary f (fwd (get_or f 1 0)) → ForwardTree f
  forward-idle : get_or f 0 0 ≡ 7 → Unary f fwd_idle → ForwardTree f

pub data BackTree (f : List ℕ) : Type 0 where
  back-label : get_or f 0 0 ≡ 6 → Unary f (back (get_or f 1 0)) → BackTree f
  back-idle : get_or f 0 0 ≡ 8 → Unary f back_idle → BackTree f

module _ (f : List ℕ) (t : Tree f) where
  pub forward-tree : is_forward (get_or f 0 0) ≡ true → ForwardTree f
  forward-tree e =
      ⊎_elim (λ z. forward-label z (at f t 5 z)) (λ z. forward-idle z (at f t 7 z))
      ((decides (decided_or (decided_same _ 5) (decided_same _ 7))).0 (sym (forward_numbers _) ∙ e))

  pub back-tree : is_back (get_or f 0 0) ≡ true → BackTree f
  back-tree e =
      ⊎_elim (λ z. back-label z (at f t 6 z)) (λ z. back-idle z (at f t 8 z))
      ((decides (decided_or (decided_same _ 6) (decided_same _ 8))).0 (sym (back_numbers _) ∙ e))

-- a tree has a node
pub tree-some : (f : List ℕ) → Tree f → 2 * size (tree_of f) ≤ length f
unfolding Tree
tree-some f (φ, rest, e) = rw (e, tree-spell φ rest) (omega (arith, length-spell φ rest))

pub node_room : (f : List ℕ) → Tree f → 2 ≤ length f
node_room f t = omega (arith, tree-some f t, size-some (tree_of f))
