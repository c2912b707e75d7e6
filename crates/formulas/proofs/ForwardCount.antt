-- The count of forward modalities: node by node, and against the depth to which they nest.
use Prim.Native.Nat.{ℕ, suc, ◌+◌, ◌≤◌, ◌<◌}
use mathlib.Core.Path.{◌≡◌, refl, ap}
use mathlib.Core.Bool.{Bool, true, false, cond}
use mathlib.Core.List.{List, [], ◌∷◌, ◌++◌}
use native.Mathlib.Omega.{arith}
use lib.ListN.{length, get_or}
use Rattle.hml.specs.Formula.{Formula, top, bottom, not, and, or, fwd, back, fwd_idle, back_idle, nesting}
use Rattle.hml.specs.Spell.{spell}
use Rattle.formulas.specs.Operators.{is_forward}
use Rattle.formulas.specs.Working.{forwards_in, Tree, tree_of}
use Rattle.formulas.proofs.Operators.{tree-spell}

-- the first node and those behind it
pub node_forwards : (bs node next : List ℕ) → bs ≡ node ++ next → length node ≡ 2
    → forwards_in bs ≡ cond (is_forward (get_or node 0 0)) 1 0 + forwards_in next
unfolding forwards_in
node_forwards bs [] next e h = absurd (omega arith)
node_forwards bs (o ∷ []) next e h = absurd (omega arith)
node_forwards bs (o ∷ a ∷ []) next e h = ap forwards_in e
node_forwards bs (o ∷ a ∷ b ∷ node) next e h = absurd (omega arith)

-- no node is left
pub no_forwards : (bs : List ℕ) → length bs < 2 → forwards_in bs ≡ 0
unfolding forwards_in
no_forwards [] h = refl
no_forwards (o ∷ []) h = refl
no_forwards (o ∷ a ∷ bs) h = absurd (omega arith)

-- there are no more of them than bytes
pub forwards_few : (bs : List ℕ) → forwards_in bs ≤ length bs
unfolding forwards_in
forwards_few [] = omega arith
forwards_few (o ∷ []) = omega arith
forwards_few (o ∷ a ∷ bs) = go (is_forward o) (forwards_few bs)
  where
    go : (b : Bool) → forwards_in bs ≤ length bs → cond b 1 0 + forwards_in bs ≤ suc (suc (length bs))
    go true h = omega arith
    go false h = omega arith

-- the forward modalities of a formula nest no deeper than there are of them
pub spelled-nesting : (φ : Formula) (bs : List ℕ) → nesting φ + forwards_in bs ≤ forwards_in (spell φ bs)
unfolding forwards_in is_forward spell nesting
spelled-nesting top bs = omega arith
spelled-nesting bottom bs = omega arith
spelled-nesting (not φ) bs = omega (arith, spelled-nesting φ bs)
spelled-nesting (and φ ψ) bs = omega (arith, spelled-nesting φ (spell ψ bs), spelled-nesting ψ bs)
spelled-nesting (or φ ψ) bs = omega (arith, spelled-nesting φ (spell ψ bs), spelled-nesting ψ bs)
spelled-nesting (fwd a φ) bs = omega (arith, spelled-nesting φ bs)
spelled-nesting (back a φ) bs = omega (arith, spelled-nesting φ bs)
spelled-nesting (fwd_idle φ) bs = omega (arith, spelled-nesting φ bs)
spelled-nesting (back_idle φ) bs = omega (arith, spelled-nesting φ bs)

-- the same of the first tree of some bytes
pub nesting_forwards : (f : List ℕ) → Tree f → nesting (tree_of f) ≤ forwards_in f
unfolding Tree
nesting_forwards f (φ, bs, e) = rw (e, tree-spell φ bs) (omega (arith, spelled-nesting φ bs))
