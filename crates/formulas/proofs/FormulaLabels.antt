-- The label bytes of a formula: no label is above n exactly if no label byte is.
use Prim.Native.Nat.{ℕ, ◌<◌}
use mathlib.Core.Path.{◌≡◌, refl, sym, ◌∙◌, ap}
use mathlib.Core.Bool.{true, ◌&&◌, and_assoc}
use mathlib.Core.List.{List, [], ◌∷◌, ◌++◌}
use native.Mathlib.Omega.{arith}
use lib.ListN.{length, get_or}
use lib.Dec.{leb}
use borrow.Author.Tests.{le-leb}
use Rattle.hml.specs.Formula.{Formula, top, bottom, not, and, or, fwd, back, fwd_idle, back_idle, labelled}
use Rattle.hml.specs.Spell.{spell}
use Rattle.formulas.specs.Working.{labels_fit}

module _ (n : ℕ) where
  -- the first node and those behind it
  pub node_label : (bs node next : List ℕ) → bs ≡ node ++ next → length node ≡ 2
      → labels_fit n bs ≡ (leb (get_or node 1 0) n && labels_fit n next)
  unfolding labels_fit
  node_label bs [] next e h = absurd (omega arith)
  node_label bs (o ∷ []) next e h = absurd (omega arith)
  node_label bs (o ∷ a ∷ []) next e h = ap (labels_fit n) e
  node_label bs (o ∷ a ∷ b ∷ node) next e h = absurd (omega arith)

  -- no node is left
  pub no_label : (bs : List ℕ) → length bs < 2 → labels_fit n bs ≡ true
  unfolding labels_fit
  no_label [] h = refl
  no_label (o ∷ []) h = refl
  no_label (o ∷ a ∷ bs) h = absurd (omega arith)

  zero-fits : leb 0 n ≡ true
  zero-fits = le-leb 0 n (omega arith)

  -- the label bytes of a formula that is spelled
  pub spelled-labels : (φ : Formula) (bs : List ℕ) → labels_fit n (spell φ bs) ≡ (labelled n φ && labels_fit n bs)
  unfolding labels_fit spell labelled
  spelled-labels top bs = rw zero-fits
  spelled-labels bottom bs = rw zero-fits
  spelled-labels (not φ) bs = rw zero-fits (spelled-labels φ bs)
  spelled-labels (and φ ψ) bs =
      rw zero-fits (spelled-labels φ (spell ψ bs) ∙ ap (labelled n φ &&◌) (spelled-labels ψ bs)
      ∙ sym (and_assoc (labelled n φ) (labelled n ψ) (labels_fit n bs)))
  spelled-labels (or φ ψ) bs =
      rw zero-fits (spelled-labels φ (spell ψ bs) ∙ ap (labelled n φ &&◌) (spelled-labels ψ bs)
      ∙ sym (and_assoc (labelled n φ) (labelled n ψ) (labels_fit n bs)))
  spelled-labels (fwd a φ) bs =
      ap (leb a n &&◌) (spelled-labels φ bs) ∙ sym (and_assoc (leb a n) (labelled n φ) (labels_fit n bs))
  spelled-labels (back a φ) bs =
      ap (leb a n &&◌) (spelled-labels φ bs) ∙ sym (and_assoc (leb a n) (labelled n φ) (labels_fit n bs))
  spelled-labels (fwd_idle φ) bs = rw zero-fits (spelled-labels φ bs)
  spelled-labels (back_idle φ) bs = rw zero-fits (spelled-labels φ bs)
