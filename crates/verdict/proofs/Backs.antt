-- A back modality, the first node of a tree's bytes f, on the run in the first n bytes of xs, whatever moves there are.
use Prim.Native.Nat.{ℕ, ◌-◌, ◌≤◌, ◌<◌}
use mathlib.Core.Path.{◌≡◌, refl, sym, ◌∙◌, ap}
use mathlib.Core.Bool.{Bool, true, false, cond, ◌&&◌, false≢true}
use mathlib.Core.List.{List}
use native.Mathlib.Omega.{arith}
use lib.ListN.{get_or, take, drop}
use lib.Dec.{eqb, ltb, leb}
use borrow.Author.Tests.{leb-true, ltb-true, ltb-false, eqb-true, ne_eqb, le-ltb}
use Rattle.hml.proofs.Tests.{both_true}
use Rattle.hml.specs.System.{System, Run, ◌▸◌, move, idle}
use Rattle.hml.specs.Formula.{back, back_idle, labelled, holds}
use Rattle.halves.specs.Runs.{step_of}
use Rattle.machines.specs.Joints.{joint_of}
use Rattle.machines.specs.Working.{Held}
use Rattle.machines.proofs.Buffers.{held_empty, held_step}
use Rattle.formulas.specs.Operators.{is_back}
use Rattle.formulas.specs.Working.{Tree, tree_of}
use Rattle.formulas.proofs.Operators.{Unary, BackTree, back-label, back-idle, back-tree}
use Rattle.verdict.specs.Working.{steps_back}

-- a run whose last step fits has one
pub back_long : (xs : List ℕ) (n o a : ℕ) (b : Bool) → b ≡ steps_back o a xs n → b ≡ true → 5 ≤ n
unfolding steps_back
back_long xs n o a b g e = go (ltb n 5) refl
  where
    go : (t : Bool) → ltb n 5 ≡ t → 5 ≤ n
    go true q = absurd (false≢true (sym (g ∙ rw q) ∙ e))
    go false q = ltb-false n 5 q

module _
    (M : System (ℕ × ℕ)) (most : ℕ) (f xs : List ℕ) (n : ℕ) (t : Tree f) (few : most ≤ 254)
    (ranged : labelled most (tree_of f) ≡ true) (held : Held xs n) (o : is_back (get_or f 0 0) ≡ true) where
  -- on the empty run it fails
  back_empty : n < 5 → false ≡ holds M (tree_of f) (joint_of (take n xs))
  unfolding holds
  back_empty s = go (back-tree f t o)
    where
      go : BackTree f → false ≡ holds M (tree_of f) (joint_of (take n xs))
      go (back-label e u) = rw (u.is, held_empty xs n held s)
      go (back-idle e u) = rw (u.is, held_empty xs n held s)

  -- the verdict by the last step's label: 8 fits the mark of an idle, 6 its own label, which is no such mark
  abbrev fits : ℕ → Bool
  fits a = cond (eqb (get_or f 0 0) 8) (eqb a 255) (eqb a (get_or f 1 0))

  label_low : Unary f (back (get_or f 1 0)) → get_or f 1 0 ≤ 254
  unfolding labelled
  label_low u =
      let whole : (leb (get_or f 1 0) most && labelled most (tree_of (drop 2 f))) ≡ true =
      sym (ap (labelled most) u.is) ∙ ranged in
      omega (arith, few, leb-true (get_or f 1 0) most (both_true whole).0)

  -- the verdict that is due where the step is an idle or a move
  abbrev Due : ℕ → ℕ × ℕ → Run (ℕ × ℕ) → Bool → Type 0
  Due a u j b = holds M (tree_of f) (j ▸ cond b idle (move a u)) ≡ (fits a && holds M (tree_of (drop 2 f)) j)

  back_step : (a : ℕ) (u : ℕ × ℕ) (j : Run (ℕ × ℕ))
      → holds M (tree_of f) (j ▸ step_of a u) ≡ (fits a && holds M (tree_of (drop 2 f)) j)
  unfolding holds step_of
  back_step a u j = go (eqb a 255) refl (back-tree f t o)
    where
      idles : (b : Bool) → eqb a 255 ≡ b → get_or f 0 0 ≡ 8 → Unary f back_idle → Due a u j b
      idles true q e x = rw (x.is, e, q)
      idles false q e x = rw (x.is, e, q)

      moves : (b : Bool) → eqb a 255 ≡ b → get_or f 0 0 ≡ 6 → Unary f (back (get_or f 1 0)) → Due a u j b
      moves true q e x =
          rw (x.is, e, ne_eqb a (get_or f 1 0) (λ z. omega (arith, z, label_low x, eqb-true a 255 q)))
      moves false q e x = rw (x.is, e)

      go : (b : Bool) → eqb a 255 ≡ b → BackTree f → Due a u j b
      go b q (back-idle e x) = idles b q e x
      go b q (back-label e x) = moves b q e x

  back-judged : 5 ≤ n → holds M (tree_of f) (joint_of (take n xs))
      ≡ (fits (get_or xs (n - 3) 0) && holds M (tree_of (drop 2 f)) (joint_of (take (n - 3) xs)))
  back-judged s = rw (held_step xs n held s) (back_step (get_or xs (n - 3) 0) _ (joint_of (take (n - 3) xs)))

  -- as the code asks: a run too short, or another last step
  module _ (b : Bool) (g : b ≡ steps_back (get_or f 0 0) (get_or f 1 0) xs n) where
    pub back_other : b ≡ false → false ≡ holds M (tree_of f) (joint_of (take n xs))
    unfolding steps_back
    back_other e = go (ltb n 5) refl
      where
        go : (t : Bool) → ltb n 5 ≡ t → false ≡ holds M (tree_of f) (joint_of (take n xs))
        go true q = back_empty (ltb-true n 5 q)
        go false q =
            let unfit : fits (get_or xs (n - 3) 0) ≡ false = sym (g ∙ rw q) ∙ e in
            rw (back-judged (ltb-false n 5 q), unfit)

    pub back-same : b ≡ true
        → holds M (tree_of (drop 2 f)) (joint_of (take (n - 3) xs)) ≡ holds M (tree_of f) (joint_of (take n xs))
    unfolding steps_back
    back-same e =
        let long = back_long xs n (get_or f 0 0) (get_or f 1 0) b g e in
        let fit : fits (get_or xs (n - 3) 0) ≡ true = sym (g ∙ rw (le-ltb n 5 long)) ∙ e in
        rw (back-judged long, fit)
