-- A forward modality by a label: the rows of the left, the rows of the right, and for label 0 each handshake.
use Prim.Native.Nat.{ℕ, ◌+◌, ◌-◌}
use mathlib.Core.Path.{◌≡◌, refl, sym, ◌∙◌, ap, ap₂}
use mathlib.Core.Bool.{Bool, true, false, ◌&&◌, ◌||◌, and-false}
use mathlib.Core.List.{List}
use lib.ListN.{get_or, drop}
use borrow.Author.Tests.{eq-eqb, ne_eqb, eqb-true}
use Rattle.hml.specs.Lists.{same, any, present}
use Rattle.hml.proofs.Tests.{apart, denied, decided_same, decided_alike, and_cong}
use Rattle.hml.proofs.Lists.{any_cong, any_false}
use Rattle.hml.specs.System.{Run, ◌▸◌, move, last, Pairing}
use Rattle.hml.specs.Formula.{Formula, fwd, holds}
use Rattle.hml.specs.Compose.{shakes, beside}
use Rattle.hml.proofs.Composition.{decided_shakes, beside_composed, Composed}
use Rattle.labels.specs.Labels.{partner_found, pairing}
use Rattle.labels.specs.declared.label.Labels.{Labels}
use Rattle.labels.proofs.Labels.{found_some, found_none}
use Rattle.halves.specs.Runs.{step_of}
use Rattle.hml.specs.Labels.{positive}
use Rattle.verdict.proofs.TwoGrids.{first_pair}
use Rattle.verdict.specs.Working.{Shown, pairs_in, grid_of, judged, tried, shaken}
use Rattle.std.specs.Prelude.{None, Option, Some}

-- the handshakes, by the rows of the left
module _ (P : Pairing) (F : ℕ → ℕ → Bool) (rights : List (ℕ × ℕ)) (g : List ℕ) (at rows : ℕ) where
  abbrev shakes_at : Bool
  shakes_at = present (λ b. tried (F (get_or g (at + 1) 0)) b rights) (P.partner (get_or g at 0))

  pub shaken-none : rows ≡ 0 → false ≡ shaken P F (pairs_in rows (drop at g)) rights
  unfolding shaken pairs_in
  shaken-none e = rw e

  module _ (n : rows ≡ 0 → ⊥) where
    shaken-first : shaken P F (pairs_in rows (drop at g)) rights
        ≡ (shakes_at || shaken P F (pairs_in (rows - 1) (drop (at + 2) g)) rights)
    unfolding shaken
    shaken-first = rw (first_pair g at rows (positive rows n))

    pub shaken_hit : true ≡ shakes_at → true ≡ shaken P F (pairs_in rows (drop at g)) rights
    shaken_hit p = rw (shaken-first, ← p)

    pub shaken_miss : (v : Bool) → false ≡ shakes_at
        → v ≡ shaken P F (pairs_in (rows - 1) (drop (at + 2) g)) rights
        → v ≡ shaken P F (pairs_in rows (drop at g)) rights
    shaken_miss v q p = rw (shaken-first, ← q) p

-- by what the lookup of a partner found
pub partner-tried : (F : ℕ → Bool) (o : Option ℕ) (b : ℕ) (v : Bool)
    → Some (record { 0 = b }) ≡ partner_found o → v ≡ F b → v ≡ present F o
partner-tried F o b v e p = rw (found_some o (record { 0 = b }) e) p

pub nobody_tried : (F : ℕ → Bool) (o : Option ℕ) → None ≡ partner_found o → false ≡ present F o
nobody_tried F o e = rw (found_none o e)

-- a move whose label is the other's partner shakes hands
shakes-tried : (P : Pairing) (F : ℕ → Bool) (a : ℕ) (moves : List (ℕ × ℕ))
    → any (λ n. shakes P a n.0 && F n.1) moves ≡ present (λ b. tried F b moves) (P.partner a)
unfolding tried
shakes-tried P F a moves = go (P.partner a) refl
  where
    go : (o : Option ℕ) → P.partner a ≡ o
        → any (λ n. shakes P a n.0 && F n.1) moves
        ≡ present (λ b. any (λ n. same n.0 b && F n.1) moves) o
    go None e =
        any_cong (λ v. ap (◌&& F v.1) (denied (decided_shakes P a v.0) (λ w. let z = sym e ∙ w in apart cc)))
        moves
        ∙ any_false moves
    go (Some b) e = any_cong (λ v. ap (◌&& F v.1) (alike v.0)) moves
      where
        alike : (c : ℕ) → shakes P a c ≡ same c b
        alike c = decided_alike
            (λ w. let z = sym w ∙ e in cc)
            (λ w. e ∙ ap Some (sym w))
            (decided_shakes P a c)
            (decided_same c b)

-- the label that a move shows is read back as a move
shown_step : (a : ℕ) (u : ℕ × ℕ) → Shown a → step_of a u ≡ move a u
unfolding step_of
shown_step a u n = rw (ne_eqb a 255 n)

-- what holds nowhere holds after no step
pub forward-none : (labels : Labels) (l r : List ℕ) (φ : Formula) (j : Run (ℕ × ℕ)) (a : ℕ)
    → ((i : Run (ℕ × ℕ)) → false ≡ judged labels l r φ i) → false ≡ judged labels l r (fwd a φ) j
unfolding judged holds
forward-none labels l r φ j a never =
    let steps = beside (pairing labels) (grid_of l) (grid_of r) (last j) in
    sym (any_cong (λ (m : ℕ × (ℕ × ℕ)). fails m.0 m.1) steps ∙ any_false steps)
  where
    fails : (c : ℕ) (u : ℕ × ℕ) → (same c a && judged labels l r φ (j ▸ move c u)) ≡ false
    fails c u = ap (same c a &&◌) (sym (never (j ▸ move c u))) ∙ and-false (same c a)

module _
    (labels : Labels) (l r : List ℕ) (φ : Formula) (j : Run (ℕ × ℕ)) (a p q : ℕ)
    (shown : Shown a) (ends : last j ≡ (p, q)) where
  -- the verdict after one step more
  abbrev after : ℕ → ℕ → ℕ → Bool
  after c x y = judged labels l r φ (j ▸ step_of c (x, y))

  -- one side alone, by the targets that it leads to
  alone_tried : (f : ℕ → ℕ × ℕ) (moves : List (ℕ × ℕ))
      → any (λ m. same m.0 a && judged labels l r φ (j ▸ move m.0 (f m.1))) moves
      ≡ tried (λ x. judged labels l r φ (j ▸ step_of a (f x))) a moves
  unfolding tried
  alone_tried f moves =
      any_cong (λ m. and_cong (same m.0 a) (λ e. ap (λ s. judged labels l r φ (j ▸ s)) (stepped m e))) moves
    where
      stepped : (m : ℕ × ℕ) → same m.0 a ≡ true → move m.0 (f m.1) ≡ step_of a (f m.1)
      stepped m e = ap (λ c. move c (f m.1)) (eqb-true m.0 a e) ∙ sym (shown_step a (f m.1) shown)

  abbrev shaking : Bool → Bool
  shaking b = any (λ m. any (λ n. shakes (pairing labels) m.0 n.0
      && (b && judged labels l r φ (j ▸ move 0 (m.1, n.1)))) (grid_of r q)) (grid_of l p)

  handshakes-shaken : shaking (same 0 a)
      ≡ (same 0 a && shaken (pairing labels) (after 0) (grid_of l p) (grid_of r q))
  unfolding shaken step_of
  handshakes-shaken = go (same 0 a)
    where
      go : (b : Bool) → shaking b ≡ (b && shaken (pairing labels) (after 0) (grid_of l p) (grid_of r q))
      go true = any_cong (λ m. shakes-tried (pairing labels) (after 0 m.1) m.0 (grid_of r q)) (grid_of l p)
      go false =
          any_cong (λ m. none m.0) (grid_of l p) ∙ any_false (grid_of l p)
        where
          none : (c : ℕ) → any (λ n. shakes (pairing labels) c n.0 && false) (grid_of r q) ≡ false
          none c = any_cong (λ n. and-false (shakes (pairing labels) c n.0)) (grid_of r q) ∙ any_false (grid_of r q)

  forward-tried : judged labels l r (fwd a φ) j
      ≡ (tried (λ x. after a x q) a (grid_of l p)
      || (tried (λ y. after a p y) a (grid_of r q)
      || (same 0 a && shaken (pairing labels) (after 0) (grid_of l p) (grid_of r q))))
  unfolding judged holds Composed
  forward-tried =
      let here : ℕ × (ℕ × ℕ) → Bool = λ m. same m.0 a && judged labels l r φ (j ▸ move m.0 m.1) in
      ap (λ u. any here (beside (pairing labels) (grid_of l) (grid_of r) u)) ends
      ∙ beside_composed (pairing labels) (grid_of l) (grid_of r) here p q
      ∙ ap₂ (λ x y. x || y) (alone_tried (λ x. (x, q)) (grid_of l p))
      (ap₂ (λ x y. x || y) (alone_tried (λ y. (p, y)) (grid_of r q)) handshakes-shaken)

  -- the cases of the search
  module _ (x : Bool) (px : x ≡ tried (λ s. after a s q) a (grid_of l p)) where
    pub forward-left : x ≡ true → true ≡ judged labels l r (fwd a φ) j
    forward-left e = rw (forward-tried, ← px, e)

    module _ (y : Bool) (py : y ≡ tried (λ s. after a p s) a (grid_of r q)) (ex : x ≡ false) where
      pub forward-right : y ≡ true → true ≡ judged labels l r (fwd a φ) j
      forward-right e = rw (forward-tried, ← px, ex, ← py, e)

      -- a label other than 0 has no handshakes
      pub forward_loud : y ≡ false → (a ≡ 0 → ⊥) → false ≡ judged labels l r (fwd a φ) j
      forward_loud e n = rw (forward-tried, ← px, ex, ← py, e, ne_eqb 0 a (λ z. n (sym z)))

      pub forward-shaken : y ≡ false → a ≡ 0 → (v : Bool)
          → v ≡ shaken (pairing labels) (after 0) (grid_of l p) (grid_of r q)
          → v ≡ judged labels l r (fwd a φ) j
      forward-shaken e z v pv = rw (forward-tried, ← px, ex, ← py, e, eq-eqb 0 a (sym z)) pv
