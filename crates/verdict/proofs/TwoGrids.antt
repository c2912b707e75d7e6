-- Both tables' grids in one list: how they get there, whose verdicts they give, and the rows in them.
use Prim.Native.Nat.{ℕ, suc, ◌+◌, ◌-◌, ◌*◌, ◌≤◌, ◌<◌}
use mathlib.Core.Path.{◌≡◌, refl, sym, ◌∙◌, ap, ap₂, fun_ext}
use mathlib.Core.Bool.{Bool, true, false}
use mathlib.Core.List.{List, [], ◌∷◌, ◌++◌, append-nil}
use native.Mathlib.Omega.{arith}
use native.Mathlib.Nat.{add-zero}
use lib.ListN.{length, get_or, take, drop, replicate, length-append, length-drop, length-replicate, get_or-eq_default}
use lib.Seq.{get_or-take, get_or-drop, take_at, drop_at, drop-drop, drop-length}
use borrow.Author.Tests.{eq-eqb, ne_eqb}
use borrow.Rule.Slice.PartMut.{put_mid, post_of, Post-is}
use Rattle.hml.specs.System.{Run}
use Rattle.hml.specs.Formula.{Formula, nesting, holds}
use Rattle.hml.proofs.Past.{holds_past}
use Rattle.hml.specs.Compose.{beside}
use Rattle.labels.specs.Labels.{pairing}
use Rattle.labels.specs.declared.label.Labels.{Labels}
use Rattle.labels.proofs.Slices.{rest, rest_of}
use Rattle.tables.specs.Tables.{table_of}
use Rattle.verdict.specs.Working.{Grid, TwoGrids, Inside, pairs_in, grid_of, grid_by, start_of, left_in, right_in}
use Rattle.verdict.specs.Working.{tried, judged, tables_hold}
use Rattle.halves.specs.declared.side.Known.{Known as Mover}
use Rattle.halves.specs.declared.side.Known.TheVariants as mover
use Rattle.verdict.proofs.FilledGrids.{pairs-same, zeros_at}

-- the verdict of grids is that of tables: where the formula looks at no rows, and where the grids have them
module _ (k : Labels) (l r gl gr : List ℕ) (φ : Formula) (j : Run (ℕ × ℕ)) where
  pub unread_judged : nesting φ ≡ 0 → judged k gl gr φ j ≡ tables_hold k l r φ j
  unfolding judged tables_hold
  unread_judged e = holds_past _ _ φ j e

  pub filled_judged : ((p : ℕ) → grid_of gl p ≡ table_of l p) → ((p : ℕ) → grid_of gr p ≡ table_of r p)
      → judged k gl gr φ j ≡ tables_hold k l r φ j
  unfolding judged tables_hold
  filled_judged el er = ap₂ (λ L R. holds (beside (pairing k) L R) φ j) (fun_ext el) (fun_ext er)

-- the left's grid is written into the first half of an empty list, then the right's into the rest of it
abbrev with_left : List ℕ → List ℕ → List ℕ
with_left g a = a ++ drop 1088 g

abbrev with_both : List ℕ → List ℕ → List ℕ → List ℕ
with_both g a b = put_mid 1088 (length (with_left g a) - 1088) (with_left g a) b

module _ (g : List ℕ) (e : g ≡ replicate 2176 0) where
  pub empty_length : length g ≡ 2176
  empty_length = ap length e ∙ length-replicate {A = ℕ} 2176 0

  pub empty_left : take 1088 g ≡ replicate 1088 0
  empty_left = rw e

  module _ (a : List ℕ) (x : Grid a) where
    pub left-length : length (with_left g a) ≡ 2176
    left-length = omega (arith, length-append a (drop 1088 g), length-drop 1088 g, empty_length, x.whole)

    behind-left : drop 1088 (with_left g a) ≡ drop 1088 g
    behind-left = drop_at a (drop 1088 g) 1088 x.whole

    pub empty_right : rest 1088 (with_left g a) ≡ replicate 1088 0
    empty_right = rest_of 1088 (with_left g a) ∙ behind-left ∙ rw e

    -- both have the rows of their tables
    module _ (b l r : List ℕ) (y : Grid b) (el : (p : ℕ) → grid_of a p ≡ table_of l p)
        (er : (p : ℕ) → grid_of b p ≡ table_of r p) where
      both_parts : with_both g a b ≡ a ++ b
      both_parts =
          let none : post_of 1088 (length (with_left g a) - 1088) (with_left g a) ≡ []
          = Post-is 1088 (length (with_left g a)) (with_left g a) (omega (arith, left-length))
          ∙ drop-length (with_left g a) in
          rw (none, append-nil, take_at a (drop 1088 g) 1088 x.whole)

      both_left : left_in (with_both g a b) ≡ a
      both_left = rw (both_parts, take_at a b 1088 x.whole)

      both_right : right_in (with_both g a b) ≡ b
      both_right = rw (both_parts, drop_at a b 1088 x.whole)

      pub both_filled : TwoGrids (with_both g a b)
          × (((p : ℕ) → grid_of (left_in (with_both g a b)) p ≡ table_of l p)
          × ((p : ℕ) → grid_of (right_in (with_both g a b)) p ≡ table_of r p))
      both_filled = (
        record {
          whole = omega (arith, ap length both_parts, length-append a b, x.whole, y.whole);
          left = rw both_left x;
          right = rw both_right y;
        },
        (rw both_left el, rw both_right er),
      )

-- an empty list is two grids without rows
no_grid : Grid (replicate 1088 0)
no_grid = record { whole = refl; few = λ p h. omega (arith, zeros_at 1088 (17 * p)) }

pub empty_grids : (g : List ℕ) → g ≡ replicate 2176 0 → TwoGrids g
empty_grids g e = rw e (record { whole = refl; left = no_grid; right = no_grid })

-- a grid begins at the front of the list or in its middle
pub start_low : (m : Mover) → start_of m ≤ 1088
unfolding start_of
start_low mover.Left = omega arith
start_low mover.Right = omega arith

-- a state beyond a grid has no rows
grid_beyond : (g : List ℕ) → Grid g → (p : ℕ) → 64 ≤ p → pairs_in 0 (drop 0 g) ≡ grid_of g p
unfolding grid_of pairs_in
grid_beyond g y p h = rw (get_or-eq_default g 0 {n = 17 * p} (omega (arith, y.whole)))

-- the rows of a state of the side that moves
module _ (g : List ℕ) (y : TwoGrids g) where
  -- a state beyond its grid has none
  pub rows-beyond : (m : Mover) (p : ℕ) → 64 ≤ p
      → pairs_in 0 (drop 0 g) ≡ grid_of (grid_by m (left_in g) (right_in g)) p
  unfolding grid_by pairs_in
  rows-beyond mover.Left p h = grid_beyond (left_in g) y.left p h
  rows-beyond mover.Right p h = grid_beyond (right_in g) y.right p h

  -- any other has at most 8, which lie within both grids
  pub rows_few : (m : Mover) (p : ℕ) → p < 64
      → Inside (start_of m + 17 * p + 1) (get_or g (start_of m + 17 * p) 0) × (get_or g (start_of m + 17 * p) 0 ≤ 8)
  unfolding start_of
  rows_few mover.Left p h =
      let e = get_or-take 1088 g (17 * p) 0 (omega (arith, h)) in
      let z : 0 + 17 * p ≡ 17 * p = omega arith in
      rw z (omega (arith, y.left.few p h, e, h))
  rows_few mover.Right p h =
      let e = get_or-drop 1088 g (17 * p) 0 in
      omega (arith, y.right.few p h, e, h)

  -- and these they are
  pub rows-here : (m : Mover) (p : ℕ) → p < 64
      → pairs_in (get_or g (start_of m + 17 * p) 0) (drop (start_of m + 17 * p + 1) g)
      ≡ grid_of (grid_by m (left_in g) (right_in g)) p
  unfolding start_of grid_by grid_of
  rows-here mover.Left p h =
      let e = get_or-take 1088 g (17 * p) 0 (omega (arith, h)) in
      let f = y.left.few p h in
      let z : 0 + 17 * p ≡ 17 * p = omega arith in
      rw (z, e) (pairs-same (get_or g (17 * p) 0) (drop (17 * p + 1) g) (drop (17 * p + 1) (take 1088 g))
      (λ i k. get_or-drop (17 * p + 1) g i 0 ∙ sym (get_or-take 1088 g (17 * p + 1 + i) 0 (omega (arith, f, e, h, k)))
      ∙ sym (get_or-drop (17 * p + 1) (take 1088 g) i 0)))
  rows-here mover.Right p h =
      let z : 1088 + (17 * p + 1) ≡ 1088 + 17 * p + 1 = omega arith in
      rw (get_or-drop 1088 g (17 * p) 0, drop-drop (17 * p + 1) 1088 g, z)

-- the first of the rows from a place on, and those behind it
pub first_pair : (g : List ℕ) (at rows : ℕ) → 1 ≤ rows → pairs_in rows (drop at g)
    ≡ (get_or g at 0, get_or g (at + 1) 0) ∷ pairs_in (rows - 1) (drop (at + 2) g)
unfolding pairs_in
first_pair g at rows h =
    let z : rows ≡ suc (rows - 1) = omega arith in
    ap (λ n. pairs_in n (drop at g)) z
    ∙ rw (get_or-drop at g 0 0, get_or-drop at g 1 0, add-zero at, drop-drop 2 at g)

-- the rows from a place on, tried one after the other
module _ (F : ℕ → Bool) (b : ℕ) (g : List ℕ) (at rows : ℕ) where
  -- where there are none
  pub no_rows : rows ≡ 0 → false ≡ tried F b (pairs_in rows (drop at g))
  unfolding tried pairs_in
  no_rows e = rw e

  module _ (h : 1 ≤ rows) where
    -- the first has the label: the test passes for its target, or the others decide
    module _ (e : get_or g at 0 ≡ b) where
      pub first_hit : true ≡ F (get_or g (at + 1) 0) → true ≡ tried F b (pairs_in rows (drop at g))
      unfolding tried
      first_hit p = rw (first_pair g at rows h, eq-eqb _ _ e, ← p)

      pub first_miss : (v : Bool) → false ≡ F (get_or g (at + 1) 0)
          → v ≡ tried F b (pairs_in (rows - 1) (drop (at + 2) g)) → v ≡ tried F b (pairs_in rows (drop at g))
      unfolding tried
      first_miss v p q = rw (first_pair g at rows h, eq-eqb _ _ e, ← p) q

    -- the first has another label
    other_label : (get_or g at 0 ≡ b → ⊥)
        → tried F b (pairs_in (rows - 1) (drop (at + 2) g)) ≡ tried F b (pairs_in rows (drop at g))
    unfolding tried
    other_label n = rw (first_pair g at rows h, ne_eqb _ _ n)

-- those rows are left that stand behind rows of other labels
pub record Sought (b : ℕ) (g : List ℕ) (from all at rows : ℕ) : Type 0 where
  pub within : Inside at rows
  pub fewer : rows ≤ all
  pub same : (F : ℕ → Bool) → tried F b (pairs_in rows (drop at g)) ≡ tried F b (pairs_in all (drop from g))

module _ (b : ℕ) (g : List ℕ) (from all : ℕ) where
  pub sought_start : Inside from all → Sought b g from all from all
  sought_start h = record { within = h; fewer = omega arith; same = λ F. refl }

  pub sought_on : (at rows : ℕ) → Sought b g from all at rows → 0 < rows → (get_or g at 0 ≡ b → ⊥)
      → Sought b g from all (at + 2) (rows - 1)
  sought_on at rows s h n = record {
    within = omega (arith, s.within);
    fewer = omega (arith, s.fewer);
    same = λ F. other_label F b g at rows h n ∙ s.same F;
  }
