-- The rows of a table written into a grid, by the state that they leave: after i turns the grid reads as the first i
-- rows.
use Prim.Native.Nat.{ℕ, zero, suc, ◌+◌, ◌*◌, ◌/◌, ◌≤◌, ◌<◌}
use mathlib.Core.Path.{◌≡◌, refl, sym, ◌∙◌, ap}
use mathlib.Core.Bool.{Bool, true, false}
use mathlib.Core.List.{List, [], ◌∷◌, ◌++◌, append-nil, append_assoc}
use native.Mathlib.Omega.{arith}
use native.Mathlib.Numerals.{add-one}
use lib.ListN.{length, get_or, take, drop, set, replicate, length-append, length-set, length-replicate, take-append-drop}
use lib.Seq.{get_or-drop, get_or-set_same, get_or-set_other, take-suc, take_all}
use lib.Dec.{eqb}
use borrow.Author.Tests.{eqb-true, eqb-false}
use Rattle.hml.proofs.Tests.{same_refl}
use Rattle.hml.proofs.Indexed.{element}
use Rattle.hml.specs.Lists.{only}
use Rattle.hml.specs.Machine.{Row, machine}
use Rattle.labels.specs.declared.label.Labels.{Labels}
use Rattle.tables.specs.Tables.{rows_of, table_of, SoundTable}
use Rattle.tables.specs.Working.{row_of}
use Rattle.tables.proofs.Rows.{length-rows, rows_at}
use Rattle.tables.proofs.SoundTables.{moves-few}
use Rattle.verdict.specs.Working.{pairs_in, grid_of, Grid}

-- as many pairs are read as are asked for
pairs-length : (n : ℕ) (bs : List ℕ) → length (pairs_in n bs) ≡ n
unfolding pairs_in
pairs-length zero bs = refl
pairs-length (suc n) bs = ap suc (pairs-length n (drop 2 bs))

-- n pairs are made of 2 n bytes and no others
pub pairs-same : (n : ℕ) (bs cs : List ℕ) → ((j : ℕ) → j < 2 * n → get_or bs j 0 ≡ get_or cs j 0)
    → pairs_in n bs ≡ pairs_in n cs
unfolding pairs_in
pairs-same zero bs cs h = refl
pairs-same (suc n) bs cs h =
    let later : pairs_in n (drop 2 bs)
    ≡ pairs_in n (drop 2 cs) =
    pairs-same n (drop 2 bs) (drop 2 cs)
    (λ j k. get_or-drop 2 bs j 0 ∙ h (2 + j) (omega arith) ∙ sym (get_or-drop 2 cs j 0)) in
    rw (h 0 (omega arith), h 1 (omega arith), later)

-- one pair more stands behind the others
pairs-more : (n : ℕ) (bs : List ℕ)
    → pairs_in (suc n) bs ≡ pairs_in n bs ++ (get_or bs (2 * n) 0, get_or bs (2 * n + 1) 0) ∷ []
unfolding pairs_in
pairs-more zero bs = refl
pairs-more (suc n) bs =
    let x : 2 * suc n ≡ 2 + 2 * n = omega arith in
    let y : 2 * suc n + 1 ≡ 2 + (2 * n + 1) = omega arith in
    rw (y, x, ← get_or-drop 2 bs (2 * n) 0, ← get_or-drop 2 bs (2 * n + 1) 0)
    (ap ((get_or bs 0 0, get_or bs 1 0) ∷◌) (pairs-more n (drop 2 bs)))

-- the count that stands in a grid is how many moves are read
grid_count : (g : List ℕ) (p : ℕ) → length (grid_of g p) ≡ get_or g (17 * p) 0
unfolding grid_of
grid_count g p = pairs-length (get_or g (17 * p) 0) (drop (17 * p + 1) g)

-- how many rows of the state p stand in a grid
abbrev pub listed : List ℕ → ℕ → ℕ
listed g p = get_or g (17 * p) 0

-- the grid with a row more: (p, a, q) behind those that leave p
abbrev pub put : List ℕ → Row → List ℕ
put g (p, a, q) =
    set (set (set g (17 * p + 2 * listed g p + 1) a) (17 * p + 2 * listed g p + 2) q) (17 * p) (listed g p + 1)

-- what a row more changes, where there is room for it
module _ (g : List ℕ) (p a q : ℕ) (whole : length g ≡ 1088) (low : p < 64) (room : listed g p < 8) where
  -- the count, and the grid with the row
  abbrev n : ℕ
  n = listed g p

  abbrev new : List ℕ
  new = put g (p, a, q)

  -- the other bytes are kept
  put_other : (j : ℕ) → (j ≡ 17 * p + 2 * n + 1 → ⊥) → (j ≡ 17 * p + 2 * n + 2 → ⊥) → (j ≡ 17 * p → ⊥)
      → get_or new j 0 ≡ get_or g j 0
  put_other j x y z =
      get_or-set_other (set (set g (17 * p + 2 * n + 1) a) (17 * p + 2 * n + 2) q) (17 * p) j (n + 1) 0 z
      ∙ get_or-set_other (set g (17 * p + 2 * n + 1) a) (17 * p + 2 * n + 2) j q 0 y
      ∙ get_or-set_other g (17 * p + 2 * n + 1) j a 0 x

  -- the three bytes that are written: count, label and target
  put_count : get_or new (17 * p) 0 ≡ suc n
  put_count =
      get_or-set_same (set (set g (17 * p + 2 * n + 1) a) (17 * p + 2 * n + 2) q) (17 * p) (n + 1) 0
      (simp length-set (omega arith)) ∙ add-one n

  put-label : get_or new (17 * p + 2 * n + 1) 0 ≡ a
  put-label =
      get_or-set_other (set (set g (17 * p + 2 * n + 1) a) (17 * p + 2 * n + 2) q) (17 * p) (17 * p + 2 * n + 1) (n + 1) 0
      (λ e. omega (arith, e))
      ∙ get_or-set_other (set g (17 * p + 2 * n + 1) a) (17 * p + 2 * n + 2) (17 * p + 2 * n + 1) q 0
      (λ e. omega (arith, e))
      ∙ get_or-set_same g (17 * p + 2 * n + 1) a 0 (omega arith)

  put_target : get_or new (17 * p + 2 * n + 2) 0 ≡ q
  put_target =
      get_or-set_other (set (set g (17 * p + 2 * n + 1) a) (17 * p + 2 * n + 2) q) (17 * p) (17 * p + 2 * n + 2) (n + 1) 0
      (λ e. omega (arith, e))
      ∙ get_or-set_same (set g (17 * p + 2 * n + 1) a) (17 * p + 2 * n + 2) q 0 (simp length-set (omega arith))

  -- its state has it as the last move
  put-here : grid_of new p ≡ grid_of g p ++ (a, q) ∷ []
  unfolding grid_of
  put-here =
      let x : 17 * p + 1 + 2 * n ≡ 17 * p + 2 * n + 1 = omega arith in
      let y : 17 * p + 1 + (2 * n + 1) ≡ 17 * p + 2 * n + 2 = omega arith in
      let label : get_or (drop (17 * p + 1) new) (2 * n) 0 ≡ a = get_or-drop (17 * p + 1) new (2 * n) 0 ∙ rw x put-label in
      let target : get_or (drop (17 * p + 1) new) (2 * n + 1) 0 ≡ q = get_or-drop (17 * p + 1) new (2 * n + 1) 0
      ∙ rw y put_target in
      let kept : pairs_in n (drop (17 * p + 1) new) ≡ pairs_in n (drop (17 * p + 1) g)
      = pairs-same n (drop (17 * p + 1) new) (drop (17 * p + 1) g) (λ j h. get_or-drop (17 * p + 1) new j 0
      ∙ put_other (17 * p + 1 + j) (λ e. omega (arith, e)) (λ e. omega (arith, e)) (λ e. omega (arith, e))
      ∙ sym (get_or-drop (17 * p + 1) g j 0)) in
      ap (λ m. pairs_in m (drop (17 * p + 1) new)) put_count ∙ pairs-more n (drop (17 * p + 1) new)
      ∙ rw (label, target, kept)

  -- every other state has the moves that it had
  put_elsewhere : (o : ℕ) → (p ≡ o → ⊥) → get_or g (17 * o) 0 ≤ 8 → grid_of new o ≡ grid_of g o
  unfolding grid_of
  put_elsewhere o d h =
      ap (λ m. pairs_in m (drop (17 * o + 1) new))
      (put_other (17 * o) (λ e. d (omega (arith, e))) (λ e. d (omega (arith, e))) (λ e. d (omega (arith, e))))
      ∙ pairs-same (get_or g (17 * o) 0) (drop (17 * o + 1) new) (drop (17 * o + 1) g)
      (λ j k. get_or-drop (17 * o + 1) new j 0
      ∙ put_other (17 * o + 1 + j) (λ e. d (omega (arith, e))) (λ e. d (omega (arith, e))) (λ e. d (omega (arith, e)))
      ∙ sym (get_or-drop (17 * o + 1) g j 0))

-- moves of rows behind others
machine-append : (xs ys : List Row) (p : ℕ) → machine (xs ++ ys) p ≡ machine xs p ++ machine ys p
unfolding machine
machine-append [] ys p = refl
machine-append (x ∷ xs) ys p =
    rw (machine-append xs ys p) (sym (append_assoc (only (eqb x.0 p) (x.1, x.2)) (machine xs p) (machine ys p)))

-- one row more
machine-more : (rows : List Row) (i p : ℕ) → i < length rows
    → machine (take (suc i) rows) p
    ≡ machine (take i rows) p ++ only (eqb (get_or rows i (0, 0, 0)).0 p)
    ((get_or rows i (0, 0, 0)).1, (get_or rows i (0, 0, 0)).2)
unfolding machine
machine-more rows i p h =
    ap (λ l. machine l p) (take-suc rows i (0, 0, 0) h) ∙ machine-append (take i rows) (get_or rows i (0, 0, 0) ∷ []) p
    ∙ rw append-nil

-- the first rows have no more moves than all of them
machine-part : (rows : List Row) (i p : ℕ) → length (machine (take i rows) p) ≤ length (machine rows p)
machine-part rows i p =
    omega (
      arith,
      ap (λ l. length (machine l p)) (take-append-drop i rows),
      ap length (machine-append (take i rows) (drop i rows) p),
      length-append (machine (take i rows) p) (machine (drop i rows) p),
    )

-- zeros read as 0, also past their end
pub zeros_at : (n i : ℕ) → get_or {A = ℕ} (replicate n 0) i 0 ≡ 0
zeros_at zero i = refl
zeros_at (suc n) zero = refl
zeros_at (suc n) (suc i) = zeros_at n i

-- the grid reads as the first i rows of the table
pub record Filling (t g : List ℕ) (i : ℕ) : Type 0 where
  pub within : i ≤ length (rows_of t)
  pub whole : length g ≡ 1088
  pub reads : (p : ℕ) → grid_of g p ≡ machine (take i (rows_of t)) p

-- 1,088 zeros are an empty grid
pub filling_start : (t g : List ℕ) → g ≡ replicate 1088 0 → Filling t g 0
unfolding grid_of machine pairs_in
filling_start t g e = record {
  within = omega arith;
  whole = ap length e ∙ length-replicate {A = ℕ} 1088 0;
  reads = λ p. ap (λ m. pairs_in m (drop (17 * p + 1) g)) (ap (λ l. get_or l (17 * p) 0) e ∙ zeros_at 1088 (17 * p));
}

module _ {k : Labels} {t : List ℕ} (s : SoundTable k t) (g : List ℕ) (i : ℕ) (f : Filling t g i) where
  -- at most 8 rows stand at a state
  filling_few : (p : ℕ) → get_or g (17 * p) 0 ≤ 8
  unfolding table_of
  filling_few p = omega (arith, grid_count g p, ap length (f.reads p), machine-part (rows_of t) i p, moves-few s p)

  pub filling_grid : Grid g
  filling_grid = record { whole = f.whole; few = λ p h. filling_few p }

  -- all rows stand in the grid
  pub filling_end : length t / 3 ≤ i → (p : ℕ) → grid_of g p ≡ table_of t p
  unfolding table_of
  filling_end h p =
      f.reads p ∙ ap (λ l. machine l p) (take_all i (rows_of t) (omega (arith, length-rows t, s.fits.0)))

  -- row i, which the next turn writes
  module _ (h : i < length t / 3) where
    inside : i < length (rows_of t)
    inside = omega (arith, length-rows t, s.fits.0)

    -- its state is one of the 64
    filling_low : (row_of t i).0 < 64
    filling_low =
        omega (
          arith,
          ap (λ (r : Row). r.0) (rows_at t i inside),
          (s.ranged (get_or (rows_of t) i (0, 0, 0)) (element (0, 0, 0) (rows_of t) i inside)).0,
          s.few-states,
        )

    -- the moves of the rows before it, and its own if it leaves p
    next : (p : ℕ) → machine (take (suc i) (rows_of t)) p
        ≡ grid_of g p ++ only (eqb (row_of t i).0 p) ((row_of t i).1, (row_of t i).2)
    next p = machine-more (rows_of t) i p inside ∙ rw (rows_at t i inside, f.reads p)

    -- fewer than 8 rows stand at its state, so that there is room for it
    filling_room : listed g (row_of t i).0 < 8
    unfolding table_of only
    filling_room =
        let p : ℕ = (row_of t i).0 in
        let more : length (machine (take (suc i) (rows_of t)) p) ≡ length (grid_of g p) + 1
        = ap length (next p) ∙ rw (same_refl p) (length-append (grid_of g p) (((row_of t i).1, (row_of t i).2) ∷ [])) in
        omega (arith, grid_count g p, more, machine-part (rows_of t) (suc i) p, moves-few s p)

    -- so every byte that the turn writes is inside the grid
    pub filling_fits : ((row_of t i).0 < 64) × (listed g (row_of t i).0 < 8)
    filling_fits = (filling_low, filling_room)

    -- the grid with row i reads as one row more
    pub filling_on : Filling t (put g (row_of t i)) (i + 1)
    unfolding only
    filling_on = record {
      within = omega (arith, inside);
      whole = rw (length-set, length-set, length-set) f.whole;
      reads = λ p. rw (add-one i) (go p (eqb (row_of t i).0 p) refl ∙ sym (next p));
    }
      where
        go : (p : ℕ) (b : Bool) → eqb (row_of t i).0 p ≡ b
            → grid_of (put g (row_of t i)) p ≡ grid_of g p ++ only (eqb (row_of t i).0 p) ((row_of t i).1, (row_of t i).2)
        go p true e =
            rw (← eqb-true (row_of t i).0 p e, same_refl)
            (put-here g (row_of t i).0 (row_of t i).1 (row_of t i).2 f.whole filling_low filling_room)
        go p false e =
            rw (e, append-nil)
            (put_elsewhere g (row_of t i).0 (row_of t i).1 (row_of t i).2 f.whole filling_low filling_room p
            (eqb-false (row_of t i).0 p e) (filling_few p))
