-- Laws of sound tables: a table is accepted exactly if it is as document 01 says; its moves are in range, without
-- repetition, at most 8 a state.
use Prim.Native.Nat.{ℕ, ◌+◌, ◌-◌, ◌%◌, ◌≤◌, ◌<◌}
use native.Mathlib.Omega.{arith}
use mathlib.Core.Path.{◌≡◌, refl, sym, ◌∙◌, ap}
use mathlib.Core.Logic.{◌↔◌, ◌⊎◌, inl, inr}
use mathlib.Core.Bool.{Bool, true, false, cond}
use mathlib.Core.List.{List, [], ◌∷◌, ◌++◌}
use mathlib.Core.List.Memᴰ.{head as here}
use mathlib.Core.List.Memᴰ.{not-nil as nowhere}
use mathlib.Core.List.Memᴰ.{tail as there}
use mathlib.Core.List.Memᴰ.{cases_cons as ∈-cons}
use mathlib.Core.List.Memᴰ.{cast as ∈-cast}
use lib.ListN.{length}
use lib.Dec.{eqb}
use borrow.Author.Tests.{eqb-true}
use Rattle.labels.proofs.Refusals.{Judges, accepts, judges, judged_unless, judged_fault, judged_iff, judged_then}
use Rattle.hml.specs.Lists.{same, ◌∈◌, only}
use Rattle.hml.proofs.Tests.{Decides, decides, decided_lt, decided_le, decided_true, decided_iff, decided_and}
use Rattle.hml.proofs.Tests.{decided_or, decided_same, same_refl}
use Rattle.hml.proofs.Lists.{∈-only, each-∈}
use Rattle.hml.specs.Machine.{Row, machine}
use Rattle.labels.specs.Labels.{count}
use Rattle.labels.proofs.Labels.{count_most}
use Rattle.hml.proofs.Distinct.{Distinct, distinct_only, distinct_each}
use Rattle.labels.specs.Refusals.{first_of}
use Rattle.labels.specs.declared.refusal.Refusal.TheVariants.{WrongLength, OutOfRange, RowNotAbove, NinthRow}
use Rattle.labels.specs.declared.label.Labels.{Labels}
use Rattle.tables.specs.Tables.{states_of, rows_of, table_of, fit_table, fit_states, in_range, row_below, above_last}
use Rattle.tables.specs.Tables.{leaving, check_row, check_rows, check_table, Rising, none, one, more, SoundTable}
use Rattle.tables.specs.Working.{Ready}
use Rattle.std.specs.Prelude.{Ok}

-- a row in range
abbrev pub Ranged : Labels → ℕ → Row → Type 0
Ranged k n r = (r.0 < n) × (r.1 ≤ count k) × (r.2 < n)

pub decided_ranged : (k : Labels) (n : ℕ) (r : Row) → Decides (Ranged k n r) (in_range k n r)
unfolding in_range
decided_ranged k n r = decided_iff (λ t. (t.0, t.1.0, t.1.1)) (λ t. (t.0, (t.1, t.2)))
    (decided_and (decided_lt r.0 n) (decided_and (decided_le r.1 (count k)) (decided_lt r.2 n)))

-- rows that rise, also above the newest of those before
abbrev Follows : List Row → List Row → Type 0
Follows [] rows = Rising rows
Follows (b ∷ before) rows = Rising (b ∷ rows)

follows_none : (before : List Row) → Follows before []
follows_none [] = none
follows_none (b ∷ before) = one

-- two rows with the same numbers are one
pub row_path : {r s : Row} → r.0 ≡ s.0 → r.1 ≡ s.1 → r.2 ≡ s.2 → r ≡ s
row_path e f g i = (e i, f i, g i)

-- below by a number, or level there and below by P
abbrev pub Lex : ℕ → ℕ → Type 0 → Type 0
Lex a b P = (a < b) ⊎ ((a ≡ b) × P)

lex_trans : {a b c : ℕ} {P Q R : Type 0} → (P → Q → R) → Lex a b P → Lex b c Q → Lex a c R
lex_trans f (inl h) (inl k) = inl (omega arith)
lex_trans f (inl h) (inr (e, y)) = inl (omega arith)
lex_trans f (inr (e, x)) (inl k) = inl (omega arith)
lex_trans f (inr (e, x)) (inr (d, y)) = inr (e ∙ d, f x y)

lex_same : {a : ℕ} {P : Type 0} → Lex a a P → P
lex_same (inl h) = absurd (omega arith)
lex_same (inr (e, x)) = x

-- a row below another: by from, then label, then to
abbrev pub Below : Row → Row → Type 0
Below r s = Lex r.0 s.0 (Lex r.1 s.1 (r.2 < s.2))

pub decided_below : (r s : Row) → Decides (Below r s) (row_below r s)
unfolding row_below
decided_below r s =
    decided_or (decided_lt r.0 s.0) (decided_and (decided_same r.0 s.0)
    (decided_or (decided_lt r.1 s.1) (decided_and (decided_same r.1 s.1) (decided_lt r.2 s.2))))

pub below_trans : (r s u : Row) → row_below r s ≡ true → row_below s u ≡ true → row_below r u ≡ true
below_trans r s u e f = (decides (decided_below r u)).1
    (lex_trans (λ x y. lex_trans (λ h k. omega (arith, h, k)) x y) ((decides (decided_below r s)).0 e)
    ((decides (decided_below s u)).0 f))

pub never_below : (r : Row) → row_below r r ≡ true → ⊥
never_below r e = let h = lex_same (lex_same ((decides (decided_below r r)).0 e)) in omega (arith, h)

-- the first of rows that rise is below each other
pub head_below : {r s : Row} {rows : List Row} → Rising (r ∷ rows) → s ∈ rows → row_below r s ≡ true
head_below one i = absurd (nowhere i)
head_below {s} (more {r = r} {s = u} {rows = rows} e t) i = go (∈-cons i) (λ k. head_below t k)
  where
    go : (s ≡ u) ⊎ (s ∈ rows) → (s ∈ rows → row_below u s ≡ true) → row_below r s ≡ true
    go (inl q) later = rw q e
    go (inr k) later = below_trans r u s e (later k)

-- rows that rise are without repetition
pub rows_distinct : {rows : List Row} → Rising rows → Distinct rows
rows_distinct none = Distinct.none
rows_distinct one = Distinct.some nowhere Distinct.none
rows_distinct (more {r = r} e t) = Distinct.some (λ i. never_below r (head_below (more e t) i)) (rows_distinct t)

-- rows that fit after those before them, the newest first: in range, each above the one before, at most 8 from a state
-- with those before
record Fit (k : Labels) (n : ℕ) (before rows : List Row) : Type 0 where
  ranged : (r : Row) → r ∈ rows → Ranged k n r
  rising : Follows before rows
  eight : (p : ℕ) → leaving p rows ≤ 8 - leaving p before

-- what the check of a row says
RowFit : Labels → ℕ → List Row → Row → Type 0
RowFit k n before r = Ranged k n r × (above_last before r ≡ true) × ¬ (8 ≤ leaving r.0 before)

judged_row : (k : Labels) (n : ℕ) (before : List Row) (r : Row) → Judges (RowFit k n before r) (check_row k n before r)
unfolding check_row first_of in_range RowFit
judged_row k n before r = judged_iff (λ t. (t.0, t.1.0, t.1.1.0)) (λ t. (t.0, (t.1, (t.2, tt))))
    (judged_then (judged_unless OutOfRange (decided_ranged k n r))
    (judged_then (judged_unless RowNotAbove (decided_true (above_last before r)))
    (judged_then (judged_fault NinthRow (decided_le 8 (leaving r.0 before))) (accepts (tt {0})))))

-- a row more: it rises above those before, and the later ones above it
follows_more : (before : List Row) (r : Row) (rows : List Row)
    → Follows before (r ∷ rows) ↔ ((above_last before r ≡ true) × Rising (r ∷ rows))
unfolding above_last
follows_more [] r rows = (λ s. (refl, s), λ t. t.1)
follows_more (b ∷ before) r rows = (split, λ t. more t.0 t.1)
  where
    split : Rising (b ∷ r ∷ rows) → (row_below b r ≡ true) × Rising (r ∷ rows)
    split (more e s) = (e, s)

-- a row more: at most 8 leave each state exactly if fewer than 8 left its state before, and so for the later ones
eight-more : (before : List Row) (r : Row) (rows : List Row) → ((p : ℕ) → leaving p (r ∷ rows) ≤ 8 - leaving p before)
    ↔ ((¬ (8 ≤ leaving r.0 before)) × ((p : ℕ) → leaving p rows ≤ 8 - leaving p (r ∷ before)))
unfolding leaving
eight-more before r rows =
    (λ h. (first h, λ p. rest (eqb r.0 p) p (h p)), λ t p. both (eqb r.0 p) p refl t.0 (t.1 p))
  where
    first : ((p : ℕ) → leaving p (r ∷ rows) ≤ 8 - leaving p before) → ¬ (8 ≤ leaving r.0 before)
    first h k = omega (arith, rw (same_refl r.0) at (h r.0))

    rest : (b : Bool) (p : ℕ) → cond b 1 0 + leaving p rows ≤ 8 - leaving p before
        → leaving p rows ≤ 8 - (cond b 1 0 + leaving p before)
    rest true p h = omega arith
    rest false p h = omega arith

    both : (b : Bool) (p : ℕ) → eqb r.0 p ≡ b → ¬ (8 ≤ leaving r.0 before)
        → leaving p rows ≤ 8 - (cond b 1 0 + leaving p before) → cond b 1 0 + leaving p rows ≤ 8 - leaving p before
    both true p e n h = omega (arith, rw (eqb-true r.0 p e) at n)
    both false p e n h = omega arith

-- row by row, the check judges whether the rows fit those before
judged-rows : (k : Labels) (n : ℕ) (before rows : List Row) → Judges (Fit k n before rows) (check_rows k n before rows)
unfolding check_rows leaving RowFit
judged-rows k n before [] =
    accepts (record { ranged = λ r i. absurd (nowhere i); rising = follows_none before; eight = λ p. omega arith })
judged-rows k n before (r ∷ rows) =
    judged_iff join part (judged_then (judged_row k n before r) (judged-rows k n (r ∷ before) rows))
  where
    join : RowFit k n before r × Fit k n (r ∷ before) rows → Fit k n before (r ∷ rows)
    join (h, f) = record {
      ranged = λ s i. elim (∈-cons i) [ inl e ↦ rw e h.0 | inr m ↦ f.ranged s m ];
      rising = (follows_more before r rows).1 (h.1, f.rising);
      eight = (eight-more before r rows).1 (h.2, f.eight);
    }

    part : Fit k n before (r ∷ rows) → RowFit k n before r × Fit k n (r ∷ before) rows
    part f =
        let (above, rest) = (follows_more before r rows).0 f.rising in
        let (fewer, few) = (eight-more before r rows).0 f.eight in (
          (f.ranged r (here refl), above, fewer),
          record { ranged = λ s i. f.ranged s (there i); rising = rest; eight = few },
        )

-- the check of a table judges whether it is sound
pub judged_table : (k : Labels) (t : List ℕ) → Judges (SoundTable k t) (check_table k t)
unfolding check_table first_of fit_table fit_states leaving
judged_table k t = judged_iff
    (λ (a, b). let c = b.1.0 in
    record {
      fits = a;
      some = b.0.0;
      few-states = b.0.1;
      ranged = c.ranged;
      rising = c.rising;
      eight = λ p. omega (arith, c.eight p);
    })
    (λ s. (
      s.fits,
      (
        (s.some, s.few-states),
        (record { ranged = s.ranged; rising = s.rising; eight = λ p. omega (arith, s.eight p) }, tt),
      ),
    ))
    (judged_then (judged_unless WrongLength (decided_and (decided_same (length t % 3) 1) (decided_le (length t) 1537)))
    (judged_then (judged_unless OutOfRange (decided_and (decided_le 1 (states_of t)) (decided_le (states_of t) 64)))
    (judged_then (judged-rows k (states_of t) [] (rows_of t)) (accepts (tt {0})))))

-- an accepted table is as document 01 says
pub sound_table : (k : Labels) (t : List ℕ) → check_table k t ≡ Ok tt → SoundTable k t
sound_table k t = (judges (judged_table k t)).0

-- what a row must be for a move from p to come from it
only_row : (r : Row) (p : ℕ) {z : ℕ × ℕ} → z ∈ only (same r.0 p) (r.1, r.2) → (p, z.0, z.1) ≡ r
only_row r p i =
    let (h, e) = (∈-only (same r.0 p)).0 i in
    row_path (sym ((decides (decided_same r.0 p)).0 h)) (ap (λ z. z.0) e) (ap (λ z. z.1) e)

-- a move is a row
pub move_row : (rows : List Row) (p a q : ℕ) → (a, q) ∈ machine rows p → (p, a, q) ∈ rows
unfolding machine
move_row rows p a q i = let (r, m, o) = each-∈ _ rows i in ∈-cast (only_row r p o) m

-- as many moves leave a state as rows
pub moves-length : (p : ℕ) (rows : List Row) → length (machine rows p) ≡ leaving p rows
unfolding machine leaving only
moves-length p [] = refl
moves-length p (r ∷ rows) = go (eqb r.0 p) (moves-length p rows)
  where
    go : (b : Bool) → length (machine rows p) ≡ leaving p rows
        → length (only b (r.1, r.2) ++ machine rows p) ≡ cond b 1 0 + leaving p rows
    go true e = omega arith
    go false e = omega arith

-- rows without repetition make moves without repetition
pub machine_distinct : {rows : List Row} → Distinct rows → (p : ℕ) → Distinct (machine rows p)
unfolding machine
machine_distinct d p =
    distinct_each _ (λ r. distinct_only (same r.0 p) (r.1, r.2))
    (λ r s z i k. sym (only_row r p i) ∙ only_row s p k) d

module _ {k : Labels} {t : List ℕ} (s : SoundTable k t) where
  -- a move's states and label are in range
  pub move-ranged : (p a q : ℕ) → (a, q) ∈ table_of t p → (p < states_of t) × (a ≤ count k) × (q < states_of t)
  unfolding table_of
  move-ranged p a q i = s.ranged (p, a, q) (move_row (rows_of t) p a q i)

  -- no move has the label that marks an idle
  pub no_idle-label : (p a q : ℕ) → (a, q) ∈ table_of t p → a ≡ 255 → ⊥
  no_idle-label p a q i e = omega (arith, move-ranged p a q i, count_most k)

  -- no move is listed twice
  pub moves_distinct : (p : ℕ) → Distinct (table_of t p)
  unfolding table_of
  moves_distinct p = machine_distinct (rows_distinct s.rising) p

  -- at most 8 moves leave a state
  pub moves-few : (p : ℕ) → length (table_of t p) ≤ 8
  unfolding table_of
  moves-few p = omega (arith, moves-length p (rows_of t), s.eight p)

-- a sound table is all that functions that search it ask for
pub ready : (k : Labels) (t : List ℕ) → check_table k t ≡ Ok tt → Ready t
ready k t e = let s = sound_table k t e in record { some = omega (arith, s.fits.0); rising = s.rising }
