-- The cases of judging rows, each from what the code knows at its return.
use Prim.Native.Nat.{ℕ, zero, suc, ◌+◌, ◌-◌, ◌≤◌, ◌<◌}
use mathlib.Core.Path.{◌≡◌, refl, sym, ◌∙◌, ap}
use mathlib.Core.Bool.{Bool, true, false, not, and-false, and-true}
use mathlib.Core.List.{List, [], ◌∷◌}
use native.Mathlib.Omega.{arith}
use lib.ListN.{length, drop, drop_of_length-le}
use lib.Seq.{drop-cons}
use native.Mathlib.Numerals.{add-one}
use lib.Dec.{leb}
use borrow.Author.Tests.{eq-eqb, ne_eqb, lt-ltb, le-ltb, le-leb, lt-leb}
use Rattle.hml.proofs.Tests.{apart}
use Rattle.hml.specs.Machine.{Row}
use Rattle.labels.specs.Labels.{count}
use Rattle.labels.specs.Refusals.{first_of, then_of, refused_if, Check}
use Rattle.tables.specs.Tables.{in_range, row_below, above_last, leaving, check_row, check_rows}
use Rattle.tables.specs.Tables.{rows_of, row_struct}
use Rattle.tables.specs.Working.{row_of, triple_of, up_to, judged_by, judged, Counted}
use Rattle.std.specs.Ordering.{partial_le}
use Rattle.tables.specs.contracts.row.RowPartialOrd.TheImpl.{partial_cmp-value}
use Rattle.tables.proofs.Rows.{below-from, rows_at}
use Rattle.tables.proofs.Order.{row_le}
use Rattle.labels.specs.declared.refusal.Refusal.{Refusal}
use Rattle.labels.specs.declared.refusal.Refusal.TheVariants.{OutOfRange, RowNotAbove, NinthRow}
use Rattle.labels.specs.declared.label.Labels.{Labels}
use Rattle.tables.specs.declared.row.Row as declared-row
use Rattle.std.specs.Prelude.{Err, Ok}

module _ (k : Labels) (n : ℕ) (r : Row) where
  pub from_out : n ≤ r.0 → false ≡ in_range k n r
  unfolding in_range
  from_out h = rw (le-ltb _ _ h)

  pub to_out : n ≤ r.2 → false ≡ in_range k n r
  unfolding in_range
  to_out h = rw (le-ltb _ _ h, and-false, and-false)

  pub label_decides : r.0 < n → r.2 < n → leb r.1 (count k) ≡ in_range k n r
  unfolding in_range
  label_decides f t = rw (lt-ltb _ _ f, lt-ltb _ _ t, and-true)

-- a test that is another's failing
flipped : (a b : Bool) → a ≡ not b → b ≡ not a
flipped a true e = rw e
flipped a false e = rw e

-- the rows before the first are none, and before another its predecessor and those before that
up_to-none : (t : List ℕ) (i : ℕ) → i ≡ 0 → up_to t i ≡ []
unfolding up_to
up_to-none t i e = rw e

up_to-last : (t : List ℕ) (i : ℕ) → (i ≡ 0 → ⊥) → up_to t i ≡ row_of t (i - 1) ∷ up_to t (i - 1)
unfolding up_to
up_to-last t zero n = absurd (n refl)
up_to-last t (suc i) n = let e : suc i - 1 ≡ i = omega arith in rw e

above_last_lem : (t : List ℕ) (i : ℕ) → (i ≡ 0 → ⊥) → {b : Bool} → row_below (row_of t (i - 1)) (row_of t i) ≡ b
    → above_last (up_to t i) (row_of t i) ≡ b
unfolding above_last
above_last_lem t i n h = rw (up_to-last t i n) h

counted_at : (t : List ℕ) (i e : ℕ) → (i ≡ 0 → ⊥) → Counted t i e
    → (e ≡ leaving (row_of t (i - 1)).0 (up_to t i)) × ((p : ℕ) → (row_of t (i - 1)).0 < p → leaving p (up_to t i) ≡ 0)
counted_at t zero e n h = absurd (n refl)
counted_at t (suc i) e n h = let q : suc i - 1 ≡ i = omega arith in rw q h

above_from : (f g : ℕ) → f ≤ g → (f ≡ g → ⊥) → f < g
above_from f g h n = omega (arith, h, n)

-- a row after those before it: which case of `check_row` holds, and how many rows up to it leave its state
module _ (k : Labels) (n : ℕ) (t : List ℕ) (i : ℕ) where
  pub out_judged : in_range k n (row_of t i) ≡ false → Err OutOfRange ≡ judged k n t i
  unfolding judged judged_by check_row first_of
  out_judged e = rw e

  module _ (fits : in_range k n (row_of t i) ≡ true) where
    pub first-judged : i ≡ 0 → Ok 1 ≡ judged k n t i
    unfolding judged judged_by check_row first_of up_to above_last leaving
    first-judged e = rw (fits, up_to-none t i e)

    -- l is the row before, and e of the rows up to it leave its state
    module _ (some : i ≡ 0 → ⊥) where
      pub low_judged : row_below (row_of t (i - 1)) (row_of t i) ≡ false → Err RowNotAbove ≡ judged k n t i
      unfolding judged judged_by check_row first_of above_last
      low_judged h = rw (fits, up_to-last t i some, h)

      module _ (rises : row_below (row_of t (i - 1)) (row_of t i) ≡ true) where
        sound_judged : (m : ℕ) → leaving (row_of t i).0 (up_to t i) ≡ m → m < 8
            → Ok (1 + m) ≡ judged k n t i
        unfolding judged judged_by check_row first_of above_last
        sound_judged m e h = rw (e, fits, above_last_lem t i some rises, lt-leb 8 m h)

        pub new_judged : (e : ℕ) → Counted t i e → ((row_of t (i - 1)).0 ≡ (row_of t i).0 → ⊥)
            → Ok 1 ≡ judged k n t i
        new_judged e h d =
            sound_judged 0 ((counted_at t i e some h).1 (row_of t i).0 (above_from _ _ (below-from _ _ rises) d))
            (omega arith)

        pub more-judged : (e : ℕ) → Counted t i e → (row_of t (i - 1)).0 ≡ (row_of t i).0 → e < 8
            → Ok (e + 1) ≡ judged k n t i
        more-judged e h d few =
            ap Ok (omega arith) ∙ sound_judged e (rw (← d) (sym (counted_at t i e some h).0)) few

        pub ninth-judged : (e : ℕ) → Counted t i e → (row_of t (i - 1)).0 ≡ (row_of t i).0 → 8 ≤ e
            → Err NinthRow ≡ judged k n t i
        unfolding judged judged_by check_row first_of above_last
        ninth-judged e h d many =
            rw (fits, above_last_lem t i some rises, ← d, ← (counted_at t i e some h).0, le-leb 8 e many)

-- what the code's tests on rows say of the table's rows
module _ {x y : declared-row.Row} (r s : Row) (p : x ≡ row_struct r) (q : y ≡ row_struct s) where
  pub seen_range : (k : Labels) (n : ℕ) {b c : Bool} → b ≡ in_range k n (triple_of x) → b ≡ c → in_range k n r ≡ c
  seen_range k n e h = sym (e ∙ ap (λ z. in_range k n (triple_of z)) p) ∙ h

  pub seen_below : {b c : Bool} → b ≡ partial_le (partial_cmp-value).it y x → b ≡ c → row_below r s ≡ not c
  seen_below {c = c} e h = flipped c (row_below r s)
      (sym h ∙ e ∙ row_le y x ∙ ap (λ z. not (row_below (triple_of z) (triple_of y))) p
      ∙ ap (λ z. not (row_below r (triple_of z))) q)

  pub seen_from : x.from ≡ y.from → r.0 ≡ s.0
  seen_from e = sym (ap (λ z. z.from) p) ∙ e ∙ ap (λ z. z.from) q

  pub unseen_from : (x.from ≡ y.from → ⊥) → r.0 ≡ s.0 → ⊥
  unseen_from n e = n (ap (λ z. z.from) p ∙ e ∙ sym (ap (λ z. z.from) q))

-- in rows of which none leaves a state above that of the last, none leaves one above that of a row that rises
none_above : (t : List ℕ) (i e : ℕ) → Counted t i e → (p : ℕ) (r : Row) → r.0 < p → above_last (up_to t i) r ≡ true
    → leaving p (up_to t i) ≡ 0
unfolding up_to leaving above_last
none_above t zero e c p r h a = refl
none_above t (suc i) e c p r h a = c.1 p (omega (arith, below-from (row_of t i) r a))

-- a sound row is above the last of those before it
sound_above : (k : Labels) (n : ℕ) (before : List Row) (r : Row) → check_row k n before r ≡ Ok tt
    → above_last before r ≡ true
unfolding check_row first_of
sound_above k n before r e = go (in_range k n r) (above_last before r) (leb 8 (leaving r.0 before)) e
  where
    go : (a b c : Bool)
        → then_of (refused_if (not a) OutOfRange)
        (then_of (refused_if (not b) RowNotAbove) (then_of (refused_if c NinthRow) (Ok tt)))
        ≡ Ok tt → b ≡ true
    go true true c e = refl
    go true false c e = absurd (apart cc)
    go false b c e = absurd (apart cc)

-- what a judged row says of its check
judged_sound : (c : Check) (m n : ℕ) → Ok m ≡ judged_by c n → (c ≡ Ok tt) × (m ≡ n)
unfolding judged_by
judged_sound (Ok _) m n e = (refl, cc)
judged_sound (Err r) m n e = absurd (apart cc)

judged_refused : (c : Check) (r : Refusal) (n : ℕ) → Err r ≡ judged_by c n → c ≡ Err r
unfolding judged_by
judged_refused (Ok _) r n e = absurd (apart cc)
judged_refused (Err x) r n e = cc

-- the rows before row i are sound, and those from it on decide
pub record Going (k : Labels) (n : ℕ) (t : List ℕ) (i e : ℕ) : Type 0 where
  pub within : i ≤ length (rows_of t)
  pub counted : Counted t i e
  pub decides : check_rows k n (up_to t i) (drop i (rows_of t)) ≡ check_rows k n [] (rows_of t)

module _ (k : Labels) (n : ℕ) (t : List ℕ) where
  pub going_start : Going k n t 0 0
  unfolding up_to
  going_start = record { within = omega arith; counted = tt; decides = refl }

  module _ (i e : ℕ) (g : Going k n t i e) where
    pub going_end : length (rows_of t) ≤ i → Ok tt ≡ check_rows k n [] (rows_of t)
    unfolding check_rows
    going_end h = rw (drop_of_length-le (rows_of t) {i = i} h) at g.decides

    module _ (h : i < length (rows_of t)) where
      -- row i decides first
      next_row : then_of (check_row k n (up_to t i) (row_of t i))
          (check_rows k n (up_to t (suc i)) (drop (suc i) (rows_of t)))
          ≡ check_rows k n [] (rows_of t)
      unfolding check_rows up_to
      next_row = rw (drop-cons (rows_of t) i (0, 0, 0) h, rows_at t i h) at g.decides

      pub going_stopped : (r : Refusal) → Err r ≡ judged k n t i
          → Err r ≡ check_rows k n [] (rows_of t)
      unfolding judged
      going_stopped r j = rw (judged_refused (check_row k n (up_to t i) (row_of t i)) r _ j) at next_row

      counted_next : (m : ℕ) → check_row k n (up_to t i) (row_of t i) ≡ Ok tt
          → m ≡ 1 + leaving (row_of t i).0 (up_to t i) → Counted t (suc i) m
      unfolding up_to leaving
      counted_next m c q = (
        q ∙ rw (eq-eqb (row_of t i).0 (row_of t i).0 refl),
        λ p f. rw (ne_eqb (row_of t i).0 p (λ z. omega (arith, f, z)))
            (omega (arith, none_above t i e g.counted p (row_of t i) f (sound_above k n (up_to t i) (row_of t i) c))),
      )

      pub going_on : (m : ℕ) → Ok m ≡ judged k n t i → Going k n t (i + 1) m
      unfolding judged
      going_on m j =
          let q = judged_sound (check_row k n (up_to t i) (row_of t i)) m _ j in
          rw add-one (record {
            within = omega arith;
            counted = counted_next m q.0 q.1;
            decides = rw q.0 at next_row;
          })
