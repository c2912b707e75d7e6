-- Laws of rows: in rows that rise, those that leave a state stand together; and rows as bytes, three a row.
use Prim.Native.Nat.{ℕ, zero, suc, ◌+◌, ◌-◌, ◌*◌, ◌/◌, ◌≤◌, ◌<◌}
use native.Mathlib.Omega.{arith}
use native.Mathlib.Numerals.{add-one, one-add}
use mathlib.Core.Path.{◌≡◌, refl, sym, ◌∙◌, ap}
use mathlib.Core.Bool.{Bool, true, false, cond, ◌||◌, ◌&&◌}
use mathlib.Core.List.Memᴰ.{cast as ∈-cast}
use mathlib.Core.List.{List, [], ◌∷◌, ◌++◌, map}
use lib.ListN.{length, get_or, drop}
use lib.Dec.{eqb, ltb}
use borrow.Author.Tests.{lt-ltb, le-ltb, eq-eqb, ne_eqb, ltb-true, ltb-false, eqb-true}
use Rattle.hml.proofs.Tests.{apart, Decides, decided_iff, decided_and, decided_same}
use Rattle.hml.specs.Lists.{same, ◌∈◌, only}
use Rattle.hml.proofs.Lists.{decided_any}
use Rattle.hml.specs.System.{System}
use Rattle.hml.specs.Machine.{Row, machine}
use Rattle.tables.specs.Tables.{threes, rows_of, among, has_move, rows_from, row_below, leaving, Rising}
use Rattle.std.specs.List.{prefix_len, take_while}
use Rattle.std.proofs.lemmas.List.{get_or-map}
use Rattle.tables.specs.Tables.{none, one, more}
use Rattle.tables.specs.Working.{row_of, row_bytes, below}
use Rattle.tables.proofs.Chunks.{threes_chunks, chunks_length}

-- how a state f stands to p: the tests f < p, f < p + 1 and f ≡ p have one of three outcomes
pub data Placed (f p : ℕ) : Bool → Bool → Bool → Type 0 where
  under : f < p → Placed f p true true false
  level : f ≡ p → Placed f p false true true
  over : p < f → Placed f p false false false

-- each state stands in one of the three ways to each other
pub placed : (f p : ℕ) → Placed f p (ltb f p) (ltb f (p + 1)) (eqb f p)
placed f p = go (ltb f p) (ltb p f) refl refl
  where
    go : (a c : Bool) → ltb f p ≡ a → ltb p f ≡ c → Placed f p (ltb f p) (ltb f (p + 1)) (eqb f p)
    go true c h k =
        let l = ltb-true f p h in
        rw (lt-ltb f p l, lt-ltb f (p + 1) (omega arith), ne_eqb f p (λ e. omega (arith, e))) (under l)
    go false true h k =
        let l = ltb-true p f k in
        rw (le-ltb f p (omega arith), le-ltb f (p + 1) (omega arith), ne_eqb f p (λ e. omega (arith, e))) (over l)
    go false false h k =
        let l : f ≡ p = omega (arith, ltb-false f p h, ltb-false p f k) in
        rw (le-ltb f p (omega arith), lt-ltb f (p + 1) (omega arith), eq-eqb f p l) (level l)

-- a row below another leaves no higher state
pub below-from : (r s : Row) → row_below r s ≡ true → r.0 ≤ s.0
unfolding row_below
below-from r s e = go (ltb r.0 s.0) (eqb r.0 s.0) _ refl refl e
  where
    go : (a c x : Bool) → ltb r.0 s.0 ≡ a → eqb r.0 s.0 ≡ c → (a || (c && x)) ≡ true → r.0 ≤ s.0
    go true c x h q e = let l = ltb-true r.0 s.0 h in omega arith
    go false true x h q e = let l = eqb-true r.0 s.0 q in omega arith
    go false false x h q e = absurd (apart cc)

-- rows that rise do so without the first
pub rising_tail : {r : Row} {rows : List Row} → Rising (r ∷ rows) → Rising rows
rising_tail one = none
rising_tail (more e s) = s

-- no row leaves a state below that of the first
head_least : {r : Row} {rows : List Row} → Rising (r ∷ rows) → (i : ℕ) → i < length (r ∷ rows)
    → r.0 ≤ (get_or (r ∷ rows) i (0, 0, 0)).0
head_least s zero h = omega arith
head_least one (suc i) h = absurd (omega arith)
head_least (more {r = r} {s = s} {rows = rows} e t) (suc i) h = omega
    (arith, below-from r s e, head_least t i (omega arith))

-- later rows leave no lower state
pub froms_rise : {rows : List Row} → Rising rows → (i j : ℕ) → i ≤ j → j < length rows
    → (get_or rows i (0, 0, 0)).0 ≤ (get_or rows j (0, 0, 0)).0
froms_rise {rows = []} s i j h k = absurd (omega arith)
froms_rise {rows = r ∷ rows} s zero j h k = head_least s j k
froms_rise {rows = r ∷ rows} s (suc i) zero h k = absurd (omega arith)
froms_rise {rows = r ∷ rows} s (suc i) (suc j) h k = froms_rise (rising_tail s) i j (omega arith) (omega arith)

-- where the rows below p end, there stands their count
pub below_point : (p m : ℕ) (rows : List Row) → m ≤ length rows → ((i : ℕ) → i < m → (get_or rows i (0, 0, 0)).0 < p)
    → ((i : ℕ) → m ≤ i → i < length rows → p ≤ (get_or rows i (0, 0, 0)).0) → m ≡ below p rows
unfolding below
below_point p m [] h lo hi = omega arith
below_point p zero (r ∷ rows) h lo hi = rw (le-ltb r.0 p (hi 0 (omega arith) (omega arith)))
    (omega (
      arith,
      below_point p zero rows (omega arith) (λ i k. absurd (omega arith))
          (λ i k l. hi (suc i) (omega arith) (omega arith)),
    ))
below_point p (suc m) (r ∷ rows) h lo hi = rw (lt-ltb r.0 p (lo 0 (omega arith)))
    (omega (
      arith,
      below_point p m rows (omega arith) (λ i k. lo (suc i) (omega arith))
          (λ i k l. hi (suc i) (omega arith) (omega arith)),
    ))

-- the rows below p + 1 are those below p and those that leave p
pub span_size : (p : ℕ) (rows : List Row) → below (p + 1) rows ≡ below p rows + leaving p rows
unfolding below leaving
span_size p [] = omega arith
span_size p (r ∷ rows) = go (placed r.0 p) (span_size p rows)
  where
    go : {a b c : Bool} → Placed r.0 p a b c → below (p + 1) rows ≡ below p rows + leaving p rows
        → cond b 1 0 + below (p + 1) rows ≡ cond a 1 0 + below p rows + (cond c 1 0 + leaving p rows)
    go (under h) e = omega arith
    go (level h) e = omega arith
    go (over h) e = omega arith

-- rows that rise from p on: none is below p
none_below : (p : ℕ) {r : Row} {rows : List Row} → Rising (r ∷ rows) → p ≤ r.0 → below p rows ≡ 0
none_below p {r} {rows} s h =
    sym (below_point p 0 rows (omega arith) (λ i k. absurd (omega arith))
    (λ i k l. omega (arith, head_least s (suc i) (omega arith))))

-- in rows that rise above p none leaves p
none_from : (p : ℕ) {r : Row} {rows : List Row} → Rising (r ∷ rows) → p < r.0
    → prefix_len (λ (s : Row). same s.0 p) rows ≡ 0
none_from p one h = refl
none_from p (more {r = r} {s = s} e t) h = rw (ne_eqb s.0 p (λ q. omega (arith, below-from r s e, q)))

-- in rows that rise, those that leave p stand together, behind those that leave a lower state
pub span_rows : {rows : List Row} → Rising rows → (p : ℕ)
    → rows_from p rows ≡ take_while (λ (r : Row). same r.0 p) (drop (below p rows) rows)
unfolding rows_from below only
span_rows {rows = []} s p = refl
span_rows {rows = r ∷ rows} s p = go (placed r.0 p) (span_rows (rising_tail s) p)
  where
    F : Row → Bool
    F x = same x.0 p

    go : {a b c : Bool} → Placed r.0 p a b c → rows_from p rows ≡ take_while F (drop (below p rows) rows)
        → only c r ++ rows_from p rows ≡ take_while F (drop (cond a 1 0 + below p rows) (r ∷ rows))
    go (under h) e = rw one-add e
    go (level h) e = let z = none_below p s (omega arith) in rw (z, eq-eqb r.0 p h, one-add) (ap (r ∷◌) (rw z at e))
    go (over h) e =
        let z = none_below p s (omega arith) in
        rw (z, ne_eqb r.0 p (λ q. omega (arith, q))) (rw (z, none_from p s h) at e)

-- the moves that leave p are those of its rows, in order
pub moves_from : (p : ℕ) (rows : List Row) → machine rows p ≡ map (λ r. (r.1, r.2)) (rows_from p rows)
unfolding machine rows_from only
moves_from p [] = refl
moves_from p (r ∷ rows) = go (same r.0 p) (moves_from p rows)
  where
    go : (b : Bool) → machine rows p ≡ map (λ r. (r.1, r.2)) (rows_from p rows)
        → only b (r.1, r.2) ++ machine rows p ≡ map (λ r. (r.1, r.2)) (only b r ++ rows_from p rows)
    go true e = ap ((r.1, r.2) ∷◌) e
    go false e = e

-- row i is the three bytes from 3 i on
pub threes_at : (l : List ℕ) (i : ℕ) → i < length (threes l)
    → get_or (threes l) i (0, 0, 0) ≡ (get_or l (3 * i) 0, get_or l (3 * i + 1) 0, get_or l (3 * i + 2) 0)
unfolding threes
threes_at [] i h = absurd (omega arith)
threes_at (f ∷ []) i h = absurd (omega arith)
threes_at (f ∷ a ∷ []) i h = absurd (omega arith)
threes_at (f ∷ a ∷ to ∷ l) zero h = refl
threes_at (f ∷ a ∷ to ∷ l) (suc i) h =
    let x : 3 * suc i ≡ suc (suc (suc (3 * i))) = omega arith in
    let y : 3 * suc i + 1 ≡ suc (suc (suc (3 * i + 1))) = omega arith in
    let z : 3 * suc i + 2 ≡ suc (suc (suc (3 * i + 2))) = omega arith in
    rw (y, z, x) (threes_at l i (omega arith))

-- a table's rows are as many as there are threes of bytes after the first
pub length-rows : (t : List ℕ) → length (rows_of t) ≡ (length t - 1) / 3
unfolding rows_of
length-rows [] = refl
length-rows (n ∷ l) = rw (chunks_length threes_chunks l) (omega arith)

-- a table's row i is the three bytes from 3 i + 1 on
pub rows_at : (t : List ℕ) (i : ℕ) → i < length (rows_of t)
    → get_or (rows_of t) i (0, 0, 0) ≡ (get_or t (3 * i + 1) 0, get_or t (3 * i + 1 + 1) 0, get_or t (3 * i + 1 + 2) 0)
unfolding rows_of
rows_at [] i h = absurd (omega arith)
rows_at (n ∷ l) i h =
    let y : 3 * i + 1 + 1 ≡ suc (3 * i + 1) = omega arith in
    let z : 3 * i + 1 + 2 ≡ suc (3 * i + 2) = omega arith in
    rw (y, z, threes_at l i h)
    (ap (λ m. (get_or (n ∷ l) m 0, get_or l (3 * i + 1) 0, get_or l (3 * i + 2) 0)) (sym (add-one (3 * i))))

-- and so the code sees it
pub row_seen : (t : List ℕ) (i : ℕ) → i < length (rows_of t)
    → get_or (map row_bytes (rows_of t)) i [] ≡ row_bytes (row_of t i)
row_seen t i h = get_or-map row_bytes (rows_of t) i (0, 0, 0) [] h ∙ ap row_bytes (rows_at t i h)

-- the test passes exactly for the moves that are there
pub among_decides : (moves : List (ℕ × ℕ)) (a q : ℕ) → Decides ((a, q) ∈ moves) (among moves a q)
unfolding among
among_decides moves a q = decided_iff
    (λ t. ∈-cast (λ i. (sym t.2.0 i, sym t.2.1 i)) t.1)
    (λ i. ((a, q), i, (refl, refl)))
    (decided_any (λ m. decided_and (decided_same m.0 a) (decided_same m.1 q)) moves)

-- the test passes exactly for the system's moves
pub has_move_decides : (M : System ℕ) (p a q : ℕ) → Decides ((a, q) ∈ M p) (has_move M p a q)
unfolding has_move
has_move_decides M p a q = among_decides (M p) a q
