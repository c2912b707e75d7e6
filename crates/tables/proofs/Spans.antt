-- The rows that leave a state, from the first of them on up to the first row that leaves another, as a part of the
-- table.
use Prim.Native.Nat.{ℕ, ◌+◌, ◌-◌, ◌≤◌, ◌<◌}
use mathlib.Core.Path.{◌≡◌, refl, sym, ◌∙◌, ap}
use mathlib.Core.Bool.{Bool, true, false, cond}
use mathlib.Core.List.Memᴰ.{cast as ∈-cast}
use mathlib.Core.List.Memᴰ.{of_map as map-∈}
use mathlib.Core.List.{List, [], ◌∷◌, ◌++◌, map}
use native.Mathlib.Omega.{arith}
use lib.ListN.{length, get_or, take, drop, length-take, length-drop, length-map}
use lib.Seq.{get_or-take, get_or-drop}
use lib.Dec.{eqb, ltb}
use borrow.Author.Tests.{ltb-true, ltb-false, eq-eqb, eqb-true}
use Rattle.std.specs.List.{flat_map, prefix_len}
use Rattle.std.specs.List.Sorted.{IsPartitionedBy, IsPartitionPoint}
use Rattle.std.proofs.lemmas.List.{get_or-map, take_rest, drop-map, take-map}
use Rattle.std.proofs.lemmas.List.Sums.{prefix_len-le-length, prefix_len_passes}
use Rattle.std.proofs.lemmas.List.Sorted.{IsPartitionedBy-ltb, IsNonDecreasingBy-from_default}
use Rattle.hml.specs.Lists.{same, ◌∈◌, only, each}
use Rattle.hml.proofs.Tests.{decides}
use Rattle.hml.proofs.Lists.{∈-each, ∈-only}
use Rattle.hml.proofs.Indexed.{element, number_of}
use Rattle.hml.specs.Machine.{Row, machine}
use Rattle.tables.specs.Tables.{rows_of, bytes_of, rows_from, among, has_move, table_of, Rising, Together}
use Rattle.tables.specs.Working.{row_bytes, moves_in, below}
use Rattle.tables.proofs.Chunks.{threes_chunks, chunks_read}
use Rattle.tables.proofs.Rows.{froms_rise, below_point, span_rows, among_decides, has_move_decides}

-- a row of a part, by its number among all
row_number : (rows : List Row) (first many : ℕ) → first + many ≤ length rows → {r : Row}
    → r ∈ take many (drop first rows)
    → (i : ℕ) × (first ≤ i) × (i < first + many) × (get_or rows i (0, 0, 0) ≡ r)
row_number rows first many h m =
    let (i, a, e) = number_of (0, 0, 0) m in
    let b : i < many = omega (arith, length-take many (drop first rows)) in (
      first + i,
      omega arith,
      omega arith,
      sym (get_or-take many (drop first rows) i (0, 0, 0) b ∙ get_or-drop first rows i (0, 0, 0)) ∙ e,
    )

-- the rows from number k on, as the code holds them
abbrev pub rows_behind : ℕ → List (List ℕ) → List (List ℕ)
rows_behind k rows = take (length rows - k) (drop k rows)

-- rows as the code holds them are their three bytes each
flat : (rows : List Row) → flat_map (λ x. x) (map row_bytes rows) ≡ each row_bytes rows
flat [] = refl
flat (r ∷ rows) = ap (row_bytes r ++◌) (flat rows)

prefix-bytes : (p : ℕ) (rows : List Row)
    → prefix_len (λ x. eqb (get_or x 0 0) p) (map row_bytes rows) ≡ prefix_len (λ (r : Row). same r.0 p) rows
prefix-bytes p [] = refl
prefix-bytes p (r ∷ rows) = ap (λ n. cond (same r.0 p) (1 + n) 0) (prefix-bytes p rows)

-- the state that a row leaves, as the code sees it
state_at : (rows : List Row) (i : ℕ) → i < length rows
    → get_or (get_or (map row_bytes rows) i (0 ∷ 0 ∷ 0 ∷ [])) 0 0 ≡ (get_or rows i (0, 0, 0)).0
state_at rows i h = ap (λ x. get_or x 0 0) (get_or-map row_bytes rows i (0, 0, 0) (0 ∷ 0 ∷ 0 ∷ []) h)

module _ (t : List ℕ) (p : ℕ) (rows : List (List ℕ)) (e : rows ≡ map row_bytes (rows_of t)) where
  -- where rows rise, the code's test of a lower state holds up to a place and not from there on
  pub states_part : Rising (rows_of t) → IsPartitionedBy (λ x. ltb (get_or x 0 0) p) rows
  states_part s = IsPartitionedBy-ltb (λ x. get_or x 0 0) rows p
      (rw e (IsNonDecreasingBy-from_default (λ x. get_or x 0 0) (map row_bytes (rows_of t)) (0 ∷ 0 ∷ 0 ∷ []) (λ i j h k.
      let l : j < length (rows_of t) = omega (arith, length-map (rows_of t) row_bytes) in
      rw (state_at (rows_of t) i (omega arith), state_at (rows_of t) j l) (froms_rise s i j h l))))

  -- and this place is the number of rows that leave a lower state
  pub states_place : (i : ℕ) → i ≤ length rows
      → IsPartitionPoint (λ x. ltb (get_or x 0 0) p ≡ true) (λ x. ltb (get_or x 0 0) p ≡ false) rows i
      → i ≡ below p (rows_of t)
  states_place i h g =
      let n : length rows ≡ length (rows_of t) = ap length e ∙ length-map (rows_of t) row_bytes in
      below_point p i (rows_of t) (omega arith)
      (λ k l. let q = ltb-true _ p (g.0 k (0 ∷ 0 ∷ 0 ∷ []) (omega arith) l) in omega (arith, q, seen k (omega arith)))
      (λ k l m. let q = ltb-false _ p (g.1 k (0 ∷ 0 ∷ 0 ∷ []) l (omega arith)) in omega (arith, q, seen k m))
    where
      seen : (k : ℕ) → k < length (rows_of t)
          → get_or (get_or rows k (0 ∷ 0 ∷ 0 ∷ [])) 0 0 ≡ (get_or (rows_of t) k (0, 0, 0)).0
      seen k h = rw e (state_at (rows_of t) k h)

-- the rows from number `start` on that leave p, up to the first that does not, as their bytes
module _ (t : List ℕ) (p start many : ℕ) (rows : List (List ℕ)) (bytes : List ℕ) (e : rows ≡ map row_bytes (rows_of t))
    (h : start ≤ length rows) (m : many ≡ prefix_len (λ x. eqb (get_or x 0 0) p) (rows_behind start rows))
    (b : bytes ≡ flat_map (λ x. x) (take many (rows_behind start rows))) where
  behind : rows_behind start rows ≡ map row_bytes (drop start (rows_of t))
  behind = take_rest rows start ∙ ap (drop start) e ∙ drop-map row_bytes start (rows_of t)

  many_rows : many ≡ prefix_len (λ (r : Row). same r.0 p) (drop start (rows_of t))
  many_rows = m ∙ ap (prefix_len (λ x. eqb (get_or x 0 0) p)) behind ∙ prefix-bytes p (drop start (rows_of t))

  their_bytes : bytes ≡ bytes_of (take many (drop start (rows_of t)))
  unfolding bytes_of
  their_bytes =
      b ∙ rw (behind, take-map row_bytes many (drop start (rows_of t))) (flat (take many (drop start (rows_of t))))

  pub span_together : Together (rows_of t) p bytes
  span_together = record {
    first = start;
    many = many;
    inside = inside;
    given = their_bytes;
    leave = λ r k.
        let (i, a, q) = number_of (0, 0, 0) k in
        let l : i < many = omega (arith, length-take many (drop start (rows_of t))) in
        ap (λ z. z.0) (sym q ∙ get_or-take many (drop start (rows_of t)) i (0, 0, 0) l)
        ∙ eqb-true _ _ (prefix_len_passes (λ (z : Row). same z.0 p) (drop start (rows_of t)) i (0, 0, 0)
        (omega (arith, many_rows)));
  }
    where
      inside : start + many ≤ length (rows_of t)
      inside = omega (
        arith,
        many_rows,
        prefix_len-le-length (λ (z : Row). same z.0 p) (drop start (rows_of t)),
        length-drop start (rows_of t),
        ap length e,
        length-map (rows_of t) row_bytes,
      )

  pub span_exact : (Rising (rows_of t) → start ≡ below p (rows_of t)) → Rising (rows_of t)
      → bytes ≡ bytes_of (rows_from p (rows_of t))
  span_exact low s =
      their_bytes
      ∙ ap bytes_of (ap (λ n. take n (drop start (rows_of t))) many_rows ∙ rw (low s) (sym (span_rows s p)))

-- a row that leaves p is one of p's moves
row_move : (rows : List Row) (p i : ℕ) → i < length rows → (r : Row) → get_or rows i (0, 0, 0) ≡ r → r.0 ≡ p
    → (r.1, r.2) ∈ machine rows p
unfolding machine
row_move rows p i h r e leaves =
    let here = ∈-cast (sym e) (element (0, 0, 0) rows i h) in
    ∈-each (λ (s : Row). only (same s.0 p) (s.1, s.2)) here
    ((∈-only (same r.0 p)).1 (eq-eqb r.0 p leaves, refl))

-- label and target of a row
abbrev move_of : Row → ℕ × ℕ
move_of r = (r.1, r.2)

-- a move that is found among rows that stand together and leave p is one of p's
pub found-there : (t : List ℕ) (p a q : ℕ) (bytes : List ℕ) {x : Bool} → Together (rows_of t) p bytes
    → x ≡ among (moves_in bytes) a q → x ≡ true → has_move (table_of t) p a q ≡ true
unfolding moves_in bytes_of table_of
found-there t p a q bytes g e y = (decides (has_move_decides (table_of t) p a q)).1 (moved (map-∈ move_of part found))
  where
    part : List Row
    part = take g.many (drop g.first (rows_of t))

    moves : moves_in bytes ≡ map move_of part
    moves = rw (g.given, chunks_read threes_chunks part)

    found : (a, q) ∈ map move_of part
    found = (decides (among_decides (map move_of part) a q)).0 (rw moves at (sym e ∙ y))

    moved : (r : Row) × r ∈ part × (move_of r ≡ (a, q)) → (a, q) ∈ machine (rows_of t) p
    moved (r, m, w) =
        let (i, low, high, z) = row_number (rows_of t) g.first g.many g.inside m in
        ∈-cast (sym w) (row_move (rows_of t) p i (omega (arith, g.inside)) r z (g.leave r m))
