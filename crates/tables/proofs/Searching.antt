-- The search of the rows that leave a state, one after the other, for a move that passes a test.
use Prim.Native.Nat.{ℕ, ◌≤◌, ◌<◌}
use mathlib.Core.Path.{◌≡◌, refl, sym, ap}
use mathlib.Core.Bool.{Bool, ◌||◌}
use mathlib.Core.List.{List, [], ◌∷◌, map}
use lib.ListN.{length, get_or}
use native.Mathlib.Omega.{arith}
use Rattle.hml.specs.Lists.{any}
use Rattle.hml.specs.Machine.{Row}
use Rattle.labels.proofs.Slices.{rest, rest_of}
use Rattle.tables.specs.Tables.{threes, rows_of, rows_from, bytes_of, table_of, among, has_move}
use Rattle.tables.specs.Working.{moves_in, row_bytes}
use Rattle.std.specs.List.{list_any}
use Rattle.tables.proofs.Chunks.{threes_chunks, chunks_read}
use Rattle.tables.proofs.Rows.{moves_from}

-- whether a row as the code holds it has a move that passes the test F
pub rows_searched : (F : ℕ × ℕ → Bool) (bytes : List ℕ)
    → list_any (λ x. F (get_or x 1 0, get_or x 2 0)) (map row_bytes (threes bytes)) ≡ any F (moves_in bytes)
unfolding moves_in
rows_searched F bytes = go (threes bytes)
  where
    go : (rows : List Row)
        → list_any (λ x. F (get_or x 1 0, get_or x 2 0)) (map row_bytes rows) ≡ any F (map (λ r. (r.1, r.2)) rows)
    go [] = refl
    go (r ∷ rows) = ap (F (r.1, r.2) ||◌) (go rows)

-- the first row, and those behind it as a slice has them
first_row : (rows : List ℕ) → 3 ≤ length rows
    → threes rows ≡ (get_or rows 0 0, get_or rows 1 0, get_or rows 2 0) ∷ threes (rest 3 rows)
unfolding threes
first_row [] h = absurd (omega arith)
first_row (f ∷ []) h = absurd (omega arith)
first_row (f ∷ a ∷ []) h = absurd (omega arith)
first_row (f ∷ a ∷ to ∷ rows) h = ap (λ l. (f, a, to) ∷ threes l) (sym (rest_of 3 (f ∷ a ∷ to ∷ rows)))

-- the rows that leave p have its moves
pub leaving-moves : (t : List ℕ) (p : ℕ) (rows : List ℕ) → rows ≡ bytes_of (rows_from p (rows_of t))
    → moves_in rows ≡ table_of t p
unfolding moves_in table_of bytes_of
leaving-moves t p rows e = rw (e, chunks_read threes_chunks) (sym (moves_from p (rows_of t)))

pub leading : (t : List ℕ) (p a q : ℕ) (rows : List ℕ) {x : Bool} → rows ≡ bytes_of (rows_from p (rows_of t))
    → x ≡ among (moves_in rows) a q → x ≡ has_move (table_of t) p a q
unfolding has_move
leading t p a q rows e h = rw (leaving-moves t p rows e) at h

-- a row of them is what its three bytes are, and those behind it as a slice has them
pub first-move : (rows : List ℕ) → 3 ≤ length rows
    → moves_in rows ≡ (get_or rows 1 0, get_or rows 2 0) ∷ moves_in (rest 3 rows)
unfolding moves_in
first-move rows h = rw (first_row rows h)

pub no_move : (rows : List ℕ) → length rows < 3 → moves_in rows ≡ []
unfolding moves_in
no_move rows h = rw (threes_chunks.none rows h)
