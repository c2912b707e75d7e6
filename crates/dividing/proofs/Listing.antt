-- The disjuncts of a forward modality, listed from the rows that leave the last state.
use Prim.Native.Nat.{ℕ, ◌*◌, ◌≤◌, ◌<◌}
use mathlib.Core.Path.{◌≡◌}
use mathlib.Core.Bool.{Bool, true, false, cond}
use mathlib.Core.List.{List, [], ◌∷◌, ◌++◌, append-nil}
use native.Mathlib.Omega.{arith}
use lib.ListN.{length, get_or, length-append}
use lib.Dec.{eqb}
use borrow.Author.Tests.{ne_eqb}
use Rattle.hml.specs.Lists.{same, each, given}
use Rattle.hml.specs.System.{Pairing}
use Rattle.labels.specs.Labels.{partner_found, pairing}
use Rattle.labels.specs.declared.label.Label.{Label}
use Rattle.labels.specs.declared.label.Labels.{Labels}
use Rattle.labels.proofs.Labels.{found_some, found_none}
use Rattle.tables.specs.Tables.{table_of, threes, SoundTable}
use Rattle.tables.specs.Working.{moves_in}
use Rattle.tables.proofs.SoundTables.{moves-few}
use Rattle.tables.proofs.Searching.{no_move}
use Rattle.dividing.specs.Working.{Behind, alone_in, shaken_by, shaken_in, disjuncts_of}
use Rattle.std.specs.Prelude.{None, Option, Some}

-- the move of the first row, and those of the rows behind it
first_move : (rows row next : List ℕ) → rows ≡ row ++ next → length row ≡ 3
    → moves_in rows ≡ (get_or row 1 0, get_or row 2 0) ∷ moves_in next
unfolding moves_in threes
first_move rows (f ∷ a ∷ to ∷ []) next e h = rw e
first_move rows [] next e h = absurd (omega arith)
first_move rows (f ∷ []) next e h = absurd (omega arith)
first_move rows (f ∷ a ∷ []) next e h = absurd (omega arith)
first_move rows (f ∷ a ∷ to ∷ x ∷ row) next e h = absurd (omega arith)

-- moves alone: none where no row is left, else those of the first row and of those behind it
module _ (a : ℕ) (rows : List ℕ) where
  pub alone_none : length rows < 3 → [] ≡ alone_in a (moves_in rows)
  unfolding alone_in
  alone_none h = rw (no_move rows h)

  module _ (row next : List ℕ) (e : rows ≡ row ++ next) (h : length row ≡ 3) where
    pub alone_skip : false ≡ eqb (get_or row 1 0) a → alone_in a (moves_in next) ≡ alone_in a (moves_in rows)
    unfolding alone_in
    alone_skip n = rw (first_move rows row next e h, ← n)

    pub alone_more : true ≡ eqb (get_or row 1 0) a
        → Behind (7 ∷ 0 ∷ get_or row 1 0 ∷ get_or row 2 0 ∷ []) (alone_in a (moves_in next))
        (alone_in a (moves_in rows))
    unfolding Behind alone_in
    alone_more f = rw (first_move rows row next e h, ← f)

-- parts in handshakes
module _ (P : Pairing) (rows : List ℕ) where
  pub shaken-none : length rows < 3 → [] ≡ shaken_in P (moves_in rows)
  unfolding shaken_in
  shaken-none h = rw (no_move rows h)

  module _ (row next : List ℕ) (e : rows ≡ row ++ next) (h : length row ≡ 3) where
    pub shaken_skip : None ≡ partner_found (P.partner (get_or row 1 0))
        → shaken_in P (moves_in next) ≡ shaken_in P (moves_in rows)
    unfolding shaken_in shaken_by
    shaken_skip f = rw (first_move rows row next e h, found_none _ f)

    pub shaken-more : (c : Label) → Some c ≡ partner_found (P.partner (get_or row 1 0))
        → Behind (5 ∷ c.0 ∷ get_or row 1 0 ∷ get_or row 2 0 ∷ []) (shaken_in P (moves_in next))
        (shaken_in P (moves_in rows))
    unfolding Behind shaken_in shaken_by
    shaken-more c f = rw (first_move rows row next e h, found_some _ c f)

-- four bytes a move at most
each_short : (g : ℕ × ℕ → List ℕ) → ((m : ℕ × ℕ) → length (g m) ≤ 4) → (moves : List (ℕ × ℕ))
    → length (each g moves) ≤ 4 * length moves
each_short g h [] = omega arith
each_short g h (m ∷ moves) = omega (arith, length-append (g m) (each g moves), h m, each_short g h moves)

alone_short : (a : ℕ) (moves : List (ℕ × ℕ)) → length moves ≤ 8 → length (alone_in a moves) ≤ 32
unfolding alone_in
alone_short a moves h =
    omega (
      arith,
      each_short (λ (m : ℕ × ℕ). given (same m.0 a) (7 ∷ 0 ∷ m.0 ∷ m.1 ∷ [])) (λ m. go m (same m.0 a)) moves,
    )
  where
    go : (m : ℕ × ℕ) (b : Bool) → length (given b (7 ∷ 0 ∷ m.0 ∷ m.1 ∷ [])) ≤ 4
    go m true = omega arith
    go m false = omega arith

shaken_short : (P : Pairing) (moves : List (ℕ × ℕ)) → length moves ≤ 8 → length (shaken_in P moves) ≤ 32
unfolding shaken_in shaken_by
shaken_short P moves h =
    omega (arith, each_short (λ m. shaken_by m (P.partner m.0)) (λ m. go m (P.partner m.0)) moves)
  where
    go : (m : ℕ × ℕ) (o : Option ℕ) → length (shaken_by m o) ≤ 4
    go m None = omega arith
    go m (Some c) = omega arith

-- all disjuncts, by the operator and the label
pub idle-listed : (labels : Labels) (t : List ℕ) (o a q : ℕ) → o ≡ 7 → 7 ∷ 0 ∷ 255 ∷ q ∷ [] ≡ disjuncts_of labels t o a q
unfolding disjuncts_of
idle-listed labels t o a q e = rw e

module _ (labels : Labels) (t : List ℕ) (o a q : ℕ) (rows : List ℕ) (m : moves_in rows ≡ table_of t q) where
  module _ (n : o ≡ 7 → ⊥) where
    pub label-listed : eqb a 0 ≡ false → (5 ∷ a ∷ 255 ∷ q ∷ []) ++ alone_in a (moves_in rows) ≡ disjuncts_of labels t o a q
    unfolding disjuncts_of
    label-listed e = rw (ne_eqb o 7 n, e, m, append-nil)

    pub silent-listed : eqb a 0 ≡ true
        → Behind ((5 ∷ a ∷ 255 ∷ q ∷ []) ++ alone_in a (moves_in rows)) (shaken_in (pairing labels) (moves_in rows))
        (disjuncts_of labels t o a q)
    unfolding disjuncts_of Behind
    silent-listed e = rw (ne_eqb o 7 n, e, m)

  -- they fit into 68 bytes
  module _ (k : Labels) (room : ℕ) (s : SoundTable k t) (h : 68 ≤ room) where
    pub alone_room : length ((5 ∷ a ∷ 255 ∷ q ∷ []) ++ alone_in a (moves_in rows)) ≤ room
    alone_room = rw m (omega (arith, alone_short a (table_of t q) (moves-few s q), h))

-- and so do all disjuncts
pub listed-fits : (labels : Labels) (t : List ℕ) (o a q : ℕ) (k : Labels) (room : ℕ) → SoundTable k t → 68 ≤ room
    → length (disjuncts_of labels t o a q) ≤ room
unfolding disjuncts_of
listed-fits labels t o a q k room s h = go (eqb o 7) (eqb a 0)
  where
    go : (b c : Bool)
        → length (cond b (7 ∷ 0 ∷ 255 ∷ q ∷ [])
        (5 ∷ a ∷ 255 ∷ q ∷ (alone_in a (table_of t q) ++ given c (shaken_in (pairing labels) (table_of t q))))) ≤ room
    go true c = omega (arith, h)
    go false true =
        omega (
          arith,
          h,
          length-append (alone_in a (table_of t q)) (shaken_in (pairing labels) (table_of t q)),
          alone_short a (table_of t q) (moves-few s q),
          shaken_short (pairing labels) (table_of t q) (moves-few s q),
        )
    go false false =
        omega (arith, h, length-append (alone_in a (table_of t q)) [], alone_short a (table_of t q) (moves-few s q))
