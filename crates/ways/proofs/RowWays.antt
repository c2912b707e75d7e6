-- The ways of one step: how many rows give, and the one of a number, row by row.
use Prim.Native.Nat.{ℕ, zero, suc, ◌+◌, ◌-◌, ◌*◌, ◌≤◌, ◌<◌}
use mathlib.Core.Path.{◌≡◌, refl}
use mathlib.Core.Bool.{Bool, true, false, cond, ◌&&◌}
use mathlib.Core.List.{List, [], ◌∷◌, ◌++◌}
use native.Mathlib.Omega.{arith}
use lib.ListN.{length, get_or, length-map}
use lib.Dec.{eqb}
use Rattle.hml.specs.Lists.{only, each, given}
use Rattle.hml.specs.System.{Pairing, move, idle}
use Rattle.labels.specs.Labels.{partner_found}
use Rattle.labels.specs.declared.label.Label.{Label}
use Rattle.tables.specs.Tables.{among, threes}
use Rattle.tables.specs.Working.{moves_in}
use Rattle.tables.proofs.Chunks.{threes_chunks, chunks_length}
use Rattle.tables.proofs.Searching.{no_move}
use Rattle.machines.specs.Working.{answer_to}
use Rattle.labels.proofs.Labels.{found_some, found_none}
use Rattle.ways.specs.Working.{Steps, answered_by, shaken_by, handshakes, right_ways, ways_here, chosen}
use Rattle.machines.specs.declared.step.States.{States}
use Rattle.machines.specs.declared.step.JointStep.{JointStep}
use Rattle.std.specs.Prelude.{None, Option, Some, is_some}

-- one way or none, in front of others
module _ (x : Steps) (xs : List Steps) where
  front-length : (b : Bool) → length (only b x ++ xs) ≡ cond b 1 0 + length xs
  unfolding only
  front-length true = omega arith
  front-length false = omega arith

  module _ {b : Bool} (n : ℕ) where
    front_taken : b ≡ true → n ≡ 0 → chosen (only b x ++ xs) n ≡ x
    unfolding only
    front_taken e z = rw (e, z)

    front_passed : b ≡ true → (n ≡ 0 → ⊥) → chosen (only b x ++ xs) n ≡ chosen xs (n - 1)
    unfolding only
    front_passed e z = rw e (behind n z)
      where
        behind : (n : ℕ) → (n ≡ 0 → ⊥) → chosen (x ∷ xs) n ≡ chosen xs (n - 1)
        behind zero z = absurd (z refl)
        behind (suc n) z = let p : suc n - 1 ≡ n = omega arith in rw p

    front-left : b ≡ false → chosen (only b x ++ xs) n ≡ chosen xs n
    unfolding only
    front-left e = rw e

-- rows have three bytes each
moves-bytes : (rows : List ℕ) → 3 * length (moves_in rows) ≤ length rows
unfolding moves_in
moves-bytes rows =
    omega (arith, length-map {B = ℕ × ℕ} (threes rows) (λ r. (r.1, r.2)), chunks_length threes_chunks rows)

-- the move of the first row, and those of the rows behind it
first_move : (rows row next : List ℕ) → rows ≡ row ++ next → length row ≡ 3
    → moves_in rows ≡ (get_or row 1 0, get_or row 2 0) ∷ moves_in next
unfolding moves_in threes
first_move rows (f ∷ a ∷ to ∷ []) next e h = rw e
first_move rows [] next e h = absurd (omega arith)
first_move rows (f ∷ []) next e h = absurd (omega arith)
first_move rows (f ∷ a ∷ []) next e h = absurd (omega arith)
first_move rows (f ∷ a ∷ to ∷ x ∷ row) next e h = absurd (omega arith)

-- handshakes, by rows of the left
module _ (P : Pairing) (rs : List (ℕ × ℕ)) (v : States) where
  abbrev pub shaken : List ℕ → List Steps
  shaken rows = each (shaken_by P rs v) (moves_in rows)

  -- no row is left
  pub none_shaken : (rows : List ℕ) → length rows < 3 → shaken rows ≡ []
  none_shaken rows h = rw (no_move rows h)

  module _ (rows row next : List ℕ) (e : rows ≡ row ++ next) (h : length row ≡ 3) where
    abbrev answer_here : Option ℕ
    answer_here = answer_to P rs v.left v.right (get_or row 1 0, get_or row 2 0)

    pub row_missed : None ≡ partner_found answer_here → shaken rows ≡ shaken next
    row_missed f = rw (first_move rows row next e h, found_none answer_here f)

    pub row_hit : (b : Label) → Some b ≡ partner_found answer_here
        → shaken rows ≡ (move (get_or row 1 0) (get_or row 2 0), move b.0 v.right) ∷ shaken next
    row_hit b f = rw (first_move rows row next e h, found_some answer_here b f)

    pub row_first : (b : Label) → Some b ≡ partner_found answer_here → (n : ℕ) → n ≡ 0
        → chosen (shaken rows) n ≡ (move (get_or row 1 0) (get_or row 2 0), move b.0 v.right)
    row_first b f n z = rw (z, row_hit b f)

    pub row_passed : (b : Label) → Some b ≡ partner_found answer_here → (n : ℕ) → (n ≡ 0 → ⊥)
        → chosen (shaken rows) n ≡ chosen (shaken next) (n - 1)
    row_passed b f zero z = absurd (z refl)
    row_passed b f (suc n) z = let p : suc n - 1 ≡ n = omega arith in rw (row_hit b f, p)

    pub row_counted : (o : Option Label) → o ≡ partner_found answer_here
        → length (shaken rows) ≡ cond (is_some o) 1 0 + length (shaken next)
    row_counted None f = rw (row_missed f) (omega arith)
    row_counted (Some b) f = rw (row_hit b f) (omega arith)

  -- at most as many handshakes as moves of the left
  shaken-few : (ms : List (ℕ × ℕ)) → length (each (shaken_by P rs v) ms) ≤ length ms
  shaken-few [] = omega arith
  shaken-few (m ∷ ms) = go (answer_to P rs v.left v.right m) (shaken-few ms)
    where
      go : (o : Option ℕ) → length (each (shaken_by P rs v) ms) ≤ length ms
          → length (answered_by P rs v m o ++ each (shaken_by P rs v) ms) ≤ suc (length ms)
      go None h = omega (arith, h)
      go (Some b) h = omega (arith, h)

  pub shaken_bytes : (rows : List ℕ) → 3 * length (shaken rows) ≤ length rows
  shaken_bytes rows = omega (arith, shaken-few (moves_in rows), moves-bytes rows)

-- a silent step has the handshakes of its rows, another has none
module _ (P : Pairing) (rs : List (ℕ × ℕ)) (s : JointStep) (left : List ℕ) where
  pub loud_handshakes : eqb s.label.0 0 ≡ false → handshakes P (moves_in left) rs s ≡ []
  unfolding handshakes
  loud_handshakes e = rw e

  pub silent_handshakes : eqb s.label.0 0 ≡ true → handshakes P (moves_in left) rs s ≡ shaken P rs s.after left
  unfolding handshakes
  silent_handshakes e = rw e

-- the ways of a step that is no joint idle: left alone, right alone, handshakes
module _ (P : Pairing) (ls rs : List (ℕ × ℕ)) (s : JointStep) where
  abbrev pub is_left : Bool
  is_left = eqb s.after.right s.before.right && among ls s.label.0 s.after.left

  abbrev pub is_right : Bool
  is_right = eqb s.after.left s.before.left && among rs s.label.0 s.after.right

  pub idle_ways : eqb s.label.0 255 ≡ true → ways_here P ls rs s ≡ (idle, idle) ∷ []
  unfolding ways_here
  idle_ways e = rw e

  module _ (moves : eqb s.label.0 255 ≡ false) where
    ways_moved : ways_here P ls rs s ≡ only is_left (move s.label.0 s.after.left, idle) ++ right_ways P ls rs s
    unfolding ways_here
    ways_moved = rw moves

    pub ways_counted : length (ways_here P ls rs s)
        ≡ cond is_left 1 0 + cond is_right 1 0 + length (handshakes P ls rs s)
    unfolding right_ways
    ways_counted =
        rw ways_moved
        (omega (
          arith,
          front-length (move s.label.0 s.after.left, idle) (right_ways P ls rs s) is_left,
          front-length (idle, move s.label.0 s.after.right) (handshakes P ls rs s) is_right,
        ))

    module _ (n : ℕ) where
      pub left_first : is_left ≡ true → n ≡ 0 → chosen (ways_here P ls rs s) n ≡ (move s.label.0 s.after.left, idle)
      left_first e z = rw ways_moved (front_taken (move s.label.0 s.after.left, idle) (right_ways P ls rs s) n e z)

      pub left_passed : is_left ≡ true → (n ≡ 0 → ⊥)
          → chosen (ways_here P ls rs s) n ≡ chosen (right_ways P ls rs s) (n - 1)
      left_passed e z = rw ways_moved (front_passed (move s.label.0 s.after.left, idle) (right_ways P ls rs s) n e z)

      pub no_left : is_left ≡ false → chosen (ways_here P ls rs s) n ≡ chosen (right_ways P ls rs s) n
      no_left e = rw ways_moved (front-left (move s.label.0 s.after.left, idle) (right_ways P ls rs s) n e)

  module _ (n : ℕ) where
    pub right_first : is_right ≡ true → n ≡ 0 → chosen (right_ways P ls rs s) n ≡ (idle, move s.label.0 s.after.right)
    unfolding right_ways
    right_first e z = front_taken (idle, move s.label.0 s.after.right) (handshakes P ls rs s) n e z

    pub right_passed : is_right ≡ true → (n ≡ 0 → ⊥)
        → chosen (right_ways P ls rs s) n ≡ chosen (handshakes P ls rs s) (n - 1)
    unfolding right_ways
    right_passed e z = front_passed (idle, move s.label.0 s.after.right) (handshakes P ls rs s) n e z

    pub no_right : is_right ≡ false → chosen (right_ways P ls rs s) n ≡ chosen (handshakes P ls rs s) n
    unfolding right_ways
    no_right e = front-left (idle, move s.label.0 s.after.right) (handshakes P ls rs s) n e

-- at most two ways more than moves of the left
module _ (P : Pairing) (ls rs : List (ℕ × ℕ)) (s : JointStep) where
  only-few : (b : Bool) (x : Steps) (xs : List Steps) → length (only b x ++ xs) ≤ 1 + length xs
  unfolding only
  only-few true x xs = omega arith
  only-few false x xs = omega arith

  given-few : (b : Bool) (xs : List Steps) → length (given b xs) ≤ length xs
  given-few true xs = omega arith
  given-few false xs = omega arith

  handshakes-few : length (handshakes P ls rs s) ≤ length ls
  unfolding handshakes
  handshakes-few =
      omega (
        arith,
        given-few (eqb s.label.0 0) (each (shaken_by P rs s.after) ls),
        shaken-few P rs s.after ls,
      )

  right-few : length (right_ways P ls rs s) ≤ 1 + length ls
  unfolding right_ways
  right-few =
      omega (
        arith,
        handshakes-few,
        only-few (is_right P ls rs s) (idle, move s.label.0 s.after.right) (handshakes P ls rs s),
      )

  pub ways-few : length (ways_here P ls rs s) ≤ 2 + length ls
  unfolding ways_here
  ways-few = go (eqb s.label.0 255)
    where
      go : (b : Bool) → length (cond b ((idle, idle) ∷ [])
          (only (is_left P ls rs s) (move s.label.0 s.after.left, idle) ++ right_ways P ls rs s)) ≤ 2 + length ls
      go true = omega arith
      go false =
          omega (
            arith,
            right-few,
            only-few (is_left P ls rs s) (move s.label.0 s.after.left, idle)
                (right_ways P ls rs s),
          )

-- so that no sum of them is too large for a number
module _ (P : Pairing) (left : List ℕ) (rs : List (ℕ × ℕ)) (s : JointStep) where
  pub handshakes_bytes : 3 * length (handshakes P (moves_in left) rs s) ≤ length left
  handshakes_bytes = omega (arith, handshakes-few P (moves_in left) rs s, moves-bytes left)

-- what the code's checks rest on: sides and rows, where a way is sought and where ways are counted
pub ruleset sides_sought = (idle_ways, left_first, left_passed, no_left, right_first, right_passed, no_right)

pub ruleset sides_counted = (idle_ways, ways_counted, handshakes_bytes)

pub ruleset rows_sought = (row_missed, row_first, row_passed, none_shaken, silent_handshakes, loud_handshakes)

pub ruleset rows_counted = (row_counted, none_shaken, silent_handshakes, loud_handshakes, shaken_bytes)
