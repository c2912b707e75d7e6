-- Tables: document 01, "Machines and labels", and the numbers 3, 5, 6 and 7 of "Who can cause a refusal".
-- A table as bytes is n, then its rows, three bytes each: from, label, to.
use Rattle.std.specs.Prelude.{ℕ, ◌+◌, ◌%◌, ◌≤◌, ◌<◌, ◌≡◌, Bool, true, cond, ◌&&◌, ◌||◌, not, List, [], ◌∷◌, length, get_or, take, drop, eqb, leb, ltb, None, Ok, Option, Some}
use Rattle.hml.specs.Lists.{same, ◌∈◌, any, each, only}
use Rattle.hml.specs.System.{System}
use Rattle.hml.specs.Machine.{Row, machine}
use Rattle.labels.specs.Labels.{count}
use Rattle.labels.specs.Refusals.{refused_if, then_of, first_of, Check}
use Rattle.labels.specs.declared.refusal.Refusal.TheVariants.{WrongLength, OutOfRange, RowNotAbove, NinthRow}
use Rattle.labels.specs.declared.label.Labels.{Labels}
use Rattle.tables.specs.declared.row.Row as declared-row

-- the number of states
abbrev pub states_of : List ℕ → ℕ
states_of t = get_or t 0 0

-- bytes as rows, three a row; bytes that fill no row are none
unfoldable pub threes : List ℕ → List Row
threes [] = []
threes (f ∷ []) = []
threes (f ∷ a ∷ []) = []
threes (f ∷ a ∷ to ∷ bytes) = (f, a, to) ∷ threes bytes

-- rows as bytes
unfoldable pub bytes_of : List Row → List ℕ
bytes_of rows = each (λ (r : Row). r.0 ∷ r.1 ∷ r.2 ∷ []) rows

-- the rows of a table, in table order
unfoldable pub rows_of : List ℕ → List Row
rows_of [] = []
rows_of (n ∷ bytes) = threes bytes

-- the reading of a table: the system whose moves are its rows, in table order
unfoldable pub table_of : List ℕ → System ℕ
table_of t = machine (rows_of t)

-- is there a move with this label and target among these?
unfoldable pub among : List (ℕ × ℕ) → ℕ → ℕ → Bool
among moves a q = any (λ m. same m.0 a && same m.1 q) moves

-- has the system a move from p with this label and target?
unfoldable pub has_move : System ℕ → ℕ → ℕ → ℕ → Bool
has_move M p a q = among (M p) a q

-- a row as the program holds it
abbrev pub row_struct : Row → declared-row.Row
row_struct r = record { from = r.0; label = record { 0 = r.1 }; to = r.2 }

-- a row by its number, from 0
unfoldable pub row_read : List ℕ → ℕ → (Option declared-row.Row)
row_read t i = cond (ltb i (length (rows_of t))) (Some (row_struct (get_or (rows_of t) i (0, 0, 0)))) None

-- 3: "3 to 1,539, a multiple of 3" counts a record's kind of two bytes, so a table has 1 to 1,537 bytes, one more than
-- a multiple of 3
unfoldable pub fit_table : List ℕ → Bool
fit_table t = eqb (length t % 3) 1 && leb (length t) 1537

-- 5: n is 0 or over 64
unfoldable pub fit_states : ℕ → Bool
fit_states n = leb 1 n && leb n 64

-- 5: a row holds a state or label out of range
unfoldable pub in_range : Labels → ℕ → Row → Bool
in_range k n r = ltb r.0 n && (leb r.1 (count k) && ltb r.2 n)

-- rows are compared by from, then label, then to
unfoldable pub row_below : Row → Row → Bool
row_below r s =
    ltb r.0 s.0 || (eqb r.0 s.0 && (ltb r.1 s.1 || (eqb r.1 s.1 && ltb r.2 s.2)))

-- 6: is the row above the one before? `before` are the rows before it, the newest first
unfoldable pub above_last : List Row → Row → Bool
above_last [] r = true
above_last (b ∷ before) r = row_below b r

-- how many of the rows leave the state p
unfoldable pub leaving : ℕ → List Row → ℕ
leaving p [] = 0
leaving p (r ∷ rows) = cond (eqb r.0 p) 1 0 + leaving p rows

-- one row after those before it: 5, then 6, then 7
unfoldable pub check_row : Labels → ℕ → List Row → Row → Check
check_row k n before r = first_of
    (refused_if (not (in_range k n r)) OutOfRange
    ∷ refused_if (not (above_last before r)) RowNotAbove
    ∷ refused_if (leb 8 (leaving r.0 before)) NinthRow
    ∷ [])

-- row by row: the first bad row decides
unfoldable pub check_rows : Labels → ℕ → List Row → List Row → Check
check_rows k n before [] = Ok tt
check_rows k n before (r ∷ rows) = then_of (check_row k n before r) (check_rows k n (r ∷ before) rows)

-- the check of a table, for the labels of a call
unfoldable pub check_table : Labels → List ℕ → Check
check_table k t = first_of
    (refused_if (not (fit_table t)) WrongLength
    ∷ refused_if (not (fit_states (states_of t))) OutOfRange
    ∷ check_rows k (states_of t) [] (rows_of t)
    ∷ [])

-- the rows that leave p, in table order
unfoldable pub rows_from : ℕ → List Row → List Row
rows_from p rows = each (λ r. only (same r.0 p) r) rows

-- rows that rise: each is above the one before
pub data Rising : List Row → Type 0 where
  none : Rising []
  one : {r : Row} → Rising (r ∷ [])
  more : {r s : Row} {rows : List Row} → row_below r s ≡ true → Rising (s ∷ rows) → Rising (r ∷ s ∷ rows)

-- Document 01 has no table whose rows do not rise, so it leaves open which rows of such bytes leave p. What holds
-- there, too, of bytes that are given as these rows: they are rows of the table that stand together, and each of them
-- leaves p.
pub record Together (rows : List Row) (p : ℕ) (bytes : List ℕ) : Type 0 where
  pub first : ℕ
  pub many : ℕ
  pub inside : first + many ≤ length rows
  pub given : bytes ≡ bytes_of (take many (drop first rows))
  pub leave : (r : Row) → r ∈ take many (drop first rows) → r.0 ≡ p

-- a table as document 01 says: n, then rows of three bytes; 1 to 64 states; rows in range, each above the one before,
-- at most 8 from a state
pub record SoundTable (k : Labels) (t : List ℕ) : Type 0 where
  pub fits : (length t % 3 ≡ 1) × (length t ≤ 1537)
  pub some : 1 ≤ states_of t
  pub few-states : states_of t ≤ 64
  pub ranged : (r : Row) → r ∈ rows_of t → (r.0 < states_of t) × (r.1 ≤ count k) × (r.2 < states_of t)
  pub rising : Rising (rows_of t)
  pub eight : (p : ℕ) → leaving p (rows_of t) ≤ 8
