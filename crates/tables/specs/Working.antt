-- How the code works: what functions ask for and promise that serve others. No call's promise cites this file.
use Rattle.std.specs.Prelude.{ℕ, zero, suc, ◌+◌, ◌≤◌, ◌<◌, ◌*◌, ◌≡◌, cond, List, [], ◌∷◌, map, length, get_or, ltb, Err, Ok, Result}
use Rattle.hml.specs.Machine.{Row}
use Rattle.tables.specs.Tables.{leaving, check_row, threes, rows_of, Rising}
use Rattle.tables.specs.declared.row.Row as declared-row
use Rattle.labels.specs.declared.label.Labels.{Labels}
use Rattle.labels.specs.Refusals.{Check}
use Rattle.labels.specs.declared.refusal.Refusal.{Refusal}

-- row i of a table's bytes
abbrev pub row_of : List ℕ → ℕ → Row
row_of t i = (get_or t (3 * i + 1) 0, get_or t (3 * i + 1 + 1) 0, get_or t (3 * i + 1 + 2) 0)

-- the three bytes of a row
abbrev pub row_bytes : Row → List ℕ
row_bytes r = r.0 ∷ r.1 ∷ r.2 ∷ []

-- the moves of rows that stand one after the other: label and target of each
unfoldable pub moves_in : List ℕ → List (ℕ × ℕ)
moves_in bytes = map (λ r. (r.1, r.2)) (threes bytes)

-- a table that no check refuses, as far as functions that search it need it
pub record Ready (t : List ℕ) : Type 0 where
  pub some : 1 ≤ length t
  pub rising : Rising (rows_of t)

abbrev pub triple_of : declared-row.Row → Row
triple_of r = (r.from, r.label.0, r.to)

-- the rows before row i, the newest first
unfoldable pub up_to : List ℕ → ℕ → List Row
up_to t zero = []
up_to t (suc i) = row_of t i ∷ up_to t i

-- a row's check, with how many rows up to it leave its state
unfoldable pub judged_by : Check → ℕ → Result ℕ Refusal
judged_by (Ok _) n = Ok n
judged_by (Err r) n = Err r

unfoldable pub judged : Labels → ℕ → List ℕ → ℕ → Result ℕ Refusal
judged k n t i = judged_by (check_row k n (up_to t i) (row_of t i)) (1 + leaving (row_of t i).0 (up_to t i))

-- e of the rows before row i leave the state that the last of them leaves, and none leaves a state above it
abbrev pub Counted : List ℕ → ℕ → ℕ → Type 0
Counted t zero e = Unit {0}
Counted t (suc i) e =
    (e ≡ leaving (row_of t i).0 (up_to t (suc i))) × ((p : ℕ) → (row_of t i).0 < p → leaving p (up_to t (suc i)) ≡ 0)

-- how many rows leave a state below p
unfoldable pub below : ℕ → List Row → ℕ
below p [] = 0
below p (r ∷ rows) = cond (ltb r.0 p) 1 0 + below p rows
