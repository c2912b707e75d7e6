-- How the boundary tells an answer: in one number, or in a struct. Which number and values an answer has stands beside
-- its enum, in the specs of the crate that answers; a cut has no enum, and the boundary answers the length of its part.
use Rattle.std.specs.Prelude.{ℕ, ◌+◌, ◌*◌, ◌/◌, ◌%◌, cond, List, get_or, eqb}
use Rattle.labels.specs.Refusals.{Answer}
use Rattle.halves.specs.declared.side.Side.{Side}
use Rattle.halves.specs.declared.side.Side.TheVariants as side
use Rattle.engine.specs.declared.sheet.LinesAnswer.{LinesAnswer}

-- the number times 2^32, plus what the call tells of the values; that is 0 where there are none, as when refused
unfoldable pub packed : (List ℕ → ℕ) → Answer → ℕ
packed tell a = a.number * 4294967296 + tell a.values

-- how a caller takes it apart: `yenuslap_refusal` and `yenuslap_value` of the header
unfoldable pub refusal_in : ℕ → ℕ
refusal_in n = n / 4294967296

unfoldable pub value_in : ℕ → ℕ
value_in n = n % 4294967296

-- nothing of the values: whether a casebook is sound is its number's to say
unfoldable pub nothing : List ℕ → ℕ
nothing ns = 0

-- the only value
unfoldable pub only : List ℕ → ℕ
only ns = get_or ns 0 0

-- two verdicts: 2 * the first + the second
unfoldable pub two_bits : List ℕ → ℕ
two_bits ns = 2 * get_or ns 0 0 + get_or ns 1 0

-- a start and a length that stand together: start * 65536 + length
unfoldable pub place_at : List ℕ → ℕ → ℕ
place_at ns i = get_or ns i 0 * 65536 + get_or ns (i + 1) 0

-- of the values of a reading, where the body of the record of a kind lies; for a kind outside 1 to 5 it is 0
unfoldable pub place_in : ℕ → List ℕ → ℕ
place_in kind ns =
    cond (eqb kind 1) (place_at ns 0)
    (cond (eqb kind 2) (place_at ns 2)
    (cond (eqb kind 3) (place_at ns 4)
    (cond (eqb kind 4) (place_at ns 6)
    (cond (eqb kind 5) (place_at ns 8) 0))))

-- a table's length and its first state: first state * 65536 + length
unfoldable pub table_told : List ℕ → ℕ
table_told ns = get_or ns 1 0 * 65536 + get_or ns 0 0

-- lines of the sheet: the number, the lines and the bytes
unfoldable pub lines_told : Answer → LinesAnswer
lines_told a = record { refusal = a.number; lines = get_or a.values 0 0; bytes = get_or a.values 1 0 }

-- 1 names the left side, 2 the right, anything else none
unfoldable pub side_of : ℕ → Side
side_of b = cond (eqb b 1) side.Left (cond (eqb b 2) side.Right side.Unnamed)
