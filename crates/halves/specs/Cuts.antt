-- The known side and the cut: document 01, "The quotient" and the end of "Who can cause a refusal"; document 02, 2/12.
use Rattle.std.specs.Prelude.{ℕ, ◌+◌, ◌*◌, ◌/◌, ◌%◌, List, [], Bool, cond, ◌||◌, length, take, eqb, ltb}
use Rattle.halves.specs.declared.side.Side.{Side}
use Rattle.halves.specs.declared.side.Side.TheVariants as side
use Rattle.halves.specs.declared.side.Known.{Known}
use Rattle.halves.specs.declared.side.Known.TheVariants as known

-- "A caller may name the known side" (document 01); "A caller who names no side now gets the quotient by the left half,
-- and from a cut the left half" (document 02). Document 01's "unnamed, it is the right" holds no more
abbrev pub known_of : Side → Known
known_of side.Unnamed = known.Left
known_of side.Left = known.Left
known_of side.Right = known.Right

-- 12: is the point beyond the run of a half? A half of even length has no points, any other those from 0 to its number
-- of steps
unfoldable pub beyond : List ℕ → ℕ → Bool
beyond s point = eqb (length s % 2) 0 || ltb (length s / 2) point

-- a half up to a point: its start state and two bytes a step. Empty where the point is beyond
unfoldable pub prefix_of : List ℕ → ℕ → List ℕ
prefix_of s point = cond (beyond s point) [] (take (2 * point + 1) s)

-- of a left and a right part, that of the known side, and that of the other
abbrev pub known_part : List ℕ → List ℕ → Known → List ℕ
known_part l r known.Left = l
known_part l r known.Right = r

abbrev pub other_part : List ℕ → List ℕ → Known → List ℕ
other_part l r known.Left = r
other_part l r known.Right = l

-- "A cut returns the known half as the part of whichever lent half it is, up to the point." It looks at that half alone
unfoldable pub cut_of : List ℕ → List ℕ → Side → ℕ → List ℕ
cut_of l r s point = prefix_of (known_part l r (known_of s)) point
