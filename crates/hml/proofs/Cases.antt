-- One published case, computed from the definitions, kept for a must-fail edit of this crate that no theorem here
-- stops: with the disjuncts joined to the left (disjuncts_nested_to_the_left) the verdict stays, and only the written
-- bytes differ. All cases that document 01 marks with a star stand together in sheet_lines/proofs/Published.
use mathlib.Core.Path.{◌≡◌, refl}
use mathlib.Core.List.{[], ◌∷◌}
use Prim.Native.Nat.{ℕ}
use Rattle.hml.specs.Lists.{only}
use Rattle.hml.specs.System.{System, start}
use Rattle.hml.specs.Formula.{top, fwd}
use Rattle.hml.specs.Quotient.{quotient}
use Rattle.hml.specs.Spell.{spell}
use Rattle.hml.specs.Labels.{pairs, partner_among, partner_of, highest}
use Rattle.hml.specs.Machine.{machine}

-- case A's right machine
abbrev right_a : System ℕ
right_a = machine ((0, 2, 1) ∷ (0, 4, 1) ∷ [])

-- "point 0, forward by 0 over true: T, 04000500000004000501000005030000"
forward0 : spell (quotient (pairs 2) right_a (fwd 0 top) (start 0)) []
    ≡ 4 ∷ 0 ∷ 5 ∷ 0 ∷ 0 ∷ 0 ∷ 4 ∷ 0 ∷ 5 ∷ 1 ∷ 0 ∷ 0 ∷ 5 ∷ 3 ∷ 0 ∷ 0 ∷ []
unfolding spell quotient machine pairs partner_among partner_of highest only
forward0 = refl
