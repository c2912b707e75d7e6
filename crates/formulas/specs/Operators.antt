-- The operators of formulas: document 01, "Questions and verdicts", its table of operators. That this table says what
-- the theory's formulas do (`shape`, `spell`, `nesting` and `backs` of hml) is `agrees`, proofs/OperatorTable.
use Rattle.std.specs.Prelude.{ℕ, Bool, true, false, ◌&&◌, ◌||◌, List, [], ◌∷◌, get_or, ltb, None, Option, Some}
use Rattle.hml.specs.Lists.{present}

-- the runs on which an operator has its operands judged: the run at hand, those one step longer, the one without the
-- last step
pub data Looks : Type 0 where
  here forward back : Looks

pub record Operator : Type 0 where
  pub operands : ℕ
  pub looks : Looks
  pub labelled : Bool

-- operands, where it looks, does it take a label?
abbrev pub operator : ℕ → Looks → Bool → Option Operator
operator n w l = Some (record { operands = n; looks = w; labelled = l })

-- the table, by rising number
abbrev pub operators : List (Option Operator)
operators =
    -- 0, 1: true, false
    operator 0 here false
    ∷ operator 0 here false
    -- 2, 3, 4: not, and, or
    ∷ operator 1 here false
    ∷ operator 2 here false
    ∷ operator 2 here false
    -- 5, 6: forward by label, back by label
    ∷ operator 1 forward true
    ∷ operator 1 back true
    -- 7, 8: forward by idle, back by idle
    ∷ operator 1 forward false
    ∷ operator 1 back false
    ∷ []

-- the operator of a number; over 8 there is none
abbrev pub operator_of : ℕ → Option Operator
operator_of o = get_or operators o None

unfoldable pub is_operator : ℕ → Bool
is_operator o = present (λ x. true) (operator_of o)

-- "forward modalities (5 and 7)"
abbrev ahead : Looks → Bool
ahead here = false
ahead forward = true
ahead back = false

unfoldable pub is_forward : ℕ → Bool
is_forward o = present (λ x. ahead x.looks) (operator_of o)

-- back modalities
abbrev behind : Looks → Bool
behind here = false
behind forward = false
behind back = true

unfoldable pub is_back : ℕ → Bool
is_back o = present (λ x. behind x.looks) (operator_of o)

-- either of them
unfoldable pub is_modality : ℕ → Bool
is_modality o = is_forward o || is_back o

-- "not", "and" and "or": operands judged on the run at hand
abbrev still : Looks → Bool
still here = true
still forward = false
still back = false

unfoldable pub is_connective : ℕ → Bool
is_connective o = present (λ x. ltb 0 x.operands && still x.looks) (operator_of o)

-- "operator, then label (0 where the operator has none)"
unfoldable pub takes_label : ℕ → Bool
takes_label o = present (λ x. x.labelled) (operator_of o)
