-- How the code works: what functions ask for and promise that serve others. No call's promise cites this file.
use Rattle.std.specs.Prelude.{ℕ, zero, suc, ◌-◌, ◌*◌, ◌+◌, ◌/◌, Bool, true, false, ◌&&◌, cond, List, [], ◌∷◌, ◌++◌, length, get_or, take, drop, leb, ◌≡◌, None, Option, Some}
use Rattle.hml.specs.Formula.{Formula, size, nesting, top}
use Rattle.hml.specs.Working.{backs}
use Rattle.hml.specs.Spell.{parse, spell}
use Rattle.formulas.specs.declared.tree.Measure.{Measure}
use Rattle.formulas.specs.Operators.{Operator, operator_of, is_forward}
use Rattle.formulas.specs.Formulas.{formula_of}

-- "(0 where the operator has none)"
abbrev pub fits : Bool → ℕ → Bool
fits true a = true
fits false zero = true
fits false (suc a) = false

-- how many operands a node has, by its operator and its label byte
unfoldable pub node_by : Option Operator → ℕ → Option ℕ
node_by None a = None
node_by (Some x) a = cond (fits x.labelled a) (Some x.operands) None

unfoldable pub node_of : ℕ → ℕ → Option ℕ
node_of o a = node_by (operator_of o) a

-- where the first tree of the bytes ends, if there is one: two bytes a node behind its start
unfoldable pub end_of : Option (Formula × List ℕ) → Option ℕ
end_of None = None
end_of (Some t) = Some (2 * size t.0)

unfoldable pub tree_end : List ℕ → Option ℕ
tree_end f = end_of (parse f)

-- bytes that begin with a tree
unfoldable pub Tree : List ℕ → Type 0
Tree f = (φ : Formula) × (rest : List ℕ) × (f ≡ spell φ rest)

-- the first tree; `top` where there is none
unfoldable pub tree_in : Option (Formula × List ℕ) → Formula
tree_in None = top
tree_in (Some t) = t.0

unfoldable pub tree_of : List ℕ → Formula
tree_of f = tree_in (parse f)

-- how far back a formula looks: the depth to which its back modalities nest
unfoldable pub backs_in : Option Formula → ℕ
backs_in None = 0
backs_in (Some φ) = backs φ

-- that of the formula that the bytes spell; 0 for bytes that spell none
unfoldable pub backs_of : List ℕ → ℕ
backs_of f = backs_in (formula_of f)

-- the nodes that look forward; a byte that fills no node is none
unfoldable pub forwards_in : List ℕ → ℕ
forwards_in [] = 0
forwards_in (o ∷ []) = 0
forwards_in (o ∷ a ∷ bytes) = cond (is_forward o) 1 0 + forwards_in bytes

-- the size of the first tree of the bytes; 0 where they begin with none
unfoldable pub size_in : Option (Formula × List ℕ) → ℕ
size_in None = 0
size_in (Some t) = size t.0

unfoldable pub tree_size : List ℕ → ℕ
tree_size f = size_in (parse f)

-- for each node, from the last one on, the size of the tree that begins there; a byte that fills no node is none
unfoldable pub sizes_of : List ℕ → List ℕ
sizes_of [] = []
sizes_of (o ∷ []) = []
sizes_of (o ∷ a ∷ bytes) = sizes_of bytes ++ tree_size (o ∷ a ∷ bytes) ∷ []

-- the sizes, as many as there is room for, in the place of the first elements of a list
unfoldable pub sizes_over : List ℕ → List ℕ → List ℕ
sizes_over f xs = take (length xs) (sizes_of f) ++ drop (length (sizes_of f)) xs

-- the list begins with the sizes of f: those of its nodes from the last one on, so a part of f from a later node on
-- needs no other list
unfoldable pub Sized : List ℕ → List ℕ → Type 0
Sized sizes f = take (length f / 2) sizes ≡ sizes_of f

-- bytes that begin with a tree, and a list with the sizes of their trees
pub record Part (sizes f : List ℕ) : Type 0 where
  pub tree : Tree f
  pub sized : Sized sizes f

-- the length of the first tree, and how deep its forward and its back modalities nest
unfoldable pub measured_as : Option (Formula × List ℕ) → Measure
measured_as None = record { len = 2; nesting = 0; backs = 0 }
measured_as (Some t) = record { len = 2 * size t.0; nesting = nesting t.0; backs = backs t.0 }

unfoldable pub measure_of : List ℕ → Measure
measure_of f = measured_as (parse f)

abbrev pub operands_in : Option ℕ → ℕ
operands_in (Some n) = n
operands_in None = 0

-- is no label byte above n?
unfoldable pub labels_fit : ℕ → List ℕ → Bool
labels_fit n [] = true
labels_fit n (o ∷ []) = true
labels_fit n (o ∷ a ∷ bytes) = leb a n && labels_fit n bytes

-- of sizes that stand from the last node on, that of the tree n nodes behind the first one; 0 stands for what is behind
-- the last node
unfoldable pub size_behind : List ℕ → ℕ → ℕ
size_behind sizes n = get_or (0 ∷ sizes) (length sizes - n) 0
