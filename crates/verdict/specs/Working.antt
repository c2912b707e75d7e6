-- How the code works: what functions ask for and promise that serve others. No call's promise cites this file.
use Rattle.std.specs.Prelude.{ℕ, zero, suc, ◌+◌, ◌-◌, ◌*◌, ◌/◌, ◌%◌, ◌≤◌, ◌<◌, ◌≡◌, Bool, true, false, cond, ◌&&◌, ◌||◌, List, [], ◌∷◌, length, get_or, take, drop, eqb, ltb, leb, None, Option, Some}
use Rattle.hml.specs.Lists.{same, any, present}
use Rattle.hml.specs.System.{System, Run, Pairing}
use Rattle.hml.specs.Formula.{Formula, holds, size, nesting, labelled}
use Rattle.hml.specs.Spell.{spell}
use Rattle.hml.specs.Compose.{beside}
use Rattle.labels.specs.Labels.{count, pairing}
use Rattle.labels.specs.declared.label.Labels.{Labels}
use Rattle.tables.specs.Tables.{table_of}
use Rattle.machines.specs.Working.{Held}
use Rattle.formulas.specs.Operators.{is_back, is_connective}
use Rattle.formulas.specs.Working.{Tree, tree_of, tree_size}
use Rattle.halves.specs.declared.side.Known.{Known as Mover}
use Rattle.halves.specs.declared.side.Known.TheVariants as mover

-- the states after a move of one side
unfoldable pub targets_of : Mover → ℕ → ℕ → ℕ × ℕ
targets_of mover.Left to other = (to, other)
targets_of mover.Right to other = (other, to)

-- the grid of the side that moves
unfoldable pub grid_by : Mover → List ℕ → List ℕ → List ℕ
grid_by mover.Left l r = l
grid_by mover.Right l r = r

-- of a left and a right state, that of the side that moves, and that of the other side
unfoldable pub state_by : Mover → ℕ → ℕ → ℕ
state_by mover.Left p q = p
state_by mover.Right p q = q

unfoldable pub other_by : Mover → ℕ → ℕ → ℕ
other_by mover.Left p q = q
other_by mover.Right p q = p

-- where the mover's state stands in a step that is written from n on
unfoldable pub place_of : Mover → ℕ → ℕ
place_of mover.Left n = n + 1
place_of mover.Right n = n + 2

-- a label that a move can show
abbrev pub Shown : ℕ → Type 0
Shown a = a ≡ 255 → ⊥

-- the first n pairs of bytes
unfoldable pub pairs_in : ℕ → List ℕ → List (ℕ × ℕ)
pairs_in zero bs = []
pairs_in (suc n) bs = (get_or bs 0 0, get_or bs 1 0) ∷ pairs_in n (drop 2 bs)

-- a grid has 17 bytes a state: how many rows leave it, then label and target of each. Its reading is a system
unfoldable pub grid_of : List ℕ → System ℕ
grid_of g p = pairs_in (get_or g (17 * p) 0) (drop (17 * p + 1) g)

-- a grid: 64 states, at most 8 rows from each
pub record Grid (g : List ℕ) : Type 0 where
  pub whole : length g ≡ 1088
  pub few : (p : ℕ) → p < 64 → get_or g (17 * p) 0 ≤ 8

-- the verdict of the two grids beside each other
unfoldable pub judged : Labels → List ℕ → List ℕ → Formula → Run (ℕ × ℕ) → Bool
judged labels l r φ j = holds (beside (pairing labels) (grid_of l) (grid_of r)) φ j

-- the verdict of two tables
unfoldable pub tables_hold : Labels → List ℕ → List ℕ → Formula → Run (ℕ × ℕ) → Bool
tables_hold labels l r φ j = holds (beside (pairing labels) (table_of l) (table_of r)) φ j

-- does the test pass for the target of one of the moves that have this label?
unfoldable pub tried : (ℕ → Bool) → ℕ → List (ℕ × ℕ) → Bool
tried F b moves = any (λ m. same m.0 b && F m.1) moves

-- does the test pass for the targets of one of the handshakes of these moves?
unfoldable pub shaken : Pairing → (ℕ → ℕ → Bool) → List (ℕ × ℕ) → List (ℕ × ℕ) → Bool
shaken P F lefts rights = any (λ m. present (λ b. tried (F m.1) b rights) (P.partner m.0)) lefts

-- a half run's bytes as those of a joint run beside a machine that stays in state 0. First its steps: a byte that fills
-- no step is none
unfoldable pub widened : List ℕ → List ℕ
widened [] = []
widened (a ∷ []) = []
widened (a ∷ q ∷ bytes) = a ∷ q ∷ 0 ∷ widened bytes

-- then the run, from its start state on
unfoldable pub beside_still : List ℕ → List ℕ
beside_still [] = []
beside_still (p ∷ bytes) = p ∷ 0 ∷ widened bytes

-- A formula as words, one a node, from its last node on: word n is that of the first of its last n nodes, and there is
-- no word 0. The operator stands above the low 12 bits; in these stands the size of the first operand of "and" and "or",
-- of any other node its label.
unfoldable pub operator_in : ℕ → ℕ
operator_in w = w / 4096

-- of "and" and "or": the size of the first operand
unfoldable pub first_size_in : ℕ → ℕ
first_size_in w = w % 4096

-- "and" and "or"
unfoldable pub has_two : ℕ → Bool
has_two o = eqb o 3 || eqb o 4

-- the label byte
unfoldable pub label_in : ℕ → ℕ
label_in w = cond (has_two (operator_in w)) 0 (w % 256)

-- the bytes of the last n nodes
unfoldable pub text_of : List ℕ → ℕ → List ℕ
text_of ws zero = []
text_of ws (suc n) = operator_in (get_or ws (suc n) 0) ∷ label_in (get_or ws (suc n) 0) ∷ text_of ws n

-- each "and" and "or" among the last n nodes has the size of its first operand, so its second one is found
unfoldable pub Skips : List ℕ → ℕ → Type 0
Skips ws n = (i : ℕ) → i < n → has_two (operator_in (get_or ws (suc i) 0)) ≡ true
    → first_size_in (get_or ws (suc i) 0) ≡ tree_size (text_of ws i)

-- the words of a formula's bytes
pub record Coded (ws f : List ℕ) : Type 0 where
  pub spelled : text_of ws (length f / 2) ≡ f
  pub skips : Skips ws (length f / 2)

-- bytes that are one tree and no more, of at most 4,096 nodes
unfoldable pub Whole : List ℕ → Type 0
Whole f = (φ : Formula) × (f ≡ spell φ []) × (size φ ≤ 4096)

-- the last n nodes of f
unfoldable pub last_nodes : List ℕ → ℕ → List ℕ
last_nodes f n = drop (length f - 2 * n) f

-- what stands in each place up to n before its word does: the size of the tree that the last so many nodes begin with
unfoldable pub SizesIn : List ℕ → List ℕ → ℕ → Type 0
SizesIn ws f n = (i : ℕ) → 1 ≤ i → i ≤ n → get_or ws i 0 ≡ tree_size (last_nodes f i)

-- a tree's size by its operator and the sizes of its operands
unfoldable pub size_by : ℕ → ℕ → ℕ → ℕ
size_by o first second = cond (leb o 1) 1 (cond (has_two o) (1 + first + second) (1 + first))

-- the word of a node whose first operand has this size
unfoldable pub word_of : ℕ → ℕ → ℕ → ℕ
word_of o a first = cond (has_two o) (4096 * o + first) (4096 * o + a)

-- two grids in one list, the left's, then the right's
abbrev pub left_in : List ℕ → List ℕ
left_in g = take 1088 g

abbrev pub right_in : List ℕ → List ℕ
right_in g = drop 1088 g

-- both grids of a call
pub record TwoGrids (g : List ℕ) : Type 0 where
  pub whole : length g ≡ 2176
  pub left : Grid (left_in g)
  pub right : Grid (right_in g)

-- so many rows from a place on lie within them
abbrev pub Inside : ℕ → ℕ → Type 0
Inside at rows = at + 2 * rows ≤ 2176

-- where the grid of the side that moves begins
unfoldable pub start_of : Mover → ℕ
start_of mover.Left = 0
start_of mover.Right = 1088

-- the same where both grids stand in one list
abbrev pub judged_by : Labels → List ℕ → Formula → Run (ℕ × ℕ) → Bool
judged_by labels g φ j = judged labels (left_in g) (right_in g) φ j

-- the tree that the last n nodes begin with
abbrev pub tree_at : List ℕ → ℕ → Formula
tree_at ws n = tree_of (text_of ws n)

-- that tree holds on no run
unfoldable pub Never : List ℕ → ℕ → Type 0
Never ws n = (k : Labels) (l r : List ℕ) (j : Run (ℕ × ℕ)) → false ≡ judged k l r (tree_at ws n) j

-- the operators whose operands are judged on the run at hand or on the one without its last step
unfoldable pub goes_on : ℕ → Bool
goes_on o = is_connective o || is_back o

-- does a back modality fit the last step of the run in the first n bytes, by its label: 8 an idle, 6 a move of its own?
unfoldable pub steps_back : ℕ → ℕ → List ℕ → ℕ → Bool
steps_back o a xs n =
    cond (ltb n 5) false (cond (eqb o 8) (eqb (get_or xs (n - 3) 0) 255) (eqb (get_or xs (n - 3) 0) a))

-- a place where the next step of the run in the first n bytes has the state of the side that moves
abbrev pub Placed : ℕ → ℕ → Type 0
Placed place n = (m : Mover) × (place ≡ place_of m n)

-- the first n bytes of xs are a run, with room behind it for `more` steps and those that a tree looks ahead: the one
-- that the last i nodes of the formula begin with, whose words are ws
pub record Ready (k : Labels) (ws xs : List ℕ) (n more i : ℕ) : Type 0 where
  pub tree : Tree (text_of ws i)
  pub ranged : labelled (count k) (tree_at ws i) ≡ true
  pub skips : Skips ws i
  pub held : Held xs n
  pub room : n + 3 * (more + nesting (tree_at ws i)) ≤ length xs
  pub size : length xs ≡ 614
  pub few : i ≤ 4096

-- what a chain tells of a formula's verdict on a run is so, whatever moves there are
unfoldable pub Tells : Option Bool → List ℕ → Run (ℕ × ℕ) → Type 0
Tells (Some b) f j = (M : System (ℕ × ℕ)) → b ≡ holds M (tree_of f) j
Tells None f j = Unit {0}
