-- How the code works: what functions ask for and promise that serve others. No call's promise cites this file.
use Rattle.std.specs.Prelude.{ℕ, ◌+◌, ◌-◌, ◌*◌, ◌/◌, ◌≤◌, ◌≡◌, Bool, ◌&&◌, cond, List, [], ◌∷◌, ◌++◌, length, get_or, eqb, leb, None, Option, Some}
use Rattle.hml.specs.Lists.{same, each, given}
use Rattle.hml.specs.System.{Run, ◌▸◌, Pairing}
use Rattle.hml.specs.Formula.{nesting}
use Rattle.hml.specs.Spell.{spell}
use Rattle.hml.specs.Quotient.{quotient}
use Rattle.labels.specs.Labels.{pairing}
use Rattle.labels.specs.declared.label.Labels.{Labels}
use Rattle.tables.specs.Tables.{table_of}
use Rattle.halves.specs.Runs.{step_of}
use Rattle.halves.specs.Steps.{step_read}
use Rattle.halves.specs.declared.step.Step.{Step}
use Rattle.halves.specs.declared.step.Step.TheVariants as step
use Rattle.halves.specs.Working.{HeldHalf}
use Rattle.formulas.specs.Working.{forwards_in, tree_of, Part}
use Rattle.dividing.specs.declared.node.Node.{Node}

-- the piece b, with d behind it, is the piece w
unfoldable pub Behind : List ℕ → List ℕ → List ℕ → Type 0
Behind b d w = b ++ d ≡ w

-- a node that stands over the quotient by the run without its last step
abbrev pub node_over : ℕ → ℕ → Option Node
node_over o a = Some (record { operator = o; label = record { 0 = a } })

abbrev pub back_by_partner : Option ℕ → Option Node
back_by_partner None = None
back_by_partner (Some c) = node_over 6 c

-- back by a label (6) or by idle (8), where the known half ends in a move of label b
unfoldable pub past_move : Labels → ℕ → ℕ → ℕ → Option Node
past_move labels o a b = cond (eqb o 6)
    (cond (same b a) (node_over 8 0) (cond (eqb a 0) (back_by_partner ((pairing labels).partner b)) None))
    None

-- where it ends in this step
unfoldable pub past_of : Labels → ℕ → ℕ → Step → Option Node
past_of labels o a (step.Move m) = past_move labels o a m.label.0
past_of labels o a step.Idle = cond (eqb o 6) (node_over 6 a) (node_over 8 0)

-- the last step of a half run's bytes, if there is one
unfoldable pub last_read : List ℕ → Option Step
last_read s = step_read s (length s / 2 - 1)

-- "On an empty run every back modality fails"
unfoldable pub past_read : Labels → ℕ → ℕ → Option Step → Option Node
past_read labels o a (Some x) = past_of labels o a x
past_read labels o a None = None

-- the disjuncts of a forward modality as bytes, four each: operator and label of the node, label and target of the
-- known half's step. First those of moves of label a alone
unfoldable pub alone_in : ℕ → List (ℕ × ℕ) → List ℕ
alone_in a moves = each (λ (m : ℕ × ℕ). given (same m.0 a) (7 ∷ 0 ∷ m.0 ∷ m.1 ∷ [])) moves

-- those of the known half's parts in handshakes
unfoldable pub shaken_by : ℕ × ℕ → Option ℕ → List ℕ
shaken_by m None = []
shaken_by m (Some c) = 5 ∷ c ∷ m.0 ∷ m.1 ∷ []

unfoldable pub shaken_in : Pairing → List (ℕ × ℕ) → List ℕ
shaken_in P moves = each (λ m. shaken_by m (P.partner m.0)) moves

-- all of them, for forward by a label (5) or by idle (7), where the known half ends in state q
unfoldable pub disjuncts_of : Labels → List ℕ → ℕ → ℕ → ℕ → List ℕ
disjuncts_of labels t o a q = cond (eqb o 7)
    (7 ∷ 0 ∷ 255 ∷ q ∷ [])
    (5 ∷ a ∷ 255 ∷ q ∷ (alone_in a (table_of t q) ++ given (eqb a 0) (shaken_in (pairing labels) (table_of t q))))

-- the bytes of the quotient of the first tree of f
unfoldable pub text : Labels → List ℕ → List ℕ → Run ℕ → List ℕ
text labels t f r = spell (quotient (pairing labels) (table_of t) (tree_of f) r) []

-- the bytes of the first of some disjuncts over the first tree of f
unfoldable pub first_text : Labels → List ℕ → List ℕ → Run ℕ → List ℕ → List ℕ
first_text labels t f r ds = get_or ds 0 0 ∷ get_or ds 1 0 ∷ text labels t f (r ▸ step_of (get_or ds 2 0) (get_or ds 3 0))

-- the bytes of all of them, joined by "or" to the right
unfoldable pub texts : Labels → List ℕ → List ℕ → Run ℕ → List ℕ → List ℕ
texts labels t f r [] = []
texts labels t f r (o ∷ []) = []
texts labels t f r (o ∷ a ∷ []) = []
texts labels t f r (o ∷ a ∷ b ∷ []) = []
texts labels t f r (o ∷ a ∷ b ∷ q ∷ []) = first_text labels t f r (o ∷ a ∷ b ∷ q ∷ [])
texts labels t f r (o ∷ a ∷ b ∷ q ∷ d ∷ ds) =
    4 ∷ 0 ∷ (first_text labels t f r (o ∷ a ∷ b ∷ q ∷ d ∷ ds) ++ texts labels t f r (d ∷ ds))

-- one disjunct or more, each of whose idles keeps the state q
pub data Listed (q : ℕ) : List ℕ → Type 0 where
  one : {o a b to : ℕ} → (b ≡ 255 → to ≡ q) → Listed q (o ∷ a ∷ b ∷ to ∷ [])
  more : {o a b to : ℕ} {ds : List ℕ} → (b ≡ 255 → to ≡ q) → Listed q ds → Listed q (o ∷ a ∷ b ∷ to ∷ ds)

-- the first n bytes of xs are a half run, with room behind it for `steps` steps and those that the first tree of f
-- looks ahead; sizes has the sizes of f's trees
pub record Ready (sizes xs : List ℕ) (n steps : ℕ) (f : List ℕ) : Type 0 where
  pub part : Part sizes f
  pub held : HeldHalf xs n
  pub room : n + 2 * (steps + nesting (tree_of f)) ≤ length xs
  pub size : length xs ≡ 409
  pub slots : length sizes ≡ 64

-- is the question's quotient sure to fit? It has no forward modality, and there is room for as many bytes as it has
-- itself
unfoldable pub surely_fits : List ℕ → ℕ → Bool
surely_fits f room = leb (length f) room && eqb (forwards_in f) 0
