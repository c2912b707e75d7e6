-- Formulas as bytes: document 01, "Questions and verdicts", and the numbers 9 and 10.
-- "A question is a tree in prefix order, two bytes a node: operator, then label (0 where the operator has none)."
use Rattle.std.specs.Prelude.{ℕ, ◌*◌, ◌≤◌, ◌≡◌, Bool, true, not, ◌&&◌, List, [], ◌∷◌, length, leb, None, Option, Some}
use Rattle.hml.specs.Lists.{present}
use Rattle.hml.specs.Formula.{Formula, size, nesting, labelled}
use Rattle.hml.specs.Spell.{spell, parse}
use Rattle.labels.specs.Labels.{count}
use Rattle.labels.specs.Refusals.{refused_if, first_of, Check}
use Rattle.labels.specs.declared.refusal.Refusal.TheVariants.{NotATree, NestedTooDeep}
use Rattle.labels.specs.declared.label.Labels.{Labels}

-- the reading: the tree that the bytes spell, if they are one whole tree
unfoldable pub whole_of : Option (Formula × List ℕ) → Option Formula
whole_of None = None
whole_of (Some (φ, [])) = Some φ
whole_of (Some (φ, b ∷ bytes)) = None

unfoldable pub formula_of : List ℕ → Option Formula
formula_of f = whole_of (parse f)

-- "A question has 1 to 64 nodes, a quotient 1 to 4,096; verdicts take either"
abbrev pub question_limit : ℕ
question_limit = 64

abbrev pub quotient_limit : ℕ
quotient_limit = 4096

-- what it is for bytes to be a formula of a call: they spell one tree, of at most `limit` nodes, whose labels are those
-- of the call and whose forward modalities nest at most 4 deep
unfoldable pub Legal : Labels → ℕ → List ℕ → Type 0
Legal k limit f = (φ : Formula) × (f ≡ spell φ []) × (size φ ≤ limit) × (labelled (count k) φ ≡ true) × (nesting φ ≤ 4)

-- the same as two tests. 9: "formula not one whole tree, operator over 8, label over 2k, or a label byte set where none
-- belongs", "9 also for an unfit length or over the node limit"
unfoldable pub is_formula : Labels → ℕ → List ℕ → Bool
is_formula k limit f = leb (length f) (2 * limit) && present (labelled (count k)) (formula_of f)

-- 10: "forward nesting over 4"
unfoldable pub nests_fit : List ℕ → Bool
nests_fit f = present (λ φ. leb (nesting φ) 4) (formula_of f)

-- "10: .. after 9"
unfoldable pub check_formula : Labels → ℕ → List ℕ → Check
check_formula k limit f =
    first_of (refused_if (not (is_formula k limit f)) NotATree ∷ refused_if (not (nests_fit f)) NestedTooDeep ∷ [])
