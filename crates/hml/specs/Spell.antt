-- A formula as bytes: two for each node, operator and label, in prefix order; and reading them back. That the two are
-- inverse is proved in proofs/Spelling.
use Rattle.std.specs.Prelude.{List, [], ◌∷◌, ℕ, zero, suc, get_or, None, Option, Some}
use Rattle.hml.specs.Formula.{Formula, top, bottom, not, and, or, fwd, back, fwd_idle, back_idle}

-- the bytes of a formula, in front of others
unfoldable pub spell : Formula → List ℕ → List ℕ
spell top bs = 0 ∷ 0 ∷ bs
spell bottom bs = 1 ∷ 0 ∷ bs
spell (not φ) bs = 2 ∷ 0 ∷ spell φ bs
spell (and φ ψ) bs = 3 ∷ 0 ∷ spell φ (spell ψ bs)
spell (or φ ψ) bs = 4 ∷ 0 ∷ spell φ (spell ψ bs)
spell (fwd a φ) bs = 5 ∷ a ∷ spell φ bs
spell (back a φ) bs = 6 ∷ a ∷ spell φ bs
spell (fwd_idle φ) bs = 7 ∷ 0 ∷ spell φ bs
spell (back_idle φ) bs = 8 ∷ 0 ∷ spell φ bs

-- what an operator and its label make of the formulas behind them
pub data Shape : Type 0 where
  leaf : Formula → Shape
  unary : (Formula → Formula) → Shape
  binary : (Formula → Formula → Formula) → Shape
  bad : Shape

-- the label byte of an operator without label is 0
abbrev pub bare : ℕ → Shape → Shape
bare zero s = s
bare (suc a) s = bad

abbrev pub operators : ℕ → List Shape
operators a = bare a (leaf top) ∷ bare a (leaf bottom) ∷ bare a (unary not) ∷ bare a (binary and) ∷ bare a (binary or)
    ∷ unary (fwd a) ∷ unary (back a) ∷ bare a (unary fwd_idle) ∷ bare a (unary back_idle) ∷ []

abbrev pub shape : ℕ → ℕ → Shape
shape o a = get_or (operators a) o bad

-- formulas read, newest first, and the bytes behind them
abbrev pub Read : Type 0
Read = Option (List Formula × List ℕ)

abbrev pub build0 : Formula → Read → Read
build0 φ None = None
build0 φ (Some t) = Some (φ ∷ t.0, t.1)

abbrev pub build1 : (Formula → Formula) → Read → Read
build1 f None = None
build1 f (Some ([], bs)) = None
build1 f (Some (φ ∷ φs, bs)) = Some (f φ ∷ φs, bs)

abbrev pub build2 : (Formula → Formula → Formula) → Read → Read
build2 f None = None
build2 f (Some ([], bs)) = None
build2 f (Some (φ ∷ [], bs)) = None
build2 f (Some (φ ∷ ψ ∷ φs, bs)) = Some (f φ ψ ∷ φs, bs)

-- goes on behind an operator, with `more m` for what m formulas behind it read to
abbrev pub next : Shape → ℕ → (ℕ → Read) → Read
next (leaf φ) n more = build0 φ (more n)
next (unary f) n more = build1 f (more (suc n))
next (binary f) n more = build2 f (more (suc (suc n)))
next bad n more = None

-- reads n formulas, one behind the other: an operator asks for its operands in its own place
unfoldable pub trees : List ℕ → ℕ → Read
trees [] zero = Some ([], [])
trees [] (suc n) = None
trees (o ∷ []) zero = Some ([], o ∷ [])
trees (o ∷ []) (suc n) = None
trees (o ∷ a ∷ bs) zero = Some ([], o ∷ a ∷ bs)
trees (o ∷ a ∷ bs) (suc n) = next (shape o a) n (λ m. trees bs m)

-- one formula and the bytes behind it
abbrev pub single : Read → Option (Formula × List ℕ)
single None = None
single (Some ([], bs)) = None
single (Some (φ ∷ [], bs)) = Some (φ, bs)
single (Some (φ ∷ ψ ∷ φs, bs)) = None

unfoldable pub parse : List ℕ → Option (Formula × List ℕ)
parse bs = single (trees bs 1)
