-- The quotient of a legal question: a legal formula but for its size, and one that keeps the verdict.
use Prim.Native.Nat.{ℕ, ◌≤◌}
use mathlib.Core.Path.{◌≡◌, refl, sym, ◌∙◌}
use mathlib.Core.List.{List, []}
use native.Mathlib.Omega.{arith}
use Rattle.hml.specs.System.{Run, stop}
use Rattle.hml.specs.Formula.{Formula, size, holds}
use Rattle.hml.specs.Compose.{beside, paired}
use Rattle.hml.proofs.Composition.{Join}
use Rattle.labels.specs.Labels.{count, pairing}
use Rattle.labels.proofs.Labels.{partner-ranged}
use Rattle.hml.specs.Spell.{spell}
use Rattle.hml.specs.Quotient.{quotient}
use Rattle.hml.proofs.Bounds.{quotient-labelled, quotient_nested}
use Rattle.hml.proofs.Theorem.{join-stop, by_right, by_left}
use Rattle.labels.proofs.Refusals.{judges}
use Rattle.labels.specs.declared.label.Labels.{Labels}
use Rattle.tables.specs.Tables.{table_of}
use Rattle.halves.specs.Halves.{half_of}
use Rattle.halves.specs.Cuts.{known_part, other_part}
use Rattle.halves.specs.declared.side.Known.{Known}
use Rattle.halves.specs.declared.side.Known.TheVariants as known
use Rattle.formulas.specs.Formulas.{question_limit, quotient_limit, Legal, check_formula}
use Rattle.formulas.proofs.Checking.{judged_formula, formula_spell, one_formula}
use Rattle.dividing.specs.Quotients.{quotient_by, tree_by}
use Rattle.std.specs.Prelude.{Ok, Some}

-- the tree of the quotient of bytes that spell a formula
pub tree-found : (k : Labels) (t : List ℕ) (x : Run ℕ) (f : List ℕ) (φ : Formula) → f ≡ spell φ []
    → quotient_by k t x f ≡ Some (quotient (pairing k) (table_of t) φ x)
unfolding quotient_by tree_by
tree-found k t x f φ e = rw (e, formula_spell φ)

-- a question that no check refuses spells a formula, and is one that verdicts take
pub question_read : (k : Labels) (f : List ℕ) → check_formula k question_limit f ≡ Ok tt
    → (φ : Formula) × (f ≡ spell φ [])
unfolding Legal
question_read k f e = let (φ, spelled, _, _, _) = (judges (judged_formula k question_limit f)).0 e in (φ, spelled)

pub question-fits : (k : Labels) (f : List ℕ) → check_formula k question_limit f ≡ Ok tt
    → check_formula k quotient_limit f ≡ Ok tt
unfolding Legal
question-fits k f e =
    let (φ, spelled, s, l, n) = (judges (judged_formula k question_limit f)).0 e in
    (judges (judged_formula k quotient_limit f)).1 (φ, spelled, omega (arith, s), l, n)

-- its quotient, if it has at most 4,096 nodes, is one too: its labels are those of the call, and forward modalities
-- nest no deeper
pub quotient_fits : (k : Labels) (t : List ℕ) (x : Run ℕ) (f : List ℕ) (φ : Formula) → f ≡ spell φ []
    → check_formula k question_limit f ≡ Ok tt
    → size (quotient (pairing k) (table_of t) φ x) ≤ quotient_limit
    → check_formula k quotient_limit (spell (quotient (pairing k) (table_of t) φ x) []) ≡ Ok tt
unfolding Legal
quotient_fits k t x f φ spelled e s = go ((judges (judged_formula k question_limit f)).0 e)
  where
    ranged : (b c : ℕ) → (pairing k).partner b ≡ Some c → c ≤ count k
    ranged b c h = (partner-ranged k b c h).3

    go : Legal k question_limit f → check_formula k quotient_limit (spell (quotient (pairing k) (table_of t) φ x) [])
        ≡ Ok tt
    go (χ, other, _, l, n) =
        let same : χ ≡ φ = one_formula χ φ (sym other ∙ spelled) in
        (judges (judged_formula k quotient_limit (spell (quotient (pairing k) (table_of t) φ x) []))).1 (
          quotient (pairing k) (table_of t) φ x,
          refl,
          s,
          quotient-labelled (count k) (pairing k) ranged (table_of t) φ x (rw same at l),
          omega (arith, quotient_nested (pairing k) (table_of t) φ x, rw same at n),
        )

-- a formula holds on a joint run stopped at a point exactly if its quotient by the known half, stopped there, holds on
-- the other half, stopped there
pub verdict-kept : (k : Labels) (l r a b : List ℕ) (known : Known) (φ : Formula) (j : Run (ℕ × ℕ)) (point : ℕ)
    → Join (pairing k) paired (half_of a) (half_of b) j
    → holds (beside (pairing k) (table_of l) (table_of r)) φ (stop point j)
    ≡ holds (table_of (other_part l r known))
    (quotient (pairing k) (table_of (known_part l r known)) φ (stop point (half_of (known_part a b known))))
    (stop point (half_of (other_part a b known)))
verdict-kept k l r a b known.Left φ j point m =
    by_left (pairing k) (table_of l) (table_of r) φ (join-stop (pairing k) paired point m)
verdict-kept k l r a b known.Right φ j point m =
    by_right (pairing k) (table_of l) (table_of r) φ (join-stop (pairing k) paired point m)
