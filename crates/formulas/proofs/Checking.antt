-- The cases of the check of a formula, and what it accepts: exactly the bytes that spell one tree within the limits.
use Prim.Native.Nat.{ℕ, ◌*◌, ◌/◌, ◌≤◌, ◌<◌}
use mathlib.Core.Path.{◌≡◌, refl, sym, ◌∙◌, ap}
use mathlib.Core.Bool.{Bool, true, false, not, and-false, and-true, false≢true}
use mathlib.Core.List.{List, [], ◌∷◌}
use native.Mathlib.Omega.{arith}
use lib.ListN.{length}
use lib.Dec.{eqb, leb}
use borrow.Author.Tests.{not-false, eq-eqb, eqb-true, le-leb, lt-leb, leb-true}
use Rattle.hml.proofs.Tests.{apart, both_true, decided_true}
use Rattle.hml.specs.Lists.{present}
use Rattle.hml.specs.Formula.{Formula, size, nesting, labelled}
use Rattle.labels.specs.Labels.{count}
use Rattle.hml.specs.Spell.{spell, parse}
use Rattle.hml.proofs.Spelling.{length-spell, parse-spell, parse_sound}
use Rattle.labels.specs.Refusals.{first_of, refused_if}
use Rattle.labels.specs.declared.refusal.Refusal.TheVariants.{NotATree, NestedTooDeep}
use Rattle.labels.proofs.Refusals.{Judges, judged_iff, judged_unless, judged_then, then_sound}
use Rattle.labels.specs.declared.label.Labels.{Labels}
use Rattle.formulas.specs.Formulas.{whole_of, formula_of, is_formula, nests_fit, check_formula, Legal}
use Rattle.formulas.specs.Working.{end_of, tree_end, forwards_in, Tree, tree_of, measure_of, labels_fit}
use Rattle.formulas.specs.declared.tree.Measure.{Measure}
use Rattle.formulas.proofs.FormulaLabels.{spelled-labels}
use Rattle.formulas.proofs.Measures.{measure_spell}
use Rattle.formulas.proofs.Operators.{tree-spell}
use Rattle.formulas.proofs.ForwardCount.{spelled-nesting}
use Rattle.std.specs.Prelude.{Err, None, Ok, Option, Some}
use Rattle.std.specs.Option.{option_eq}

-- bytes that spell one tree read to it
pub formula_spell : (φ : Formula) → formula_of (spell φ []) ≡ Some φ
unfolding formula_of whole_of
formula_spell φ = rw (parse-spell φ [])

-- they spell no other
pub one_formula : (φ ψ : Formula) → spell φ [] ≡ spell ψ [] → φ ≡ ψ
one_formula φ ψ e = let q : Some φ ≡ Some ψ = sym (formula_spell φ) ∙ ap formula_of e ∙ formula_spell ψ in cc

-- and the tree has half as many nodes as they are long
pub formula_length : (f : List ℕ) (φ : Formula) → f ≡ spell φ [] → length f ≡ 2 * size φ
formula_length f φ e = ap length e ∙ (let l = length-spell φ [] in omega (arith, l))

module _ (f : List ℕ) where
  -- bytes that read to a tree spell it
  pub formula_spelled : (φ : Formula) → formula_of f ≡ Some φ → f ≡ spell φ []
  unfolding formula_of whole_of
  formula_spelled φ e = go (parse f) (parse_sound f) e
    where
      go : (o : Option (Formula × List ℕ)) → ((ψ : Formula) (rest : List ℕ) → o ≡ Some (ψ, rest) → spell ψ rest ≡ f)
          → whole_of o ≡ Some φ → f ≡ spell φ []
      go None s e = absurd (apart cc)
      go (Some (ψ, [])) s e = let q : ψ ≡ φ = cc in rw (← q) (sym (s ψ [] refl))
      go (Some (ψ, b ∷ bs)) s e = absurd (apart cc)

  pub no_tree : None ≡ tree_end f → formula_of f ≡ None
  unfolding tree_end end_of formula_of whole_of
  no_tree e = go (parse f) e
    where
      go : (o : Option (Formula × List ℕ)) → None ≡ end_of o → whole_of o ≡ None
      go None e = refl
      go (Some t) e = absurd (apart cc)

  module _ (n : ℕ) (e : Some n ≡ tree_end f) where
    pub more_than_tree : (n ≡ length f → ⊥) → formula_of f ≡ None
    unfolding tree_end end_of formula_of whole_of
    more_than_tree d = go (parse f) (parse_sound f) e
      where
        go : (o : Option (Formula × List ℕ)) → ((ψ : Formula) (rest : List ℕ) → o ≡ Some (ψ, rest) → spell ψ rest ≡ f)
            → Some n ≡ end_of o → whole_of o ≡ None
        go None s e = refl
        go (Some (ψ, [])) s e =
            let q : n ≡ 2 * size ψ = cc in absurd (d (omega (arith, q, length-spell ψ [], ap length (s ψ [] refl))))
        go (Some (ψ, b ∷ bs)) s e = refl

    pub one-tree : n ≡ length f → (φ : Formula) × (f ≡ spell φ [])
    unfolding tree_end end_of
    one-tree d = go (parse f) (parse_sound f) e
      where
        go : (o : Option (Formula × List ℕ)) → ((ψ : Formula) (rest : List ℕ) → o ≡ Some (ψ, rest) → spell ψ rest ≡ f)
            → Some n ≡ end_of o → (φ : Formula) × (f ≡ spell φ [])
        go None s e = absurd (apart cc)
        go (Some (ψ, [])) s e = (ψ, sym (s ψ [] refl))
        go (Some (ψ, b ∷ bs)) s e =
            let q : n ≡ 2 * size ψ = cc in
            absurd (omega (arith, q, d, length-spell ψ (b ∷ bs), ap length (s ψ (b ∷ bs) refl)))

  -- whether the first tree ends where the bytes do
  module _ (r : Option ℕ) (x : Bool) (e : r ≡ tree_end f) (t : x ≡ not (option_eq eqb r (Some (length f)))) where
    pub not_whole : x ≡ true → formula_of f ≡ None
    not_whole q = go r e (sym t ∙ q)
      where
        go : (r : Option ℕ) → r ≡ tree_end f → not (option_eq eqb r (Some (length f))) ≡ true → formula_of f ≡ None
        go None e q = no_tree e
        go (Some n) e q = more_than_tree n e (λ z. false≢true (rw (eq-eqb n (length f) z) at q))

    pub whole : x ≡ false → (φ : Formula) × (f ≡ spell φ [])
    whole q = go r e (sym t ∙ q)
      where
        go : (r : Option ℕ) → r ≡ tree_end f → not (option_eq eqb r (Some (length f))) ≡ false
            → (φ : Formula) × (f ≡ spell φ [])
        go None e q = absurd (false≢true (sym q))
        go (Some n) e q = one-tree n e (eqb-true n (length f) (not-false (eqb n (length f)) q))

pub tree_of_lem : (f : List ℕ) (φ : Formula) → f ≡ spell φ [] → Tree f
unfolding Tree
tree_of_lem f φ e = (φ, [], e)

module _ (k : Labels) (limit : ℕ) (f : List ℕ) where
  pub over_limit : limit < length f / 2 → Err NotATree ≡ check_formula k limit f
  unfolding check_formula first_of is_formula
  over_limit h = rw (lt-leb (length f) (2 * limit) (omega (arith, h)))

  pub no_formula : formula_of f ≡ None → Err NotATree ≡ check_formula k limit f
  unfolding check_formula first_of is_formula
  no_formula e = rw (e, and-false)

  module _ (φ : Formula) (e : f ≡ spell φ []) where
    reads : formula_of f ≡ Some φ
    reads = rw e (formula_spell φ)

    labels_seen : labels_fit (count k) f ≡ labelled (count k) φ
    unfolding labels_fit
    labels_seen = rw e (spelled-labels (count k) φ [] ∙ and-true (labelled (count k) φ))

    module _ (room : length f / 2 ≤ limit) where
      within_limit : leb (length f) (2 * limit) ≡ true
      within_limit = le-leb (length f) (2 * limit) (omega (arith, formula_length f φ e))

      pub label_refused : labels_fit (count k) f ≡ false → Err NotATree ≡ check_formula k limit f
      unfolding check_formula first_of is_formula
      label_refused h = rw (within_limit, reads, sym labels_seen ∙ h)

      module _ (fit : labels_fit (count k) f ≡ true) where
        -- a nesting of at most 4 is sound
        shallow_sound : nesting φ ≤ 4 → Ok tt ≡ check_formula k limit f
        unfolding check_formula first_of is_formula nests_fit
        shallow_sound h = rw (within_limit, reads, sym labels_seen ∙ fit, le-leb (nesting φ) 4 h)

        -- few forward modalities do not nest too deep
        pub few_sound : (n : ℕ) → n ≡ forwards_in f → n ≤ 4 → Ok tt ≡ check_formula k limit f
        few_sound n g h = shallow_sound (omega (arith, g, h, ap forwards_in e, spelled-nesting φ []))

        module _ (m : Measure) (g : m ≡ measure_of f) where
          nesting_seen : m.nesting ≡ nesting φ
          nesting_seen = ap (λ (x : Measure). x.nesting) (g ∙ ap measure_of e ∙ measure_spell φ [])

          pub nested_refused : 4 < m.nesting → Err NestedTooDeep ≡ check_formula k limit f
          unfolding check_formula first_of is_formula nests_fit
          nested_refused h =
              rw (within_limit, reads, sym labels_seen ∙ fit, lt-leb (nesting φ) 4 (omega (arith, nesting_seen)))

          pub formula_sound : m.nesting ≤ 4 → Ok tt ≡ check_formula k limit f
          formula_sound h = shallow_sound (omega (arith, nesting_seen))

-- 9 and 10: a formula is accepted exactly if its bytes spell one tree within the limits
pub judged_formula : (k : Labels) (limit : ℕ) (f : List ℕ) → Judges (Legal k limit f) (check_formula k limit f)
unfolding check_formula first_of is_formula nests_fit Legal
judged_formula k limit f =
    judged_iff to from
    (judged_then (judged_unless NotATree (decided_true (is_formula k limit f)))
    (rw (then_sound (refused_if _ NestedTooDeep)) (judged_unless NestedTooDeep (decided_true (nests_fit f)))))
  where
    to : (is_formula k limit f ≡ true) × (nests_fit f ≡ true) → Legal k limit f
    to (a, b) = go (formula_of f) (formula_spelled f) (both_true a) b
      where
        go : (o : Option Formula) → ((φ : Formula) → o ≡ Some φ → f ≡ spell φ [])
            → (leb (length f) (2 * limit) ≡ true) × (present (labelled (count k)) o ≡ true)
            → present (λ φ. leb (nesting φ) 4) o ≡ true → Legal k limit f
        go None s a b = absurd (false≢true b)
        go (Some φ) s a b = (
          φ,
          s φ refl,
          omega (arith, leb-true (length f) (2 * limit) a.0, formula_length f φ (s φ refl)),
          a.1,
          leb-true (nesting φ) 4 b,
        )

    from : Legal k limit f → (is_formula k limit f ≡ true) × (nests_fit f ≡ true)
    from (φ, e, s, l, n) =
        rw (
          reads k limit f φ e,
          le-leb (length f) (2 * limit) (omega (arith, formula_length f φ e)),
          l,
          le-leb (nesting φ) 4 n,
        ) (refl, refl)

-- the reading of a legal formula is its first tree
pub legal_tree : (k : Labels) (limit : ℕ) (f : List ℕ) → Legal k limit f → formula_of f ≡ Some (tree_of f)
unfolding Legal
legal_tree k limit f (φ, e, s, l, d) = ap formula_of e ∙ formula_spell φ ∙ ap Some (sym (ap tree_of e ∙ tree-spell φ []))
