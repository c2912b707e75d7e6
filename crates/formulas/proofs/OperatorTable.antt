-- The table of operators: that it agrees with the theory, and which numbers each of its tests picks.
use Prim.Native.Nat.{ℕ, zero, suc, ◌+◌, ◌≤◌, ◌<◌, max}
use mathlib.Core.Path.{◌≡◌, refl}
use mathlib.Core.Bool.{Bool, true, false, cond, ◌&&◌, ◌||◌, beq, false≢true}
use mathlib.Core.List.{List, [], ◌∷◌}
use native.Mathlib.Omega.{arith}
use lib.ListN.{length, get_or}
use lib.Dec.{eqb, ltb}
use borrow.Author.Tests.{eqb-true, eqb-false, ltb-true, ltb-false, le-ltb, ne_eqb}
use Rattle.hml.proofs.Tests.{both_true}
use Rattle.hml.specs.Formula.{Formula, top, bottom, not, and, or, fwd, back, fwd_idle, back_idle, nesting}
use Rattle.hml.specs.Working.{backs}
use Rattle.hml.specs.Spell.{spell, Shape, leaf, unary, binary, bad, shape}
use Rattle.formulas.specs.Operators.{operators, operator_of, is_operator, is_forward, is_back, is_modality}
use Rattle.formulas.specs.Operators.{is_connective, takes_label}
use Rattle.formulas.specs.Working.{node_by, node_of}
use Rattle.std.specs.Prelude.{None, Option, Some}

-- what the theory makes of an operator and a label byte, by what the table says of them: a formula of so many operands,
-- spelled by these two bytes and the operands; and a modality nests one deeper than its operand, the way that it looks
pub data Agrees (o a : ℕ) : Option ℕ → Type 0 where
  none-due : (φ : Formula) → shape o a ≡ leaf φ → ((bs : List ℕ) → spell φ bs ≡ o ∷ a ∷ bs)
      → (nesting φ ≡ 0) × (backs φ ≡ 0) → Agrees o a (Some 0)
  one-due : (g : Formula → Formula) → shape o a ≡ unary g
      → ((φ : Formula) (bs : List ℕ) → spell (g φ) bs ≡ o ∷ a ∷ spell φ bs)
      → ((φ : Formula) → (nesting (g φ) ≡ cond (is_forward o) 1 0 + nesting φ)
      × (backs (g φ) ≡ cond (is_back o) 1 0 + backs φ))
      → Agrees o a (Some 1)
  two_due : (g : Formula → Formula → Formula) → shape o a ≡ binary g
      → ((φ ψ : Formula) (bs : List ℕ) → spell (g φ ψ) bs ≡ o ∷ a ∷ spell φ (spell ψ bs))
      → ((φ ψ : Formula) → (nesting (g φ ψ) ≡ max (nesting φ) (nesting ψ)) × (backs (g φ ψ) ≡ max (backs φ) (backs ψ)))
      → Agrees o a (Some 2)
  nothing : shape o a ≡ bad → Agrees o a None

pub agrees : (o a : ℕ) → Agrees o a (node_of o a)
unfolding node_of node_by spell nesting backs is_forward is_back
agrees zero zero = none-due top refl (λ bs. refl) (refl, refl)
agrees zero (suc a) = nothing refl
agrees (suc zero) zero = none-due bottom refl (λ bs. refl) (refl, refl)
agrees (suc zero) (suc a) = nothing refl
agrees (suc (suc zero)) zero = one-due not refl (λ φ bs. refl) (λ φ. omega arith)
agrees (suc (suc zero)) (suc a) = nothing refl
agrees (suc (suc (suc zero))) zero = two_due and refl (λ φ ψ bs. refl) (λ φ ψ. (refl, refl))
agrees (suc (suc (suc zero))) (suc a) = nothing refl
agrees (suc (suc (suc (suc zero)))) zero = two_due or refl (λ φ ψ bs. refl) (λ φ ψ. (refl, refl))
agrees (suc (suc (suc (suc zero)))) (suc a) = nothing refl
agrees (suc (suc (suc (suc (suc zero))))) a = one-due (fwd a) refl (λ φ bs. refl) (λ φ. omega arith)
agrees (suc (suc (suc (suc (suc (suc zero)))))) a = one-due (back a) refl (λ φ bs. refl) (λ φ. omega arith)
agrees (suc (suc (suc (suc (suc (suc (suc zero))))))) zero = one-due fwd_idle refl (λ φ bs. refl) (λ φ. omega arith)
agrees (suc (suc (suc (suc (suc (suc (suc zero))))))) (suc a) = nothing refl
agrees (suc (suc (suc (suc (suc (suc (suc (suc zero)))))))) zero =
    one-due back_idle refl (λ φ bs. refl) (λ φ. omega arith)
agrees (suc (suc (suc (suc (suc (suc (suc (suc zero)))))))) (suc a) = nothing refl
agrees (suc (suc (suc (suc (suc (suc (suc (suc (suc o))))))))) a = nothing refl

-- so the theory's shapes have the operands that the table says
abbrev pub shape_node : Shape → Option ℕ
shape_node (leaf φ) = Some 0
shape_node (unary f) = Some 1
shape_node (binary f) = Some 2
shape_node bad = None

pub shape_node_lem : (o a : ℕ) → node_of o a ≡ shape_node (shape o a)
shape_node_lem o a = go (agrees o a)
  where
    go : {n : Option ℕ} → Agrees o a n → n ≡ shape_node (shape o a)
    go (none-due φ e s d) = rw e
    go (one-due g e s d) = rw e
    go (two_due g e s d) = rw e
    go (nothing e) = rw e

-- no operator stands behind the table
pub no_operator : (o : ℕ) → length operators ≤ o → operator_of o ≡ None
no_operator o h = go operators o h
  where
    go : {A : Type 0} {d : A} (l : List A) (o : ℕ) → length l ≤ o → get_or l o d ≡ d
    go [] o h = refl
    go (x ∷ l) zero h = absurd (omega arith)
    go (x ∷ l) (suc o) h = go l o (omega arith)

-- two tests agree if they do for each number of the table and for those behind it
abbrev agree-below : (F G : ℕ → Bool) → ℕ → Bool
agree-below F G zero = true
agree-below F G (suc n) = beq (F n) (G n) && agree-below F G n

module _ (F G : ℕ → Bool) (o : ℕ) where
  same_value : (a b : Bool) → beq a b ≡ true → a ≡ b
  same_value true true e = refl
  same_value true false e = absurd (false≢true e)
  same_value false true e = absurd (false≢true e)
  same_value false false e = refl

  below : (n : ℕ) → agree-below F G n ≡ true → o < n → F o ≡ G o
  below zero e h = absurd (omega arith)
  below (suc n) e h = pick (eqb o n) refl (below n (both_true {a = beq (F n) (G n)} {b = agree-below F G n} e).1)
    where
      pick : (b : Bool) → eqb o n ≡ b → (o < n → F o ≡ G o) → F o ≡ G o
      pick true z k = rw (eqb-true o n z)
          (same_value _ _ (both_true {a = beq (F n) (G n)} {b = agree-below F G n} e).0)
      pick false z k = k (omega (arith, h, eqb-false o n z))

  by_table : agree-below F G (length operators) ≡ true → (length operators ≤ o → F o ≡ G o) → F o ≡ G o
  by_table e outside = go (ltb o (length operators)) refl
    where
      go : (b : Bool) → ltb o (length operators) ≡ b → F o ≡ G o
      go true z = below (length operators) e (ltb-true o (length operators) z)
      go false z = outside (ltb-false o (length operators) z)

-- a number behind the table is none of those in it
other : (o n : ℕ) → length operators ≤ o → n < length operators → eqb o n ≡ false
other o n h l = ne_eqb o n (λ e. omega (arith, e, h, l))

-- the numbers that each test picks
module _ (o : ℕ) where
  pub forward_numbers : is_forward o ≡ (eqb o 5 || eqb o 7)
  unfolding is_forward
  forward_numbers = by_table is_forward (λ o. eqb o 5 || eqb o 7) o refl
      (λ h. rw (no_operator o h, other o 5 h (omega arith), other o 7 h (omega arith)))

  pub back_numbers : is_back o ≡ (eqb o 6 || eqb o 8)
  unfolding is_back
  back_numbers = by_table is_back (λ o. eqb o 6 || eqb o 8) o refl
      (λ h. rw (no_operator o h, other o 6 h (omega arith), other o 8 h (omega arith)))

  pub label_numbers : takes_label o ≡ (eqb o 5 || eqb o 6)
  unfolding takes_label
  label_numbers = by_table takes_label (λ o. eqb o 5 || eqb o 6) o refl
      (λ h. rw (no_operator o h, other o 5 h (omega arith), other o 6 h (omega arith)))

  pub connective_numbers : is_connective o ≡ (eqb o 2 || (eqb o 3 || eqb o 4))
  unfolding is_connective
  connective_numbers = by_table is_connective (λ o. eqb o 2 || (eqb o 3 || eqb o 4)) o refl
      (λ h. rw (no_operator o h, other o 2 h (omega arith), other o 3 h (omega arith), other o 4 h (omega arith)))

  -- true and false, the connectives and the modalities are all operators
  pub operator_numbers : is_operator o ≡ (ltb o 2 || (is_connective o || is_modality o))
  unfolding is_operator is_connective is_modality is_forward is_back
  operator_numbers = by_table is_operator (λ o. ltb o 2 || (is_connective o || is_modality o)) o refl
      (λ h. rw (no_operator o h, le-ltb o 2 (omega (arith, h))))
