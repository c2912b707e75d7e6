-- The bytes of a quotient from those of the operands, by the operator.
use Prim.Native.Nat.{ℕ, ◌+◌, ◌-◌, ◌*◌, ◌/◌, ◌%◌, ◌≤◌, ◌<◌}
use mathlib.Core.Path.{◌≡◌, refl, sym, ◌∙◌, ap}
use mathlib.Core.Logic.{◌⊎◌, inl, inr, ⊎_elim}
use mathlib.Core.Bool.{Bool, true, false, cond}
use mathlib.Core.List.{List, [], ◌∷◌, ◌++◌}
use native.Mathlib.Omega.{arith}
use lib.ListN.{length, get_or, take, length-append}
use lib.Seq.{length-take-le, get_or-take}
use lib.Dec.{eqb, ltb}
use borrow.Author.Tests.{eq-eqb, ne_eqb, lt-ltb, eqb-true, eqb-false, ltb-true, ltb-false}
use Rattle.hml.specs.Lists.{same}
use Rattle.hml.proofs.Tests.{apart}
use Rattle.hml.specs.System.{Step, Run, ◌▸◌, move, idle}
use Rattle.hml.specs.Formula.{Formula, not, back, back_idle, size}
use Rattle.hml.specs.Spell.{spell}
use Rattle.hml.proofs.Spelling.{length-spell, spell-append}
use Rattle.hml.specs.Quotient.{back_by, quotient}
use Rattle.labels.specs.Labels.{pairing}
use Rattle.labels.specs.declared.label.Labels.{Labels}
use Rattle.labels.proofs.Slices.{rest}
use Rattle.tables.specs.Tables.{table_of}
use Rattle.halves.specs.Runs.{step_of}
use Rattle.halves.specs.Halves.{half_of}
use Rattle.halves.specs.Steps.{step_struct, step_read}
use Rattle.halves.proofs.HalfBuffers.{half_empty, half_step}
use Rattle.halves.specs.Working.{HeldHalf}
use Rattle.formulas.specs.Operators.{is_back, is_connective}
use Rattle.formulas.specs.Working.{tree_of, Part}
use Rattle.formulas.proofs.Measures.{size-some}
use Rattle.formulas.proofs.Operators.{at, BackTree, back-label, back-idle, back-tree}
use Rattle.formulas.proofs.Operands.{AndOr, operand_is, operands_are, connectives, leaf-operator}
use Rattle.dividing.specs.declared.node.Node.{Node}
use Rattle.dividing.specs.Working.{Behind, node_over, back_by_partner, past_move, past_of, last_read, past_read, text}
use Rattle.std.specs.Prelude.{None, Option, Some}

-- the bytes of a back modality's quotient: a node over other bytes, or false
unfoldable over_text : Option Node → List ℕ → List ℕ
over_text (Some node) bs = node.operator ∷ node.label.0 ∷ bs
over_text None bs = 1 ∷ 0 ∷ []

-- is the label silent? asked from either side
pub silent-same : (a : ℕ) → eqb a 0 ≡ same 0 a
silent-same a = go (eqb a 0) refl
  where
    go : (b : Bool) → eqb a 0 ≡ b → b ≡ same 0 a
    go true e = sym (eq-eqb 0 a (sym (eqb-true a 0 e)))
    go false e = sym (ne_eqb 0 a (λ z. eqb-false a 0 e (sym z)))

module _ (labels : Labels) (t : List ℕ) where
  -- two bytes a node, and a node at least
  pub text-length : (f : List ℕ) (r : Run ℕ)
      → length (text labels t f r) ≡ 2 * size (quotient (pairing labels) (table_of t) (tree_of f) r)
  unfolding text
  text-length f r = omega (arith, length-spell (quotient (pairing labels) (table_of t) (tree_of f) r) [])

  pub text-some : (f : List ℕ) (r : Run ℕ) → 2 ≤ length (text labels t f r)
  text-some f r = omega (arith, text-length f r, size-some (quotient (pairing labels) (table_of t) (tree_of f) r))

  module _ (sizes f : List ℕ) (p : Part sizes f) where
    module _ (r : Run ℕ) where
      -- true and false
      pub text-leaf : get_or f 0 0 < 2 → get_or f 0 0 ∷ 0 ∷ [] ≡ text labels t f r
      unfolding text quotient spell
      text-leaf h =
          ⊎_elim (λ e. rw (at f p.tree 0 e, e)) (λ e. rw (at f p.tree 1 e, e)) (leaf-operator (get_or f 0 0) h)

      pub text-not : get_or f 0 0 ≡ 2 → Behind (get_or f 0 0 ∷ 0 ∷ []) (text labels t (rest 2 f) r) (text labels t f r)
      unfolding Behind text quotient spell
      text-not e = rw (operand_is sizes f p not (at f p.tree 2 e), e)

      -- "and" and "or"
      module _ (o : AndOr (get_or f 0 0)) (m : ℕ) (e₀ : m ≡ get_or sizes (length f / 2 - 2) 0) where
        pub text-both : Behind ((get_or f 0 0 ∷ 0 ∷ []) ++ text labels t (rest 2 f) r)
            (text labels t (rest (2 * m + 2) f) r) (text labels t f r)
        unfolding Behind text quotient spell
        text-both =
            let e = spell-append (quotient (pairing labels) (table_of t) (tree_of (rest 2 f)) r)
            (spell (quotient (pairing labels) (table_of t) (tree_of (rest (2 * m + 2) f)) r) []) in
            rw (operands_are sizes f p o m e₀)
            (⊎_elim (λ z. rw z (sym (ap (λ l. 3 ∷ 0 ∷ l) e))) (λ z. rw z (sym (ap (λ l. 4 ∷ 0 ∷ l) e))) o)

      -- the first operand's bytes are among them
      pub text_connective : is_connective (get_or f 0 0) ≡ true
          → length ((get_or f 0 0 ∷ 0 ∷ []) ++ text labels t (rest 2 f) r) ≤ length (text labels t f r)
      unfolding Behind
      text_connective i = go (connectives (get_or f 0 0) i)
        where
          go : (get_or f 0 0 ≡ 2) ⊎ AndOr (get_or f 0 0)
              → length ((get_or f 0 0 ∷ 0 ∷ []) ++ text labels t (rest 2 f) r) ≤ length (text labels t f r)
          go (inl e) = omega (arith, ap length (text-not e))
          go (inr o) = let b = text-both o (get_or sizes (length f / 2 - 2) 0) refl in
              omega (
                arith,
                ap length b,
                length-append ((get_or f 0 0 ∷ 0 ∷ []) ++ text labels t (rest 2 f) r)
                    (text labels t (rest (2 * get_or sizes (length f / 2 - 2) 0 + 2) f) r),
              )

    -- a back modality on the run in the first n bytes of xs
    module _ (xs : List ℕ) (n : ℕ) (h : HeldHalf xs n) (o : is_back (get_or f 0 0) ≡ true) where
      past_empty : n < 3 → 1 ∷ 0 ∷ [] ≡ text labels t f (half_of (take n xs))
      unfolding text quotient spell
      past_empty l = go (back-tree f p.tree o)
        where
          go : BackTree f → 1 ∷ 0 ∷ [] ≡ text labels t f (half_of (take n xs))
          go (back-label e u) = rw (operand_is sizes f p (back (get_or f 1 0)) u, half_empty xs n h l)
          go (back-idle e u) = rw (operand_is sizes f p back_idle u, half_empty xs n h l)

      -- by the last step: the node that stands over the quotient by the run without it, or false
      step_text : (x : Step ℕ) (r : Run ℕ) → text labels t f (r ▸ x)
          ≡ over_text (past_of labels (get_or f 0 0) (get_or f 1 0) (step_struct x)) (text labels t (rest 2 f) r)
      unfolding text quotient spell past_of past_move over_text step_struct
      step_text x r = go (back-tree f p.tree o)
        where
          ψ : Formula
          ψ = quotient (pairing labels) (table_of t) (tree_of (rest 2 f)) r

          by_partner : (s z : Bool) (c : Option ℕ) → spell (back_by s z c ψ) []
              ≡ over_text (cond s (node_over 8 0) (cond z (back_by_partner c) None)) (spell ψ [])
          by_partner true z c = refl
          by_partner false false c = refl
          by_partner false true None = refl
          by_partner false true (Some c) = refl

          by_label : (x : Step ℕ)
              → spell (quotient (pairing labels) (table_of t) (back (get_or f 1 0) (tree_of (rest 2 f))) (r ▸ x)) []
              ≡ over_text (past_of labels 6 (get_or f 1 0) (step_struct x)) (text labels t (rest 2 f) r)
          by_label idle = refl
          by_label (move b q) = rw (silent-same (get_or f 1 0))
              (by_partner (same b (get_or f 1 0)) (same 0 (get_or f 1 0)) ((pairing labels).partner b))

          by_idle : (x : Step ℕ)
              → spell (quotient (pairing labels) (table_of t) (back_idle (tree_of (rest 2 f))) (r ▸ x)) []
              ≡ over_text (past_of labels 8 (get_or f 1 0) (step_struct x)) (text labels t (rest 2 f) r)
          by_idle idle = refl
          by_idle (move b q) = refl

          go : BackTree f → text labels t f (r ▸ x)
              ≡ over_text (past_of labels (get_or f 0 0) (get_or f 1 0) (step_struct x)) (text labels t (rest 2 f) r)
          go (back-label e u) = rw (operand_is sizes f p (back (get_or f 1 0)) u, e) (by_label x)
          go (back-idle e u) = rw (operand_is sizes f p back_idle u, e) (by_idle x)

      -- what is read of the run
      abbrev past_here : Option Node
      past_here = past_read labels (get_or f 0 0) (get_or f 1 0) (last_read (take n xs))

      none_here : n < 3 → past_here ≡ None
      unfolding past_read last_read step_read
      none_here l =
          let z : n ≡ 1 = omega (arith, h.odd) in
          rw (length-take-le n xs h.within, z)

      module _ (l : 3 ≤ n) where
        abbrev last_step : Step ℕ
        last_step = step_of (get_or xs (n - 2) 0) (get_or xs (n - 1) 0)

        step_here : past_here ≡ past_of labels (get_or f 0 0) (get_or f 1 0) (step_struct last_step)
        unfolding past_read last_read step_read
        step_here =
            let i : 2 * (n / 2 - 1) + 1 ≡ n - 2 = omega (arith, h.odd, l) in
            let j : 2 * (n / 2 - 1) + 2 ≡ n - 1 = omega (arith, h.odd, l) in
            rw (
              length-take-le n xs h.within,
              i,
              j,
              eq-eqb (n % 2) 1 h.odd,
              lt-ltb (n - 1) n (omega (arith, l)),
              get_or-take n xs (n - 2) 0 (omega (arith, l)),
              get_or-take n xs (n - 1) 0 (omega (arith, l)),
            )

        text-here : text labels t f (half_of (take n xs))
            ≡ over_text past_here (text labels t (rest 2 f) (half_of (take (n - 2) xs)))
        text-here =
            ap (text labels t f) (half_step xs n h l) ∙ step_text last_step (half_of (take (n - 2) xs)) ∙ rw step_here

      pub past_fails : None ≡ past_here → 1 ∷ 0 ∷ [] ≡ text labels t f (half_of (take n xs))
      unfolding over_text
      past_fails e = go (ltb n 3) refl
        where
          go : (b : Bool) → ltb n 3 ≡ b → 1 ∷ 0 ∷ [] ≡ text labels t f (half_of (take n xs))
          go true c = past_empty (ltb-true n 3 c)
          go false c = sym (text-here (ltb-false n 3 c) ∙ rw (← e))

      module _ (node : Node) (e : Some node ≡ past_here) where
        -- the run has a step
        pub past_step : 3 ≤ n
        past_step = go (ltb n 3) refl
          where
            go : (b : Bool) → ltb n 3 ≡ b → 3 ≤ n
            go true c = absurd (let z = none_here (ltb-true n 3 c) in apart cc)
            go false c = ltb-false n 3 c

        pub past_over : Behind (node.operator ∷ node.label.0 ∷ [])
            (text labels t (rest 2 f) (half_of (take (n - 2) xs))) (text labels t f (half_of (take n xs)))
        unfolding over_text Behind
        past_over = sym (text-here past_step ∙ rw (← e))
