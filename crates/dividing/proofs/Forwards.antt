-- The quotient of a forward modality is its disjuncts, as they are listed, joined by "or".
use Prim.Native.Nat.{ℕ, ◌≤◌, ◌<◌}
use mathlib.Core.Path.{◌≡◌, refl, sym, ◌∙◌, ap}
use mathlib.Core.Bool.{Bool, true, false, cond}
use mathlib.Core.List.Memᴰ.{head as here}
use mathlib.Core.List.Memᴰ.{tail as there}
use mathlib.Core.List.{List, [], ◌∷◌, ◌++◌}
use native.Mathlib.Omega.{arith}
use lib.ListN.{length, get_or}
use lib.Dec.{eqb}
use borrow.Author.Tests.{ne_eqb}
use Rattle.hml.specs.Lists.{same, ◌∈◌, each, only, given}
use Rattle.hml.specs.System.{Run, start, ◌▸◌, move, idle, last}
use Rattle.hml.specs.Formula.{Formula, fwd, fwd_idle}
use Rattle.hml.specs.Spell.{spell}
use Rattle.hml.proofs.Spelling.{spell-append}
use Rattle.hml.specs.Quotient.{ors, of_partner, quotient}
use Rattle.labels.specs.Labels.{pairing}
use Rattle.labels.specs.declared.label.Labels.{Labels}
use Rattle.labels.proofs.Slices.{rest, rest_of}
use Rattle.tables.specs.Tables.{table_of, SoundTable}
use Rattle.tables.proofs.SoundTables.{no_idle-label}
use Rattle.halves.specs.Runs.{step_of}
use Rattle.formulas.specs.Operators.{is_forward}
use Rattle.formulas.specs.Working.{tree_of, Part}
use Rattle.formulas.proofs.Operators.{Unary, ForwardTree, forward-label, forward-idle, forward-tree}
use Rattle.formulas.proofs.Operands.{operand_is}
use Rattle.dividing.specs.Working.{Behind, Listed, one, more, alone_in, shaken_by, shaken_in, disjuncts_of}
use Rattle.dividing.specs.Working.{text, first_text, texts}
use Rattle.dividing.proofs.Texts.{silent-same}
use Rattle.std.specs.Prelude.{None, Option, Some}

-- moves by labels, none of which marks an idle
abbrev Moves : List (ℕ × ℕ) → Type 0
Moves moves = (m : ℕ × ℕ) → m ∈ moves → m.0 ≡ 255 → ⊥

-- each list of four bytes is a disjunct: a node, then the quotient of the first tree of f by the run with that step
module _ (labels : Labels) (t f : List ℕ) (r : Run ℕ) where
  data Spelled : List ℕ → List Formula → Type 0 where
    ends : Spelled [] []
    follows : {o a b to : ℕ} {ds : List ℕ} {e : Formula} {es : List Formula}
        → spell e [] ≡ o ∷ a ∷ text labels t f (r ▸ step_of b to) → (b ≡ 255 → ⊥) → Spelled ds es
        → Spelled (o ∷ a ∷ b ∷ to ∷ ds) (e ∷ es)

  spelled-append : {ds cs : List ℕ} {es fs : List Formula} → Spelled ds es → Spelled cs fs
      → Spelled (ds ++ cs) (es ++ fs)
  spelled-append ends s = s
  spelled-append (follows e n p) s = follows e n (spelled-append p s)

  -- moves keep no state, so only the first disjunct's idle has to
  spelled-listed : (q : ℕ) {o a b to : ℕ} {ds : List ℕ} {es : List Formula} → (b ≡ 255 → to ≡ q) → Spelled ds es
      → Listed q (o ∷ a ∷ b ∷ to ∷ ds)
  spelled-listed q k ends = one k
  spelled-listed q k (follows e n s) = more k (spelled-listed q (λ z. absurd (n z)) s)

  -- joined by "or" they are the texts of the list
  spelled-ors : (o a b to : ℕ) {ds : List ℕ} (e : Formula) {es : List Formula}
      → spell e [] ≡ o ∷ a ∷ text labels t f (r ▸ step_of b to) → Spelled ds es
      → texts labels t f r (o ∷ a ∷ b ∷ to ∷ ds) ≡ spell (ors e es) []
  unfolding texts first_text spell
  spelled-ors o a b to e p ends = sym p
  spelled-ors o a b to e p (follows {o = x} {a = y} {b = z} {to = w} {ds = cs} {e = d} {es = es} q n s) =
      ap (λ l. 4 ∷ 0 ∷ l)
      (ap (◌++ texts labels t f r (x ∷ y ∷ z ∷ w ∷ cs)) (sym p) ∙ ap (spell e [] ++◌) (spelled-ors x y z w d q s)
      ∙ sym (spell-append e (spell (ors d es) [])))

  -- the moves alone, and the parts in handshakes
  module _ (a : ℕ) where
    spelled_alone : (moves : List (ℕ × ℕ)) → Moves moves
        → Spelled (alone_in a moves)
        (each (λ (n : ℕ × ℕ). only (same n.0 a)
        (fwd_idle (quotient (pairing labels) (table_of t) (tree_of f) (r ▸ move n.0 n.1)))) moves)
    unfolding alone_in only spell text step_of
    spelled_alone [] h = ends
    spelled_alone (m ∷ moves) h = spelled-append (go (same m.0 a)) (spelled_alone moves (λ n i. h n (there i)))
      where
        go : (b : Bool)
            → Spelled (given b (7 ∷ 0 ∷ m.0 ∷ m.1 ∷ []))
            (only b (fwd_idle (quotient (pairing labels) (table_of t) (tree_of f) (r ▸ move m.0 m.1))))
        go true =
            follows {o = 7} {a = 0} {b = m.0} {to = m.1}
            {e = fwd_idle (quotient (pairing labels) (table_of t) (tree_of f) (r ▸ move m.0 m.1))}
            (rw (ne_eqb m.0 255 (h m (here refl)))) (h m (here refl)) ends
        go false = ends

  spelled-shaken : (moves : List (ℕ × ℕ)) → Moves moves
      → Spelled (shaken_in (pairing labels) moves)
      (each (λ (n : ℕ × ℕ). of_partner ((pairing labels).partner n.0)
      (λ c. fwd c (quotient (pairing labels) (table_of t) (tree_of f) (r ▸ move n.0 n.1)))) moves)
  unfolding shaken_in shaken_by spell text step_of
  spelled-shaken [] h = ends
  spelled-shaken (m ∷ moves) h =
      spelled-append (go ((pairing labels).partner m.0)) (spelled-shaken moves (λ n i. h n (there i)))
    where
      go : (p : Option ℕ)
          → Spelled (shaken_by m p)
          (of_partner p (λ c. fwd c (quotient (pairing labels) (table_of t) (tree_of f) (r ▸ move m.0 m.1))))
      go None = ends
      go (Some c) =
          follows {o = 5} {a = c} {b = m.0} {to = m.1}
          {e = fwd c (quotient (pairing labels) (table_of t) (tree_of f) (r ▸ move m.0 m.1))}
          (rw (ne_eqb m.0 255 (h m (here refl)))) (h m (here refl)) ends

  spelled-given : (z : Bool) (moves : List (ℕ × ℕ)) → Moves moves
      → Spelled (given z (shaken_in (pairing labels) moves))
      (each (λ (n : ℕ × ℕ). of_partner ((pairing labels).partner n.0)
      (λ c. fwd c (quotient (pairing labels) (table_of t) (tree_of f) (r ▸ move n.0 n.1)))) (given z moves))
  spelled-given true moves h = spelled-shaken moves h
  spelled-given false moves h = ends

  -- what is listed behind the first disjunct
  spelled-others : (k : Labels) (a q : ℕ) → SoundTable k t
      → Spelled (alone_in a (table_of t q) ++ given (same 0 a) (shaken_in (pairing labels) (table_of t q)))
      (each (λ (n : ℕ × ℕ). only (same n.0 a)
      (fwd_idle (quotient (pairing labels) (table_of t) (tree_of f) (r ▸ move n.0 n.1)))) (table_of t q)
      ++ each (λ (n : ℕ × ℕ). of_partner ((pairing labels).partner n.0)
      (λ c. fwd c (quotient (pairing labels) (table_of t) (tree_of f) (r ▸ move n.0 n.1))))
      (given (same 0 a) (table_of t q)))
  spelled-others k a q s =
      spelled-append (spelled_alone a (table_of t q) named) (spelled-given (same 0 a) (table_of t q) named)
    where
      named : Moves (table_of t q)
      named m i = no_idle-label s q m.0 m.1 i

-- so the texts of the listed disjuncts are the text of the whole: by a label, and by idle
module _ (labels : Labels) (t sizes f : List ℕ) (p : Part sizes f) (r : Run ℕ) where
  label-texts : SoundTable labels t → get_or f 0 0 ≡ 5 → Unary f (fwd (get_or f 1 0))
      → texts labels t (rest 2 f) r (disjuncts_of labels t (get_or f 0 0) (get_or f 1 0) (last r)) ≡ text labels t f r
  unfolding disjuncts_of text quotient spell step_of
  label-texts s e u = rw (e, operand_is sizes f p (fwd (get_or f 1 0)) u, silent-same (get_or f 1 0))
      (spelled-ors labels t (rest 2 f) r 5 (get_or f 1 0) 255 (last r)
      (fwd (get_or f 1 0) (quotient (pairing labels) (table_of t) (tree_of (rest 2 f)) (r ▸ idle))) refl
      (spelled-others labels t (rest 2 f) r labels (get_or f 1 0) (last r) s))

  idle-texts : (q : ℕ) → get_or f 0 0 ≡ 7 → Unary f fwd_idle
      → texts labels t (rest 2 f) r (disjuncts_of labels t (get_or f 0 0) (get_or f 1 0) q) ≡ text labels t f r
  unfolding disjuncts_of texts first_text text quotient spell step_of
  idle-texts q e u = rw (e, operand_is sizes f p fwd_idle u)

  pub forward-texts : (q : ℕ) → SoundTable labels t → is_forward (get_or f 0 0) ≡ true → last r ≡ q
      → texts labels t (rest 2 f) r (disjuncts_of labels t (get_or f 0 0) (get_or f 1 0) q) ≡ text labels t f r
  forward-texts q s o z = go (forward-tree f p.tree o)
    where
      go : ForwardTree f
          → texts labels t (rest 2 f) r (disjuncts_of labels t (get_or f 0 0) (get_or f 1 0) q) ≡ text labels t f r
      go (forward-label e u) = rw (← z) (label-texts s e u)
      go (forward-idle e u) = idle-texts q e u

-- there is one at least, and its idle keeps the state
pub forward-listed : (labels : Labels) (t : List ℕ) (o a q : ℕ) → SoundTable labels t
    → Listed q (disjuncts_of labels t o a q)
unfolding disjuncts_of
forward-listed labels t o a q s = go (eqb o 7)
  where
    go : (b : Bool)
        → Listed q (cond b (7 ∷ 0 ∷ 255 ∷ q ∷ [])
        (5 ∷ a ∷ 255 ∷ q ∷ (alone_in a (table_of t q) ++ given (eqb a 0) (shaken_in (pairing labels) (table_of t q)))))
    go true = one (λ z. refl)
    go false =
        rw (silent-same a)
        (spelled-listed labels t [] (start q) q (λ z. refl)
        (spelled-others labels t [] (start q) labels a q s))

-- the first of some disjuncts, and those behind it
module _ (q : ℕ) where
  pub listed-room : (ds : List ℕ) → Listed q ds → 4 ≤ length ds
  listed-room ds (one k) = omega arith
  listed-room ds (more k l) = omega arith

  pub listed_keeps : (ds : List ℕ) → Listed q ds → get_or ds 2 0 ≡ 255 → get_or ds 3 0 ≡ q
  listed_keeps ds (one k) e = k e
  listed_keeps ds (more k l) e = k e

  pub listed_rest : (ds : List ℕ) → Listed q ds → 8 ≤ length ds → Listed q (rest 4 ds)
  listed_rest ds (one k) h = absurd (omega (arith, h))
  listed_rest ds (more {o = o} {a = a} {b = b} {to = to} {ds = cs} k l) h = rw (rest_of 4 (o ∷ a ∷ b ∷ to ∷ cs)) l

  module _ (labels : Labels) (t f : List ℕ) (r : Run ℕ) where
    pub texts-last : (ds : List ℕ) → Listed q ds → length ds < 8 → first_text labels t f r ds ≡ texts labels t f r ds
    unfolding texts
    texts-last ds (one k) h = refl
    texts-last ds (more k (one j)) h = absurd (omega (arith, h))
    texts-last ds (more k (more j l)) h = absurd (omega (arith, h))

    pub texts-more : (ds : List ℕ) → Listed q ds → 8 ≤ length ds
        → Behind ((4 ∷ 0 ∷ []) ++ first_text labels t f r ds) (texts labels t f r (rest 4 ds)) (texts labels t f r ds)
    unfolding texts Behind
    texts-more ds (one k) h = absurd (omega (arith, h))
    texts-more ds (more {o = o} {a = a} {b = b} {to = to} k (one {o = x} {a = y} {b = z} {to = w} j))
        h = rw (rest_of 4 (o ∷ a ∷ b ∷ to ∷ x ∷ y ∷ z ∷ w ∷ []))
    texts-more ds (more {o = o} {a = a} {b = b} {to = to} k (more {o = x} {a = y} {b = z} {to = w} {ds = cs} j l))
        h = rw (rest_of 4 (o ∷ a ∷ b ∷ to ∷ x ∷ y ∷ z ∷ w ∷ cs))

    pub first-text : (ds : List ℕ)
        → Behind (get_or ds 0 0 ∷ get_or ds 1 0 ∷ []) (text labels t f (r ▸ step_of (get_or ds 2 0) (get_or ds 3 0)))
        (first_text labels t f r ds)
    unfolding first_text Behind
    first-text ds = refl
