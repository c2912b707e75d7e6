-- Where a tree ends: each node takes the place of one that is due, and asks for its operands.
use Prim.Native.Nat.{ℕ, zero, suc, ◌+◌, ◌-◌, ◌≤◌, ◌<◌}
use mathlib.Core.Path.{◌≡◌, refl, ◌∙◌, ap}
use mathlib.Core.List.{List, [], ◌∷◌}
use native.Mathlib.Omega.{arith}
use lib.ListN.{length, get_or, drop, length-drop}
use lib.Seq.{drop-cons}
use Rattle.hml.proofs.Tests.{apart}
use Rattle.hml.specs.Formula.{Formula}
use Rattle.hml.specs.Spell.{spell, Shape, leaf, unary, binary, bad, shape, Read, build0, build1, build2, next, trees}
use Rattle.hml.specs.Spell.{single, parse}
use Rattle.hml.proofs.Spelling.{length-spell, parse_sound}
use Rattle.formulas.specs.Working.{node_of, end_of, tree_end}
use Rattle.formulas.proofs.OperatorTable.{shape_node, shape_node_lem}
use Rattle.std.specs.Prelude.{None, Option, Some}

-- a node has at most two operands
few-operands : (s : Shape) (m : ℕ) → Some m ≡ shape_node s → m ≤ 2
few-operands (leaf φ) m e = let q : m ≡ 0 = cc in omega (arith, q)
few-operands (unary f) m e = let q : m ≡ 1 = cc in omega (arith, q)
few-operands (binary f) m e = let q : m ≡ 2 = cc in omega (arith, q)
few-operands bad m e = absurd (apart cc)

pub operands-few : (o a m : ℕ) → Some m ≡ node_of o a → m ≤ 2
operands-few o a m e = few-operands (shape o a) m (e ∙ shape_node_lem o a)

-- as many formulas are read as were due
abbrev Counted : ℕ → Read → Type 0
Counted n None = Unit {0}
Counted n (Some t) = length t.0 ≡ n

counted_next : (s : Shape) (n : ℕ) (more : ℕ → Read) → ((m : ℕ) → Counted m (more m)) → Counted (suc n) (next s n more)
counted_next (leaf φ) n more h = go (more n) (h n)
  where
    go : (t : Read) → Counted n t → Counted (suc n) (build0 φ t)
    go None c = tt
    go (Some t) c = ap suc c
counted_next (unary f) n more h = go (more (suc n)) (h (suc n))
  where
    go : (t : Read) → Counted (suc n) t → Counted (suc n) (build1 f t)
    go None c = tt
    go (Some ([], bs)) c = tt
    go (Some (φ ∷ φs, bs)) c = c
counted_next (binary f) n more h = go (more (suc (suc n))) (h (suc (suc n)))
  where
    go : (t : Read) → Counted (suc (suc n)) t → Counted (suc n) (build2 f t)
    go None c = tt
    go (Some ([], bs)) c = tt
    go (Some (φ ∷ [], bs)) c = tt
    go (Some (φ ∷ ψ ∷ φs, bs)) c = omega (arith, c)
counted_next bad n more h = tt

counted : (bs : List ℕ) (n : ℕ) → Counted n (trees bs n)
unfolding trees
counted [] zero = refl
counted [] (suc n) = tt
counted (o ∷ []) zero = refl
counted (o ∷ []) (suc n) = tt
counted (o ∷ a ∷ bs) zero = refl
counted (o ∷ a ∷ bs) (suc n) = counted_next (shape o a) n (λ m. trees bs m) (λ m. counted bs m)

-- the bytes behind what is read
abbrev pub rest_of : Read → Option (List ℕ)
rest_of None = None
rest_of (Some t) = Some t.1

-- a node leaves the end to its operands and what was due beside it
rest_next : (s : Shape) (n m : ℕ) (more : ℕ → Read) → ((d : ℕ) → Counted d (more d)) → Some m ≡ shape_node s
    → rest_of (next s n more) ≡ rest_of (more (n + m))
rest_next (leaf φ) n m more h e = let q : n + m ≡ n = (let z : m ≡ 0 = cc in omega (arith, z)) in rw q (go (more n))
  where
    go : (t : Read) → rest_of (build0 φ t) ≡ rest_of t
    go None = refl
    go (Some t) = refl
rest_next (unary f) n m more h e =
    let q : n + m ≡ suc n = (let z : m ≡ 1 = cc in omega (arith, z)) in rw q (go (more (suc n)) (h (suc n)))
  where
    go : (t : Read) → Counted (suc n) t → rest_of (build1 f t) ≡ rest_of t
    go None c = refl
    go (Some ([], bs)) c = absurd (omega (arith, c))
    go (Some (φ ∷ φs, bs)) c = refl
rest_next (binary f) n m more h e =
    let q : n + m ≡ suc (suc n) = (let z : m ≡ 2 = cc in omega (arith, z)) in
    rw q (go (more (suc (suc n))) (h (suc (suc n))))
  where
    go : (t : Read) → Counted (suc (suc n)) t → rest_of (build2 f t) ≡ rest_of t
    go None c = refl
    go (Some ([], bs)) c = absurd (omega (arith, c))
    go (Some (φ ∷ [], bs)) c = absurd (omega (arith, c))
    go (Some (φ ∷ ψ ∷ φs, bs)) c = refl
rest_next bad n m more h e = absurd (apart cc)

rest_bad : (s : Shape) (n : ℕ) (more : ℕ → Read) → None ≡ shape_node s → rest_of (next s n more) ≡ None
rest_bad (leaf φ) n more e = absurd (apart cc)
rest_bad (unary f) n more e = absurd (apart cc)
rest_bad (binary f) n more e = absurd (apart cc)
rest_bad bad n more e = refl

short : (bs : List ℕ) (n : ℕ) → length bs < 2 → rest_of (trees bs (suc n)) ≡ None
unfolding trees
short [] n h = refl
short (o ∷ []) n h = refl
short (o ∷ a ∷ bs) n h = absurd (omega arith)

-- where the first tree ends is decided by the nodes from `at` on, of which `due` trees are due
pub record Seeking (f : List ℕ) (due at : ℕ) : Type 0 where
  pub within : at ≤ length f
  pub few : due ≤ at + 1
  pub same : rest_of (trees f 1) ≡ rest_of (trees (drop at f) due)

module _ (f : List ℕ) where
  -- what the end of reading says of the first tree
  nowhere : rest_of (trees f 1) ≡ None → None ≡ tree_end f
  unfolding tree_end end_of parse
  nowhere e = go (trees f 1) e
    where
      go : (t : Read) → rest_of t ≡ None → None ≡ end_of (single t)
      go None e = refl
      go (Some t) e = absurd (apart cc)

  at_end : (at : ℕ) → at ≤ length f → rest_of (trees f 1) ≡ Some (drop at f) → Some at ≡ tree_end f
  unfolding tree_end end_of parse
  at_end at h e = go (trees f 1) (counted f 1) e (λ φ rest p. parse_sound f φ rest p)
    where
      go : (t : Read) → Counted 1 t → rest_of t ≡ Some (drop at f)
          → ((φ : Formula) (rest : List ℕ) → single t ≡ Some (φ, rest) → spell φ rest ≡ f)
          → Some at ≡ end_of (single t)
      go None c e s = absurd (apart cc)
      go (Some ([], bs)) c e s = absurd (omega (arith, c))
      go (Some (φ ∷ [], bs)) c e s =
          let q : bs ≡ drop at f = cc in
          let l : length (spell φ bs) ≡ length f = ap length (s φ bs refl) in
          ap Some (omega (arith, h, l, length-spell φ bs, ap length q, length-drop at f))
      go (Some (φ ∷ ψ ∷ φs, bs)) c e s = absurd (omega (arith, c))

  module _ (due at : ℕ) (g : Seeking f due at) where
    pub seek_end : due ≤ 0 → Some at ≡ tree_end f
    unfolding trees
    seek_end h =
        let z : due ≡ 0 = omega arith in
        at_end at g.within (g.same ∙ ap (λ d. rest_of (trees (drop at f) d)) z ∙ none-due (drop at f))
      where
        none-due : (bs : List ℕ) → rest_of (trees bs 0) ≡ Some bs
        none-due [] = refl
        none-due (o ∷ []) = refl
        none-due (o ∷ a ∷ bs) = refl

    module _ (some-due : 0 < due) where
      due-suc : due ≡ suc (due - 1)
      due-suc = omega arith

      pub seek_short : length f - at < 2 → None ≡ tree_end f
      seek_short h =
          nowhere (g.same ∙ ap (λ d. rest_of (trees (drop at f) d)) due-suc
          ∙ short (drop at f) (due - 1) (omega (arith, length-drop at f)))

      module _ (room : 2 ≤ length f - at) where
        -- the node at `at`, and the bytes behind it
        node_first : drop at f ≡ get_or f at 0 ∷ get_or f (at + 1) 0 ∷ drop (at + 2) f
        node_first =
            let b : suc at ≡ at + 1 = omega arith in
            let d : suc (at + 1) ≡ at + 2 = omega arith in
            rw (drop-cons f at 0 (omega arith), b, drop-cons f (at + 1) 0 (omega arith), d)

        here : rest_of (trees f 1) ≡ rest_of
            (next (shape (get_or f at 0) (get_or f (at + 1) 0)) (due - 1) (λ m. trees (drop (at + 2) f) m))
        unfolding trees
        here =
            g.same ∙ ap (λ d. rest_of (trees (drop at f) d)) due-suc
            ∙ ap (λ l. rest_of (trees l (suc (due - 1)))) node_first

        pub seek_bad : None ≡ node_of (get_or f at 0) (get_or f (at + 1) 0) → None ≡ tree_end f
        seek_bad e =
            nowhere (here ∙ rest_bad (shape (get_or f at 0) (get_or f (at + 1) 0)) (due - 1)
            (λ m. trees (drop (at + 2) f) m) (e ∙ shape_node_lem (get_or f at 0) (get_or f (at + 1) 0)))

        pub seek_on : (m : ℕ) → Some m ≡ node_of (get_or f at 0) (get_or f (at + 1) 0)
            → Seeking f (due - 1 + m) (at + 2)
        seek_on m e = record {
          within = omega arith;
          few = omega (arith, operands-few (get_or f at 0) (get_or f (at + 1) 0) m e, g.few);
          same =
              here ∙ rest_next (shape (get_or f at 0) (get_or f (at + 1) 0)) (due - 1) m (λ d. trees (drop (at + 2) f) d)
              (λ d. counted (drop (at + 2) f) d) (e ∙ shape_node_lem (get_or f at 0) (get_or f (at + 1) 0));
        }
