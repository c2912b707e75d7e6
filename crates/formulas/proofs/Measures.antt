-- The measure of a tree by its first node: the second operand begins where the first one ends.
use Prim.Native.Nat.{ℕ, ◌+◌, ◌*◌, ◌≤◌, max}
use mathlib.Core.Path.{◌≡◌, refl, sym, ◌∙◌, ap}
use mathlib.Core.Bool.{Bool, true, false, cond}
use mir.Val.{bool_byte}
use mathlib.Core.List.{List, []}
use native.Mathlib.Omega.{arith}
use lib.ListN.{length, get_or, drop}
use lib.Seq.{drop_at}
use Rattle.labels.proofs.Slices.{rest, rest_of}
use Rattle.hml.specs.Formula.{Formula, top, bottom, not, and, or, fwd, back, fwd_idle, back_idle, size, nesting}
use Rattle.hml.specs.Working.{backs}
use Rattle.hml.specs.Spell.{spell}
use Rattle.hml.proofs.Spelling.{length-spell, spell-append, parse-spell}
use Rattle.formulas.specs.Operators.{is_forward, is_back}
use Rattle.formulas.specs.Working.{node_by, node_of, Tree, measured_as, measure_of, operands_in}
use Rattle.formulas.specs.declared.tree.Measure.{Measure}

-- behind a formula's bytes stand the others
pub spell-drop : (φ : Formula) (bs : List ℕ) → drop (2 * size φ) (spell φ bs) ≡ bs
spell-drop φ bs = rw (spell-append φ bs) (drop_at (spell φ []) bs (2 * size φ) (omega (arith, length-spell φ [])))

pub size-some : (φ : Formula) → 1 ≤ size φ
unfolding size
size-some top = omega arith
size-some bottom = omega arith
size-some (not φ) = omega arith
size-some (and φ ψ) = omega arith
size-some (or φ ψ) = omega arith
size-some (fwd a φ) = omega arith
size-some (back a φ) = omega arith
size-some (fwd_idle φ) = omega arith
size-some (back_idle φ) = omega arith

-- modalities nest no deeper than the tree is large
pub depths_size : (φ : Formula) → (nesting φ ≤ size φ) × (backs φ ≤ size φ)
unfolding size nesting backs
depths_size top = omega arith
depths_size bottom = omega arith
depths_size (not φ) = omega (arith, depths_size φ)
depths_size (and φ ψ) = omega (arith, depths_size φ, depths_size ψ)
depths_size (or φ ψ) = omega (arith, depths_size φ, depths_size ψ)
depths_size (fwd a φ) = omega (arith, depths_size φ)
depths_size (back a φ) = omega (arith, depths_size φ)
depths_size (fwd_idle φ) = omega (arith, depths_size φ)
depths_size (back_idle φ) = omega (arith, depths_size φ)

abbrev pub made : ℕ → ℕ → ℕ → Measure
made l n b = record { len = l; nesting = n; backs = b }

pub made_path : {l n b l' n' b' : ℕ} → l ≡ l' → n ≡ n' → b ≡ b' → made l n b ≡ made l' n' b'
made_path e f g = rw (e, f, g)

pub measure_spell : (φ : Formula) (rest : List ℕ) → measure_of (spell φ rest) ≡ made (2 * size φ) (nesting φ) (backs φ)
unfolding measure_of measured_as
measure_spell φ rest = rw (parse-spell φ rest)

-- a test's answer as a number
pub byte_told : (b : Bool) → (bool_byte b ≡ cond b 1 0) × (bool_byte b ≤ 1)
byte_told true = (refl, omega arith)
byte_told false = (refl, omega arith)

-- 1 if the first node looks forward; 1 if it looks back
abbrev pub forward : List ℕ → ℕ
forward f = cond (is_forward (get_or f 0 0)) 1 0

abbrev pub backward : List ℕ → ℕ
backward f = cond (is_back (get_or f 0 0)) 1 0

abbrev pub behind : List ℕ → Measure
behind f = measure_of (drop 2 f)

-- the measure of what is behind the first operand
abbrev pub further : List ℕ → Measure
further f = measure_of (drop (behind f).len (drop 2 f))

-- the measure of a tree over one operand and over two, from the operands' measures
abbrev pub over_one : List ℕ → Measure → Measure
over_one f m = made (2 + m.len) (forward f + m.nesting) (backward f + m.backs)

abbrev pub over_two : Measure → Measure → Measure
over_two m w = made (2 + m.len + w.len) (max m.nesting w.nesting) (max m.backs w.backs)

-- a tree by the number of its operands
data View (f : List ℕ) : ℕ → Type 0 where
  none : made 2 0 0 ≡ measure_of f → View f 0
  one : Tree (drop 2 f) → over_one f (behind f) ≡ measure_of f → View f 1
  two : Tree (drop 2 f) → Tree (drop (behind f).len (drop 2 f))
      → over_two (behind f) (further f) ≡ measure_of f → View f 2

view_leaf : (φ : Formula) (rest : List ℕ) → size φ ≡ 1 → nesting φ ≡ 0 → backs φ ≡ 0 → View (spell φ rest) 0
view_leaf φ rest s n b = none (made_path (omega (arith, s)) (sym n) (sym b) ∙ sym (measure_spell φ rest))

view_one : (φ ψ : Formula) (rest : List ℕ) → drop 2 (spell φ rest) ≡ spell ψ rest → size φ ≡ 1 + size ψ
    → forward (spell φ rest) + nesting ψ ≡ nesting φ → backward (spell φ rest) + backs ψ ≡ backs φ
    → View (spell φ rest) 1
unfolding Tree
view_one φ ψ rest d s n b =
    one (ψ, rest, d) (rw (d, measure_spell ψ rest) (made_path (omega (arith, s)) n b ∙ sym (measure_spell φ rest)))

view_two : (φ ψ χ : Formula) (rest : List ℕ) → drop 2 (spell φ rest) ≡ spell ψ (spell χ rest)
    → size φ ≡ 1 + size ψ + size χ → max (nesting ψ) (nesting χ) ≡ nesting φ → max (backs ψ) (backs χ) ≡ backs φ
    → View (spell φ rest) 2
unfolding Tree
view_two φ ψ χ rest d s n b =
    two (ψ, spell χ rest, d)
    (rw (d, measure_spell ψ (spell χ rest)) (χ, rest, spell-drop ψ (spell χ rest)))
    (rw (d, measure_spell ψ (spell χ rest), spell-drop ψ (spell χ rest), measure_spell χ rest)
    (made_path (omega (arith, s)) n b ∙ sym (measure_spell φ rest)))

view_spell : (φ : Formula) (rest : List ℕ)
    → View (spell φ rest) (operands_in (node_of (get_or (spell φ rest) 0 0) (get_or (spell φ rest) 1 0)))
unfolding spell node_of node_by size nesting backs is_forward is_back
view_spell top rest = view_leaf top rest refl refl refl
view_spell bottom rest = view_leaf bottom rest refl refl refl
view_spell (not φ) rest = view_one (not φ) φ rest refl refl (omega arith) (omega arith)
view_spell (and φ ψ) rest = view_two (and φ ψ) φ ψ rest refl refl refl refl
view_spell (or φ ψ) rest = view_two (or φ ψ) φ ψ rest refl refl refl refl
view_spell (fwd a φ) rest = view_one (fwd a φ) φ rest refl refl refl (omega arith)
view_spell (back a φ) rest = view_one (back a φ) φ rest refl refl (omega arith) refl
view_spell (fwd_idle φ) rest = view_one (fwd_idle φ) φ rest refl refl refl (omega arith)
view_spell (back_idle φ) rest = view_one (back_idle φ) φ rest refl refl (omega arith) refl

-- the number of operands of the first node
abbrev pub operands : List ℕ → ℕ
operands f = operands_in (node_of (get_or f 0 0) (get_or f 1 0))

view : (f : List ℕ) → Tree f → View f (operands f)
unfolding Tree
view f (φ, rest, e) = rw e (view_spell φ rest)

module _ (f : List ℕ) (tree : Tree f) where
  -- a tree has room for its bytes
  pub tree-room : (2 ≤ length f) × ((measure_of f).len ≤ length f) × ((measure_of f).nesting ≤ (measure_of f).len)
      × ((measure_of f).backs ≤ (measure_of f).len)
  unfolding Tree
  tree-room =
      let (φ, rest, e) = tree in
      rw (e, measure_spell φ rest) (omega (arith, length-spell φ rest, size-some φ, depths_size φ))

  pub leaf_measure : operands f ≡ 0 → made 2 0 0 ≡ measure_of f
  leaf_measure e = go (view f tree) e
    where
      go : {n : ℕ} → View f n → n ≡ 0 → made 2 0 0 ≡ measure_of f
      go (none m) e = m
      go (one t m) e = absurd (omega (arith, e))
      go (two t u m) e = absurd (omega (arith, e))

  pub first_operand : (operands f ≡ 0 → ⊥) → Tree (drop 2 f)
  first_operand n = go (view f tree) n
    where
      go : {n : ℕ} → View f n → (n ≡ 0 → ⊥) → Tree (drop 2 f)
      go (none m) n = absurd (n refl)
      go (one t m) n = t
      go (two t u m) n = t

  pub one_measure : operands f ≡ 1 → over_one f (behind f) ≡ measure_of f
  one_measure e = go (view f tree) e
    where
      go : {n : ℕ} → View f n → n ≡ 1 → over_one f (behind f) ≡ measure_of f
      go (none m) e = absurd (omega (arith, e))
      go (one t m) e = m
      go (two t u m) e = absurd (omega (arith, e))

  module _ (n0 : operands f ≡ 0 → ⊥) (n1 : operands f ≡ 1 → ⊥) where
    pub second_operand : Tree (drop (behind f).len (drop 2 f))
    second_operand = go (view f tree) n0 n1
      where
        go : {n : ℕ} → View f n → (n ≡ 0 → ⊥) → (n ≡ 1 → ⊥) → Tree (drop (behind f).len (drop 2 f))
        go (none m) n0 n1 = absurd (n0 refl)
        go (one t m) n0 n1 = absurd (n1 refl)
        go (two t u m) n0 n1 = u

    pub two_measure : over_two (behind f) (further f) ≡ measure_of f
    two_measure = go (view f tree) n0 n1
      where
        go : {n : ℕ} → View f n → (n ≡ 0 → ⊥) → (n ≡ 1 → ⊥)
            → over_two (behind f) (further f) ≡ measure_of f
        go (none m) n0 n1 = absurd (n0 refl)
        go (one t m) n0 n1 = absurd (n1 refl)
        go (two t u m) n0 n1 = m

-- the same over the parts that the code passes on: the body behind the first node, and what is behind the first operand
-- in it
abbrev pub body : List ℕ → List ℕ
body f = rest 2 f

abbrev pub later : List ℕ → ℕ → List ℕ
later b n = rest n b

module _ (f : List ℕ) (tree : Tree f) where
  pub body_tree : (operands f ≡ 0 → ⊥) → Tree (body f)
  body_tree n = rw (rest_of 2 f) (first_operand f tree n)

  pub one_made : (m : Measure) (d b : ℕ) → m ≡ measure_of (body f) → d ≡ forward f → b ≡ backward f → operands f ≡ 1
      → made (2 + m.len) (d + m.nesting) (b + m.backs) ≡ measure_of f
  one_made m d b e g h o = rw (e ∙ ap measure_of (rest_of 2 f), g, h) (one_measure f tree o)

  module _ (m : Measure) (e : m ≡ measure_of (body f)) where
    same-behind : m ≡ behind f
    same-behind = e ∙ ap measure_of (rest_of 2 f)

    pub body_room : (operands f ≡ 0 → ⊥) → (m.len ≤ length (body f)) × (m.nesting ≤ m.len) × (m.backs ≤ m.len)
    body_room n = let r = tree-room (body f) (body_tree n) in rw e (r.1, r.2, r.3)

    same_later : later (body f) m.len ≡ drop (behind f).len (drop 2 f)
    same_later =
        rest_of m.len (body f) ∙ ap (drop m.len) (rest_of 2 f)
        ∙ ap (λ (x : Measure). drop x.len (drop 2 f)) same-behind

    module _ (n0 : operands f ≡ 0 → ⊥) (n1 : operands f ≡ 1 → ⊥) where
      pub later_tree : Tree (later (body f) m.len)
      later_tree = rw same_later (second_operand f tree n0 n1)

      module _ (w : Measure) (q : w ≡ measure_of (later (body f) m.len)) where
        pub later_room : 2 + m.len + w.len ≤ length f
        later_room =
            let whole = two_measure f tree n0 n1 in
            let z : 2 + m.len + w.len ≡ (measure_of f).len = rw (q ∙ ap measure_of same_later, same-behind)
            (ap (λ (x : Measure). x.len) whole) in
            omega (arith, z, (tree-room f tree).1)

        pub two_made : (x b : ℕ) → x ≡ max m.nesting w.nesting → b ≡ max m.backs w.backs
            → made (2 + m.len + w.len) x b ≡ measure_of f
        two_made x b g h = rw (g, h, q ∙ ap measure_of same_later, same-behind) (two_measure f tree n0 n1)
