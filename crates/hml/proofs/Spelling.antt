-- Formulas as bytes, there and back: what is spelled is read, and a reading spells the bytes that were read; two bytes
-- a node.
use mathlib.Core.Path.{◌≡◌, refl, sym, ◌∙◌, ap}
use mathlib.Core.List.{List, [], ◌∷◌, ◌++◌, append_assoc}
use Prim.Native.Nat.{ℕ, zero, suc, ◌+◌, ◌*◌}
use lib.ListN.{get_or, length}
use native.Mathlib.Omega.{arith}
use Rattle.hml.proofs.Tests.{apart}
use Rattle.hml.specs.Formula.{Formula, top, bottom, not, and, or, fwd, back, fwd_idle, back_idle, size}
use Rattle.hml.specs.Spell.{spell, Shape, leaf, unary, binary, bad, operators, shape, Read, build0, build1}
use Rattle.hml.specs.Spell.{build2, next, trees, single, parse}
use Rattle.std.specs.Prelude.{None, Some}

-- two bytes a node
pub length-spell : (φ : Formula) (bs : List ℕ) → length (spell φ bs) ≡ 2 * size φ + length bs
unfolding spell size
length-spell top bs = omega arith
length-spell bottom bs = omega arith
length-spell (not φ) bs = omega (arith, length-spell φ bs)
length-spell (and φ ψ) bs = omega (arith, length-spell φ (spell ψ bs), length-spell ψ bs)
length-spell (or φ ψ) bs = omega (arith, length-spell φ (spell ψ bs), length-spell ψ bs)
length-spell (fwd a φ) bs = omega (arith, length-spell φ bs)
length-spell (back a φ) bs = omega (arith, length-spell φ bs)
length-spell (fwd_idle φ) bs = omega (arith, length-spell φ bs)
length-spell (back_idle φ) bs = omega (arith, length-spell φ bs)

-- two formulas and the bytes behind them, from what holds of each
spell_two : (φ ψ : Formula) (bs : List ℕ) → spell φ (spell ψ bs) ≡ spell φ [] ++ spell ψ bs
    → spell φ (spell ψ []) ≡ spell φ [] ++ spell ψ [] → spell ψ bs ≡ spell ψ [] ++ bs
    → spell φ (spell ψ bs) ≡ spell φ (spell ψ []) ++ bs
spell_two φ ψ bs a b c =
    a ∙ ap (spell φ [] ++◌) c ∙ sym (append_assoc (spell φ []) (spell ψ []) bs) ∙ ap (◌++ bs) (sym b)

-- the bytes of a formula, then those behind it
pub spell-append : (φ : Formula) (bs : List ℕ) → spell φ bs ≡ spell φ [] ++ bs
unfolding spell
spell-append top bs = refl
spell-append bottom bs = refl
spell-append (not φ) bs = ap (λ l. 2 ∷ 0 ∷ l) (spell-append φ bs)
spell-append (and φ ψ) bs =
    ap (λ l. 3 ∷ 0 ∷ l)
    (spell_two φ ψ bs (spell-append φ (spell ψ bs)) (spell-append φ (spell ψ [])) (spell-append ψ bs))
spell-append (or φ ψ) bs =
    ap (λ l. 4 ∷ 0 ∷ l)
    (spell_two φ ψ bs (spell-append φ (spell ψ bs)) (spell-append φ (spell ψ [])) (spell-append ψ bs))
spell-append (fwd a φ) bs = ap (λ l. 5 ∷ a ∷ l) (spell-append φ bs)
spell-append (back a φ) bs = ap (λ l. 6 ∷ a ∷ l) (spell-append φ bs)
spell-append (fwd_idle φ) bs = ap (λ l. 7 ∷ 0 ∷ l) (spell-append φ bs)
spell-append (back_idle φ) bs = ap (λ l. 8 ∷ 0 ∷ l) (spell-append φ bs)

trees-zero : (bs : List ℕ) → trees bs 0 ≡ Some ([], bs)
unfolding trees
trees-zero [] = refl
trees-zero (o ∷ []) = refl
trees-zero (o ∷ a ∷ bs) = refl

build1_0 : (f : Formula → Formula) (φ : Formula) (t : Read) → build1 f (build0 φ t) ≡ build0 (f φ) t
build1_0 f φ None = refl
build1_0 f φ (Some t) = refl

build2_00 : (f : Formula → Formula → Formula) (φ ψ : Formula) (t : Read)
    → build2 f (build0 φ (build0 ψ t)) ≡ build0 (f φ ψ) t
build2_00 f φ ψ None = refl
build2_00 f φ ψ (Some t) = refl

-- what is spelled is read
trees-spell : (φ : Formula) (bs : List ℕ) (n : ℕ) → trees (spell φ bs) (suc n) ≡ build0 φ (trees bs n)
unfolding trees spell
trees-spell top bs n = refl
trees-spell bottom bs n = refl
trees-spell (not φ) bs n = ap (build1 not) (trees-spell φ bs n) ∙ build1_0 not φ (trees bs n)
trees-spell (and φ ψ) bs n =
    ap (build2 and) (trees-spell φ (spell ψ bs) (suc n) ∙ ap (build0 φ) (trees-spell ψ bs n))
    ∙ build2_00 and φ ψ (trees bs n)
trees-spell (or φ ψ) bs n =
    ap (build2 or) (trees-spell φ (spell ψ bs) (suc n) ∙ ap (build0 φ) (trees-spell ψ bs n))
    ∙ build2_00 or φ ψ (trees bs n)
trees-spell (fwd a φ) bs n = ap (build1 (fwd a)) (trees-spell φ bs n) ∙ build1_0 (fwd a) φ (trees bs n)
trees-spell (back a φ) bs n = ap (build1 (back a)) (trees-spell φ bs n) ∙ build1_0 (back a) φ (trees bs n)
trees-spell (fwd_idle φ) bs n = ap (build1 fwd_idle) (trees-spell φ bs n) ∙ build1_0 fwd_idle φ (trees bs n)
trees-spell (back_idle φ) bs n = ap (build1 back_idle) (trees-spell φ bs n) ∙ build1_0 back_idle φ (trees bs n)

-- the bytes of several formulas, in front of others
abbrev pub spells : List Formula → List ℕ → List ℕ
spells [] bs = bs
spells (φ ∷ φs) bs = spell φ (spells φs bs)

-- a reading spells the bytes that were read
abbrev Fits : Read → List ℕ → Type 0
Fits None bs = Unit {0}
Fits (Some t) bs = spells t.0 t.1 ≡ bs

abbrev Sound : ℕ → ℕ → Shape → Type 0
Sound o a (leaf φ) = (bs : List ℕ) → spell φ bs ≡ o ∷ a ∷ bs
Sound o a (unary f) = (φ : Formula) (bs : List ℕ) → spell (f φ) bs ≡ o ∷ a ∷ spell φ bs
Sound o a (binary f) = (φ ψ : Formula) (bs : List ℕ) → spell (f φ ψ) bs ≡ o ∷ a ∷ spell φ (spell ψ bs)
Sound o a bad = Unit {0}

abbrev SoundFrom : (ℕ → ℕ) → ℕ → List Shape → Type 0
SoundFrom o a [] = Unit {0}
SoundFrom o a (s ∷ ss) = Sound (o zero) a s × SoundFrom (λ n. o (suc n)) a ss

operators_sound : (a : ℕ) → SoundFrom (λ o. o) a (operators a)
unfolding spell
operators_sound zero = (
  λ bs. refl,
  (
    λ bs. refl,
    (
      λ φ bs. refl,
      (λ φ ψ bs. refl, (λ φ ψ bs. refl, (λ φ bs. refl, (λ φ bs. refl, (λ φ bs. refl, (λ φ bs. refl, tt)))))),
    ),
  ),
)
operators_sound (suc a) = (tt, (tt, (tt, (tt, (tt, (λ φ bs. refl, (λ φ bs. refl, (tt, (tt, tt)))))))))

sound_at : (f : ℕ → ℕ) (a : ℕ) (ss : List Shape) → SoundFrom f a ss → (o : ℕ) → Sound (f o) a (get_or ss o bad)
sound_at f a [] h o = tt
sound_at f a (s ∷ ss) h zero = h.0
sound_at f a (s ∷ ss) h (suc o) = sound_at (λ n. f (suc n)) a ss h.1 o

fits0 : (o a : ℕ) (φ : Formula) → Sound o a (leaf φ) → (t : Read) (bs : List ℕ) → Fits t bs
    → Fits (build0 φ t) (o ∷ a ∷ bs)
fits0 o a φ s None bs h = tt
fits0 o a φ s (Some t) bs h = s (spells t.0 t.1) ∙ ap (λ x. o ∷ a ∷ x) h

fits1 : (o a : ℕ) (f : Formula → Formula) → Sound o a (unary f) → (t : Read) (bs : List ℕ) → Fits t bs
    → Fits (build1 f t) (o ∷ a ∷ bs)
fits1 o a f s None bs h = tt
fits1 o a f s (Some ([], r)) bs h = tt
fits1 o a f s (Some (φ ∷ φs, r)) bs h = s φ (spells φs r) ∙ ap (λ x. o ∷ a ∷ x) h

fits2 : (o a : ℕ) (f : Formula → Formula → Formula) → Sound o a (binary f) → (t : Read) (bs : List ℕ) → Fits t bs
    → Fits (build2 f t) (o ∷ a ∷ bs)
fits2 o a f s None bs h = tt
fits2 o a f s (Some ([], r)) bs h = tt
fits2 o a f s (Some (φ ∷ [], r)) bs h = tt
fits2 o a f s (Some (φ ∷ ψ ∷ φs, r)) bs h = s φ ψ (spells φs r) ∙ ap (λ x. o ∷ a ∷ x) h

fits_next : (o a : ℕ) (s : Shape) → Sound o a s → (n : ℕ) (more : ℕ → Read) (bs : List ℕ) → ((m : ℕ) → Fits (more m) bs)
    → Fits (next s n more) (o ∷ a ∷ bs)
fits_next o a (leaf φ) s n more bs h = fits0 o a φ s (more n) bs (h n)
fits_next o a (unary f) s n more bs h = fits1 o a f s (more (suc n)) bs (h (suc n))
fits_next o a (binary f) s n more bs h = fits2 o a f s (more (suc (suc n))) bs (h (suc (suc n)))
fits_next o a bad s n more bs h = tt

trees_fit : (bs : List ℕ) (n : ℕ) → Fits (trees bs n) bs
unfolding trees
trees_fit [] zero = refl
trees_fit [] (suc n) = tt
trees_fit (o ∷ []) zero = refl
trees_fit (o ∷ []) (suc n) = tt
trees_fit (o ∷ a ∷ bs) zero = refl
trees_fit (o ∷ a ∷ bs) (suc n) =
    fits_next o a (shape o a) (sound_at (λ n. n) a (operators a) (operators_sound a) o) n (λ m. trees bs m) bs
    (λ m. trees_fit bs m)

pub parse-spell : (φ : Formula) (bs : List ℕ) → parse (spell φ bs) ≡ Some (φ, bs)
unfolding parse
parse-spell φ bs = rw (trees-spell φ bs 0, trees-zero bs)

pub parse_sound : (bs : List ℕ) (φ : Formula) (rest : List ℕ) → parse bs ≡ Some (φ, rest) → spell φ rest ≡ bs
unfolding parse
parse_sound bs φ rest e = go (trees bs 1) (trees_fit bs 1) e
  where
    go : (t : Read) → Fits t bs → single t ≡ Some (φ, rest) → spell φ rest ≡ bs
    go None h e = absurd (apart cc)
    go (Some ([], r)) h e = absurd (apart cc)
    go (Some (ψ ∷ [], r)) h e =
        let k : ◌≡◌ {A = Formula × List ℕ} (ψ, r) (φ, rest) = cc in ap (λ x. spell x.0 x.1) (sym k) ∙ h
    go (Some (ψ ∷ χ ∷ ψs, r)) h e = absurd (apart cc)
