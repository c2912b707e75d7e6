-- A quotient keeps within the bounds of its question: no label above the highest, forward modalities nested no deeper.
-- So the quotient of a legal question is a legal formula but for its size.
use mathlib.Core.Path.{◌≡◌, refl}
use mathlib.Core.Logic.{◌⊎◌, inl, inr}
use mathlib.Core.Bool.{Bool, true, false, ◌&&◌}
use mathlib.Core.List.Memᴰ.{head as here}
use mathlib.Core.List.Memᴰ.{tail as there}
use mathlib.Core.List.{List, [], ◌∷◌, ◌++◌}
use mathlib.Core.List.Memᴰ.{eq_of_singleton as ∈-single}
use mathlib.Core.List.Memᴰ.{not-nil as nowhere}
use mathlib.Core.List.Memᴰ.{append_cases as ∈-append}
use Prim.Native.Nat.{ℕ, ◌+◌, ◌≤◌}
use native.Mathlib.Omega.{arith}
use lib.Dec.{leb}
use borrow.Author.Tests.{le-leb}
use Rattle.hml.specs.Lists.{same, ◌∈◌, only, given, each}
use Rattle.hml.proofs.Tests.{both_true}
use Rattle.hml.proofs.Lists.{∈-only, each-∈}
use Rattle.hml.specs.System.{System, move, idle, Run, start, ◌▸◌, last, Pairing}
use Rattle.hml.specs.Formula.{Formula, top, bottom, not, and, or, fwd, back, fwd_idle, back_idle, labelled, nesting}
use Rattle.hml.specs.Quotient.{ors, of_partner, back_by, quotient}
use Rattle.std.specs.Prelude.{None, Option, Some}

-- what every disjunct of a forward modality's quotient is
module _ (P : Pairing) {T : Type 0} (K : System T) (a : ℕ) (φ : Formula) (r : Run T) where
  pub data Disjunct : Formula → Type 0 where
    alone : (m : ℕ × T) → Disjunct (fwd_idle (quotient P K φ (r ▸ move m.0 m.1)))
    shaken : (m : ℕ × T) (c : ℕ) → P.partner m.0 ≡ Some c
        → Disjunct (fwd c (quotient P K φ (r ▸ move m.0 m.1)))

  -- the disjuncts behind the first
  abbrev pub others : List Formula
  others = each (λ (n : ℕ × T). only (same n.0 a) (fwd_idle (quotient P K φ (r ▸ move n.0 n.1)))) (K (last r))
      ++ each (λ (n : ℕ × T). of_partner (P.partner n.0) (λ c. fwd c (quotient P K φ (r ▸ move n.0 n.1))))
      (given (same 0 a) (K (last r)))

  of_partner_lem : (m : ℕ × T) (o : Option ℕ) → P.partner m.0 ≡ o → (e : Formula)
      → e ∈ of_partner o (λ c. fwd c (quotient P K φ (r ▸ move m.0 m.1))) → Disjunct e
  of_partner_lem m None f e i = absurd (nowhere i)
  of_partner_lem m (Some c) f e i = rw (∈-single i) (shaken m c f)

  pub disjunct : (e : Formula) → e ∈ others → Disjunct e
  disjunct e i =
      go (∈-append (each (λ (n : ℕ × T). only (same n.0 a) (fwd_idle (quotient P K φ (r ▸ move n.0 n.1))))
      (K (last r))) i)
    where
      go : e ∈ each (λ (n : ℕ × T). only (same n.0 a) (fwd_idle (quotient P K φ (r ▸ move n.0 n.1))))
          (K (last r))
          ⊎ e ∈ each (λ (n : ℕ × T). of_partner (P.partner n.0)
          (λ c. fwd c (quotient P K φ (r ▸ move n.0 n.1)))) (given (same 0 a) (K (last r))) → Disjunct e
      go (inl k) = let (m, _, h) = each-∈ _ (K (last r)) k in rw ((∈-only (same m.0 a)).0 h).1 (alone m)
      go (inr k) =
          let (m, _, h) = each-∈ _ (given (same 0 a) (K (last r))) k in of_partner_lem m (P.partner m.0) refl e h

-- labels
both : {a b : Bool} → a ≡ true → b ≡ true → (a && b) ≡ true
both e f = rw (e, f)

module _ (n : ℕ) where
  labelled-ors : (d : Formula) (ds : List Formula) → labelled n d ≡ true
      → ((e : Formula) → e ∈ ds → labelled n e ≡ true) → labelled n (ors d ds) ≡ true
  unfolding labelled
  labelled-ors d [] h k = h
  labelled-ors d (e ∷ es) h k = both h (labelled-ors e es (k e (here refl)) (λ f i. k f (there i)))

  labelled-back : (t z : Bool) (o : Option ℕ) (φ : Formula) → ((c : ℕ) → o ≡ Some c → c ≤ n) → labelled n φ ≡ true
      → labelled n (back_by t z o φ) ≡ true
  unfolding labelled
  labelled-back true z o φ k h = h
  labelled-back false false o φ k h = refl
  labelled-back false true None φ k h = refl
  labelled-back false true (Some c) φ k h = both (le-leb c n (k c refl)) h

  module _ (P : Pairing) (ranged : (b c : ℕ) → P.partner b ≡ Some c → c ≤ n) {T : Type 0} (K : System T) where
    -- no label of the quotient is above the highest
    pub quotient-labelled : (φ : Formula) (r : Run T) → labelled n φ ≡ true → labelled n (quotient P K φ r) ≡ true
    unfolding quotient labelled
    quotient-labelled top r h = refl
    quotient-labelled bottom r h = refl
    quotient-labelled (not φ) r h = quotient-labelled φ r h
    quotient-labelled (and φ ψ) r h =
        let (x, y) = both_true h in both (quotient-labelled φ r x) (quotient-labelled ψ r y)
    quotient-labelled (or φ ψ) r h =
        let (x, y) = both_true h in both (quotient-labelled φ r x) (quotient-labelled ψ r y)
    quotient-labelled (fwd a φ) r h =
        let (x, y) = both_true {a = leb a n} h in
        labelled-ors _ _ (both x (quotient-labelled φ (r ▸ idle) y))
        (λ e i. go e (λ s. quotient-labelled φ s y) (disjunct P K a φ r e i))
      where
        go : (e : Formula) → ((s : Run T) → labelled n (quotient P K φ s) ≡ true) → Disjunct P K a φ r e
            → labelled n e ≡ true
        go e k (alone m) = k _
        go e k (shaken m c f) = both (le-leb c n (ranged _ c f)) (k _)
    quotient-labelled (back a φ) (start q) h = refl
    quotient-labelled (back a φ) (r ▸ move b q) h =
        labelled-back (same b a) (same 0 a) (P.partner b) (quotient P K φ r) (ranged b)
        (quotient-labelled φ r (both_true {a = leb a n} h).1)
    quotient-labelled (back a φ) (r ▸ idle) h =
        let (x, y) = both_true {a = leb a n} h in both x (quotient-labelled φ r y)
    quotient-labelled (fwd_idle φ) r h = quotient-labelled φ (r ▸ idle) h
    quotient-labelled (back_idle φ) (start q) h = refl
    quotient-labelled (back_idle φ) (r ▸ move b q) h = refl
    quotient-labelled (back_idle φ) (r ▸ idle) h = quotient-labelled φ r h

-- nesting
nesting-ors : (m : ℕ) (d : Formula) (ds : List Formula) → nesting d ≤ m → ((e : Formula) → e ∈ ds → nesting e ≤ m)
    → nesting (ors d ds) ≤ m
unfolding nesting
nesting-ors m d [] h k = h
nesting-ors m d (e ∷ es) h k = omega (arith, h, nesting-ors m e es (k e (here refl)) (λ f i. k f (there i)))

nesting-back : (t z : Bool) (o : Option ℕ) (φ : Formula) → nesting (back_by t z o φ) ≤ nesting φ
unfolding nesting
nesting-back true z o φ = omega arith
nesting-back false false o φ = omega arith
nesting-back false true None φ = omega arith
nesting-back false true (Some c) φ = omega arith

module _ (P : Pairing) {T : Type 0} (K : System T) where
  -- forward modalities nest no deeper in the quotient
  pub quotient_nested : (φ : Formula) (r : Run T) → nesting (quotient P K φ r) ≤ nesting φ
  unfolding quotient nesting
  quotient_nested top r = omega arith
  quotient_nested bottom r = omega arith
  quotient_nested (not φ) r = quotient_nested φ r
  quotient_nested (and φ ψ) r = omega (arith, quotient_nested φ r, quotient_nested ψ r)
  quotient_nested (or φ ψ) r = omega (arith, quotient_nested φ r, quotient_nested ψ r)
  quotient_nested (fwd a φ) r =
      nesting-ors (1 + nesting φ) _ _ (omega (arith, quotient_nested φ (r ▸ idle)))
      (λ e i. go e (λ s. quotient_nested φ s) (disjunct P K a φ r e i))
    where
      go : (e : Formula) → ((s : Run T) → nesting (quotient P K φ s) ≤ nesting φ) → Disjunct P K a φ r e
          → nesting e ≤ 1 + nesting φ
      go e k (alone m) = omega (arith, k (r ▸ move m.0 m.1))
      go e k (shaken m c f) = omega (arith, k (r ▸ move m.0 m.1))
  quotient_nested (back a φ) (start q) = omega arith
  quotient_nested (back a φ) (r ▸ move b q) =
      omega (arith, nesting-back (same b a) (same 0 a) (P.partner b) (quotient P K φ r), quotient_nested φ r)
  quotient_nested (back a φ) (r ▸ idle) = quotient_nested φ r
  quotient_nested (fwd_idle φ) r = omega (arith, quotient_nested φ (r ▸ idle))
  quotient_nested (back_idle φ) (start q) = omega arith
  quotient_nested (back_idle φ) (r ▸ move b q) = omega arith
  quotient_nested (back_idle φ) (r ▸ idle) = quotient_nested φ r
