-- Theorem 1 of source document 000: the quotient keeps the verdict (`quotient_sound`).
use mathlib.Core.Path.{◌≡◌, refl, sym, ◌∙◌, ap, ap₂}
use mathlib.Core.Bool.{Bool, true, false, ◌&&◌, ◌||◌, or-false, and-false, not as negate}
use mathlib.Core.List.{List, [], ◌∷◌}
use Prim.Native.Nat.{ℕ}
use Rattle.hml.proofs.Tests.{and_cong, same_refl, decides, denied, apart, decided_same}
use Rattle.hml.specs.Lists.{same, any, present, given}
use Rattle.hml.proofs.Lists.{any_false, any_cong, any_append, any-each, any-only, any_swap}
use Rattle.hml.specs.System.{System, move, idle, Run, ◌▸◌, last, Pairing}
use Rattle.hml.specs.Compose.{shakes}
use Rattle.hml.proofs.Composition.{decided_shakes, Composed, Join, starts, ◌▹◌, left_alone, right_alone, handshake}
use Rattle.hml.proofs.Composition.{both_idle, last-join}
use Rattle.hml.specs.Formula.{Formula, top, bottom, not, and, or, fwd, back, fwd_idle, back_idle, holds}
use Rattle.hml.specs.Quotient.{ors, of_partner, back_by, quotient}
use Rattle.std.specs.Prelude.{None, Option, Some}

any-of_partner : (h : Formula → Bool) (o : Option ℕ) (f : ℕ → Formula) → any h (of_partner o f) ≡ present (λ c. h (f c)) o
any-of_partner h None f = refl
any-of_partner h (Some c) f = or-false (h (f c))

module _ {S : Type 0} (M : System S) where
  holds-ors : (r : Run S) (d : Formula) (ds : List Formula)
      → holds M (ors d ds) r ≡ (holds M d r || any (λ e. holds M e r) ds)
  unfolding holds
  holds-ors r d [] = sym (or-false (holds M d r))
  holds-ors r d (e ∷ es) = ap (holds M d r ||◌) (holds-ors r e es)

  back_alone : (r : Run S) (φ : Formula) (t z : Bool) (o : Option ℕ)
      → (t && holds M φ r) ≡ holds M (back_by t z o φ) (r ▸ idle)
  unfolding holds
  back_alone r φ true z o = refl
  back_alone r φ false false o = refl
  back_alone r φ false true None = refl
  back_alone r φ false true (Some c) = refl

  back-shaken : (r : Run S) (φ : Formula) (a : ℕ) (p : S) (t z : Bool) → (t ≡ true → z ≡ false)
      → (z && holds M φ r) ≡ holds M (back_by t z (Some a) φ) (r ▸ move a p)
  unfolding holds
  back-shaken r φ a p true z h = ap (◌&& holds M φ r) (h refl)
  back-shaken r φ a p false false h = refl
  back-shaken r φ a p false true h = rw same_refl

module _ (P : Pairing) where
  -- a label with a partner is not the silent one
  not-silent : (a b c : ℕ) → P.partner b ≡ Some c → same b a ≡ true → same 0 a ≡ false
  not-silent a b c e h =
      denied (decided_same 0 a) (λ o. let g : b ≡ a = (decides (decided_same b a)).0 h in apart (cc P.silent))

  -- the handshakes, searched from the left, and from the right by partners
  any-shaken : {A B : Type 0} (F G : ℕ × A → ℕ × B → Bool) (xs : List (ℕ × A)) (z : Bool) (ys : List (ℕ × B))
      → ((m : ℕ × A) (n : ℕ × B) → shakes P m.0 n.0 ≡ true → F m n ≡ G m n) →
      any (λ m. any (λ n. shakes P m.0 n.0 && (z && F m n)) ys) xs
      ≡ any (λ n. present (λ c. any (λ m. same m.0 c && G m n) xs) (P.partner n.0)) (given z ys)
  unfolding shakes
  any-shaken F G xs false ys h = simp (and-false, any_false)
  any-shaken {A} F G xs true ys h =
      any_swap (λ m n. shakes P m.0 n.0 && F m n) xs ys ∙ any_cong (λ n. go n (P.partner n.0) (λ m. h m n)) ys
    where
      go : (n : _) (o : Option ℕ) → ((m : ℕ × A) → present (same m.0) o ≡ true → F m n ≡ G m n)
          → any (λ m. present (same m.0) o && F m n) xs ≡ present (λ c. any (λ m. same m.0 c && G m n) xs) o
      go n None k = any_false xs
      go n (Some c) k = any_cong (λ m. and_cong (same m.0 c) (k m)) xs

module _ (P : Pairing) {S T U : Type 0} (pair : S → T → U) (L : System S) (R : System T) (J : System U)
    (law : Composed P pair L R J) where
  abbrev Kept : Formula → Type 0
  Kept φ = (l : Run S) (r : Run T) (j : Run U) → Join P pair l r j → holds J φ j ≡ holds L (quotient P R φ r) l

  fwd-kept : (a : ℕ) (φ : Formula) → Kept φ → Kept (fwd a φ)
  unfolding holds quotient Composed
  fwd-kept a φ kept l r j m =
      ap (λ u. any (λ x. same x.0 a && holds J φ (j ▸ move x.0 x.1)) (J u)) (last-join P pair m)
      ∙ law _ (last l) (last r)
      ∙ ap₂ ◌||◌ (any_cong (λ x. ap (same x.0 a &&◌) (kept _ _ _ (m ▹ left_alone x.0 x.1))) (L (last l)))
      (ap₂ ◌||◌ (any_cong (λ y. ap (same y.0 a &&◌) (kept _ _ _ (m ▹ right_alone y.0 y.1))) (R (last r)))
      (any-shaken P _ _ (L (last l)) (same 0 a) (R (last r))
      (λ x y h. kept _ _ _
      (m ▹ handshake x.0 x.1 y.0 y.1 ((decides (decided_shakes P x.0 y.0)).0 h)))))
      ∙ simp (holds-ors L l, any_append, any-each, any-only, any-of_partner)

  pub quotient_sound : (φ : Formula) {l : Run S} {r : Run T} {j : Run U} → Join P pair l r j
      → holds J φ j ≡ holds L (quotient P R φ r) l
  unfolding holds quotient
  quotient_sound top m = refl
  quotient_sound bottom m = refl
  quotient_sound (not φ) m = ap negate (quotient_sound φ m)
  quotient_sound (and φ ψ) m = ap₂ ◌&&◌ (quotient_sound φ m) (quotient_sound ψ m)
  quotient_sound (or φ ψ) m = ap₂ ◌||◌ (quotient_sound φ m) (quotient_sound ψ m)
  quotient_sound (fwd a φ) {l} {r} {j} m = fwd-kept a φ (λ l r j m. quotient_sound φ m) l r j m
  quotient_sound (back a φ) starts = refl
  quotient_sound (back a φ) (m ▹ left_alone b p) = ap (same b a &&◌) (quotient_sound φ m)
  quotient_sound (back a φ) (◌▹◌ {l = l} {r = r} m (right_alone b q)) = ap (same b a &&◌) (quotient_sound φ m)
      ∙ back_alone L l (quotient P R φ r) (same b a) (same 0 a) (P.partner b)
  quotient_sound (back a φ) (◌▹◌ {l = l} {r = r} m (handshake b p c q e)) = rw (P.returned e)
      (ap (same 0 a &&◌) (quotient_sound φ m)
      ∙ back-shaken L l (quotient P R φ r) b p (same c a) (same 0 a) (not-silent P a c b (P.returned e)))
  quotient_sound (back a φ) (m ▹ both_idle) = refl
  quotient_sound (fwd_idle φ) m = quotient_sound φ (m ▹ both_idle)
  quotient_sound (back_idle φ) starts = refl
  quotient_sound (back_idle φ) (m ▹ left_alone b p) = refl
  quotient_sound (back_idle φ) (m ▹ right_alone b q) = refl
  quotient_sound (back_idle φ) (m ▹ handshake b p c q e) = refl
  quotient_sound (back_idle φ) (m ▹ both_idle) = quotient_sound φ m
