-- Lists without repetition, and that a joint run's splittings are one. Needs tables without repetition.
use mathlib.Core.Path.{◌≡◌, refl, sym, ◌∙◌, ap}
use mathlib.Core.Logic.{◌⊎◌, inl, inr}
use mathlib.Core.Bool.{Bool, true, false, ◌&&◌, ◌||◌}
use mathlib.Core.List.Memᴰ.{head as here}
use mathlib.Core.List.Memᴰ.{tail as there}
use mathlib.Core.List.{List, [], ◌∷◌, ◌++◌, map}
use mathlib.Core.List.Memᴰ.{append_cases as ∈-append}
use mathlib.Core.List.Memᴰ.{not-nil as nowhere}
use mathlib.Core.List.Memᴰ.{of_map as map-∈}
use mathlib.Core.List.Memᴰ.{cast as ∈-cast}
use Prim.Native.Nat.{ℕ}
use Rattle.hml.proofs.Tests.{apart, Tested, decides, decided_true}
use Rattle.hml.specs.Lists.{◌∈◌, only, each, any}
use Rattle.hml.proofs.Lists.{decided_any, each_cong, each_none, ∈-only, each-∈}
use Rattle.hml.specs.System.{System, Step, move, idle, Run, start, ◌▸◌, last, Pairing}
use Rattle.hml.specs.Compose.{Way, left, right, both, joint, ways, lefts, rights, handshakes, shakes, halves}
use Rattle.hml.specs.Split.{grown, options, splits}
use Rattle.hml.proofs.Splits.{moves_tested}
use Rattle.std.specs.Prelude.{Option}

pub data Distinct {A : Type 0} : List A → Type 0 where
  none : Distinct []
  some : {x : A} {xs : List A} → ¬ x ∈ xs → Distinct xs → Distinct (x ∷ xs)

module _ {A : Type 0} where
  pub distinct_only : (b : Bool) (x : A) → Distinct (only b x)
  unfolding only
  distinct_only true x = some nowhere none
  distinct_only false x = none

  pub distinct_append : {xs ys : List A} → Distinct xs → Distinct ys → ((z : A) → z ∈ xs → z ∈ ys → ⊥)
      → Distinct (xs ++ ys)
  distinct_append none e h = e
  distinct_append {ys} (some {x = x} {xs = xs} n d) e h = some
      (λ (i : x ∈ (xs ++ ys)). elim (∈-append xs i) [ inl k ↦ n k | inr k ↦ h x (here refl) k ])
      (distinct_append d e (λ z i k. h z (there i) k))

module _ {A B : Type 0} where
  pub distinct_map : (f : A → B) → ((x y : A) → f x ≡ f y → x ≡ y) → {xs : List A} → Distinct xs → Distinct (map f xs)
  distinct_map f h none = none
  distinct_map f h (some {x = x} {xs = xs} n d) = some
      (λ i. let t = map-∈ f xs i in n (∈-cast (h x t.0 (sym t.2)) t.1)) (distinct_map f h d)

  pub distinct_each : (g : A → List B) → ((x : A) → Distinct (g x)) → ((x y : A) (z : B) → z ∈ g x → z ∈ g y → x ≡ y)
      → {xs : List A} → Distinct xs → Distinct (each g xs)
  distinct_each g u h none = none
  distinct_each g u h (some {x = x} {xs = xs} n d) = distinct_append (u x) (distinct_each g u h d)
      (λ z i k. let t = each-∈ g xs k in n (∈-cast (h x t.0 z i t.2) t.1))

-- a search of a list without repetition for one element finds it once
module _ {A B : Type 0} (F : A → Bool) (y : A) (found : (x : A) → F x ≡ true → x ≡ y) (g : A → B) where
  each_once : {xs : List A} → Distinct xs → each (λ x. only (F x) (g x)) xs ≡ only (any F xs) (g y)
  unfolding only
  each_once none = refl
  each_once (some {x = x} {xs = xs} n d) = go (F x) refl (any F xs) refl (each_once d)
    where
      missing : F x ≡ true → any F xs ≡ true → ⊥
      missing e a =
          let (z, i, h) = (decides (decided_any (λ z. decided_true (F z)) xs)).0 a in
          n (∈-cast (found x e ∙ sym (found z h)) i)

      go : (b : Bool) → F x ≡ b → (a : Bool) → any F xs ≡ a → each (λ x. only (F x) (g x)) xs ≡ only (any F xs) (g y)
          → only b (g x) ++ each (λ x. only (F x) (g x)) xs ≡ only (b || any F xs) (g y)
      go true e true f r = absurd (missing e f)
      go true e false f r = rw (found x e) (ap (g y ∷◌) (r ∙ rw f))
      go false e a f r = r

  -- the same beside a test that does not look at the element
  pub each-found : (b : Bool) {t : A → Bool} → ((x : A) → t x ≡ (b && F x)) → {xs : List A} → Distinct xs
      → each (λ x. only (t x) (g x)) xs ≡ only (b && any F xs) (g y)
  unfolding only
  each-found true h {xs} d = each_cong (λ x. ap (λ b. only b (g x)) (h x)) xs ∙ each_once d
  each-found false h {xs} d = each_none _ (λ x. ap (λ b. only b (g x)) (h x)) xs

pair_path : {A B : Type 0} {u v : A × B} → u.0 ≡ v.0 → u.1 ≡ v.1 → u ≡ v
pair_path e f i = (e i, f i)

grown_injective : {S T : Type 0} (h h' : Run S × Run T) (k k' : Step S × Step T) → grown h k ≡ grown h' k'
    → (h ≡ h') × (k ≡ k')
grown_injective h h' k k' e =
    let a : h.0 ▸ k.0 ≡ h'.0 ▸ k'.0 = ap (λ z. z.0) e in
    let b : h.1 ▸ k.1 ≡ h'.1 ▸ k'.1 = ap (λ z. z.1) e in
    (pair_path (cc) (cc), pair_path (cc) (cc))

module _ (P : Pairing) {S T : Type 0} (L : System S) (R : System T) where
  -- what a member of each list of ways looks like
  with_row : (m : ℕ × S) (q : T) {w : Way S T}
      → w ∈ each (λ n. only (shakes P m.0 n.0) (both m.0 m.1 n.0 n.1)) (R q)
      → (n : ℕ × T) × (w ≡ both m.0 m.1 n.0 n.1)
  with_row m q i = let t = each-∈ _ (R q) i in (t.0, ((∈-only (shakes P m.0 t.0.0)).0 t.2).1)

  is_both : (p : S) (q : T) {w : Way S T} → w ∈ handshakes P L R p q
      → (m : ℕ × S) × (n : ℕ × T) × (w ≡ both m.0 m.1 n.0 n.1)
  is_both p q i = let t = each-∈ _ (L p) i in let s = with_row t.0 q t.2 in (t.0, s.0, s.1)

  is_left_lem : (p : S) {w : Way S T} → w ∈ lefts P L R p → (m : ℕ × S) × (w ≡ left m.0 m.1)
  is_left_lem p i = let t = map-∈ _ (L p) i in (t.0, sym t.2)

  is_right : (q : T) {w : Way S T} → w ∈ rights P L R q → (n : ℕ × T) × (w ≡ right n.0 n.1)
  is_right q i = let t = map-∈ _ (R q) i in (t.0, sym t.2)

module _ (P : Pairing) {S T : Type 0} (L : System S) (R : System T) (dl : (p : S) → Distinct (L p))
    (dr : (q : T) → Distinct (R q)) where
  distinct_handshakes : (p : S) (q : T) → Distinct (handshakes P L R p q)
  distinct_handshakes p q = distinct_each _
      (λ m. distinct_each _ (λ n. distinct_only (shakes P m.0 n.0) (both m.0 m.1 n.0 n.1))
      (λ n n' w i k.
      let (t, e) = (∈-only (shakes P m.0 n.0)).0 i in
      let (t', e') = (∈-only (shakes P m.0 n'.0)).0 k in
      pair_path (cc) (cc))
      (dr q))
      (λ m m' w i k. let (n, e) = with_row P L R m q i in let (n', e') = with_row P L R m' q k in pair_path (cc) (cc))
      (dl p)

  pub distinct_ways : (p : S) (q : T) → Distinct (ways P L R p q)
  unfolding ways
  distinct_ways p q = distinct_append
      (distinct_map _ (λ m n e. pair_path (cc) (cc)) (dl p))
      (distinct_append (distinct_map _ (λ m n e. pair_path (cc) (cc)) (dr q)) (distinct_handshakes p q)
      (λ w i k. let (m, e) = is_right P L R q i in let (a, b, e') = is_both P L R p q k in apart cc))
      (λ w i k. go w i (∈-append (rights P L R q) k))
    where
      go : (w : Way S T) → w ∈ lefts P L R p → w ∈ rights P L R q ⊎ w ∈ handshakes P L R p q → ⊥
      go w i (inl k) = let (m, e) = is_left_lem P L R p i in let (n, e') = is_right P L R q k in apart cc
      go w i (inr k) = let (m, e) = is_left_lem P L R p i in let (a, b, e') = is_both P L R p q k in apart cc

-- the way that two steps form, if they form one
whole : {S T : Type 0} → Step S → Step T → Option (Way S T)
whole (move a p) (move b q) = Option.Some (both a p b q)
whole (move a p) idle = Option.Some (left a p)
whole idle (move b q) = Option.Some (right b q)
whole idle idle = Option.None

whole-halves : {S T : Type 0} (w : Way S T) → whole (halves w).0 (halves w).1 ≡ Option.Some w
unfolding whole
whole-halves (left a p) = refl
whole-halves (right b q) = refl
whole-halves (both a p b q) = refl

module _ (P : Pairing) {S T : Type 0} (A : Tested S) (B : Tested T) (L : System S) (R : System T)
    (dl : (p : S) → Distinct (L p)) (dr : (q : T) → Distinct (R q)) where
  distinct_options : (u : S × T) (s : Step (S × T)) → Distinct (options P A.equal B.equal L R u s)
  distinct_options u (move c v) = distinct_each _
      (λ w. distinct_only ((moves_tested P A B L R).equal (joint u.0 u.1 w) (c, v)) (halves w))
      (λ w w' k i o. let e : k ≡ halves w = ((∈-only _).0 i).1 in
      let e' : k ≡ halves w' = ((∈-only _).0 o).1 in cc (whole-halves w, whole-halves w'))
      (distinct_ways P L R dl dr u.0 u.1)
  distinct_options u idle = some nowhere none

  -- no splitting is listed twice
  pub splits_distinct : (j : Run (S × T)) → Distinct (splits P A.equal B.equal L R j)
  unfolding splits
  splits_distinct (start u) = some nowhere none
  splits_distinct (j ▸ s) = distinct_each _
      (λ h. distinct_map (grown h) (λ k k' e. (grown_injective h h k k' e).1) (distinct_options (last j) s))
      (λ h h' z i o.
      let t = map-∈ (grown h) (options P A.equal B.equal L R (last j) s) i in
      let t' = map-∈ (grown h') (options P A.equal B.equal L R (last j) s) o in
      (grown_injective h h' t.0 t'.0 (t.2 ∙ sym t'.2)).0)
      (splits_distinct j)
