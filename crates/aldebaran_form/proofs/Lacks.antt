-- Bytes among which one does not stand.
use Prim.Native.Nat.{ℕ, suc, ◌<◌}
use mathlib.Core.Path.{◌≡◌, refl, sym, ◌∙◌}
use mathlib.Core.List.{List, [], ◌∷◌, ◌++◌}
use mathlib.Core.List.Memᴰ
use mathlib.Core.Logic.{⊎_elim}
use native.Mathlib.Omega.{arith}
use lib.ListN.{length, get_or}
use Rattle.hml.specs.Lists.{◌∈◌}

-- none of the bytes is b
unfoldable pub Lacks : ℕ → List ℕ → Type 0
Lacks b l = (c : ℕ) → c ∈ l → c ≡ b → ⊥

module _ (b : ℕ) where
  pub lacks_nil : Lacks b []
  unfolding Lacks
  lacks_nil c m e = absurd (Memᴰ.not-nil m)

  pub lacks_cons : (c : ℕ) (l : List ℕ) → (c ≡ b → ⊥) → Lacks b l → Lacks b (c ∷ l)
  unfolding Lacks
  lacks_cons c l h w x m e = ⊎_elim (λ (q : x ≡ c). h (sym q ∙ e)) (λ (q : x ∈ l). w x q e) (Memᴰ.cases_cons m)

  pub lacks_front : (c : ℕ) (l : List ℕ) → Lacks b (c ∷ l) → c ≡ b → ⊥
  unfolding Lacks
  lacks_front c l w e = w c (Memᴰ.head refl) e

  pub lacks_rest : (c : ℕ) (l : List ℕ) → Lacks b (c ∷ l) → Lacks b l
  unfolding Lacks
  lacks_rest c l w x m e = w x (Memᴰ.tail m) e

  pub lacks_append : (k l : List ℕ) → Lacks b k → Lacks b l → Lacks b (k ++ l)
  lacks_append [] l w v = v
  lacks_append (c ∷ k) l w v =
      lacks_cons c (k ++ l) (lacks_front c k w) (lacks_append k l (lacks_rest c k w) v)

  pub lacks_left : (k l : List ℕ) → Lacks b (k ++ l) → Lacks b k
  unfolding Lacks
  lacks_left k l w c m e = w c (Memᴰ.append_left l m) e

  pub lacks_right : (k l : List ℕ) → Lacks b (k ++ l) → Lacks b l
  unfolding Lacks
  lacks_right k l w c m e = w c (Memᴰ.append_right k m) e

  -- by the places of the bytes
  pub lacks_places : (l : List ℕ) → ((i : ℕ) → i < length l → get_or l i 0 ≡ b → ⊥) → Lacks b l
  lacks_places [] h = lacks_nil
  lacks_places (c ∷ l) h =
      lacks_cons c l (λ e. h 0 (omega arith) e) (lacks_places l (λ i g e. h (suc i) (omega (arith, g)) e))
