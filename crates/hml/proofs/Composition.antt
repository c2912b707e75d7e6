-- When two runs join to a third, as a relation (`Join`); what it is for a system to move as two side by side
-- (`Composed`), and that the joint system does; the two sides may change places.
use mathlib.Core.Path.{◌≡◌, refl, sym, ◌∙◌, ap}
use mathlib.Core.Bool.{Bool, ◌&&◌, ◌||◌}
use Prim.Native.Nat.{ℕ}
use Rattle.hml.proofs.Tests.{Decides, decided_iff, decided_same, decided_alike, or_turn}
use Rattle.hml.specs.Lists.{any}
use Rattle.hml.proofs.Lists.{decided_present, any_cong, any_append, any-map, any-each, any-only, any_swap}
use Rattle.hml.specs.System.{System, Step, move, idle, Run, start, ◌▸◌, last, Pairing}
use Rattle.hml.specs.Compose.{shakes, paired, ways, beside}
use Rattle.std.specs.Prelude.{Some}

module _ (P : Pairing) where
  pub decided_shakes : (a b : ℕ) → Decides (P.partner a ≡ Some b) (shakes P a b)
  unfolding shakes
  decided_shakes a b = decided_iff
      (λ t. P.returned (t.1 ∙ ap Some (sym t.2)))
      (λ e. (a, P.returned e, refl))
      (decided_present (λ c. decided_same a c) (P.partner b))

  pub shakes_sym : (a b : ℕ) → shakes P a b ≡ shakes P b a
  shakes_sym a b = decided_alike P.returned P.returned (decided_shakes a b) (decided_shakes b a)

module _ (P : Pairing) {S T U : Type 0} (pair : S → T → U) where
  infixl 20 ◌▹◌
  -- J moves as L and R side by side, as far as a search of its rows can tell
  unfoldable pub Composed : System S → System T → System U → Type 0
  Composed L R J = (f : ℕ × U → Bool) (p : S) (q : T) → any f (J (pair p q)) ≡
      (any (λ m. f (m.0, pair m.1 q)) (L p) || (any (λ n. f (n.0, pair p n.1)) (R q)
      || any (λ m. any (λ n. shakes P m.0 n.0 && f (0, pair m.1 n.1)) (R q)) (L p)))

  -- two steps from p and q match, and form the third
  pub data Match (p : S) (q : T) : Step S → Step T → Step U → Type 0 where
    left_alone : (a : ℕ) (p' : S) → Match p q (move a p') idle (move a (pair p' q))
    right_alone : (b : ℕ) (q' : T) → Match p q idle (move b q') (move b (pair p q'))
    handshake : (a : ℕ) (p' : S) (b : ℕ) (q' : T) → P.partner a ≡ Some b
        → Match p q (move a p') (move b q') (move 0 (pair p' q'))
    both_idle : Match p q idle idle idle

  -- two runs match at each step, and join to the third
  pub data Join : Run S → Run T → Run U → Type 0 where
    starts : {p : S} {q : T} → Join (start p) (start q) (start (pair p q))
    ◌▹◌ : {l : Run S} {r : Run T} {j : Run U} {s : Step S} {t : Step T} {u : Step U} → Join l r j
        → Match (last l) (last r) s t u → Join (l ▸ s) (r ▸ t) (j ▸ u)

  pub last-join : {l : Run S} {r : Run T} {j : Run U} → Join l r j → last j ≡ pair (last l) (last r)
  last-join starts = refl
  last-join (m ▹ left_alone a p) = refl
  last-join (m ▹ right_alone b q) = refl
  last-join (m ▹ handshake a p b q e) = refl
  last-join (m ▹ both_idle) = last-join m

-- the two sides may change places
module _ (P : Pairing) {S T U : Type 0} (pair : S → T → U) where
  abbrev pub flipped : T → S → U
  flipped q p = pair p q

  match_flip : {p : S} {q : T} {s : Step S} {t : Step T} {u : Step U} → Match P pair p q s t u
      → Match P flipped q p t s u
  match_flip (left_alone a p) = right_alone a p
  match_flip (right_alone b q) = left_alone b q
  match_flip (handshake a p b q e) = handshake b q a p (P.returned e)
  match_flip both_idle = both_idle

  pub join_flip : {l : Run S} {r : Run T} {j : Run U} → Join P pair l r j → Join P flipped r l j
  join_flip starts = starts
  join_flip (m ▹ w) = join_flip m ▹ match_flip w

  pub composed_flip : (L : System S) (R : System T) (J : System U) → Composed P pair L R J → Composed P flipped R L J
  unfolding Composed
  composed_flip L R J law f q p =
      law f p q ∙ or_turn (any (λ m. f (m.0, pair m.1 q)) (L p)) (any (λ n. f (n.0, pair p n.1)) (R q))
      (any_swap _ (L p) (R q) ∙ any_cong
      (λ n. any_cong (λ m. ap (◌&& f (0, pair m.1 n.1)) (shakes_sym P m.0 n.0)) (L p)) (R q))

-- the joint system is composed of its two
module _ (P : Pairing) {S T : Type 0} (L : System S) (R : System T) where
  pub beside_composed : Composed P paired L R (beside P L R)
  unfolding Composed beside ways
  beside_composed f p q = simp (any_append, any-map, any-each, any-only)
