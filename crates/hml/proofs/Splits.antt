-- The splittings of a joint run are the pairs of runs that join to it, and no others; each step multiplies their number
-- by its own.
use mathlib.Core.Path.{◌≡◌, refl}
use mathlib.Core.List.Memᴰ.{eq_of_singleton as ∈-single}
use mathlib.Core.List.Memᴰ.{head as here}
use mathlib.Core.List.Memᴰ.{map as ∈-map}
use mathlib.Core.List.Memᴰ.{of_map as map-∈}
use Prim.Native.Nat.{ℕ, ◌*◌}
use lib.ListN.{length, length-map}
use Rattle.hml.proofs.Tests.{decides, Tested, tested-ℕ, tested_pair}
use Rattle.hml.specs.Lists.{◌∈◌, only}
use Rattle.hml.proofs.Lists.{∈-only, ∈-each, each-∈, length-each}
use Rattle.hml.specs.System.{System, Step, move, idle, Run, start, ◌▸◌, last, Pairing, RunOf, begins, goes}
use Rattle.hml.specs.System.{Allowed, moves, idles}
use Rattle.hml.proofs.Real.{Offered, offered_way, way_offered, Splits, way_splits, JoinOf}
use Rattle.hml.specs.Compose.{halves, paired, Way, left, right, both, joint, ways}
use Rattle.hml.proofs.Composition.{Match, Join, starts, ◌▹◌, left_alone, right_alone, handshake, both_idle}
use Rattle.hml.proofs.Composition.{last-join}
use Rattle.hml.specs.Split.{grown, options, splits}

module _ (P : Pairing) {S T : Type 0} (A : Tested S) (B : Tested T) (L : System S) (R : System T) where
  abbrev pub moves_tested : Tested (ℕ × (S × T))
  moves_tested = tested_pair tested-ℕ (tested_pair A B)

  way_option : (p : S) (q : T) (w : Way S T) → Offered P L R p q w → (c : ℕ × (S × T)) → joint p q w ≡ c
      → (halves w) ∈ (options P A.equal B.equal L R (p, q) (move c.0 c.1))
  way_option p q w i c e =
      ∈-each _ (offered_way P L R p q w i) ((∈-only _).1 ((decides (moves_tested.decided (joint p q w) c)).1 e, refl))

  option_way : (p : S) (q : T) (c : ℕ × (S × T)) (k : Step S × Step T)
      → k ∈ (options P A.equal B.equal L R (p, q) (move c.0 c.1))
      → (w : Way S T) × Offered P L R p q w × (joint p q w ≡ c) × (k ≡ halves w)
  option_way p q c k o = go (each-∈ _ (ways P L R p q) o)
    where
      go : (w : Way S T) × w ∈ ways P L R p q × k ∈ only (moves_tested.equal (joint p q w) c) (halves w)
          → (w : Way S T) × Offered P L R p q w × (joint p q w ≡ c) × (k ≡ halves w)
      go (w, i, o') =
          let t = (∈-only (moves_tested.equal (joint p q w) c)).0
          o' in (w, way_offered P L R p q w i, (decides (moves_tested.decided (joint p q w) c)).0 t.0, t.1)

  options_complete : (p : S) (q : T) {s : Step S} {t : Step T} {u : Step (S × T)} → Match P paired p q s t u
      → Allowed L p s → Allowed R q t → (s, t) ∈ options P A.equal B.equal L R (p, q) u
  options_complete p q (left_alone a p') (moves i) idles = way_option p q (left a p') i _ refl
  options_complete p q (right_alone b q') idles (moves i) = way_option p q (right b q') i _ refl
  options_complete p q (handshake a p' b q' e) (moves i) (moves k) = way_option p q (both a p' b q') (i, k, e) _ refl
  options_complete p q both_idle idles idles = here refl

  options_sound : (p : S) (q : T) (s : Step (S × T)) (k : Step S × Step T)
      → k ∈ options P A.equal B.equal L R (p, q) s → Splits P L R p q k s
  options_sound p q (move c v) k o =
      let t = option_way p q (c, v) k o in rw t.3 (way_splits P L R p q t.0 t.1 (c, v) t.2)
  options_sound p q idle k o = rw (∈-single o) (both_idle, idles, idles)

  -- every pair of runs that joins to j is among its splittings
  pub splits_complete : {l : Run S} {r : Run T} {j : Run (S × T)} → Join P paired l r j → RunOf L l → RunOf R r
      → (l, r) ∈ splits P A.equal B.equal L R j
  unfolding splits
  splits_complete starts begins begins = here refl
  splits_complete (◌▹◌ {l = l} {r = r} {j = j} {s = s} {t = t} {u = u} m w) (goes x a) (goes y b) =
      let o : (s, t) ∈ options P A.equal B.equal L R (last j) u = rw (last-join P paired m)
      (options_complete (last l) (last r) w a b) in
      ∈-each _ (splits_complete m x y) (∈-map (grown (l, r)) o)

  -- one more step
  grown_joins : {l : Run S} {r : Run T} {j : Run (S × T)} → JoinOf P L R l r j
      → (s : Step (S × T)) (k : Step S × Step T) → k ∈ options P A.equal B.equal L R (last j) s
      → JoinOf P L R (l ▸ k.0) (r ▸ k.1) (j ▸ s)
  grown_joins {l} {r} (m, x, y) s k o =
      let f = options_sound (last l) (last r) s k
      (rw (last-join P paired m) at o) in (m ▹ f.0, goes x f.1, goes y f.2)

  -- every splitting of j is a pair of runs that joins to j
  pub splits_sound : (j : Run (S × T)) (h : Run S × Run T) → h ∈ splits P A.equal B.equal L R j
      → JoinOf P L R h.0 h.1 j
  unfolding splits
  splits_sound (start u) h i = rw (∈-single i) (starts, begins, begins)
  splits_sound (j ▸ s) h i =
      let (g, f, i') = each-∈ _ (splits P A.equal B.equal L R j) i in
      let (k, o, e) = map-∈ _ (options P A.equal B.equal L R (last j) s) i' in
      rw (← e) (grown_joins (splits_sound j g f) s k o)

  -- each step multiplies the number of splittings by its own number
  pub splits-count : (j : Run (S × T)) (s : Step (S × T))
      → length (splits P A.equal B.equal L R (j ▸ s))
      ≡ length (splits P A.equal B.equal L R j) * length (options P A.equal B.equal L R (last j) s)
  unfolding splits
  splits-count j s =
      length-each _ (length (options P A.equal B.equal L R (last j) s))
      (λ h. length-map (options P A.equal B.equal L R (last j) s) (grown h))
      (splits P A.equal B.equal L R j)
