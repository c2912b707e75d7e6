-- What it is for a joint step to be real (document 01, "A joint step .. is real exactly if one of these ways exists"),
-- and that the moves of the joint system are the real steps.
use mathlib.Core.Path.{◌≡◌, refl, sym}
use mathlib.Core.Logic.{◌↔◌, ◌⊎◌, inl, inr}
use mathlib.Core.List.Memᴰ.{append_cases as ∈-append}
use mathlib.Core.List.Memᴰ.{append_left as ∈-left}
use mathlib.Core.List.{◌++◌}
use mathlib.Core.List.Memᴰ.{append_right as ∈-right}
use mathlib.Core.List.Memᴰ.{cast as ∈-cast}
use mathlib.Core.List.Memᴰ.{map as ∈-map}
use mathlib.Core.List.Memᴰ.{of_map as map-∈}
use Prim.Native.Nat.{ℕ}
use Rattle.hml.proofs.Tests.{decides}
use Rattle.hml.specs.Lists.{◌∈◌}
use Rattle.hml.proofs.Lists.{∈-only, ∈-each, each-∈}
use Rattle.hml.specs.System.{System, Step, move, idle, Run, start, ◌▸◌, last, Pairing, RunOf, begins, goes}
use Rattle.hml.specs.System.{Allowed, moves, idles}
use Rattle.hml.specs.Compose.{paired, Way, left, right, both, joint, ways, lefts, rights, handshakes, beside}
use Rattle.hml.specs.Compose.{shakes, halves}
use Rattle.hml.proofs.Composition.{Match, Join, starts, ◌▹◌, left_alone, right_alone, handshake, both_idle}
use Rattle.hml.proofs.Composition.{last-join, decided_shakes}
use Rattle.std.specs.Prelude.{Some}

module _ (P : Pairing) {S T : Type 0} (L : System S) (R : System T) where
  -- which ways the two systems offer from (p, q)
  abbrev pub Offered : S → T → Way S T → Type 0
  Offered p q (left a p') = (a, p') ∈ L p
  Offered p q (right b q') = (b, q') ∈ R q
  Offered p q (both a p' b q') = (a, p') ∈ L p × (b, q') ∈ R q × (P.partner a ≡ Some b)

  -- a joint step is real if there is a way for it
  abbrev pub Real : S → T → ℕ × (S × T) → Type 0
  Real p q c = (w : Way S T) × Offered p q w × (joint p q w ≡ c)

  pub offered_way : (p : S) (q : T) (w : Way S T) → Offered p q w → w ∈ ways P L R p q
  unfolding ways
  offered_way p q (left a p') i = ∈-left (rights P L R q ++ handshakes P L R p q) (∈-map (λ m. left m.0 m.1) i)
  offered_way p q (right b q') i =
      ∈-right (lefts P L R p) (∈-left (handshakes P L R p q) (∈-map (λ n. right n.0 n.1) i))
  offered_way p q (both a p' b q') i = ∈-right (lefts P L R p) (∈-right (rights P L R q)
      (∈-each _ i.0 (∈-each _ i.1 ((∈-only (shakes P a b)).1 ((decides (decided_shakes P a b)).1 i.2, refl)))))

  pub way_offered : (p : S) (q : T) (w : Way S T) → w ∈ ways P L R p q → Offered p q w
  unfolding ways
  way_offered p q w i = first (∈-append (lefts P L R p) i)
    where
      third : w ∈ handshakes P L R p q → Offered p q w
      third k =
          let (m, f, k') = each-∈ _ (L p) k in
          let (n, g, k'') = each-∈ _ (R q) k' in
          let (h, e) = (∈-only (shakes P m.0 n.0)).0 k'' in
          rw e (f, g, (decides (decided_shakes P m.0 n.0)).0 h)

      second : w ∈ rights P L R q ⊎ w ∈ handshakes P L R p q → Offered p q w
      second (inl k) = let t = map-∈ (λ n. right n.0 n.1) (R q) k in rw (← t.2) t.1
      second (inr k) = third k

      first : w ∈ lefts P L R p ⊎ w ∈ (rights P L R q ++ handshakes P L R p q) → Offered p q w
      first (inl k) = let t = map-∈ (λ m. left m.0 m.1) (L p) k in rw (← t.2) t.1
      first (inr k) = second (∈-append (rights P L R q) k)

  -- the rows of the joint system are the real steps
  pub real_rows : (p : S) (q : T) (c : ℕ × (S × T)) → c ∈ (beside P L R (p, q)) ↔ Real p q c
  unfolding beside
  real_rows p q c = (
    λ i. let (w, k, e) = map-∈ (joint p q) (ways P L R p q) i in (w, way_offered p q w k, e),
    λ t. ∈-cast (sym t.2) (∈-map (joint p q) (offered_way p q t.0 t.1)),
  )

  -- two steps that the systems have from p and q, and that form the joint step s
  abbrev pub Splits : S → T → Step S × Step T → Step (S × T) → Type 0
  Splits p q k s = Match P paired p q k.0 k.1 s × Allowed L p k.0 × Allowed R q k.1

  pub way_splits : (p : S) (q : T) (w : Way S T) → Offered p q w → (c : ℕ × (S × T)) → joint p q w ≡ c
      → Splits p q (halves w) (move c.0 c.1)
  way_splits p q (left a p') i c e = rw (← e) (left_alone a p', moves i, idles)
  way_splits p q (right b q') i c e = rw (← e) (right_alone b q', idles, moves i)
  way_splits p q (both a p' b q') i c e = rw (← e) (handshake a p' b q' i.2, moves i.0, moves i.1)

  -- a joint step is real exactly if it splits
  pub real_splits : (p : S) (q : T) {s : Step (S × T)} → Allowed (beside P L R) (p, q) s
      → (k : Step S × Step T) × Splits p q k s
  real_splits p q (moves {a = c} {p' = v} i) = let t = (real_rows p q (c, v)).0
      i in (halves t.0, way_splits p q t.0 t.1 (c, v) t.2)
  real_splits p q idles = ((idle, idle), (both_idle, idles, idles))

  pub splits_real : (p : S) (q : T) {s : Step S} {t : Step T} {u : Step (S × T)} → Match P paired p q s t u
      → Allowed L p s → Allowed R q t → Allowed (beside P L R) (p, q) u
  splits_real p q (left_alone a p') (moves i) idles = moves ((real_rows p q _).1 (left a p', i, refl))
  splits_real p q (right_alone b q') idles (moves i) = moves ((real_rows p q _).1 (right b q', i, refl))
  splits_real p q (handshake a p' b q' e) (moves i) (moves k) =
      moves ((real_rows p q _).1 (both a p' b q', (i, k, e), refl))
  splits_real p q both_idle idles idles = idles

  -- two runs of the two systems that join to j
  abbrev pub JoinOf : Run S → Run T → Run (S × T) → Type 0
  JoinOf l r j = Join P paired l r j × RunOf L l × RunOf R r

  -- what they join to is a run of the joint system, and each of its runs is so joined
  pub join-run : {l : Run S} {r : Run T} {j : Run (S × T)} → Join P paired l r j → RunOf L l → RunOf R r
      → RunOf (beside P L R) j
  join-run starts begins begins = begins
  join-run (◌▹◌ {u = u} m w) (goes x a) (goes y b) = goes {s = u} (join-run m x y)
      (rw (last-join P paired m) (splits_real _ _ w a b))

  pub run-joined : {j : Run (S × T)} → RunOf (beside P L R) j → (l : Run S) × (r : Run T) × JoinOf l r j
  run-joined (begins {p = u}) = (start u.0, start u.1, (starts, begins, begins))
  run-joined (goes {s = s} x a) =
      let (l, r, h) = run-joined x in
      let (k, f) = real_splits (last l) (last r) (rw (last-join P paired h.0) at a) in
      (l ▸ k.0, r ▸ k.1, (h.0 ▹ f.0, goes h.1 f.1, goes h.2 f.2))
