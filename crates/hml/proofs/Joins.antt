-- Joining as a function is joining as a relation: what is joined is found, and what is found is joined.
use mathlib.Core.Path.{◌≡◌, refl, ap}
use mathlib.Core.Bool.{Bool, true, false}
use Prim.Native.Nat.{suc}
use Rattle.hml.proofs.Tests.{apart, Decides, proves, decides}
use Rattle.hml.specs.Lists.{guard}
use Rattle.hml.specs.System.{Step, move, idle, Run, start, ◌▸◌, first, last, steps, Pairing}
use Rattle.hml.specs.Compose.{shakes}
use Rattle.hml.proofs.Composition.{decided_shakes, Match, Join, starts, ◌▹◌, left_alone, right_alone, handshake}
use Rattle.hml.proofs.Composition.{both_idle}
use Rattle.hml.specs.Joining.{join_step, extend, join}
use Rattle.std.specs.Prelude.{None, Option, Some}

module _ (P : Pairing) {S T U : Type 0} (pair : S → T → U) where
  match_found : {p : S} {q : T} {s : Step S} {t : Step T} {u : Step U} → Match P pair p q s t u
      → join_step P pair p q s t ≡ Some u
  match_found (left_alone a p) = refl
  match_found (right_alone b q) = refl
  match_found (handshake a p b q e) = rw ((decides (decided_shakes P a b)).1 e)
  match_found both_idle = refl

  pub join-found : {l : Run S} {r : Run T} {j : Run U} → Join P pair l r j → join P pair l r ≡ Some j
  unfolding join
  join-found starts = refl
  join-found (m ▹ w) = rw (join-found m, match_found w)

  match_sound : (p : S) (q : T) (s : Step S) (t : Step T) (u : Step U) → join_step P pair p q s t ≡ Some u
      → Match P pair p q s t u
  match_sound p q (move a p') (move b q') u e = go (shakes P a b) (decided_shakes P a b) e
    where
      go : (y : Bool) → Decides (P.partner a ≡ Some b) y → guard y (move 0 (pair p' q')) ≡ Some u
          → Match P pair p q (move a p') (move b q') u
      go true (proves w) e = let k : move 0 (pair p' q') ≡ u = cc in rw (← k) (handshake a p' b q' w)
      go false d e = absurd (apart cc)
  match_sound p q (move a p') idle u e = let k : move a (pair p' q) ≡ u = cc in rw (← k) (left_alone a p')
  match_sound p q idle (move b q') u e = let k : move b (pair p q') ≡ u = cc in rw (← k) (right_alone b q')
  match_sound p q idle idle u e = let k : idle ≡ u = cc in rw (← k) both_idle

  pub join_sound : (l : Run S) (r : Run T) (j : Run U) → join P pair l r ≡ Some j → Join P pair l r j
  unfolding join
  join_sound (start p) (start q) j e = let k : start (pair p q) ≡ j = cc in rw (← k) starts
  join_sound (start p) (r ▸ t) j e = absurd (apart cc)
  join_sound (l ▸ s) (start q) j e = absurd (apart cc)
  join_sound (l ▸ s) (r ▸ t) j e =
      go (join P pair l r) (join_step P pair (last l) (last r) s t) (join_sound l r) (match_sound (last l) (last r) s t)
      e
    where
      go : (o : Option (Run U)) (v : Option (Step U)) → ((i : Run U) → o ≡ Some i → Join P pair l r i)
          → ((u : Step U) → v ≡ Some u → Match P pair (last l) (last r) s t u) → extend P pair o v ≡ Some j
          → Join P pair (l ▸ s) (r ▸ t) j
      go None v f g e = absurd (apart cc)
      go (Some i) None f g e = absurd (apart cc)
      go (Some i) (Some u) f g e = let k : i ▸ u ≡ j = cc in rw (← k) (f i refl ▹ g u refl)

  -- two runs that join start where their join starts, and have as many steps
  pub join_first : {l : Run S} {r : Run T} {j : Run U} → Join P pair l r j → first j ≡ pair (first l) (first r)
  join_first starts = refl
  join_first (m ▹ w) = join_first m

  pub join-steps : {l : Run S} {r : Run T} {j : Run U} → Join P pair l r j → (steps l ≡ steps j) × (steps r ≡ steps j)
  join-steps starts = (refl, refl)
  join-steps (m ▹ w) = let (e, f) = join-steps m in (ap suc e, ap suc f)
