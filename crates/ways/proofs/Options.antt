-- The ways of a step as document 01 lists them are the options of the theory, in the same order. Needs tables without
-- repetition.
use Prim.Native.Nat.{ℕ}
use mathlib.Core.Path.{◌≡◌, refl, sym, ◌∙◌, ap₂}
use mathlib.Core.Bool.{Bool, true, false, cond, ◌&&◌}
use mathlib.Core.List.{List, [], ◌∷◌, ◌++◌, map}
use lib.Dec.{eqb}
use borrow.Author.Tests.{eqb-true}
use Rattle.hml.proofs.Tests.{apart, denied, decided_same, decided_alike, both_true}
use Rattle.hml.specs.Lists.{same, only, each, given, guard}
use Rattle.hml.proofs.Lists.{each_append, each_cong, each_none, each-only, each_map, each-each}
use Rattle.hml.specs.System.{System, Pairing, move, idle}
use Rattle.hml.specs.Compose.{Way, left, right, both, joint, ways, shakes, halves}
use Rattle.hml.proofs.Composition.{decided_shakes}
use Rattle.hml.specs.Split.{options}
use Rattle.hml.proofs.Distinct.{Distinct, each-found}
use Rattle.hml.specs.Compose as compose
use Rattle.tables.specs.Tables.{among}
use Rattle.halves.specs.Runs.{step_of}
use Rattle.machines.specs.Working.{answer_to, kept}
use Rattle.ways.specs.Working.{Steps, answered_by, shaken_by, handshakes, right_ways, ways_here}
use Rattle.machines.specs.declared.step.JointStep.{JointStep}
use Rattle.machines.specs.declared.step.States.{States}
use Rattle.std.specs.Prelude.{None, Option, Some}

-- a move is the one of this label and target exactly if both are the same
the_move : (a q : ℕ) (m : ℕ × ℕ) → (same m.0 a && same m.1 q) ≡ true → m ≡ (a, q)
the_move a q m e = let (x, y) = both_true e in λ i. (eqb-true m.0 a x i, eqb-true m.1 q y i)

same_sym : (a b : ℕ) → same a b ≡ same b a
same_sym a b = decided_alike sym sym (decided_same a b) (decided_same b a)

-- "and", in another order
and_turn : (a b c : Bool) → (a && (b && c)) ≡ (c && (a && b))
and_turn true true true = refl
and_turn true true false = refl
and_turn true false true = refl
and_turn true false false = refl
and_turn false b true = refl
and_turn false b false = refl

and_first : (a b c : Bool) → (a && (b && c)) ≡ (b && (a && c))
and_first true b c = refl
and_first false true c = refl
and_first false false c = refl

given-only : {A : Type 0} (b t : Bool) (x : A) → given b (only t x) ≡ only (b && t) x
unfolding only
given-only true t x = refl
given-only false t x = refl

and_never : (a b : Bool) → (a && (false && b)) ≡ false
and_never true b = refl
and_never false b = refl

module _ (P : Pairing) where
  -- the labels that shake hands with a label are its partner
  shaking : (a b n : ℕ) → P.partner a ≡ Some b → shakes P a n ≡ same n b
  shaking a b n e =
      decided_alike (λ f. let z : Some n ≡ Some b = sym f ∙ e in cc) (λ f. rw f e) (decided_shakes P a n)
      (decided_same n b)

  unshaking : (a n : ℕ) → P.partner a ≡ None → shakes P a n ≡ false
  unshaking a n e = denied (decided_shakes P a n) (λ f. let z : None ≡ Some n = sym e ∙ f in apart cc)

module _ (P : Pairing) (L R : System ℕ) (p q c p' q' : ℕ) where
  -- a way is kept if it makes the step
  abbrev keeps : Way ℕ ℕ → List Steps
  keeps w = only (same (joint p q w).0 c && (same (joint p q w).1.0 p' && same (joint p q w).1.1 q')) (halves w)

  left-options : Distinct (L p)
      → each keeps (map (λ m. left m.0 m.1) (L p)) ≡ only (same q' q && among (L p) c p') (move c p', idle)
  unfolding among
  left-options d = each_map keeps (λ m. left m.0 m.1) (L p)
      ∙ each-found (λ m. same m.0 c && same m.1 p') (c, p') (the_move c p') (λ m. (move m.0 m.1, idle))
      (same q' q)
      (λ m. and_turn (same m.0 c) (same m.1 p') (same q q') ∙ rw (same_sym q q')) d

  right-options : Distinct (R q)
      → each keeps (map (λ n. right n.0 n.1) (R q)) ≡ only (same p' p && among (R q) c q') (idle, move c q')
  unfolding among
  right-options d = each_map keeps (λ n. right n.0 n.1) (R q)
      ∙ each-found (λ n. same n.0 c && same n.1 q') (c, q') (the_move c q') (λ n. (idle, move n.0 n.1))
      (same p' p)
      (λ n. and_first (same n.0 c) (same p p') (same n.1 q') ∙ rw (same_sym p p')) d

  -- the handshakes of one move of the left
  abbrev with_move : ℕ × ℕ → List Steps
  with_move m =
      each (λ n. only (shakes P m.0 n.0 && (same 0 c && (same m.1 p' && same n.1 q')))
      (move m.0 m.1, move n.0 n.1)) (R q)

  both-options : each keeps (compose.handshakes P L R p q) ≡ each with_move (L p)
  both-options =
      each-each keeps _ (L p) ∙ each_cong
      (λ m. each-each keeps _ (R q)
      ∙ each_cong (λ n. each-only keeps (shakes P m.0 n.0) (both m.0 m.1 n.0 n.1)
      ∙ given-only (shakes P m.0 n.0) _ _) (R q)) (L p)

  loud : same c 0 ≡ false → each with_move (L p) ≡ []
  unfolding only
  loud e =
      each_none with_move (λ m. each_none _
      (λ n. rw (same_sym 0 c, e, and_never (shakes P m.0 n.0) (same m.1 p' && same n.1 q'))) (R q)) (L p)

module _ (P : Pairing) (L R : System ℕ) (p q c : ℕ) (v : States) (d : Distinct (R q)) where
  one-move : same c 0 ≡ true → (m : ℕ × ℕ) → with_move P L R p q c v.left v.right m ≡ shaken_by P (R q) v m
  unfolding answer_to only among
  one-move z m = go (same m.1 v.left) refl (P.partner m.0) refl
    where
      silent : same 0 c ≡ true
      silent = same_sym 0 c ∙ z

      guarded : (t : Bool) (b : ℕ) → only t (move m.0 m.1, move b v.right) ≡ answered_by P (R q) v m (guard t b)
      guarded true b = refl
      guarded false b = refl

      go : (t : Bool) → same m.1 v.left ≡ t → (o : Option ℕ) → P.partner m.0 ≡ o
          → with_move P L R p q c v.left v.right m
          ≡ answered_by P (R q) v m (cond (same m.1 v.left)
          (kept (λ b. among (R q) b v.right) (P.partner m.0)) None)
      go false e o f = rw e (each_none _ (λ n. rw (silent, and_never (shakes P m.0 n.0) true)) (R q))
      go true e None f = rw (e, f) (each_none _ (λ n. rw (unshaking P m.0 n.0 f)) (R q))
      go true e (Some b) f =
          rw (e, f) (each-found (λ n. same n.0 b && same n.1 v.right) (b, v.right) (the_move b v.right)
          (λ n. (move m.0 m.1, move n.0 n.1)) true
          {t = λ n. shakes P m.0 n.0 && (same 0 c && (true && same n.1 v.right))}
          (λ n. rw (silent, shaking P m.0 b n.0 f)) d ∙ guarded (among (R q) b v.right) b)

-- all of them
module _ (P : Pairing) (L R : System ℕ) (s : JointStep) (dl : Distinct (L s.before.left))
    (dr : Distinct (R s.before.right)) where
  move-options : options P same same L R (s.before.left, s.before.right)
      (move s.label.0 (s.after.left, s.after.right))
      ≡ only (eqb s.after.right s.before.right && among (L s.before.left) s.label.0 s.after.left)
      (move s.label.0 s.after.left, idle) ++ right_ways P (L s.before.left) (R s.before.right) s
  unfolding ways right_ways handshakes
  move-options =
      let p = s.before.left in
      let q = s.before.right in
      let c = s.label.0 in
      let p' = s.after.left in
      let q' = s.after.right in
      each_append (keeps P L R p q c p' q') (compose.lefts P L R p)
      (compose.rights P L R q ++ compose.handshakes P L R p q)
      ∙ ap₂ ◌++◌ (left-options P L R p q c p' q' dl)
      (each_append (keeps P L R p q c p' q') (compose.rights P L R q) (compose.handshakes P L R p q)
      ∙ ap₂ ◌++◌ (right-options P L R p q c p' q' dr) (both-options P L R p q c p' q' ∙ shaken (same c 0) refl))
    where
      shaken : (t : Bool) → same s.label.0 0 ≡ t
          → each (with_move P L R s.before.left s.before.right s.label.0 s.after.left s.after.right)
          (L s.before.left) ≡ given t (each (shaken_by P (R s.before.right) s.after) (L s.before.left))
      shaken true e =
          each_cong (one-move P L R s.before.left s.before.right s.label.0 s.after dr e)
          (L s.before.left)
      shaken false e =
          loud P L R s.before.left s.before.right s.label.0 s.after.left s.after.right e

  -- a joint idle has one
  pub options-listed : options P same same L R (s.before.left, s.before.right)
      (step_of s.label.0 (s.after.left, s.after.right))
      ≡ ways_here P (L s.before.left) (R s.before.right) s
  unfolding step_of ways_here
  options-listed = go (eqb s.label.0 255)
    where
      go : (b : Bool) → options P same same L R (s.before.left, s.before.right)
          (cond b idle (move s.label.0 (s.after.left, s.after.right)))
          ≡ cond b ((idle, idle) ∷ [])
          (only (eqb s.after.right s.before.right && among (L s.before.left) s.label.0 s.after.left)
          (move s.label.0 s.after.left, idle) ++ right_ways P (L s.before.left) (R s.before.right) s)
      go true = refl
      go false = move-options
