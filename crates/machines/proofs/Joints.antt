-- The cases of judging a joint run, each from what the code knows at its return.
use Prim.Native.Nat.{ℕ, suc, ◌+◌, ◌*◌, ◌%◌, ◌≤◌, ◌<◌}
use mathlib.Core.Path.{◌≡◌, refl, sym, ◌∙◌, ap, ap₂}
use mathlib.Core.Bool.{Bool, true, false, cond, ◌&&◌, ◌||◌}
use mathlib.Core.List.{List, [], ◌∷◌}
use native.Mathlib.Omega.{arith}
use lib.ListN.{length, get_or, drop, drop_of_length-le}
use lib.Seq.{drop-cons}
use lib.Dec.{eqb}
use borrow.Author.Tests.{eq-eqb, ne_eqb, lt-ltb}
use Rattle.hml.specs.Lists.{any, present, guard}
use Rattle.hml.proofs.Lists.{any_cong}
use Rattle.hml.specs.System.{System, Pairing}
use Rattle.labels.specs.Refusals.{first_of, Check}
use Rattle.labels.specs.Labels.{partner_found, pairing}
use Rattle.tables.specs.Tables.{states_of, table_of, threes, among, has_move, check_table}
use Rattle.halves.specs.Runs.{go_on}
use Rattle.machines.specs.Joints.{is_real, is_left_alone, is_right_alone, is_handshake, is_joint_idle}
use Rattle.machines.specs.Joints.{joint_steps, shakes_to, is_handshake}
use Rattle.machines.specs.Joints.{is_real_step, is_joint_run, check_joint, check_tables_and_joint}
use Rattle.machines.specs.Working.{kept, answer_to, is_answered}
use Rattle.machines.specs.Steps.{joint_step_at, joint_read}
use Rattle.machines.specs.declared.step.JointStep.{JointStep}
use Rattle.machines.proofs.Steps.{Found, step_found, none_found}
use Rattle.labels.specs.declared.label.Label.{Label}
use Rattle.labels.proofs.Labels.{found_some, found_none}
use Rattle.labels.specs.declared.refusal.Refusal.{Refusal}
use Rattle.labels.proofs.Refusals.{then_sound}
use Rattle.labels.specs.declared.label.Labels.{Labels}
use Rattle.halves.proofs.Runs.{ended, stopped, passed}
use Rattle.std.specs.Prelude.{Err, None, Ok, Option, Some, is_some}
use Rattle.std.specs.Bool.{then_some}

-- the right's answer to one move of the left, of label a and target to
module _ (P : Pairing) (answers : List (ℕ × ℕ)) (p' q' a to : ℕ) where
  pub elsewhere : (to ≡ p' → ⊥) → None ≡ partner_found (answer_to P answers p' q' (a, to))
  unfolding answer_to partner_found
  elsewhere n = rw (ne_eqb _ _ n)

  module _ (there : to ≡ p') where
    pub nobody_answers : None ≡ partner_found (P.partner a)
        → None ≡ partner_found (answer_to P answers p' q' (a, to))
    unfolding answer_to partner_found
    nobody_answers e = rw (eq-eqb _ _ there, found_none (P.partner a) e)

    pub partner_decides : (b : Label) → Some b ≡ partner_found (P.partner a) → {x : Bool} → x ≡ among answers b.0 q'
        → then_some x b ≡ partner_found (answer_to P answers p' q' (a, to))
    unfolding answer_to partner_found
    partner_decides b e h =
        rw (eq-eqb _ _ there, found_some (P.partner a) b e, h) (go (among answers b.0 q'))
      where
        go : (t : Bool) → then_some t b ≡ partner_found (guard t b.0)
        go true = refl
        go false = refl

-- as the code asks it
pub answered_as : (o : Option ℕ) → is_some (partner_found o) ≡ present (λ b. true) o
unfolding partner_found
answered_as None = refl
answered_as (Some b) = refl

-- a move shakes hands exactly if it is answered
answer_shakes : (P : Pairing) (R : System ℕ) (q p' q' : ℕ) (m : ℕ × ℕ)
    → is_answered P (R q) p' q' m ≡ shakes_to P R q p' q' m
unfolding shakes_to answer_to has_move
answer_shakes P R q p' q' m = go (eqb m.1 p') (P.partner m.0)
  where
    guarded : (t : Bool) (b : ℕ) → present (λ b. true) (guard t b) ≡ t
    guarded true b = refl
    guarded false b = refl

    go : (t : Bool) (o : Option ℕ) → present (λ b. true) (cond t (kept (λ b. among (R q) b q') o) None)
        ≡ (t && present (λ b. among (R q) b q') o)
    go false o = refl
    go true None = refl
    go true (Some b) = guarded (among (R q) b q') b

-- the four ways, by the rows that leave the two states
module _ (P : Pairing) (L R : System ℕ) (p q c p' q' : ℕ) where
  pub ways_tried : (left right : List (ℕ × ℕ)) → left ≡ L p → right ≡ R q
      → is_real P L R p q c p' q'
      ≡ ((eqb q' q && among left c p') || ((eqb p' p && among right c q')
      || ((eqb c 0 && any (is_answered P right p' q') left) || is_joint_idle p q c p' q')))
  unfolding is_real is_left_alone is_right_alone is_handshake has_move
  ways_tried left right e f =
      rw (e, f) (ap (λ z. (eqb q' q && among (L p) c p') || ((eqb p' p && among (R q) c q')
      || ((eqb c 0 && z) || is_joint_idle p q c p' q'))) (sym (any_cong (answer_shakes P R q p' q') (L p))))

  -- a joint idle is real, whatever rows there are; where the step is none, the other three ways are left
  last_decides : (a b h : Bool) → (a || (b || (h || true))) ≡ true
  last_decides true b h = refl
  last_decides false true h = refl
  last_decides false false true = refl
  last_decides false false false = refl

  last_lost : (a b h : Bool) → (a || (b || (h || false))) ≡ (a || (b || h))
  last_lost true b h = refl
  last_lost false true h = refl
  last_lost false false true = refl
  last_lost false false false = refl

  pub idle_real : is_joint_idle p q c p' q' ≡ true → is_real P L R p q c p' q' ≡ true
  unfolding is_real
  idle_real e =
      rw e (last_decides (is_left_alone P L R p q c p' q') (is_right_alone P L R p q c p' q')
      (is_handshake P L R p q c p' q'))

  pub moves_tried : (left right : List (ℕ × ℕ)) → left ≡ L p → right ≡ R q → is_joint_idle p q c p' q' ≡ false
      → is_real P L R p q c p' q'
      ≡ ((eqb q' q && among left c p') || ((eqb p' p && among right c q')
      || (eqb c 0 && any (is_answered P right p' q') left)))
  moves_tried left right e f n =
      ways_tried left right e f
      ∙ rw n (last_lost (eqb q' q && among left c p') (eqb p' p && among right c q')
      (eqb c 0 && any (is_answered P right p' q') left))

  -- where the right's state changes: the right alone, or a handshake
  idle_lost : (a b s t : Bool) → (a || (b || (s && (t && false)))) ≡ (a || b)
  idle_lost true b s t = refl
  idle_lost false true s t = refl
  idle_lost false false true true = refl
  idle_lost false false true false = refl
  idle_lost false false false t = refl

  pub right_changed : (left right : List (ℕ × ℕ)) → left ≡ L p → right ≡ R q → (q' ≡ q → ⊥)
      → is_real P L R p q c p' q'
      ≡ ((eqb p' p && among right c q') || (eqb c 0 && any (is_answered P right p' q') left))
  unfolding is_joint_idle
  right_changed left right e f n =
      ways_tried left right e f
      ∙ rw (ne_eqb q' q n) (idle_lost (eqb p' p && among right c q') (eqb c 0 && any (is_answered P right p' q') left)
      (eqb c 255) (eqb p' p))

  -- the right alone, by a search of its table
  pub right_alone : p' ≡ p → has_move R q c q' ≡ true → (eqb p' p && among (R q) c q') ≡ true
  unfolding has_move
  right_alone e h = rw (eq-eqb p' p e) h

  never : (b : Bool) → (b && false) ≡ false
  never true = refl
  never false = refl

  pub right_still : (right : List (ℕ × ℕ)) → right ≡ R q → has_move R q c q' ≡ false → (eqb p' p && among right c q') ≡ false
  unfolding has_move
  right_still right f h = rw (f, h) (never (eqb p' p))

  pub left_elsewhere : (right : List (ℕ × ℕ)) → (p' ≡ p → ⊥) → (eqb p' p && among right c q') ≡ false
  left_elsewhere right n = rw (ne_eqb p' p n)

-- the first of two tests decides, or leaves it to the second
pub either : {a : Bool} → a ≡ true → (b : Bool) → (a || b) ≡ true
either e b = rw e

pub neither : {a : Bool} → a ≡ false → (b : Bool) → (a || b) ≡ b
neither e b = rw e

-- the bytes of a joint run, from step i on
module _ (s : List ℕ) (i : ℕ) where
  pub next_three : 3 * i + 4 < length s
      → joint_steps (drop (3 * i + 2) s) ≡ (get_or s (3 * i + 2) 0, (get_or s (3 * i + 3) 0, get_or s (3 * i + 4) 0))
      ∷ joint_steps (drop (3 * (i + 1) + 2) s)
  unfolding joint_steps threes
  next_three h =
      let a : suc (3 * i + 2) ≡ 3 * i + 3 = omega arith in
      let b : suc (3 * i + 3) ≡ 3 * i + 4 = omega arith in
      let d : suc (3 * i + 4) ≡ 3 * (i + 1) + 2 = omega arith in
      rw (
        drop-cons s (3 * i + 2) 0 (omega arith),
        a,
        drop-cons s (3 * i + 3) 0 (omega arith),
        b,
        drop-cons s (3 * i + 4) 0 h,
        ← d,
      )

  pub no_three : length s ≤ 3 * i + 2 → joint_steps (drop (3 * i + 2) s) ≡ []
  unfolding joint_steps threes
  no_three h = rw (drop_of_length-le s {i = 3 * i + 2} h)

module _ (k : Labels) (l r s : List ℕ) where
  abbrev fits_here : ℕ × ℕ → ℕ → ℕ × ℕ → Bool
  fits_here = is_real_step (pairing k) (table_of l) (table_of r)

  -- the steps before step i are real, and those from it on decide
  unfoldable pub Walked : ℕ → Type 0
  Walked i =
      go_on fits_here (get_or s (3 * i) 0, get_or s (3 * i + 1) 0) (joint_steps (drop (3 * i + 2) s))
      ≡ go_on fits_here (get_or s 0 0, get_or s 1 0) (joint_steps (drop 2 s))

  pub walked_start : Walked 0
  unfolding Walked
  walked_start = refl

  module _ (left : get_or s 0 0 < states_of l) where
    module _ (right : get_or s 1 0 < states_of r) where
      steps_decide : {x : Bool} → x ≡ go_on fits_here (get_or s 0 0, get_or s 1 0) (joint_steps (drop 2 s))
          → x ≡ is_joint_run k l r s
      unfolding is_joint_run
      steps_decide e = rw (lt-ltb (get_or s 0 0) (states_of l) left, lt-ltb (get_or s 1 0) (states_of r) right) e

      module _ (i : ℕ) (w : Walked i) where
        pub walked_end : length s % 3 ≡ 2 → None ≡ joint_read s i → true ≡ is_joint_run k l r s
        unfolding Walked
        walked_end fit e = steps_decide (ended fits_here _ (no_three s i (omega (arith, fit, none_found s i fit e))) w)

        -- the reading finds step x at i, and the test of it says b
        module _ (x : JointStep) (e : Some x ≡ joint_read s i) (b : Bool)
            (f : b ≡ fits_here (x.before.left, x.before.right) x.label.0 (x.after.left, x.after.right)) where
          found : Found s i x
          found = step_found s i x e

          there : 3 * i + 4 < length s
          there = omega (arith, found.fit, found.within)

          real_here : is_real_step (pairing k) (table_of l) (table_of r)
              (get_or s (3 * i) 0, get_or s (3 * i + 1) 0) (get_or s (3 * i + 2) 0)
              (get_or s (3 * i + 3) 0, get_or s (3 * i + 4) 0) ≡ b
          unfolding joint_step_at
          real_here = sym (f ∙ rw found.here)

          pub walked_stop : b ≡ false → false ≡ is_joint_run k l r s
          unfolding Walked
          walked_stop n = steps_decide (stopped fits_here _ (next_three s i there) w (real_here ∙ n))

          pub walked_on : b ≡ true → Walked (i + 1)
          unfolding Walked
          walked_on n =
              let e : 3 * (i + 1) ≡ 3 * i + 3 = omega arith in
              let d : 3 * (i + 1) + 1 ≡ 3 * i + 4 = omega arith in
              ap₂ (λ m n. go_on fits_here (get_or s m 0, get_or s n 0) (joint_steps (drop (3 * (i + 1) + 2) s))) e d
              ∙ passed fits_here _ (next_three s i there) w (real_here ∙ n)

-- two tables and a joint run of them
module _ (k : Labels) (l r s : List ℕ) where
  pub left_refused : (x : Refusal) → check_table k l ≡ Err x → Err x ≡ check_tables_and_joint k l r s
  unfolding check_tables_and_joint first_of
  left_refused x e = rw e

  module _ (left : check_table k l ≡ Ok tt) where
    pub right_refused : (x : Refusal) → check_table k r ≡ Err x → Err x ≡ check_tables_and_joint k l r s
    unfolding check_tables_and_joint first_of
    right_refused x e = rw (left, e)

    -- what remains for a run of two sound tables
    pub run_decides : check_table k r ≡ Ok tt → {x : Check} → x ≡ check_joint k l r s
        → x ≡ check_tables_and_joint k l r s
    unfolding check_tables_and_joint first_of
    run_decides right e = rw (left, right, then_sound) e
