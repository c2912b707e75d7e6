-- The laws of joint runs: which steps are real, what the test accepts, the reading of their bytes, and joint runs with
-- a step more or stopped.
use Prim.Native.Nat.{ℕ, suc, ◌+◌, ◌-◌, ◌*◌, ◌%◌, ◌≤◌, ◌<◌}
use mathlib.Core.Path.{◌≡◌, refl, sym, ◌∙◌, ap}
use mathlib.Core.Logic.{◌⊎◌, inl, inr}
use mathlib.Core.Bool.{Bool, true, not, ◌&&◌, ◌||◌, false≢true, or_assoc}
use mathlib.Core.List.Memᴰ.{cast as ∈-cast}
use mathlib.Core.List.{List, [], ◌∷◌, ◌++◌}
use native.Mathlib.Omega.{arith}
use lib.ListN.{length, take, length-take}
use lib.Seq.{take-nil}
use Rattle.hml.proofs.Tests.{Decides, decides, decided_by, decided_le, decided_lt, decided_true, both_true, decided_iff}
use Rattle.hml.proofs.Tests.{decided_and, decided_or, decided_same, tested-ℕ, tested_pair}
use Rattle.hml.specs.Lists.{◌∈◌, each}
use Rattle.hml.proofs.Lists.{decided_any, decided_present, length-each}
use Rattle.hml.specs.System.{System, Run, start, ◌▸◌, first, last, steps, stop, RunOf, Pairing}
use Rattle.hml.specs.Compose.{beside, left, right, both}
use Rattle.hml.proofs.Real.{Real, real_rows}
use Rattle.labels.specs.Labels.{pairing}
use Rattle.tables.specs.Tables.{states_of, threes, table_of, SoundTable}
use Rattle.halves.specs.Runs.{written, step_of, lengthened, go_on}
use Rattle.machines.specs.Joints.{joint_bytes, joint_steps, joint_of, JointRun, is_left_alone, is_right_alone, shakes_to}
use Rattle.machines.specs.Joints.{is_joint_idle, is_handshake, is_real, is_real_step, fit_joint, is_joint_run, check_joint}
use Rattle.machines.specs.Joints.{check_tables_and_joint}
use Rattle.halves.proofs.Runs.{NoIdleLabel, Fit, lengthened-more, first-lengthened, length-written, stop-start}
use Rattle.halves.proofs.Runs.{stop-lengthened, go_on-take, run_keeps, run-go_on, step_bytes, dropped_at, read_accepted}
use Rattle.labels.specs.Refusals.{first_of, refused_if}
use Rattle.labels.specs.declared.refusal.Refusal.TheVariants.{WrongLength, NotReal}
use Rattle.labels.proofs.Refusals.{Judges, judged_iff, judged_unless, judged-next, judged_then, then_sound}
use Rattle.labels.specs.declared.label.Labels.{Labels}
use Rattle.tables.proofs.SoundTables.{judged_table, no_idle-label}
use Rattle.tables.proofs.Chunks.{Chunks, chunks_map, threes_chunks, chunks_take, chunks_read, chunks_append}
use Rattle.tables.proofs.Rows.{has_move_decides}
use Rattle.machines.specs.Working.{tables_of, AcceptedJoint}
use Rattle.std.specs.Prelude.{Some}

module _ (P : Pairing) (L R : System ℕ) where
  -- two systems without the label 255 have none beside each other
  pub beside_free : NoIdleLabel L → NoIdleLabel R → NoIdleLabel (beside P L R)
  beside_free fl fr u c v i n = go ((real_rows P L R u.0 u.1 (c, v)).0 i)
    where
      go : Real P L R u.0 u.1 (c, v) → ⊥
      go (left a p, o, e) = fl u.0 a p o (ap (λ z. z.0) e ∙ n)
      go (right b q, o, e) = fr u.1 b q o (ap (λ z. z.0) e ∙ n)
      go (both a p b q, o, e) = omega (arith, ap (λ z. z.0) e)

  module _ (p q c p' q' : ℕ) where
    -- the ways of a real move, each in its own words
    abbrev LeftAlone : Type 0
    LeftAlone = (q' ≡ q) × (c, p') ∈ L p

    abbrev RightAlone : Type 0
    RightAlone = (p' ≡ p) × (c, q') ∈ R q

    abbrev Handshake : Type 0
    Handshake =
        (c ≡ 0) × ((m : ℕ × ℕ) × m ∈ L p × ((m.1 ≡ p') × ((b : ℕ) × (P.partner m.0 ≡ Some b) × (b, q') ∈ R q)))

    way_real : LeftAlone ⊎ (RightAlone ⊎ Handshake) → Real P L R p q (c, (p', q'))
    way_real (inl (e, i)) = (left c p', i, rw e)
    way_real (inr (inl (e, i))) = (right c q', i, rw e)
    way_real (inr (inr (z, (m, i, (e, (b, k, j)))))) = (both m.0 m.1 b q', (i, j, k), rw (z, e))

    real_way : Real P L R p q (c, (p', q')) → LeftAlone ⊎ (RightAlone ⊎ Handshake)
    real_way (left a x, o, e) = inl (ap (λ z. z.1.1) (sym e), ∈-cast (ap (λ z. (z.0, z.1.0)) (sym e)) o)
    real_way (right b y, o, e) = inr (inl (ap (λ z. z.1.0) (sym e), ∈-cast (ap (λ z. (z.0, z.1.1)) (sym e)) o))
    real_way (both a x b y, (i, j, k), e) =
        inr (inr (
          ap (λ z. z.0) (sym e),
          ((a, x), i, (ap (λ z. z.1.0) e, (b, k, ∈-cast (ap (λ z. (b, z.1.1)) (sym e)) j))),
        ))

    moves_decided : Decides ((c, (p', q')) ∈ beside P L R (p, q))
        (is_left_alone P L R p q c p' q' || (is_right_alone P L R p q c p' q' || is_handshake P L R p q c p' q'))
    unfolding is_left_alone is_right_alone is_handshake shakes_to
    moves_decided =
        decided_iff (λ w. (real_rows P L R p q (c, (p', q'))).1 (way_real w))
        (λ i. real_way ((real_rows P L R p q (c, (p', q'))).0 i))
        (decided_or (decided_and (decided_same q' q) (has_move_decides L p c p'))
        (decided_or (decided_and (decided_same p' p) (has_move_decides R q c q'))
        (decided_and (decided_same c 0)
        (decided_any (λ m. decided_and (decided_same m.1 p')
        (decided_present (λ b. has_move_decides R q b q') (P.partner m.0))) (L p)))))

    idle_decided : Decides ((c ≡ 255) × (◌≡◌ {A = ℕ × ℕ} (p', q') (p, q))) (is_joint_idle p q c p' q')
    unfolding is_joint_idle
    idle_decided = decided_and (decided_same c 255) ((tested_pair tested-ℕ tested-ℕ).decided (p', q') (p, q))

  -- the test passes exactly for the steps that two systems without the label 255 have beside each other
  pub is_real_decides : NoIdleLabel L → NoIdleLabel R → (u : ℕ × ℕ) (c : ℕ) (v : ℕ × ℕ)
      → Decides (Fit (beside P L R) u c v) (is_real_step P L R u c v)
  unfolding is_real
  is_real_decides fl fr (p, q) c (p', q') =
      rw (← or_assoc (is_right_alone P L R p q c p' q'), ← or_assoc (is_left_alone P L R p q c p' q')) (decided_iff {A = ((c, (p', q')) ∈ beside P L R (p, q)) ⊎ ((c ≡ 255) × (◌≡◌ {A = ℕ × ℕ} (p', q') (p, q)))}
      (λ s. elim s [ inl i ↦ inr (beside_free fl fr (p, q) c (p', q') i, i) | inr t ↦ inl t ])
      (λ s. elim s [ inl t ↦ inr t | inr t ↦ inl t.1 ])
      (decided_or (moves_decided p q c p' q') (idle_decided p q c p' q')))

add_two : (n : ℕ) → n + 2 ≡ suc (suc n)
add_two n = omega arith

-- the bytes of a state, in a joint run
abbrev pub state_bytes : ℕ × ℕ → List ℕ
state_bytes u = u.0 ∷ u.1 ∷ []

-- three bytes a step
pub steps_chunks : Chunks 3 (step_bytes state_bytes) joint_steps
unfolding joint_steps
steps_chunks =
    chunks_map (λ b. (b.0, (b.1, b.2))) (λ e. (e.0, e.1.0, e.1.1)) (λ b. refl) (λ e. refl) threes_chunks

abbrev real_fits : Labels → List ℕ → List ℕ → ℕ × ℕ → ℕ → ℕ × ℕ → Bool
real_fits k l r = is_real_step (pairing k) (table_of l) (table_of r)

-- the parts of the test: whole steps, at most 200 of them, a start state of each table, and steps that go on from them
joint_tested : (k : Labels) (l r : List ℕ) (p q : ℕ) (bs : List ℕ)
    → Decides ((length bs % 3 ≡ 0) × (length bs ≤ 600) × (p < states_of l) × (q < states_of r)
    × (go_on (real_fits k l r) (p, q) (joint_steps bs) ≡ true))
    (fit_joint (p ∷ q ∷ bs) && is_joint_run k l r (p ∷ q ∷ bs))
unfolding fit_joint is_joint_run
joint_tested k l r p q bs = decided_iff
    (λ ((o, m), (b, (b', g))). (omega (arith, o), omega (arith, m), b, b', g))
    (λ (o, m, b, b', g). ((omega (arith, o), omega (arith, m)), (b, (b', g))))
    (decided_and (decided_and (decided_same (suc (suc (length bs)) % 3) 2) (decided_le (suc (suc (length bs))) 602))
    (decided_and (decided_lt p (states_of l))
    (decided_and (decided_lt q (states_of r)) (decided_true (go_on (real_fits k l r) (p, q) (joint_steps bs))))))

-- stopping the reading is the reading of the shorter bytes
pub joint-stop : (s : List ℕ) (n : ℕ) → joint_of (take (3 * n + 2) s) ≡ stop n (joint_of s)
unfolding joint_of
joint-stop [] n = rw (take-nil, stop-start)
joint-stop (p ∷ []) n = rw (add_two (3 * n), stop-start)
joint-stop (p ∷ q ∷ bs) n =
    rw (add_two (3 * n), chunks_take steps_chunks bs n) (sym (stop-lengthened n (p, q) (joint_steps bs)))

-- one more step in bytes is one more step in the reading
pub joint-more : (s : List ℕ) (c p q : ℕ) → length s % 3 ≡ 2
    → joint_of (s ++ c ∷ p ∷ q ∷ []) ≡ joint_of s ▸ step_of c (p, q)
unfolding joint_of joint_steps threes
joint-more [] c p q o = absurd (omega arith)
joint-more (x ∷ []) c p q o = absurd (omega arith)
joint-more (x ∷ y ∷ bs) c p q o =
    rw (chunks_append steps_chunks bs (omega arith) (c ∷ p ∷ q ∷ []))
    (lengthened-more (start (x, y)) (joint_steps bs) c (p, q))

-- an accepted joint run stopped at one of its points is accepted
pub joint_stopped : (k : Labels) (l r s : List ℕ) (n : ℕ) → fit_joint s ≡ true → is_joint_run k l r s ≡ true
    → (fit_joint (take (3 * n + 2) s) ≡ true) × (is_joint_run k l r (take (3 * n + 2) s) ≡ true)
unfolding fit_joint
joint_stopped k l r [] n f e = absurd (false≢true f)
joint_stopped k l r (p ∷ []) n f e = absurd (false≢true f)
joint_stopped k l r (p ∷ q ∷ bs) n f e =
    let (o, m, b, b', g) = (decides (joint_tested k l r p q bs)).0 (rw (f, e)) in
    let z = length-take (3 * n) bs in
    rw (add_two (3 * n)) (both_true ((decides (joint_tested k l r p q (take (3 * n) bs))).1 (
      omega arith,
      omega arith,
      b,
      b',
      rw (chunks_take steps_chunks bs n) (go_on-take (real_fits k l r) (p, q) n (joint_steps bs) g),
    )))

module _ (k : Labels) (l r : List ℕ) (fl : NoIdleLabel (table_of l)) (fr : NoIdleLabel (table_of r)) where
  real_decides : (u : ℕ × ℕ) (c : ℕ) (v : ℕ × ℕ) → Decides (Fit (tables_of k l r) u c v) (real_fits k l r u c v)
  real_decides = is_real_decides (pairing k) (table_of l) (table_of r) fl fr

  goes_on : {j : Run (ℕ × ℕ)} → RunOf (tables_of k l r) j
      → (go_on (real_fits k l r) (first j) (written j) ≡ true) × (lengthened (start (first j)) (written j) ≡ j)
  goes_on x =
      run-go_on (tables_of k l r) (real_fits k l r) real_decides (beside_free (pairing k) (table_of l) (table_of r) fl fr) x

  -- what the test accepts is the spelling of a run of the two tables beside each other: its reading
  pub accepted_joint : (s : List ℕ) → fit_joint s ≡ true → is_joint_run k l r s ≡ true → AcceptedJoint k l r s
  unfolding fit_joint joint_of joint_bytes
  accepted_joint [] f e = absurd (false≢true f)
  accepted_joint (p ∷ []) f e = absurd (false≢true f)
  accepted_joint (p ∷ q ∷ bs) f e =
      let (o, m, b, b', g) = (decides (joint_tested k l r p q bs)).0 (rw (f, e)) in
      let (x, w, n, z) = read_accepted state_bytes steps_chunks (tables_of k l r) (real_fits k l r) real_decides (p, q) bs
      o g in
      let h = first-lengthened (start (p, q)) (joint_steps bs) in
      record {
        run = x;
        spelled = rw (h, w);
        begins_left = rw h b;
        begins_right = rw h b';
        counted = n ∙ omega arith;
        few = omega arith;
        whole = omega arith;
        ends =
            λ i. (
              dropped_at (p ∷ q ∷ bs) (length bs) (length (p ∷ q ∷ bs) - 2) 0 z (omega arith) i,
              dropped_at (p ∷ q ∷ bs) (length bs) (length (p ∷ q ∷ bs) - 1) 1 z (omega arith) i,
            );
      }

  -- what is read of the spelling of a run of the two tables is the run
  pub joint_read_lem : {j : Run (ℕ × ℕ)} → RunOf (tables_of k l r) j → joint_of (joint_bytes j) ≡ j
  unfolding joint_of joint_bytes
  joint_read_lem {j} x = rw (chunks_read steps_chunks (written j)) (goes_on x).1

  -- the test passes exactly for the spellings of the runs of the two tables beside each other
  pub joint_decides : (s : List ℕ) → Decides (JointRun k l r s) (fit_joint s && is_joint_run k l r s)
  unfolding JointRun joint_bytes
  joint_decides s = decided_by (fit_joint s && is_joint_run k l r s)
      (λ e.
      let t = both_true e in
      let a = accepted_joint s t.0 t.1 in
      (joint_of s, sym a.spelled, a.run, a.begins_left, a.begins_right, a.few))
      (λ h. rw h.1 (passes h.0 h.2 h.3 h.4 h.5))
    where
      passes : (j : Run (ℕ × ℕ)) → RunOf (tables_of k l r) j → (first j).0 < states_of l → (first j).1 < states_of r
          → steps j ≤ 200 → (fit_joint (joint_bytes j) && is_joint_run k l r (joint_bytes j)) ≡ true
      passes j x b b' m =
          let n = length-each (step_bytes state_bytes) 3 steps_chunks.sized (written j) in
          let w = length-written j in
          (decides (joint_tested k l r (first j).0 (first j).1 (each (step_bytes state_bytes) (written j)))).1
          (omega arith, omega arith, b, b', rw (chunks_read steps_chunks (written j)) (goes_on x).0)

  -- if all moves of each table end in its states, an accepted joint run does
  pub joint_in_range : ((p a q : ℕ) → (a, q) ∈ table_of l p → q < states_of l)
      → ((p a q : ℕ) → (a, q) ∈ table_of r p → q < states_of r)
      → (s : List ℕ) → fit_joint s ≡ true → is_joint_run k l r s ≡ true
      → ((last (joint_of s)).0 < states_of l) × ((last (joint_of s)).1 < states_of r)
  joint_in_range il ir s f e =
      let a = accepted_joint s f e in run_keeps (tables_of k l r) In keeps a.run (a.begins_left, a.begins_right)
    where
      In : ℕ × ℕ → Type 0
      In u = (u.0 < states_of l) × (u.1 < states_of r)

      kept : (u : ℕ × ℕ) (c : ℕ × (ℕ × ℕ)) → In u → Real (pairing k) (table_of l) (table_of r) u.0 u.1 c → In c.1
      kept u c i (left a p, o, e) = rw (← e) (il u.0 a p o, i.1)
      kept u c i (right b q, o, e) = rw (← e) (i.0, ir u.1 b q o)
      kept u c i (both a p b q, o, e) = rw (← e) (il u.0 a p o.0, ir u.1 b q o.1)

      keeps : (u : ℕ × ℕ) (c : ℕ) (v : ℕ × ℕ) → In u → (c, v) ∈ tables_of k l r u → In v
      keeps u c v i m = kept u (c, v) i ((real_rows (pairing k) (table_of l) (table_of r) u.0 u.1 (c, v)).0 m)

-- 3 and 8: beside two sound tables, a joint run is accepted exactly if its bytes spell a run, of at most 200 steps, of
-- the two systems beside each other, from a state of each
pub judged-joint : (k : Labels) (l r s : List ℕ) → SoundTable k l → SoundTable k r
    → Judges (JointRun k l r s) (check_joint k l r s)
unfolding check_joint first_of
judged-joint k l r s sl sr = judged_iff
    (λ t. (decides (joint_decides k l r (no_idle-label sl) (no_idle-label sr) s)).0 (rw (t.0, t.1)))
    (λ h. both_true ((decides (joint_decides k l r (no_idle-label sl) (no_idle-label sr) s)).1 h))
    (judged_then (judged_unless WrongLength (decided_true (fit_joint s)))
    (rw (then_sound (refused_if (not (is_joint_run k l r s)) NotReal))
    (judged_unless NotReal (decided_true (is_joint_run k l r s)))))

-- two tables and a joint run of them are accepted exactly if each is sound
pub judged-tables-and-joint : (k : Labels) (l r s : List ℕ)
    → Judges (SoundTable k l × (SoundTable k r × JointRun k l r s)) (check_tables_and_joint k l r s)
unfolding check_tables_and_joint first_of
judged-tables-and-joint k l r s =
    judged-next (judged_table k l)
    (λ sl. judged-next (judged_table k r) (λ sr. rw (then_sound (check_joint k l r s)) (judged-joint k l r s sl sr)))
