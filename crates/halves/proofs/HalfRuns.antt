-- The laws of half runs: what the test accepts, the reading of their bytes, and half runs with a step more or stopped.
use Prim.Native.Nat.{ℕ, suc, ◌+◌, ◌-◌, ◌*◌, ◌/◌, ◌%◌, ◌≤◌, ◌<◌}
use mathlib.Core.Path.{◌≡◌, refl, sym, ◌∙◌}
use mathlib.Core.Logic.{inl, inr}
use mathlib.Core.Bool.{Bool, true, false, cond, false≢true}
use mathlib.Core.List.{List, [], ◌∷◌, ◌++◌}
use native.Mathlib.Omega.{arith}
use native.Mathlib.Numerals.{add-one}
use lib.ListN.{length, get_or, take, length-take}
use lib.Seq.{take-nil}
use lib.Dec.{eqb}
use borrow.Author.Tests.{eqb-true, eqb-false}
use Rattle.hml.specs.Lists.{same, each}
use Rattle.hml.proofs.Tests.{Decides, decides, decided_by, decided_le, decided_lt, decided_true, decided_iff}
use Rattle.hml.proofs.Tests.{decided_and, decided_same}
use Rattle.hml.proofs.Lists.{length-each}
use Rattle.hml.specs.System.{System, Run, start, ◌▸◌, first, last, steps, stop, RunOf}
use Rattle.tables.specs.Tables.{states_of, table_of, has_move, SoundTable}
use Rattle.halves.specs.Runs.{written, step_of, go_on}
use Rattle.halves.specs.Halves.{half_bytes, twos, half_of, HalfRun, step_fits, is_half_run, check_half}
use Rattle.halves.specs.Halves.{check_table_and_half}
use Rattle.labels.specs.Refusals.{first_of}
use Rattle.labels.specs.declared.refusal.Refusal.TheVariants.{NotARun}
use Rattle.labels.proofs.Refusals.{Judges, judged_unless, judged-next, then_sound}
use Rattle.labels.specs.declared.label.Labels.{Labels}
use Rattle.tables.proofs.SoundTables.{judged_table, no_idle-label}
use Rattle.tables.proofs.Chunks.{Chunked, less, chunk, Chunks, chunks_take, chunks_read, chunks_append}
use Rattle.tables.proofs.Rows.{has_move_decides}
use Rattle.halves.proofs.Runs.{NoIdleLabel, Fit, lengthened-more, first-lengthened, length-written, stop-start}
use Rattle.halves.proofs.Runs.{stop-lengthened, go_on-take, run-go_on, step_bytes, dropped_at, read_accepted}

-- the test passes exactly for the steps that the system has
pub step_fits_decides : (M : System ℕ) (p a q : ℕ) → Decides (Fit M p a q) (step_fits M p a q)
unfolding step_fits
step_fits_decides M p a q = go (eqb a 255) refl
  where
    go : (b : Bool) → eqb a 255 ≡ b → Decides (Fit M p a q) (cond b (same q p) (has_move M p a q))
    go true e =
        decided_iff (λ f. inl (eqb-true a 255 e, f))
        (λ s. elim s [ inl t ↦ t.1 | inr t ↦ absurd (t.0 (eqb-true a 255 e)) ]) (decided_same q p)
    go false e =
        decided_iff (λ i. inr (eqb-false a 255 e, i))
        (λ s. elim s [ inl t ↦ absurd (eqb-false a 255 e t.0) | inr t ↦ t.1 ]) (has_move_decides M p a q)

-- the bytes of a state, in a half run
abbrev pub state_bytes : ℕ → List ℕ
state_bytes p = p ∷ []

-- two bytes a step
pub twos_chunks : Chunks 2 (step_bytes state_bytes) twos
unfolding twos
twos_chunks = record { some = omega arith; sized = λ e. refl; none = none; one = λ e bs. refl; every = every }
  where
    none : (bs : List ℕ) → length bs < 2 → twos bs ≡ []
    none [] h = refl
    none (a ∷ []) h = refl
    none (a ∷ q ∷ bs) h = absurd (omega arith)

    every : (bs : List ℕ) → Chunked 2 (step_bytes state_bytes) bs
    every [] = less [] (omega arith)
    every (a ∷ []) = less (a ∷ []) (omega arith)
    every (a ∷ q ∷ bs) = chunk (a, q) (every bs)

-- what an accepted half is
pub record AcceptedHalf (t s : List ℕ) : Type 0 where
  pub run : RunOf (table_of t) (half_of s)
  pub spelled : half_bytes (half_of s) ≡ s
  pub begins : first (half_of s) < states_of t
  pub counted : steps (half_of s) ≡ length s / 2
  pub few : steps (half_of s) ≤ 200
  pub odd : length s % 2 ≡ 1
  pub ends : last (half_of s) ≡ get_or s (length s - 1) 0

-- the parts of the test: whole steps, at most 200 of them, a start state of the table, and steps that go on from it
half_tested : (t : List ℕ) (p : ℕ) (bs : List ℕ)
    → Decides ((length bs % 2 ≡ 0) × (length bs ≤ 400) × (p < states_of t)
    × (go_on (step_fits (table_of t)) p (twos bs) ≡ true)) (is_half_run t (p ∷ bs))
unfolding is_half_run
half_tested t p bs = decided_iff
    (λ ((o, m), (b, g)). (omega (arith, o), omega (arith, m), b, g))
    (λ (o, m, b, g). ((omega (arith, o), omega (arith, m)), (b, g)))
    (decided_and (decided_and (decided_same (suc (length bs) % 2) 1) (decided_le (suc (length bs)) 401))
    (decided_and (decided_lt p (states_of t)) (decided_true (go_on (step_fits (table_of t)) p (twos bs)))))

-- what the test accepts is the spelling of a run of the table: its reading
pub accepted_half : (t s : List ℕ) → is_half_run t s ≡ true → AcceptedHalf t s
unfolding is_half_run half_of half_bytes
accepted_half t [] e = absurd (false≢true e)
accepted_half t (p ∷ bs) e =
    let (o, m, b, g) = (decides (half_tested t p bs)).0 e in
    let (x, w, n, l) = read_accepted state_bytes twos_chunks (table_of t) (step_fits (table_of t))
    (step_fits_decides (table_of t)) p bs o g in
    let f = first-lengthened (start p) (twos bs) in
    record {
      run = x;
      spelled = rw (f, w);
      begins = rw f b;
      counted = n ∙ omega arith;
      few = omega arith;
      odd = omega arith;
      ends = dropped_at (p ∷ bs) (length bs) (length (p ∷ bs) - 1) 0 l (omega arith);
    }

-- what is read of the spelling of a run of a table without the label 255 is the run
pub half_read : (t : List ℕ) → NoIdleLabel (table_of t) → {r : Run ℕ} → RunOf (table_of t) r → half_of (half_bytes r) ≡ r
unfolding half_of half_bytes
half_read t free {r} x =
    rw (chunks_read twos_chunks (written r))
    (run-go_on (table_of t) (step_fits (table_of t)) (step_fits_decides (table_of t)) free x).1

-- the test passes exactly for the spellings of the runs of a table without the label 255
pub half_decides : (t s : List ℕ) → NoIdleLabel (table_of t) → Decides (HalfRun t s) (is_half_run t s)
unfolding HalfRun half_bytes
half_decides t s free = decided_by (is_half_run t s)
    (λ e. let a = accepted_half t s e in (half_of s, sym a.spelled, a.run, a.begins, a.few))
    (λ h. rw h.1 (passes h.0 h.2 h.3 h.4))
  where
    passes : (r : Run ℕ) → RunOf (table_of t) r → first r < states_of t → steps r ≤ 200 → is_half_run t (half_bytes r) ≡ true
    passes r x b l =
        let n = length-each (step_bytes state_bytes) 2 twos_chunks.sized (written r) in
        let m = length-written r in
        (decides (half_tested t (first r) (each (step_bytes state_bytes) (written r)))).1 (
          omega arith,
          omega arith,
          b,
          rw (chunks_read twos_chunks (written r))
              (run-go_on (table_of t) (step_fits (table_of t)) (step_fits_decides (table_of t)) free x).0,
        )

-- stopping the reading is the reading of the shorter bytes
pub half_stop : (s : List ℕ) (n : ℕ) → half_of (take (2 * n + 1) s) ≡ stop n (half_of s)
unfolding half_of
half_stop [] n = rw (take-nil, stop-start)
half_stop (p ∷ bs) n = rw (add-one, chunks_take twos_chunks bs n) (sym (stop-lengthened n p (twos bs)))

-- one more step in bytes is one more step in the reading
pub half_more : (s : List ℕ) (a q : ℕ) → length s % 2 ≡ 1 → half_of (s ++ a ∷ q ∷ []) ≡ half_of s ▸ step_of a q
unfolding half_of twos
half_more [] a q o = absurd (omega arith)
half_more (p ∷ bs) a q o =
    rw (chunks_append twos_chunks bs (omega arith) (a ∷ q ∷ [])) (lengthened-more (start p) (twos bs) a q)

-- an accepted half stopped at one of its points is accepted
pub half_stopped : (t s : List ℕ) (n : ℕ) → is_half_run t s ≡ true → is_half_run t (take (2 * n + 1) s) ≡ true
unfolding is_half_run
half_stopped t [] n e = absurd (false≢true e)
half_stopped t (p ∷ bs) n e =
    let (o, m, b, g) = (decides (half_tested t p bs)).0 e in
    let l = length-take (2 * n) bs in
    rw add-one ((decides (half_tested t p (take (2 * n) bs))).1
    (omega arith, omega arith, b, rw (chunks_take twos_chunks bs n) (go_on-take (step_fits (table_of t)) p n (twos bs) g)))

-- 15: beside a sound table, a half is accepted exactly if its bytes spell a run of the table, of at most 200 steps,
-- from one of its states
pub judged_half : (k : Labels) (t s : List ℕ) → SoundTable k t → Judges (HalfRun t s) (check_half t s)
unfolding check_half
judged_half k t s sound = judged_unless NotARun (half_decides t s (no_idle-label sound))

-- a table and a half of it are accepted exactly if each is sound
pub judged_table_and_half : (k : Labels) (t s : List ℕ)
    → Judges (SoundTable k t × HalfRun t s) (check_table_and_half k t s)
unfolding check_table_and_half first_of
judged_table_and_half k t s =
    judged-next (judged_table k t) (λ sound. rw (then_sound (check_half t s)) (judged_half k t s sound))
