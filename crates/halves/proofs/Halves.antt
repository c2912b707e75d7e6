-- The cases of judging a half run, each from what the code knows at its return.
use Prim.Native.Nat.{ℕ, suc, ◌+◌, ◌*◌, ◌%◌, ◌≤◌, ◌<◌}
use mathlib.Core.Path.{◌≡◌, refl, sym, ◌∙◌, ap}
use mathlib.Core.Bool.{Bool, true, false, cond}
use mathlib.Core.List.{List, [], ◌∷◌}
use native.Mathlib.Omega.{arith}
use lib.ListN.{length, get_or, drop, drop_of_length-le}
use lib.Seq.{drop-cons}
use lib.Dec.{eqb}
use borrow.Author.Tests.{eq-eqb, lt-ltb, le-leb}
use Rattle.hml.specs.Lists.{same}
use Rattle.hml.specs.System.{System, move, idle}
use Rattle.labels.specs.Refusals.{first_of}
use Rattle.tables.specs.Tables.{states_of, table_of, has_move, check_table}
use Rattle.halves.specs.Runs.{step_of, go_on}
use Rattle.halves.specs.Steps.{step_struct, step_read}
use Rattle.halves.specs.Working.{read_fits}
use Rattle.halves.specs.declared.step.Step.{Step}
use Rattle.halves.proofs.Steps.{step_found, none_found}
use Rattle.halves.proofs.Runs.{ended, stopped, passed}
use Rattle.halves.specs.Halves.{twos, step_fits, is_half_run, check_half, check_table_and_half}
use Rattle.labels.specs.declared.refusal.Refusal.{Refusal}
use Rattle.labels.specs.declared.refusal.Refusal.TheVariants.{NotARun}
use Rattle.labels.specs.declared.label.Labels.{Labels}
use Rattle.std.specs.Prelude.{Err, None, Ok, Some}

-- a step as it is held is judged as it is written
read_fits_lem : (M : System ℕ) (p a q : ℕ) → read_fits M p (step_struct (step_of a q)) q ≡ step_fits M p a q
unfolding step_fits step_of step_struct read_fits
read_fits_lem M p a q = go (eqb a 255)
  where
    go : (b : Bool) → read_fits M p (step_struct (cond b idle (move a q))) q ≡ cond b (same q p) (has_move M p a q)
    go true = refl
    go false = refl

-- the bytes of a half run, from step i on
module _ (s : List ℕ) (i : ℕ) where
  pub next_two : 2 * i + 2 < length s
      → twos (drop (2 * i + 1) s) ≡ (get_or s (2 * i + 1) 0, get_or s (2 * i + 2) 0) ∷ twos (drop (2 * (i + 1) + 1) s)
  unfolding twos
  next_two h =
      let a : suc (2 * i + 1) ≡ 2 * i + 2 = omega arith in
      let b : suc (2 * i + 2) ≡ 2 * (i + 1) + 1 = omega arith in
      rw (drop-cons s (2 * i + 1) 0 (omega arith), a, drop-cons s (2 * i + 2) 0 h, b)

  pub no_two : length s ≤ 2 * i + 1 → twos (drop (2 * i + 1) s) ≡ []
  unfolding twos
  no_two h = rw (drop_of_length-le s {i = 2 * i + 1} h)

-- the steps before step i fit, and those from it on decide
unfoldable pub Walked : List ℕ → List ℕ → ℕ → Type 0
Walked t s i =
    go_on (step_fits (table_of t)) (get_or s (2 * i) 0) (twos (drop (2 * i + 1) s))
    ≡ go_on (step_fits (table_of t)) (get_or s 0 0) (twos (drop 1 s))

module _ (t s : List ℕ) where
  pub walked_start : Walked t s 0
  unfolding Walked
  walked_start = refl

  module _ (odd : length s % 2 ≡ 1) where
    module _ (short : length s ≤ 401) where
      module _ (begins : get_or s 0 0 < states_of t) where
        steps_decide : {x : Bool} → x ≡ go_on (step_fits (table_of t)) (get_or s 0 0) (twos (drop 1 s)) → x ≡ is_half_run t s
        unfolding is_half_run
        steps_decide e = rw (eq-eqb _ _ odd, le-leb _ _ short, lt-ltb (get_or s 0 0) (states_of t) begins) e

        module _ (i : ℕ) (w : Walked t s i) where
          pub walked_end : None ≡ step_read s i → true ≡ is_half_run t s
          unfolding Walked
          walked_end e = steps_decide
              (ended (step_fits (table_of t)) (get_or s (2 * i) 0) (no_two s i (omega (arith, odd, none_found s i odd e)))
              w)

          -- the reading finds step x at i, and the test of it says b
          module _ (x : Step) (e : Some x ≡ step_read s i) (b : Bool)
              (f : b ≡ read_fits (table_of t) (get_or s (2 * i) 0) x (get_or s (2 * i + 2) 0)) where
            there : 2 * i + 2 < length s
            there = omega (arith, odd, (step_found s i x e).within)

            fits_here : step_fits (table_of t) (get_or s (2 * i) 0) (get_or s (2 * i + 1) 0) (get_or s (2 * i + 2) 0) ≡ b
            fits_here = sym (f ∙ rw (step_found s i x e).here (read_fits_lem (table_of t) _ _ _))

            pub walked_stop : b ≡ false → false ≡ is_half_run t s
            unfolding Walked
            walked_stop n = steps_decide
                (stopped (step_fits (table_of t)) (get_or s (2 * i) 0) (next_two s i there) w (fits_here ∙ n))

            pub walked_on : b ≡ true → Walked t s (i + 1)
            unfolding Walked
            walked_on n =
                let e : 2 * (i + 1) ≡ 2 * i + 2 = omega arith in
                ap (λ m. go_on (step_fits (table_of t)) (get_or s m 0) (twos (drop (2 * (i + 1) + 1) s))) e
                ∙ passed (step_fits (table_of t)) (get_or s (2 * i) 0) (next_two s i there) w (fits_here ∙ n)

-- a table and a half of it
module _ (k : Labels) (t s : List ℕ) where
  pub table_refused : (r : Refusal) → check_table k t ≡ Err r → Err r ≡ check_table_and_half k t s
  unfolding check_table_and_half first_of
  table_refused r e = rw e

  module _ (sound : check_table k t ≡ Ok tt) where
    pub half_sound : is_half_run t s ≡ true → Ok tt ≡ check_table_and_half k t s
    unfolding check_table_and_half check_half first_of
    half_sound e = rw (sound, e)

    pub half_refused : is_half_run t s ≡ false → Err NotARun ≡ check_table_and_half k t s
    unfolding check_table_and_half check_half first_of
    half_refused e = rw (sound, e)
