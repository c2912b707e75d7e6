-- The right half of a splitting of a window, from those of the window's older and newer part. "The first step varies
-- slowest": with w splittings of the newer part, splitting t of the window is splitting t / w of the older part, then
-- the steps of splitting t % w of the newer one.
use Prim.Native.Nat.{ℕ, zero, suc, ◌+◌, ◌-◌, ◌*◌, ◌/◌, ◌%◌, ◌≤◌, ◌<◌}
use mathlib.Core.Path.{◌≡◌, refl, sym, ◌∙◌, ap, ap₂}
use mathlib.Core.List.{[], ◌∷◌, ◌++◌, append-nil, append_assoc}
use native.Mathlib.Nat.{mod-lt, div-lt_iff_lt-mul}
use native.Mathlib.Omega.{arith}
use lib.ListN.{length, drop}
use Rattle.hml.proofs.Tests.{tested-ℕ}
use Rattle.hml.specs.Lists.{each}
use Rattle.hml.proofs.Lists.{each_append}
use Rattle.hml.specs.System.{Run, start, ◌▸◌, move, idle, first, last, steps, undo, RunOf}
use Rattle.hml.specs.Compose.{paired}
use Rattle.hml.proofs.Joins.{join-steps}
use Rattle.hml.proofs.Window.{Alike, alike_last, ends, begins, steps as alike_steps}
use Rattle.hml.proofs.NewestSteps.{behind, steps-from, count_parts, fewer_undone, fewer_behind, nth_undone, nth_alike}
use Rattle.labels.specs.Labels.{pairing}
use Rattle.labels.specs.Refusals.{first_of}
use Rattle.tables.specs.Tables.{table_of}
use Rattle.halves.specs.Runs.{written}
use Rattle.halves.specs.Halves.{half_bytes}
use Rattle.halves.proofs.Runs.{step_bytes}
use Rattle.halves.proofs.HalfRuns.{state_bytes}
use Rattle.machines.specs.Cases.{Case}
use Rattle.machines.specs.Joints.{joint_of}
use Rattle.machines.proofs.JointRuns.{joint-stop}
use Rattle.machines.specs.Working.{Tables, tables_of}
use Rattle.machines.proofs.JointParts.{joint_until, joint-from, joint_later}
use Rattle.splitting.specs.Splittings.{splittings_of, check_log, right_half}
use Rattle.splitting.proofs.LogRuns.{sound_ready, sound_log, nth, nth_joins}
use Rattle.splitting.proofs.AllSplittings.{count-some}
use Rattle.quotient.proofs.SplitRuns.{LogParts, log_parts}
use Rattle.sheet_lines.specs.Working.{log_check, ways_of, half_in, older_part, newer_part}
use Rattle.std.specs.Prelude.{Ok}

module _ {S : Type 0} where
  -- a run starts where it starts without its newest steps
  first-undo : (n : ℕ) (x : Run S) → first (undo n x) ≡ first x
  first-undo zero x = refl
  first-undo (suc n) (start p) = refl
  first-undo (suc n) (x ▸ s) = first-undo n x

  -- no step is written of a run without steps
  none_written : (x : Run S) → steps x ≡ 0 → written x ≡ []
  unfolding written
  none_written (start p) e = refl
  none_written (x ▸ s) e = absurd (omega (arith, e))

  -- a run is written with the steps before its newest n, then those of another that has just these
  written_alike : {n : ℕ} {x y : Run S} → Alike n x y → steps y ≡ n → written x ≡ written (undo n x) ++ written y
  unfolding written
  written_alike (ends {r = x} {s = y} e) h = rw (none_written y h) (sym (append-nil (written x)))
  written_alike (begins p) h = absurd (omega (arith, h))
  written_alike (alike_steps {n = n} {r = x} {s = y} (move a q) d) h =
      ap (◌++ (a, q) ∷ []) (written_alike d (omega (arith, h)))
      ∙ append_assoc (written (undo n x)) (written y) ((a, q) ∷ [])
  written_alike (alike_steps {n = n} {r = x} {s = y} idle d) h =
      ap₂ (λ es q. es ++ (255, q) ∷ []) (written_alike d (omega (arith, h))) (alike_last d)
      ∙ append_assoc (written (undo n x)) (written y) ((255, last y) ∷ [])

-- the same in bytes
bytes_alike : (n : ℕ) (x y : Run ℕ) → Alike n x y → steps y ≡ n
    → half_bytes x ≡ half_bytes (undo n x) ++ drop 1 (half_bytes y)
unfolding half_bytes
bytes_alike n x y d h =
    let g = step_bytes state_bytes in
    ap₂ (λ p es. p ∷ each g es) (sym (first-undo n x)) (written_alike d h)
    ∙ ap (first (undo n x) ∷◌) (each_append g (written (undo n x)) (written y))

-- a splitting of a case, by its number
abbrev splitting_in : Case → ℕ → Run ℕ × Run ℕ
splitting_in c t = nth c.labels c.left c.right c.run t

-- what the two parts of a window give
pub record Cut (c : Case) (m : ℕ) : Type 0 where
  -- they are logs that no check refuses
  pub older : log_check (older_part c m) ≡ Ok tt
  pub newer : log_check (newer_part c m) ≡ Ok tt
  -- their steps are those of the window
  pub older_steps : steps (joint_of (older_part c m).run) ≡ m
  pub newer_steps : m + steps (joint_of (newer_part c m).run) ≡ length c.run / 3
  -- neither has more splittings than the window, and the newer one has some
  pub few_older : ways_of (older_part c m) ≤ ways_of c
  pub few_newer : ways_of (newer_part c m) ≤ ways_of c
  pub some_newer : 0 < ways_of (newer_part c m)
  -- a splitting of the window is one of each part
  pub older_number : (t : ℕ) → t < ways_of c → t / ways_of (newer_part c m) < ways_of (older_part c m)
  pub half : (t : ℕ) → t < ways_of c
      → half_in c t ≡ half_in (older_part c m) (t / ways_of (newer_part c m))
      ++ drop 1 (half_in (newer_part c m) (t % ways_of (newer_part c m)))

-- an accepted window, cut behind its first m steps
module _ (c : Case) (m : ℕ) (sound : log_check c ≡ Ok tt) (within : m ≤ length c.run / 3) where
  parts : LogParts c.labels c.left c.right c.run
  parts = log_parts _ _ _ _ sound

  tables : Tables c.labels c.left c.right
  tables = (sound_ready _ _ _ _ sound).tables

  run : RunOf (tables_of c.labels c.left c.right) (joint_of c.run)
  run = (sound_log _ _ _ _ sound).run.run

  inside : m ≤ steps (joint_of c.run)
  inside = omega (arith, within, (sound_log _ _ _ _ sound).run.counted)

  -- how many steps are newer
  abbrev after : ℕ
  after = steps (joint_of c.run) - m

  older_sound : log_check (older_part c m) ≡ Ok tt
  unfolding check_log first_of older_part
  older_sound =
      rw (
        parts.machines.labels,
        parts.machines.left,
        parts.machines.right,
        joint_until _ _ _ tables c.run parts.run m,
      )

  newer_sound : log_check (newer_part c m) ≡ Ok tt
  unfolding check_log first_of newer_part
  newer_sound =
      rw (
        parts.machines.labels,
        parts.machines.left,
        parts.machines.right,
        joint-from _ _ _ tables c.run parts.run m inside,
      )

  older_read : joint_of (older_part c m).run ≡ undo after (joint_of c.run)
  unfolding older_part
  older_read = joint-stop c.run m

  newer_read : joint_of (newer_part c m).run ≡ behind after (joint_of c.run)
  unfolding newer_part
  newer_read = joint_later _ _ _ tables c.run parts.run m inside

  newer_steps_lem : steps (joint_of (newer_part c m).run) ≡ after
  newer_steps_lem = ap steps newer_read ∙ steps-from m (joint_of c.run)

  older_steps_lem : steps (joint_of (older_part c m).run) ≡ m
  older_steps_lem = ap steps older_read ∙ undone after (joint_of c.run) ∙ omega (arith, inside)
    where
      undone : (n : ℕ) (x : Run (ℕ × ℕ)) → steps (undo n x) ≡ steps x - n
      undone zero x = omega arith
      undone (suc n) (start p) = omega arith
      undone (suc n) (x ▸ s) = omega (arith, undone n x)

  few_older_lem : ways_of (older_part c m) ≤ ways_of c
  unfolding splittings_of older_part newer_part
  few_older_lem =
      rw older_read (fewer_undone (pairing c.labels) tested-ℕ tested-ℕ (table_of c.left) (table_of c.right)
      after run)

  few_newer_lem : ways_of (newer_part c m) ≤ ways_of c
  unfolding splittings_of older_part newer_part
  few_newer_lem =
      rw newer_read (fewer_behind (pairing c.labels) tested-ℕ tested-ℕ (table_of c.left) (table_of c.right)
      after run)

  some_newer_lem : 0 < ways_of (newer_part c m)
  unfolding newer_part
  some_newer_lem = count-some _ _ _ _ newer_sound

  -- the splittings of the window are those of the parts, multiplied
  pub counts : ways_of c ≡ ways_of (older_part c m) * ways_of (newer_part c m)
  unfolding splittings_of older_part newer_part
  counts =
      rw (older_read, newer_read) (count_parts (pairing c.labels) tested-ℕ tested-ℕ (table_of c.left)
      (table_of c.right) after (joint_of c.run))

  module _ (t : ℕ) (below : t < ways_of c) where
    abbrev ways : ℕ
    ways = ways_of (newer_part c m)

    older_number_lem : t / ways < ways_of (older_part c m)
    older_number_lem = (div-lt_iff_lt-mul some_newer_lem).1 (rw counts at below)

    -- without its newer steps it is a splitting of the older part
    undone_half : undo after (splitting_in c t).1 ≡ (splitting_in (older_part c m) (t / ways)).1
    unfolding splittings_of older_part newer_part
    undone_half =
        rw (older_read, newer_read)
        (ap (λ z. z.1) (nth_undone (pairing c.labels) tested-ℕ tested-ℕ (table_of c.left)
        (table_of c.right) (start 0, start 0) after (joint_of c.run) run t below))

    -- and its newer steps are those of a splitting of the newer part
    newer_alike : Alike after (splitting_in c t).1 (splitting_in (newer_part c m) (t % ways)).1
    unfolding splittings_of older_part newer_part
    newer_alike =
        rw newer_read (nth_alike (pairing c.labels) tested-ℕ tested-ℕ (table_of c.left) (table_of c.right)
        (start 0, start 0) after (joint_of c.run) run t below).1

    half_steps : steps (splitting_in (newer_part c m) (t % ways)).1 ≡ after
    unfolding newer_part
    half_steps =
        (join-steps (pairing c.labels) paired (nth_joins _ _ _ _ (t % ways) (mod-lt t some_newer_lem)).0).1
        ∙ newer_steps_lem

    whole_half : half_in c t ≡ half_in (older_part c m) (t / ways) ++ drop 1 (half_in (newer_part c m) (t % ways))
    unfolding right_half older_part newer_part
    whole_half =
        bytes_alike after _ _ newer_alike half_steps
        ∙ ap (λ x. half_bytes x ++ drop 1 (half_bytes (splitting_in (newer_part c m) (t % ways)).1)) undone_half

-- every accepted window, cut anywhere
pub cut_window : (c : Case) (m : ℕ) → log_check c ≡ Ok tt → m ≤ length c.run / 3 → Cut c m
cut_window c m sound within = record {
  older = older_sound c m sound within;
  newer = newer_sound c m sound within;
  older_steps = older_steps_lem c m sound within;
  newer_steps =
      omega (
        arith,
        newer_steps_lem c m sound within,
        inside c m sound within,
        (sound_log _ _ _ _ sound).run.counted,
      );
  few_older = few_older_lem c m sound within;
  few_newer = few_newer_lem c m sound within;
  some_newer = some_newer_lem c m sound within;
  older_number = older_number_lem c m sound within;
  half = whole_half c m sound within;
}
