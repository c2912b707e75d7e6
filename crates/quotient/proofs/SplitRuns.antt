-- Halves that split a log, at a point of it: the calls that judge the log, the halves or one of them refuse nothing.
use Prim.Native.Nat.{ℕ, ◌≤◌, ◌<◌}
use mathlib.Core.Path.{◌≡◌, ◌∙◌}
use mathlib.Core.Bool.{true, false, not}
use mathlib.Core.List.{List}
use native.Mathlib.Omega.{arith}
use lib.ListN.{length}
use borrow.Author.Tests.{le-ltb, lt-leb}
use Rattle.hml.specs.System.{steps}
use Rattle.hml.specs.Compose.{paired}
use Rattle.hml.proofs.Composition.{Join}
use Rattle.hml.proofs.Joins.{join-steps}
use Rattle.labels.specs.Refusals.{first_of, refused_if}
use Rattle.labels.specs.Labels.{check_labels, pairing}
use Rattle.labels.proofs.Refusals.{both_sound, passed}
use Rattle.labels.specs.declared.label.Labels.{Labels}
use Rattle.tables.specs.Tables.{check_table}
use Rattle.halves.specs.Halves.{half_of, is_half_run, check_half}
use Rattle.halves.specs.Cuts.{known_of, known_part, other_part, beyond}
use Rattle.halves.specs.declared.side.Side.{Side}
use Rattle.halves.specs.declared.side.Known.{Known}
use Rattle.halves.specs.declared.side.Known.TheVariants as known
use Rattle.halves.proofs.Cuts.{cut-points}
use Rattle.machines.specs.Joints.{joint_of, check_joint}
use Rattle.machines.specs.Cases.{case_with}
use Rattle.formulas.specs.Formulas.{question_limit, quotient_limit, check_formula}
use Rattle.verdict.specs.Verdicts.{check_joint_call, check_half_call}
use Rattle.joining.specs.Joinings.{halves_match, join_bytes, check_halves}
use Rattle.splitting.specs.Splittings.{splittings_of, splitting_limit, check_log}
use Rattle.splitting.proofs.LogRuns.{SoundMachines, sound_log, sound_halves, halves_join, joined_read}
use Rattle.quotient.specs.Calls.{check_by_half, check_by_number}
use Rattle.std.specs.Prelude.{Ok}

-- the parts of a log that no check refuses, each by its check
pub record LogParts (k : Labels) (l r s : List ℕ) : Type 0 where
  pub machines : SoundMachines k l r
  pub run : check_joint k l r s ≡ Ok tt

pub log_parts : (k : Labels) (l r s : List ℕ) → check_log k l r s ≡ Ok tt → LogParts k l r s
unfolding check_log first_of
log_parts k l r s e =
    let machines = (sound_log k l r s e).machines in
    let behind = rw (machines.labels, machines.left, machines.right) at e in
    record { machines = machines; run = (both_sound (check_joint k l r s) (Ok tt) behind).0 }

-- halves that no check refuses and that join to the log, at a point of it
pub record SplitRun (k : Labels) (l r s a b : List ℕ) (point : ℕ) : Type 0 where
  pub left : check_half l a ≡ Ok tt
  pub right : check_half r b ≡ Ok tt
  pub match : halves_match k a b ≡ true
  pub join : Join (pairing k) paired (half_of a) (half_of b) (joint_of s)
  pub left_within : beyond a point ≡ false
  pub right_within : beyond b point ≡ false

-- a point of a half: at most its number of steps
within_half : (t a : List ℕ) (point : ℕ) → check_half t a ≡ Ok tt → point ≤ steps (half_of a) → beyond a point ≡ false
unfolding check_half
within_half t a point e h = cut-points a point t (passed (is_half_run t a) _ e) ∙ le-ltb (steps (half_of a)) point h

pub split-run : (k : Labels) (l r s a b : List ℕ) (point : ℕ) → check_halves k l r a b ≡ Ok tt → join_bytes k a b ≡ s
    → point ≤ steps (joint_of s) → SplitRun k l r s a b point
unfolding check_halves first_of
split-run k l r s a b point e j h =
    let (_, u) = both_sound (check_labels k) _ e in
    let (_, v) = both_sound (check_table k l) _ u in
    let (_, w) = both_sound (check_table k r) _ v in
    let (x, p) = both_sound (check_half l a) _ w in
    let (y, q) = both_sound (check_half r b) _ p in
    let (m, _) = both_sound (refused_if (not (halves_match k a b)) _) _ q in
    let halves = sound_halves k l r a b e in
    let join : Join (pairing k) paired (half_of a) (half_of b) (joint_of s) = rw (← j, joined_read halves)
    (halves_join halves).0 in
    let (f, g) = join-steps (pairing k) paired join in
    record {
      left = x;
      right = y;
      match = passed (halves_match k a b) _ m;
      join = join;
      left_within = within_half l a point x (omega (arith, f, h));
      right_within = within_half r b point y (omega (arith, g, h));
    }

-- either half has the point
pub known_within : (k : Labels) (l r s a b : List ℕ) (point : ℕ) → SplitRun k l r s a b point → (known : Known)
    → beyond (known_part a b known) point ≡ false
known_within k l r s a b point split known.Left = split.left_within
known_within k l r s a b point split known.Right = split.right_within

module _ (k : Labels) (l r s : List ℕ) (log : LogParts k l r s) (point : ℕ) (within : point ≤ steps (joint_of s))
    (f : List ℕ)
  where
    -- the verdict on the log refuses nothing
    pub joint_call_sound : check_formula k quotient_limit f ≡ Ok tt → check_joint_call k l r s f point ≡ Ok tt
    unfolding check_joint_call first_of
    joint_call_sound e =
        rw (
          log.machines.labels,
          log.machines.left,
          log.machines.right,
          log.run,
          e,
          le-ltb (steps (joint_of s)) point within,
        )

    -- nor does the quotient by the splitting of a number
    pub by_number_sound : check_formula k question_limit f ≡ Ok tt → (n : ℕ) → n < length (splittings_of k l r s)
        → length (splittings_of k l r s) ≤ 65535 → check_by_number (case_with k l r s f) n point ≡ Ok tt
    unfolding check_by_number first_of splitting_limit
    by_number_sound e n h i =
        rw (
          log.machines.labels,
          log.machines.left,
          log.machines.right,
          log.run,
          e,
          le-ltb (steps (joint_of s)) point within,
          le-ltb 65535 (length (splittings_of k l r s)) i,
          lt-leb (length (splittings_of k l r s)) n h,
        )

    module _ (a b : List ℕ) (split : SplitRun k l r s a b point) where
      -- nor the quotient by the known one of its halves
      pub by_half_sound : check_formula k question_limit f ≡ Ok tt → (side : Side)
          → check_by_half k l r a b f side point ≡ Ok tt
      unfolding check_by_half first_of
      by_half_sound e side =
          rw (
            log.machines.labels,
            log.machines.left,
            log.machines.right,
            e,
            known_within k l r s a b point split (known_of side),
            split.left,
            split.right,
            split.match,
          )

      -- nor the verdict on the other half
      pub half_call_sound : check_formula k quotient_limit f ≡ Ok tt → (known : Known)
          → check_half_call k (other_part l r known) (other_part a b known) f point ≡ Ok tt
      unfolding check_half_call first_of
      half_call_sound e known.Left =
          rw (log.machines.labels, log.machines.right, e, split.right_within, split.right)
      half_call_sound e known.Right = rw (log.machines.labels, log.machines.left, e, split.left_within, split.left)
