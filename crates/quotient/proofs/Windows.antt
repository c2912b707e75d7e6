-- The window of a point: the quotient at a point by the known half of any splitting of a log is that by the known half
-- of a splitting of the window alone, at its end, if the window has as many steps as the formula nests back modalities.
-- So a program that asks for the quotients by all splittings of a log divides once for each splitting of the window,
-- and not for each of the log.
use Prim.Native.Nat.{ℕ, ◌-◌, ◌*◌, ◌/◌, ◌%◌, ◌≤◌, ◌<◌}
use mathlib.Core.Path.{◌≡◌, ◌∙◌, ap}
use mathlib.Core.List.{List}
use native.Mathlib.Nat.{mod-lt}
use native.Mathlib.Omega.{arith}
use lib.ListN.{length, drop}
use Rattle.hml.proofs.Tests.{tested-ℕ}
use Rattle.hml.specs.System.{Run, start, steps, stop, RunOf}
use Rattle.hml.specs.Formula.{Formula}
use Rattle.hml.specs.Compose.{paired}
use Rattle.hml.proofs.Joins.{join-steps}
use Rattle.hml.specs.Working.{backs}
use Rattle.hml.proofs.Window.{Alike, quotient_alike}
use Rattle.hml.proofs.NewestSteps.{behind, window_cut, window_steps, run-undo, fewer_undone, fewer_behind, nth_window}
use Rattle.labels.specs.Labels.{pairing}
use Rattle.labels.specs.Refusals.{first_of}
use Rattle.labels.specs.declared.label.Labels.{Labels}
use Rattle.tables.specs.Tables.{table_of}
use Rattle.halves.specs.Halves.{half_of}
use Rattle.halves.specs.Cuts.{known_of, known_part}
use Rattle.halves.specs.declared.side.Side.{Side}
use Rattle.halves.specs.declared.side.Known.{Known}
use Rattle.halves.specs.declared.side.Known.TheVariants as known
use Rattle.machines.specs.Joints.{joint_of}
use Rattle.machines.proofs.JointRuns.{joint-stop}
use Rattle.machines.specs.Working.{Tables, tables_of}
use Rattle.machines.specs.Cases.{case_with}
use Rattle.machines.proofs.JointParts.{joint_until, joint-from, joint_later}
use Rattle.formulas.specs.Formulas.{formula_of}
use Rattle.splitting.specs.Splittings.{splittings_of, check_log, left_half, right_half}
use Rattle.splitting.proofs.LogRuns.{sound_ready, left_read, right_read, sound_log, nth, nth_joins}
use Rattle.splitting.proofs.AllSplittings.{count-some}
use Rattle.dividing.specs.Quotients.{tree_by, quotient_by}
use Rattle.quotient.specs.Calls.{tree_by_half, tree_by_number}
use Rattle.quotient.specs.Working.{window_of, rest_of}
use Rattle.quotient.proofs.SplitRuns.{LogParts, log_parts}
use Rattle.std.specs.Prelude.{Ok, Some}

-- what a window of b steps gives, at a point of a log
pub record Windowed (k : Labels) (l r s : List ℕ) (p b : ℕ) : Type 0 where
  -- the window and the rest are logs that no check refuses
  pub window : check_log k l r (window_of s p b) ≡ Ok tt
  pub rest : check_log k l r (rest_of s p) ≡ Ok tt
  -- the window ends at its own last point
  pub points : steps (joint_of (window_of s p b)) ≡ p - (p - b)
  -- neither has more splittings than the log, and each has one
  pub few_window : length (splittings_of k l r (window_of s p b)) ≤ length (splittings_of k l r s)
  pub few_rest : length (splittings_of k l r (rest_of s p)) ≤ length (splittings_of k l r s)
  pub some_window : 1 ≤ length (splittings_of k l r (window_of s p b))
  pub some_rest : 1 ≤ length (splittings_of k l r (rest_of s p))
  -- the quotient by the known half of splitting n, at the point, is that by the window's splitting
  pub tree : (f : List ℕ) (φ : Formula) → formula_of f ≡ Some φ → backs φ ≤ b → (n : ℕ)
      → n < length (splittings_of k l r s) → (side : Side)
      → tree_by_number (case_with k l r s f) n side p
      ≡ tree_by_number (case_with k l r (window_of s p b) f)
      ((n / length (splittings_of k l r (rest_of s p))) % length (splittings_of k l r (window_of s p b))) side (p - (p - b))

-- an accepted log, at a point of it
module _ (k : Labels) (l r s : List ℕ) (p b : ℕ) (sound : check_log k l r s ≡ Ok tt) (within : p ≤ steps (joint_of s))
  where
    parts : LogParts k l r s
    parts = log_parts k l r s sound

    tables : Tables k l r
    tables = (sound_ready k l r s sound).tables

    run : RunOf (tables_of k l r) (joint_of s)
    run = (sound_log k l r s sound).run.run

    -- what follows the point is accepted, and read as what follows
    rest_sound : check_log k l r (rest_of s p) ≡ Ok tt
    unfolding check_log first_of rest_of
    rest_sound =
        rw (
          parts.machines.labels,
          parts.machines.left,
          parts.machines.right,
          joint-from k l r tables s parts.run p within,
        )

    rest_read : joint_of (rest_of s p) ≡ behind (steps (joint_of s) - p) (joint_of s)
    unfolding rest_of
    rest_read = joint_later k l r tables s parts.run p within

    -- so is the window
    window_sound : check_log k l r (window_of s p b) ≡ Ok tt
    unfolding check_log first_of window_of
    window_sound = rw (
      parts.machines.labels,
      parts.machines.left,
      parts.machines.right,
      joint_until k l r tables (drop (3 * (p - b)) s)
          (joint-from k l r tables s parts.run (p - b) (omega (arith, within))) (p - (p - b)),
    )

    window_read : joint_of (window_of s p b) ≡ behind b (stop p (joint_of s))
    unfolding window_of
    window_read =
        joint-stop (drop (3 * (p - b)) s) (p - (p - b))
        ∙ rw (joint_later k l r tables s parts.run (p - b) (omega (arith, within)))
        (window_cut b p (joint_of s) within)

    window_points : steps (joint_of (window_of s p b)) ≡ p - (p - b)
    window_points = ap steps window_read ∙ window_steps b p (joint_of s) within

    -- neither has more splittings than the log
    few_rest_lem : length (splittings_of k l r (rest_of s p)) ≤ length (splittings_of k l r s)
    unfolding splittings_of
    few_rest_lem = rw rest_read (fewer_behind (pairing k) tested-ℕ tested-ℕ (table_of l) (table_of r) (steps (joint_of s) - p)
        run)

    few_window_lem : length (splittings_of k l r (window_of s p b)) ≤ length (splittings_of k l r s)
    unfolding splittings_of
    few_window_lem = rw window_read (omega (
      arith,
      fewer_behind (pairing k) tested-ℕ tested-ℕ (table_of l) (table_of r) b
          (run-undo (tables_of k l r) (steps (joint_of s) - p) run),
      fewer_undone (pairing k) tested-ℕ tested-ℕ (table_of l) (table_of r) (steps (joint_of s) - p) run,
    ))

    -- the number, among those of the window, that stands for the splitting of a number
    abbrev place : ℕ → ℕ
    place n = (n / length (splittings_of k l r (rest_of s p))) % length (splittings_of k l r (window_of s p b))

    module _ (n : ℕ) (below : n < length (splittings_of k l r s)) where
      placed : place n < length (splittings_of k l r (window_of s p b))
      placed = mod-lt (n / length (splittings_of k l r (rest_of s p))) (count-some k l r (window_of s p b) window_sound)

      -- a half of the window's splitting stops at its end
      whole : (x : Run ℕ) → steps x ≡ steps (joint_of (window_of s p b)) → stop (p - (p - b)) x ≡ x
      whole x e = let z : steps x - (p - (p - b)) ≡ 0 = omega (arith, e, window_points) in rw z

      -- the halves of the two splittings end alike
      halves_alike : let h = nth k l r s n in let g = nth k l r (window_of s p b) (place n) in
          Alike b (stop p h.0) (stop (p - (p - b)) g.0) × Alike b (stop p h.1) (stop (p - (p - b)) g.1)
      unfolding splittings_of
      halves_alike =
          let g = nth k l r (window_of s p b) (place n) in
          let (u, v) = join-steps (pairing k) paired (nth_joins k l r (window_of s p b) (place n) placed).0 in
          rw (whole g.0 u, whole g.1 v, window_read, rest_read)
          (nth_window (pairing k) tested-ℕ tested-ℕ (table_of l) (table_of r) (start 0, start 0) b p (joint_of s) run n
          below)

      -- so the quotients by them are the same
      tree_known : (f : List ℕ) (φ : Formula) → formula_of f ≡ Some φ → backs φ ≤ b → (known : Known)
          → quotient_by k (known_part l r known)
          (stop p (half_of (known_part (left_half k l r s n) (right_half k l r s n) known))) f
          ≡ quotient_by k (known_part l r known)
          (stop (p - (p - b))
          (half_of (known_part (left_half k l r (window_of s p b) (place n)) (right_half k l r (window_of s p b) (place n))
          known))) f
      unfolding quotient_by tree_by left_half right_half
      tree_known f φ e h known.Left =
          let (_, x, _) = nth_joins k l r s n below in
          let (_, y, _) = nth_joins k l r (window_of s p b) (place n) placed in
          rw (e, left_read parts.machines x, left_read parts.machines y)
          (ap Some (quotient_alike (pairing k) (table_of l) φ b _ _ h halves_alike.0))
      tree_known f φ e h known.Right =
          let (_, _, x) = nth_joins k l r s n below in
          let (_, _, y) = nth_joins k l r (window_of s p b) (place n) placed in
          rw (e, right_read parts.machines x, right_read parts.machines y)
          (ap Some (quotient_alike (pairing k) (table_of r) φ b _ _ h halves_alike.1))

-- every accepted log, every point of it and every length of the window
pub windowed : (k : Labels) (l r s : List ℕ) (p b : ℕ) → check_log k l r s ≡ Ok tt → p ≤ steps (joint_of s)
    → Windowed k l r s p b
unfolding tree_by_number tree_by_half
windowed k l r s p b sound within = record {
  window = window_sound k l r s p b sound within;
  rest = rest_sound k l r s p b sound within;
  points = window_points k l r s p b sound within;
  few_window = few_window_lem k l r s p b sound within;
  few_rest = few_rest_lem k l r s p b sound within;
  some_window = count-some k l r (window_of s p b) (window_sound k l r s p b sound within);
  some_rest = count-some k l r (rest_of s p) (rest_sound k l r s p b sound within);
  tree = λ f φ e h n i side. tree_known k l r s p b sound within n i f φ e h (known_of side);
}
