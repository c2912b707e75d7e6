-- A line of the sheet, by its window: the quotient is that by a splitting of the window.
use Prim.Native.Nat.{ℕ, ◌-◌, ◌/◌, ◌≤◌, ◌<◌}
use mathlib.Core.Path.{◌≡◌, ◌∙◌, ap, ap₂}
use mathlib.Core.List.{◌++◌}
use native.Mathlib.Nat.{mod-lt}
use native.Mathlib.Omega.{arith}
use lib.ListN.{length}
use Rattle.hml.specs.System.{steps}
use Rattle.halves.specs.declared.side.Side.TheVariants as side
use Rattle.machines.specs.Cases.{Case, with_run}
use Rattle.machines.specs.Joints.{joint_of}
use Rattle.formulas.specs.Formulas.{formula_of}
use Rattle.formulas.specs.Working.{backs_of}
use Rattle.formulas.proofs.Checking.{formula_spell}
use Rattle.splitting.specs.Splittings.{splitting_limit}
use Rattle.dividing.specs.Quotients.{text_of, answer_of}
use Rattle.quotient.specs.Calls.{by_number}
use Rattle.quotient.specs.Working.{rest_of}
use Rattle.quotient.proofs.SplitRuns.{log_parts, by_number_sound}
use Rattle.quotient.proofs.Windows.{Windowed}
use Rattle.quotient.specs.Demand.{Decomposed}
use Rattle.sheet_lines.specs.Sheets.{text_room, head_of, ending_of, quotient_at, text_at, line_of}
use Rattle.sheet_lines.specs.Working.{ways_of, half_in, letter_at, tree_at, answer_at, output_at, Asked, ending_in}
use Rattle.sheet_lines.specs.Working.{line_in}
use Rattle.sheet_lines.proofs.WindowLines as lines
use Rattle.std.specs.Prelude.{Ok}

-- a point of a log that no check refuses, and one of its splittings, where they can be numbered, with a window that reaches
-- as far back as the question does
module _ (c : Case) (asked : Asked c) (p : ℕ) (within : p ≤ steps (joint_of c.run)) (n : ℕ) (below : n < ways_of c)
    (few : ways_of c ≤ splitting_limit) (b : ℕ) (back : b ≡ backs_of c.question) where
  abbrev w : Case
  w = lines.w c asked p within n below few b back

  abbrev t : ℕ
  t = lines.t c asked p within n below few b back

  abbrev window : Windowed c.labels c.left c.right c.run p b
  window = lines.window c asked p within n below few b back

  abbrev points : length w.run / 3 ≡ p - (p - b)
  points = lines.points c asked p within n below few b back

  abbrev decomposed : Decomposed c (lines.left c asked p within n below few) (half_in c n) side.Right p
      (answer_at c p n) (output_at c p n)
  decomposed = lines.decomposed c asked p within n below few

  -- the tree is the window's
  same-tree : tree_at c p n ≡ tree_at w (length w.run / 3) t
  same-tree =
      rw points (window.tree c.question decomposed.question
      (ap formula_of decomposed.asked ∙ formula_spell decomposed.question)
      (lines.reach c asked p within n below few b back) n below side.Right)

  -- so is what the call answers
  same_answer : quotient_at c p n ≡ quotient_at w (length w.run / 3) t
  unfolding quotient_at by_number splitting_limit
  same_answer =
      let here = by_number_sound _ _ _ _ (log_parts _ _ _ _ asked.log) p within _ asked.question n below few in
      let there = by_number_sound _ _ _ _ (log_parts _ _ _ _ window.window) (length w.run / 3)
      (omega (arith, window.points, points)) _ asked.question t
      (mod-lt (n / ways_of (with_run c (rest_of c.run p))) window.some_window)
      (omega (arith, window.few_window, few)) in
      rw (here, there) (ap (λ x. answer_of (Ok tt) x text_room) same-tree)

  same_text : text_at c p n ≡ text_at w (length w.run / 3) t
  unfolding text_at
  same_text = ap text_of same-tree

  -- the line
  pub line_windowed : line_of c p n ≡ line_in w (letter_at c p) p n t
  unfolding line_of line_in ending_in
  line_windowed =
      ap (head_of p n (letter_at c p) ++◌)
      (lines.same_letter c asked p within n below few ∙ ap₂ (λ a x. ending_of a x (letter_at c p)) same_answer same_text)
