-- A line of the sheet and its window (Windows of quotient): the left half's verdict is the joint one (demand 3), and the
-- question reaches no further back than the window. WindowTexts has what the line shows.
use Prim.Native.Nat.{ℕ, ◌-◌, ◌/◌, ◌%◌, ◌≤◌, ◌<◌}
use mathlib.Core.Path.{◌≡◌, refl, sym, ◌∙◌, ap}
use mathlib.Core.Bool.{Bool, true, false}
use mathlib.Core.List.{List, []}
use native.Mathlib.Omega.{arith}
use lib.ListN.{length}
use lib.Dec.{ltb}
use borrow.Author.Tests.{ltb-true, ltb-false}
use Rattle.hml.specs.System.{steps}
use Rattle.hml.specs.Formula.{size}
use Rattle.hml.specs.Spell.{spell}
use Rattle.hml.specs.Working.{backs}
use Rattle.halves.specs.declared.side.Side.TheVariants as side
use Rattle.machines.specs.Cases.{Case, with_run}
use Rattle.machines.specs.Joints.{joint_of}
use Rattle.formulas.specs.Formulas.{formula_of, quotient_limit}
use Rattle.formulas.specs.Working.{backs_in, backs_of}
use Rattle.formulas.proofs.Checking.{formula_spell}
use Rattle.verdict.specs.Verdicts.{half_verdict}
use Rattle.splitting.specs.Splittings.{splitting_limit, left_half}
use Rattle.splitting.proofs.LogRuns.{sound_log}
use Rattle.dividing.specs.Quotients.{text_of}
use Rattle.dividing.proofs.Answers.{text-length}
use Rattle.quotient.specs.Calls.{tree_by_number}
use Rattle.quotient.specs.Working.{window_of, rest_of}
use Rattle.quotient.proofs.Windows.{Windowed, windowed}
use Rattle.quotient.proofs.DemandThree.{demand_three}
use Rattle.quotient.specs.Demand.{Decomposed}
use Rattle.sheet_lines.specs.Sheets.{text_room, ending_of, quotient_at, text_at, letter_of}
use Rattle.sheet_lines.specs.Working.{ways_of, half_in, letter_at, tree_at, answer_at, output_at, Asked}

-- a point of a log that no check refuses, and one of its splittings, where they can be numbered
module _ (c : Case) (asked : Asked c) (p : ℕ) (within : p ≤ steps (joint_of c.run)) (n : ℕ) (below : n < ways_of c)
    (few : ways_of c ≤ splitting_limit) where
  abbrev pub left : List ℕ
  left = left_half c.labels c.left c.right c.run n

  pub decomposed : Decomposed c left (half_in c n) side.Right p (answer_at c p n) (output_at c p n)
  decomposed = (demand_three c side.Right p asked.log asked.question within).by_numbers n below few

  -- the left half's letter is the log's, or is not shown
  pub same_letter : ending_of (quotient_at c p n) (text_at c p n)
      (letter_of (half_verdict c.labels c.left left (text_at c p n) p))
      ≡ ending_of (quotient_at c p n) (text_at c p n) (letter_at c p)
  unfolding quotient_at text_at ending_of tree_by_number text_of
  same_letter = go (ltb quotient_limit (size decomposed.tree)) refl
    where
      go : (b : Bool) → ltb quotient_limit (size decomposed.tree) ≡ b
          → ending_of (answer_at c p n text_room) (text_of (tree_at c p n))
          (letter_of (half_verdict c.labels c.left left (text_of (tree_at c p n)) p))
          ≡ ending_of (answer_at c p n text_room) (text_of (tree_at c p n)) (letter_at c p)
      go true e = rw ((decomposed.too_large text_room).1 (ltb-true quotient_limit (size decomposed.tree) e))
      go false e =
          let h = ltb-false quotient_limit (size decomposed.tree) e in
          let given = decomposed.given h (spell decomposed.tree [])
          (omega (arith, text-length decomposed.tree)) in
          rw (decomposed.found, ← given.spelled, given.agree)

  -- with a window that reaches as far back as the question does
  module _ (b : ℕ) (back : b ≡ backs_of c.question) where
    abbrev pub w : Case
    w = with_run c (window_of c.run p b)

    abbrev pub t : ℕ
    t = n / ways_of (with_run c (rest_of c.run p)) % ways_of w

    pub window : Windowed c.labels c.left c.right c.run p b
    window = windowed _ _ _ _ p b asked.log within

    pub points : length w.run / 3 ≡ p - (p - b)
    points = sym (sound_log _ _ _ _ window.window).run.counted ∙ window.points

    -- the question reaches no further
    pub reach : backs decomposed.question ≤ b
    unfolding backs_of backs_in
    reach =
        let e : backs_of c.question ≡ backs decomposed.question = ap backs_in
        (ap formula_of decomposed.asked ∙ formula_spell decomposed.question) in
        omega (arith, e, back)
