-- The lines of a casebook's parts, and of any bytes.
use Prim.Native.Nat.{ℕ, suc, ◌+◌, ◌-◌, ◌*◌, ◌/◌, ◌≤◌, ◌<◌, min}
use mathlib.Core.Path.{◌≡◌, sym, ◌∙◌, ap}
use mathlib.Core.List.{List, [], ◌∷◌}
use native.Mathlib.Omega.{arith}
use lib.ListN.{length, take, drop}
use Rattle.hml.specs.System.{steps}
use Rattle.hml.specs.Labels.{positive}
use Rattle.labels.specs.Refusals.{first_of}
use Rattle.labels.specs.declared.refusal.Refusal.{Refusal}
use Rattle.machines.specs.Cases.{Case}
use Rattle.machines.specs.Joints.{joint_of}
use Rattle.casebook.specs.Reading.{read_of, case_of}
use Rattle.casebook.specs.declared.read.Parts.{Parts}
use Rattle.casebook.proofs.RoundTrip.{read_sound, sound_parts}
use Rattle.splitting.specs.Splittings.{splitting_limit, check_log, check_count, count_of}
use Rattle.splitting.proofs.LogRuns.{sound_log}
use Rattle.splitting.proofs.AllSplittings.{count-some}
use Rattle.splitting.proofs.Outcomes.{count-answered}
use Rattle.splitting.proofs.Values.{count_most}
use Rattle.sheet_lines.specs.Sheets.{refused_line, counted_lines, case_lines, read_lines, sheet_of, listed, lines_due}
use Rattle.sheet_lines.specs.Working.{ways_of, count_in, Asked, Numbered, numbered_line}
use Rattle.sheet_lines.proofs.SheetLines.{lines_numbered, due-listed, none-due}
use Rattle.std.specs.Prelude.{Err, Ok}

-- a case of which no check refuses the log or the question
module _ (c : Case) (asked : Asked c) where
  -- the code counts points by bytes
  pub points_are : suc (steps (joint_of c.run)) ≡ length c.run / 3 + 1
  points_are = omega (arith, (sound_log _ _ _ _ asked.log).run.counted)

  pub points-few : length c.run / 3 ≤ 200
  points-few = let a = (sound_log _ _ _ _ asked.log).run in omega (arith, a.counted, a.few)

  -- the count is given
  module _ (ways : ℕ) (told : count_in c ≡ Ok ways) where
    answered : (check_count c.labels c.left c.right c.run ≡ Ok tt) × (ways_of c ≡ ways)
    unfolding count_of
    answered = count-answered _ (ways_of c) ways told

    pub numbered_log : Numbered c ways
    unfolding splitting_limit
    numbered_log =
        record {
          asked = asked;
          counted = sym answered.1;
          few = omega (arith, count_most _ _ _ _ answered.0, answered.1);
          some = omega (arith, count-some _ _ _ _ asked.log, answered.1);
        }

    -- so these are the lines
    pub lines_are : case_lines c ≡ listed (numbered_line c ways) 0 (suc (steps (joint_of c.run)) * ways)
    unfolding case_lines counted_lines
    lines_are = rw told (lines_numbered c ways numbered_log.some)

    pub lines_over : (first most total : ℕ) → total ≡ (length c.run / 3 + 1) * ways → total ≤ first
        → take most (drop first (case_lines c)) ≡ []
    lines_over first most total e h =
        let z : suc (steps (joint_of c.run)) * ways ≡ total = ap (◌* ways) points_are ∙ sym e in
        ap (λ x. take most (drop first x)) lines_are
        ∙ none-due (numbered_line c ways) first most (suc (steps (joint_of c.run)) * ways) (omega (arith, z, h))

    pub lines-due : (first most total due : ℕ) → total ≡ (length c.run / 3 + 1) * ways → first ≤ total
        → due ≡ min most (total - first)
        → take most (drop first (case_lines c)) ≡ listed (numbered_line c ways) first due
    lines-due first most total due e h d =
        let z : suc (steps (joint_of c.run)) * ways ≡ total = ap (◌* ways) points_are ∙ sym e in
        ap (λ x. take most (drop first x)) (lines_are ∙ ap (listed (numbered_line c ways) 0) z)
        ∙ due-listed (numbered_line c ways) first most total h
        ∙ ap (listed (numbered_line c ways) first) (sym d)

    pub due-within : (first most total due : ℕ) → total ≡ (length c.run / 3 + 1) * ways → first < total
        → (most ≡ 0 → ⊥)
        → due ≡ min most (total - first) → (1 ≤ due) × (first + due ≤ suc (steps (joint_of c.run)) * ways)
    due-within first most total due e h n d =
        let z : suc (steps (joint_of c.run)) * ways ≡ total = ap (◌* ways) points_are ∙ sym e in
        (omega (arith, d, positive most n, h), omega (arith, d, z, h))

-- none is asked for
pub none-asked : (xs : List (List ℕ)) (most : ℕ) → most ≡ 0 → take most xs ≡ []
none-asked xs most e = rw e

-- the count is refused
pub refused_count : (c : Case) (x : Refusal) → count_in c ≡ Err x
    → case_lines c ≡ refused_line x ∷ []
unfolding case_lines counted_lines
refused_count c x e = rw e

-- any bytes: a casebook that was read, or a refusal
module _ (s : List ℕ) where
  module _ (p : Parts) (told : read_of s ≡ Ok p) where
    pub read_asked : Asked (case_of s p)
    unfolding check_log first_of case_of
    read_asked =
        let parts = sound_parts (case_of s p) (read_sound s p told) in
        record { log = rw (parts.labels, parts.left, parts.right, parts.run); question = parts.question }

    pub read_due : (first most : ℕ) → lines_due s first most ≡ take most (drop first (case_lines (case_of s p)))
    unfolding lines_due sheet_of read_lines
    read_due first most = rw told

  pub refused_due : (x : Refusal) → read_of s ≡ Err x
      → (first most : ℕ) → lines_due s first most ≡ take most (drop first (refused_line x ∷ []))
  unfolding lines_due sheet_of read_lines
  refused_due x told first most = rw told
