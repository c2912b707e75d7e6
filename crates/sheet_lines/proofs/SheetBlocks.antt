-- A sheet has few lines (`sheet_short`), so the call for a block asks for all that are left.
use Prim.Native.Nat.{ℕ, suc, ◌*◌, ◌≤◌}
use mathlib.Core.Path.{◌≡◌, refl, ◌∙◌, ap}
use mathlib.Core.List.{List}
use native.Mathlib.Omega.{arith}
use lib.ListN.{length, drop, length-drop}
use lib.Seq.{take_all}
use Rattle.hml.specs.System.{steps}
use Rattle.labels.specs.Refusals.{in_front}
use Rattle.machines.specs.Cases.{Case}
use Rattle.machines.specs.Joints.{joint_of}
use Rattle.casebook.specs.Reading.{read_of}
use Rattle.sheet_lines.specs.Sheets.{case_lines, read_lines, sheet_of, bytes_of, fitting, lines_due, block_of, block_answer, block_output}
use Rattle.sheet_lines.specs.Blocks.{block_from}
use Rattle.sheet_lines.specs.Working.{count_in, Asked, numbered_line}
use Rattle.sheet_lines.proofs.SheetLines.{written_fits, answered_fits}
use Rattle.std.specs.Result.{result_unwrap_or}
use Rattle.sheet_lines.proofs.Filling.{length-listed}
use Rattle.sheet_lines.proofs.FillLaws.{sheet_small}
use Rattle.sheet_lines.proofs.PartsLines.{numbered_log, lines_are, refused_count, read_asked}
use Rattle.casebook.specs.declared.read.Parts.{Parts}
use Rattle.labels.specs.declared.refusal.Refusal.{Refusal}
use Rattle.std.specs.Prelude.{Err, Ok, Result}

-- a sheet has at most 201 times 65,535 lines
case_short : (c : Case) → Asked c → length (case_lines c) ≤ 13172535
case_short c asked = go (count_in c) refl
  where
    go : (x : Result ℕ Refusal) → count_in c ≡ x → length (case_lines c) ≤ 13172535
    go (Ok n) e =
        let z = ap length (lines_are c asked n e)
        ∙ length-listed (numbered_line c n) 0 (suc (steps (joint_of c.run)) * n) in
        omega (arith, z, sheet_small c n (numbered_log c asked n e))
    go (Err x) e = omega (arith, ap length (refused_count c x e))

pub sheet_short : (s : List ℕ) → length (sheet_of s) ≤ 13172535
unfolding sheet_of read_lines
sheet_short s = go (read_of s) refl
  where
    go : (r : Result Parts Refusal) → read_of s ≡ r → length (read_lines s r) ≤ 13172535
    go (Ok p) e = case_short _ (read_asked s p e)
    go (Err x) e = omega arith

-- all lines that are left are asked for
all-due : (s : List ℕ) (first : ℕ) → lines_due s first 13172535 ≡ drop first (sheet_of s)
unfolding lines_due
all-due s first =
    take_all 13172535 (drop first (sheet_of s)) (omega (arith, sheet_short s, length-drop first (sheet_of s)))

-- so those that fit are a block
module _ (s : List ℕ) (first : ℕ) (out : List ℕ) (size : length out ≡ 3145728) where
  block_lines : fitting (length out) (lines_due s first 13172535) ≡ block_from s first
  unfolding block_from
  block_lines = rw (all-due s first, size)

  pub block_answer_lem : result_unwrap_or (block_answer (lines_due s first 13172535) (length out)) (record { lines = 0; bytes = 0 })
      ≡ block_of (block_from s first)
  block_answer_lem = answered_fits (lines_due s first 13172535) (length out) ∙ ap block_of block_lines

  pub block_output_lem : block_output (lines_due s first 13172535) out ≡ in_front (bytes_of (block_from s first)) out
  block_output_lem = written_fits (lines_due s first 13172535) out ∙ ap (λ b. in_front (bytes_of b) out) block_lines
