-- The right half of one splitting is written to its place of the table.
use native.Mathlib.Omega.{arith}
use Rattle.sheet_lines.specs.Working.{shown}
use Rattle.sheet_lines.proofs.KeptTable.{half_listed}
use Rattle.sheet_lines.proofs.kept.list_half.Goals as goal

pub returns : goal.returns
returns c = half_listed (shown c.args.case) c.requires.splits.0.log _ _ _ _
    c.labels-labels.ensures c.left.ensures
    c.right.ensures c.run.ensures _ (c.requires.splits.1, c.requires.splits.0.few) _ _ _ _
    c.split.ensures.right_out_after (omega arith) c.requires.place_bound
