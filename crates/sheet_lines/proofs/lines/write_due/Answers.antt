-- The lines from the first one due on.
use native.Mathlib.Omega.{arith}
use Rattle.sheet_lines.proofs.SheetLines.{filled_short, filled_fits}
use Rattle.hml.proofs.Clauses.{to_value_out_after}
use Rattle.sheet_lines.proofs.lines.write_due.Goals as goal

pub overflow_sub-lines : goal.overflow_sub-lines
overflow_sub-lines c = omega (arith, c.fill-done.ensures.counted)

pub returns-then-lines-eq0 : goal.returns-then-lines-eq0
returns-then-lines-eq0 c = to_value_out_after
    (filled_short _ _ _ c.requires.le_due.0 _ _ _ _ c.fill-done.ensures c.if-lines-eq0.true)

pub returns : goal.returns
returns c = to_value_out_after
    (filled_fits _ _ _ c.requires.le_due.0 _ _ _ _ c.fill-done.ensures c.if-lines-eq0.false)
