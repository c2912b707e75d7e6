-- Two entries are set if a line was written and they are there.
use native.Mathlib.Omega.{arith}
use Rattle.sheet_lines.proofs.PointTurns.{remember_none, remember_entry, remember_far}
use Rattle.hml.proofs.Clauses.{to_froms_after_ends_after}
use Rattle.sheet_lines.proofs.point.remember.Goals as goal

pub returns-then-to-at : goal.returns-then-to-at
returns-then-to-at c = to_froms_after_ends_after (remember_none _ _ _ _ _ _ c.if-to-at.true)

pub overflow_sub-froms : goal.overflow_sub-froms
overflow_sub-froms c = c.requires.0 c.if-to-at.false

pub returns-then-t-lt8192 : goal.returns-then-t-lt8192
returns-then-t-lt8192 c = to_froms_after_ends_after (remember_entry _ _ _ _ _ _ c.if-to-at.false (omega arith))

pub returns-else-t-lt8192 : goal.returns-else-t-lt8192
returns-else-t-lt8192 c = to_froms_after_ends_after (remember_far _ _ _ _ _ _ c.if-to-at.false (omega arith))
