-- One line, if it is asked for and fits.
use native.Mathlib.Omega.{arith}
use Rattle.sheet_lines.specs.Sheets.{refused_line}
use Rattle.sheet_lines.proofs.LineLaws.{none_first, none_most, one-due}
use Rattle.sheet_lines.proofs.SheetLines.{nothing-due, refused_short, refused_block}
use Rattle.hml.proofs.Clauses.{to_value_out_after}
use Rattle.sheet_lines.proofs.lines.write_refused.Goals as goal

pub returns-then-first-gt0 : goal.returns-then-first-gt0
returns-then-first-gt0 c = let e = none_first (refused_line c.args.refusal) c.args.first c.args.most (omega arith) in
    to_value_out_after (nothing-due _ e _)

pub returns-then-most-eq0 : goal.returns-then-most-eq0
returns-then-most-eq0 c = let e = none_most (refused_line c.args.refusal) c.args.first c.args.most c.if-most-eq0.true in
    to_value_out_after (nothing-due _ e _)

pub returns-then-out-len : goal.returns-then-out-len
returns-then-out-len c = let e = one-due (refused_line c.args.refusal) c.args.first c.args.most (omega arith)
    c.if-most-eq0.false in
    to_value_out_after (refused_short _ _ _ e (omega (arith, c.refused_length-len.ensures)))

pub returns : goal.returns
returns c = let e = one-due (refused_line c.args.refusal) c.args.first c.args.most (omega arith) c.if-most-eq0.false in
    to_value_out_after (refused_block _ _ _ e _ _ c.refused_length-len.ensures (omega arith) c.put_refused.ensures)
