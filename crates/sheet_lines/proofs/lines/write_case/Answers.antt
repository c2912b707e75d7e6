-- The count is refused, or the lines are filled in.
use Prim.Native.Nat.{◌+◌, ◌*◌}
use mathlib.Core.Path.{sym, ◌∙◌, ap}
use native.Mathlib.Omega.{arith}
use lib.ListN.{length}
use Rattle.sheet_lines.specs.Working.{shown}
use Rattle.sheet_lines.specs.Sheets.{block_answer, block_output}
use Rattle.sheet_lines.proofs.SheetLines.{nothing-due}
use Rattle.sheet_lines.proofs.FillLaws.{sheet_small}
use Rattle.sheet_lines.proofs.PartsLines.{points_are, points-few, numbered_log, lines_over, lines-due}
use Rattle.sheet_lines.proofs.PartsLines.{due-within, none-asked, refused_count}
use Rattle.hml.proofs.Clauses.{to_value_out_after}
use Rattle.sheet_lines.proofs.lines.write_case.Goals as goal

pub overflow_add-total : goal.overflow_add-total
overflow_add-total c = omega (arith, points-few _ c.requires, c.steps.ensures)

pub overflow_mul-total : goal.overflow_mul-total
overflow_mul-total c = let n = numbered_log _ c.requires _ (sym c.count.ensures
    ∙ c.in-Ok.is) in
    omega (
      arith,
      sheet_small _ _ n,
      ap (◌* c.in-Ok.splittings) (points_are _ c.requires),
      ap (λ m. (m + 1) * c.in-Ok.splittings) c.steps.ensures,
    )

pub returns-then-total-first : goal.returns-then-total-first
returns-then-total-first c = let e = lines_over _ c.requires _ (sym c.count.ensures
    ∙ c.in-Ok.is) c.args.first
    c.args.most _ (ap (λ m. (m + 1) * c.in-Ok.splittings)
    c.steps.ensures) (omega arith) in
    to_value_out_after (nothing-due _ e _)

pub returns-then-most-eq0 : goal.returns-then-most-eq0
returns-then-most-eq0 c = let e = none-asked _ c.args.most
    c.if-most-eq0.true in
    to_value_out_after (nothing-due _ e _)

pub write_due-requires : goal.write_due-requires
write_due-requires c = let told = sym c.count.ensures
    ∙ c.in-Ok.is in
    let total = ap (λ m. (m + 1) * c.in-Ok.splittings)
    c.steps.ensures in
    record {
      numbered = numbered_log _ c.requires _ told;
      le_due = due-within _ c.requires _ told c.args.first c.args.most _ _ total (omega arith)
          c.if-most-eq0.false c.min-due.ensures;
    }

pub returns-else-most-eq0 : goal.returns-else-most-eq0
returns-else-most-eq0 c = let told =
    sym c.count.ensures
    ∙ c.in-Ok.is in
    let total =
    ap (λ m. (m + 1)
    * c.in-Ok.splittings)
    c.steps.ensures in
    let e = lines-due _ c.requires _ told c.args.first c.args.most _ _ total (omega arith)
    c.min-due.ensures in
    record {
      value = c.write_due.ensures.value ∙ ap (λ d. block_answer d (length c.args.out.now)) (sym e);
      out_after = c.write_due.ensures.out_after ∙ ap (λ d. block_output d c.args.out.now) (sym e);
    }

pub returns-in-Err : goal.returns-in-Err
returns-in-Err c = let e = refused_count (shown c.args.case) _
    (sym c.count.ensures
    ∙ c.in-Err.is) in
    rw (← e) at c.write_refused.ensures
