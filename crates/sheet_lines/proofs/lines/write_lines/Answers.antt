-- The lines of a casebook that was read, or of a refusal.
use mathlib.Core.Path.{sym, ◌∙◌, ap}
use lib.ListN.{length}
use Rattle.sheet_lines.specs.Sheets.{block_answer, block_output}
use Rattle.sheet_lines.proofs.PartsLines.{read_asked, read_due, refused_due}
use Rattle.sheet_lines.proofs.lines.write_lines.Goals as goal

pub write_case-requires : goal.write_case-requires
write_case-requires c = read_asked _ _ (sym c.read.ensures ∙ c.in-Ok.is)

pub returns-in-Ok : goal.returns-in-Ok
returns-in-Ok c = let e = read_due _ _ (sym c.read.ensures
    ∙ c.in-Ok.is) c.args.first c.args.most in
    record {
      value = c.write_case.ensures.value ∙ ap (λ d. block_answer d (length c.args.out.now)) (sym e);
      out_after = c.write_case.ensures.out_after ∙ ap (λ d. block_output d c.args.out.now) (sym e);
    }

pub returns-in-Err : goal.returns-in-Err
returns-in-Err c = let e = refused_due _ _ (sym c.read.ensures
    ∙ c.in-Err.is) c.args.first c.args.most in
    record {
      value = c.write_refused.ensures.value ∙ ap (λ d. block_answer d (length c.args.out.now)) (sym e);
      out_after = c.write_refused.ensures.out_after ∙ ap (λ d. block_output d c.args.out.now) (sym e);
    }
