-- The two cases of a call for lines; the lent output is what it left.
use mathlib.Core.Path.{refl}
use Rattle.sheet_lines.specs.Sheets.{lines_answer}
use Rattle.engine.proofs.Answers.{lines-given, lines_refused}
use Rattle.engine.proofs.sheet.yenuslap_sheet_lines.Goals as goal

pub returns-in-Ok : goal.returns-in-Ok
unfolding lines_answer
returns-in-Ok c = record {
  value = lines-given lines_answer c.write_lines.ensures.value c.in-Ok.is refl;
  out_after = c.write_lines.ensures.out_after;
}

pub returns-in-Err : goal.returns-in-Err
unfolding lines_answer
returns-in-Err c = record {
  value = lines_refused lines_answer c.write_lines.ensures.value c.in-Err.is c.in-Err.refusal refl
      c.number.ensures;
  out_after = c.write_lines.ensures.out_after;
}
