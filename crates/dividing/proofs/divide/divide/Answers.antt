-- The checks, then the quotient of sound parts.
use mathlib.Core.Path.{sym, ◌∙◌}
use Rattle.labels.proofs.Refusals.{handed_on}
use Rattle.dividing.proofs.Answers.{part_refused}
use Rattle.dividing.proofs.Division.{division_sound}
use Rattle.hml.proofs.Clauses.{to_value_out_after}
use Rattle.dividing.proofs.divide.divide.Goals as goal

pub returns-in_err-check_division : goal.returns-in_err-check_division
returns-in_err-check_division c =
    let refused = part_refused _ _ _ _ (sym c.check_division.ensures ∙ c.in_err-check_division.was) in
    record { value = handed_on c.from_residual.ensures.1 ∙ refused.0; out_after = refused.1 }

pub write_quotient-requires : goal.write_quotient-requires
write_quotient-requires c =
    let (a, b, d) = division_sound _ _ _ _ (sym c.check_division.ensures ∙ c.in_ok-check_division.was) in
    record {
      sound_table = a;
      half_value = b;
      legal = d;
    }

pub returns : goal.returns
returns c = to_value_out_after (rw (sym c.check_division.ensures ∙ c.in_ok-check_division.was)
    (c.write_quotient.ensures.value, c.write_quotient.ensures.out_after))
