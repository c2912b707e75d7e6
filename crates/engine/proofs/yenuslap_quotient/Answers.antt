-- The quotient's number; the lent output is what the call left.
use mathlib.Core.Path.{◌∙◌, ap}
use Rattle.labels.specs.Refusals.{value_answer}
use Rattle.engine.specs.Answers.{packed, only}
use Rattle.engine.proofs.yenuslap_quotient.Goals as goal

pub returns : goal.returns
returns c = let e = rw (c.of_pairs-labels.ensures, c.side_of-side.ensures) at c.by_half.ensures in
    record {
      value = c.value.ensures ∙ ap (λ q. packed only (value_answer q)) e.value;
      out_after = e.out_after;
    }
