-- Twice 127 pairs is the most, never the mark of an idle.
use Rattle.hml.specs.Labels.{highest}
use Rattle.labels.specs.Labels.{count}
use native.Mathlib.Omega.{arith}
use Rattle.labels.proofs.label.Labels.count.Goals as goal

pub returns : goal.returns
unfolding count highest
returns c = omega (arith, c.min.ensures)
