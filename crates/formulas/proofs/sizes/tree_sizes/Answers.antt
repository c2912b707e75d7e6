-- After i turns the last i nodes have their sizes.
use native.Mathlib.Omega.{arith}
use mathlib.Core.Path.{◌∙◌, ap}
use Rattle.formulas.specs.Working.{tree_size}
use Rattle.labels.proofs.Slices.{rest_of}
use Rattle.formulas.proofs.TreeSizes.{sizing_end, sizing_on}
use Rattle.formulas.proofs.TreeSizes.{here-behind}
use Rattle.formulas.proofs.sizes.tree_sizes.Goals as goal

pub first_size-requires-clause-behind_value : goal.first_size-requires-clause-behind_value
first_size-requires-clause-behind_value c = rw (rest_of _ c.args.f.now)
    (here-behind _ _ _ _ c.loop-i.invariant (omega arith))

pub loop-i-preserved : goal.loop-i-preserved
loop-i-preserved c = sizing_on _ _ _ _ c.loop-i.invariant (omega arith) _
    (c.first_size.ensures ∙ ap tree_size
    (rest_of _ c.args.f.now))

pub returns : goal.returns
returns c = sizing_end _ _ _ _ c.loop-i.invariant (omega arith)
