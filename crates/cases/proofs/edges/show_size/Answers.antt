-- The lent part lies within the output.
use mathlib.Core.Path.{sym}
use native.Mathlib.Omega.{arith}
use lib.Seq.{length-take-le}
use Rattle.cases.proofs.edges.show_size.Goals as goal

pub slice_bounds-show_size_in-end : goal.slice_bounds-show_size_in-end
slice_bounds-show_size_in-end g c = sym (length-take-le _ _ (omega arith))
