-- Both numbers are small, so nothing wraps.
use native.Mathlib.Omega.{arith}
use Rattle.casebook.proofs.Values.{longest_is}
use Rattle.engine.proofs.place.Goals as goal

pub overflow_mul-result : goal.overflow_mul-result
overflow_mul-result c = omega (arith, longest_is)

pub overflow_add-result : goal.overflow_add-result
overflow_add-result c = omega (arith, longest_is)
