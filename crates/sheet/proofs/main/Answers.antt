-- The buffer has a byte more than the longest casebook.
use native.Mathlib.Omega.{arith}
use Rattle.casebook.proofs.Values.{longest_is}
use Rattle.sheet.proofs.main.Goals as goal

pub print_input-printed-requires : goal.print_input-printed-requires
print_input-printed-requires c = (
  omega (arith, longest_is, c.read_full.auto.buffer),
  omega (arith, c.in_ok-n.ensures.bound, c.read_full.auto.buffer),
)
