-- A loop that moves the cut; any place in the window will do.
use native.Mathlib.Omega.{arith}
use Rattle.sheet_lines.specs.Working.{shown}
use Rattle.sheet_lines.proofs.KeptTable.{square_few}
use Rattle.sheet_lines.proofs.kept.middle.Goals as goal

pub overflow_mul-newer : goal.overflow_mul-newer
overflow_mul-newer c = omega (
  arith,
  square_few (shown c.part.result) _ c.splittings-newer.ensures,
)
