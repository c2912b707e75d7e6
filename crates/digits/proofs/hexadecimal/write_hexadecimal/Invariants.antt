-- The digits of the first i bytes are put, the rest of the output is kept.
use mathlib.Core.Path.{◌≡◌}
use lib.ListN.{take}
use Rattle.digits.specs.Digits.{hexadecimal}
use Rattle.digits.specs.Outputs.{put_at}
use Rattle.digits.proofs.hexadecimal.write_hexadecimal.Given as goal

abbrev pub invariant-loop-i : goal.invariant-loop-i
invariant-loop-i l = l.out ≡ put_at l.initial.out l.at (hexadecimal (take l.i l.bytes))
