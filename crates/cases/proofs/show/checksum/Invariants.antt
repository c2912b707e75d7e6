-- The sum stays below 65,521.
use Prim.Native.Nat.{◌<◌}
use Rattle.cases.proofs.show.checksum.Given as goal

abbrev pub invariant-loop-byte : goal.invariant-loop-byte
invariant-loop-byte l = l.sum < 65521
