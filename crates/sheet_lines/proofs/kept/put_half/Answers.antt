-- Two copies from the table of halves, one behind the other.
use Prim.Native.Nat.{◌+◌, ◌*◌, ◌/◌, ◌%◌}
use native.Mathlib.Nat.{mod-lt}
use native.Mathlib.Omega.{arith}
use Rattle.sheet_lines.proofs.KeptQuotients.{half_put}
use Rattle.labels.proofs.Slices.{copied_whole}
use Rattle.sheet_lines.proofs.kept.put_half.Goals as goal

pub returns : goal.returns
returns c = record {
  value = omega arith;
  half_after = half_put c.args.halves.now c.args.half.now _ _ (401 * (c.args.t / c.args.kept.ways))
      (2 * c.args.kept.older + 1) (401 * (256 + c.args.t % c.args.kept.ways) + 1) (2 * c.args.kept.newer)
      (copied_whole _ _ _ _ (omega arith) c.copy.ensures.count c.copy.ensures.copied)
      (copied_whole _ _ _ _ (omega arith) c.copy-2.ensures.count c.copy-2.ensures.copied)
      (omega (arith, c.requires.ways_nonzero, c.requires.newer_bound))
      (omega (arith, mod-lt c.args.t c.requires.ways_nonzero.0, c.requires.ways_nonzero, c.requires.newer_bound))
      (omega (arith, c.requires.newer_bound));
}
