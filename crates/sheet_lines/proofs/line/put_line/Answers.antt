-- The copy of a line, with one byte changed.
use Prim.Native.Nat.{◌+◌}
use mathlib.Core.Path.{◌∙◌, ap}
use lib.ListN.{set}
use native.Mathlib.Omega.{arith}
use Rattle.sheet_lines.proofs.Puts.{put-set, rest_copied}
use Rattle.labels.proofs.Slices.{copied_whole}
use Rattle.sheet_lines.proofs.line.put_line.Goals as goal

pub returns : goal.returns
returns c = ap (λ o. set o (c.args.at + c.args.place) c.args.digit)
    (rest_copied c.args.out.now c.args.line.now _ _ c.requires.0
    (copied_whole _ _ _ _ (omega arith) c.copy.ensures.count c.copy.ensures.copied))
    ∙ put-set c.args.out.now _ _ _ c.args.line.now c.requires.1
