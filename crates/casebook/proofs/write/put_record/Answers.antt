-- The header's four bytes are set, and the body is copied behind them.
use native.Mathlib.Omega.{arith}
use mathlib.Core.Path.{refl}
use lib.ListN.{length-set, length-take, length-drop}
use Rattle.casebook.proofs.Writing.{record-put}
use Rattle.labels.proofs.Slices.{copied_whole}
use Rattle.casebook.proofs.write.put_record.Goals as goal

pub returns : goal.returns
returns c = record-put c.args.out.now c.args.body.now _ c.args.kind _ _ (omega (arith, c.requires.0)) c.requires.1
    (omega arith) refl refl (copied_whole _ _ _ _ (simp (length-take, length-drop, length-set)
    (omega (arith, c.requires.0))) c.copy.ensures.count c.copy.ensures.copied)
