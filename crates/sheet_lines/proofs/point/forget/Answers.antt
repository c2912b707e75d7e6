-- The entries in front are filled with 0; the rest keep theirs.
use borrow.Rule.Slice.PartMut.{same_len_mid}
use Rattle.sheet_lines.proofs.PointLaws.{forgotten_front}
use Rattle.sheet_lines.proofs.point.forget.Goals as goal

pub returns-clause-forgotten : goal.returns-clause-forgotten
returns-clause-forgotten c = forgotten_front c.args.ends.now _ _ _ _ c.requires c.min.ensures
    (c.fill.ensures.after (λ y e. e)) (same_len_mid 0 _ c.args.ends.now _ c.fill.ensures.len)
