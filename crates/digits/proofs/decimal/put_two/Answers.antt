-- Two bytes, one after the other.
use Rattle.digits.proofs.Puts.{put_two}
use Rattle.digits.proofs.decimal.put_two.Goals as goal

pub returns : goal.returns
returns c = put_two _ _ _ _
