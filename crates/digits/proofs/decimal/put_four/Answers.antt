-- Two digits, and two behind them.
use native.Mathlib.Omega.{arith}
use Rattle.digits.proofs.DecimalPuts.{put-pairs}
use Rattle.digits.proofs.decimal.put_four.Goals as goal

pub returns : goal.returns
returns c = put-pairs _ _ _ _ c.args.n (omega (arith, c.requires.0))
    c.put_two.ensures c.put_two-2.ensures
