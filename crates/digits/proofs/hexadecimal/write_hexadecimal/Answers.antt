-- Two digits each; those of the first i stand there.
use Rattle.digits.proofs.HexadecimalPuts.{hex_none, hex_more}
use Rattle.digits.proofs.hexadecimal.write_hexadecimal.Goals as goal

pub loop-i-init : goal.loop-i-init
loop-i-init c = hex_none _ c.args.bytes.now _

pub loop-i-preserved : goal.loop-i-preserved
loop-i-preserved c = hex_more _ _ _ _ _ _ _ c.loop-i-test.true c.hex_digit.ensures c.hex_digit-in-loop-i.ensures
    c.loop-i.invariant
