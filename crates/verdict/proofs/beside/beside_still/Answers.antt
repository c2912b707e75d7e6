-- The two start states, then one step a turn.
use lib.ListN.{length-set}
use Rattle.verdict.proofs.Widening.{widen_start, widen_on}
use Rattle.verdict.proofs.beside.beside_still.Goals as goal

pub loop-i-init : goal.loop-i-init
loop-i-init c = widen_start _ _ c.args.run.now c.requires.0 c.requires.1

pub loop-i-preserved : goal.loop-i-preserved
loop-i-preserved c = widen_on _ _ _ _ _ c.loop-i.invariant c.requires.0 (simp length-set c.requires.1)
    c.loop-i-test.true
