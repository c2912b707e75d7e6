-- Byte by byte: the place and the label from there on come to the same end.
use Rattle.aldebaran_form.proofs.Scanning.{label-quote, label_feed, label_end, quote_over, quote_again}
use Rattle.aldebaran_form.proofs.scan.quote_from.Goals as goal

pub returns-else-text-end-ne34 : goal.returns-else-text-end-ne34
returns-else-text-end-ne34 c = quote_over _ _ _ c.loop-end.invariant
    (label-quote _ c.loop-end.end c.loop-end-test.true c.if-text-end-ne34.false)

pub returns-else-text-end-ne10 : goal.returns-else-text-end-ne10
returns-else-text-end-ne10 c = quote_over _ _ _ c.loop-end.invariant
    (label_feed _ c.loop-end.end c.loop-end-test.true c.if-text-end-ne10.false)

pub loop-end-preserved : goal.loop-end-preserved
loop-end-preserved c = quote_again _ _ _ c.loop-end.invariant c.loop-end-test.true c.if-text-end-ne34.true
    c.if-text-end-ne10.true

pub returns-after-loop-end : goal.returns-after-loop-end
returns-after-loop-end c = quote_over _ _ _ c.loop-end.invariant (label_end _ c.loop-end.end c.loop-end-test.false)
