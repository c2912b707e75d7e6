-- The cycle: a verdict and the trial of each row call each other. An answer of one line stands here; a longer one in
-- the room beside this file that tells of its function.
mod Connectives
mod Forwards
mod Handshakes
mod Trials
use native.Mathlib.Omega.{arith}
use mathlib.Core.Path.{refl}
use Rattle.verdict.proofs.Operands as operands
use Rattle.verdict.proofs.Going as going
use Rattle.verdict.proofs.search.+judging.Answers.Connectives as connectives
use Rattle.verdict.proofs.search.+judging.Answers.Forwards as forwards
use Rattle.verdict.proofs.search.+judging.Answers.Handshakes as handshakes
use Rattle.verdict.proofs.search.+judging.Answers.Trials as trials
use Rattle.verdict.proofs.search.+judging.Goals as goal

pub holds-loop-word-init : goal.holds-loop-word-init
holds-loop-word-init t c = (refl, going.going_start _ _ _ _ _ _ _ c.requires.ready)

pub holds-overflow_sub-nodes : goal.holds-overflow_sub-nodes
holds-overflow_sub-nodes t c = operands.some_node _ _ c.loop-word.invariant.1.ready.tree

pub holds-overflow_sub-nodes-then-is_back : goal.holds-overflow_sub-nodes-then-is_back
holds-overflow_sub-nodes-then-is_back t c = operands.some_node _ _ c.loop-word.invariant.1.ready.tree

pub holds-overflow_sub-nodes-in-loop-word : goal.holds-overflow_sub-nodes-in-loop-word
holds-overflow_sub-nodes-in-loop-word t c = operands.some_node _ _ c.loop-word.invariant.1.ready.tree

pub holds-overflow_sub-nodes-in-loop-word-2 : goal.holds-overflow_sub-nodes-in-loop-word-2
holds-overflow_sub-nodes-in-loop-word-2 t c = operands.some_node _ _ c.loop-word.invariant.1.ready.tree

pub holds-loop-word-smaller-then-operator-eq2 : goal.holds-loop-word-smaller-then-operator-eq2
holds-loop-word-smaller-then-operator-eq2 t c = omega (arith, operands.some_node _ _ c.loop-word.invariant.1.ready.tree)

pub holds-loop-word-smaller-then-is_back : goal.holds-loop-word-smaller-then-is_back
holds-loop-word-smaller-then-is_back t c = omega (arith, operands.some_node _ _ c.loop-word.invariant.1.ready.tree)

pub holds-loop-word-smaller : goal.holds-loop-word-smaller
holds-loop-word-smaller t c = omega (arith, operands.some_node _ _ c.loop-word.invariant.1.ready.tree)

pub ahead-overflow_sub-nodes : goal.ahead-overflow_sub-nodes
ahead-overflow_sub-nodes t c = operands.some_node _ _ c.requires.ready.tree

pub ahead-overflow_sub-nodes-2 : goal.ahead-overflow_sub-nodes-2
ahead-overflow_sub-nodes-2 t c = operands.some_node _ _ c.requires.ready.tree

pub holds-loop-word-preserved-then-operator-eq2 : goal.holds-loop-word-preserved-then-operator-eq2
holds-loop-word-preserved-then-operator-eq2 t c = connectives.holds-loop-word-preserved-then-operator-eq2 t c

pub holds-returns-then-not-steps_back-clause-value : goal.holds-returns-then-not-steps_back-clause-value
holds-returns-then-not-steps_back-clause-value t c = connectives.holds-returns-then-not-steps_back-clause-value t c

pub holds-overflow_sub-len : goal.holds-overflow_sub-len
holds-overflow_sub-len t c = connectives.holds-overflow_sub-len t c

pub holds-loop-word-preserved-then-is_back : goal.holds-loop-word-preserved-then-is_back
holds-loop-word-preserved-then-is_back t c = connectives.holds-loop-word-preserved-then-is_back t c

pub holds-operand-first-requires : goal.holds-operand-first-requires
holds-operand-first-requires t c = connectives.holds-operand-first-requires t c

pub holds-returns-then-first-operator-clause-value : goal.holds-returns-then-first-operator-clause-value
holds-returns-then-first-operator-clause-value t c = connectives.holds-returns-then-first-operator-clause-value t c

pub holds-overflow_sub-nodes-in-loop-word-3 : goal.holds-overflow_sub-nodes-in-loop-word-3
holds-overflow_sub-nodes-in-loop-word-3 t c = connectives.holds-overflow_sub-nodes-in-loop-word-3 t c

pub holds-loop-word-preserved : goal.holds-loop-word-preserved
holds-loop-word-preserved t c = connectives.holds-loop-word-preserved t c

pub operand-returns-in-0-clause-value : goal.operand-returns-in-0-clause-value
operand-returns-in-0-clause-value t c = connectives.operand-returns-in-0-clause-value t c

pub operand-returns-in-1-clause-value : goal.operand-returns-in-1-clause-value
operand-returns-in-1-clause-value t c = connectives.operand-returns-in-1-clause-value t c

pub judge-returns-in-0-clause-value : goal.judge-returns-in-0-clause-value
judge-returns-in-0-clause-value t c = connectives.judge-returns-in-0-clause-value t c

pub judge-returns-in-1-clause-value : goal.judge-returns-in-1-clause-value
judge-returns-in-1-clause-value t c = connectives.judge-returns-in-1-clause-value t c

pub judge-ahead-requires : goal.judge-ahead-requires
judge-ahead-requires t c = connectives.judge-ahead-requires t c

pub ahead-stay-requires : goal.ahead-stay-requires
ahead-stay-requires t c = forwards.ahead-stay-requires t c

pub ahead-returns-then-operator_in-eq7-clause-value : goal.ahead-returns-then-operator_in-eq7-clause-value
ahead-returns-then-operator_in-eq7-clause-value t c = forwards.ahead-returns-then-operator_in-eq7-clause-value t c

pub ahead-forward-requires : goal.ahead-forward-requires
ahead-forward-requires t c = forwards.ahead-forward-requires t c

pub ahead-returns-clause-value : goal.ahead-returns-clause-value
ahead-returns-clause-value t c = forwards.ahead-returns-clause-value t c

pub forward-returns-then-fails_everywhere-clause-value : goal.forward-returns-then-fails_everywhere-clause-value
forward-returns-then-fails_everywhere-clause-value t c = forwards.forward-returns-then-fails_everywhere-clause-value t c

pub forward-returns-then-try_alone-clause-value : goal.forward-returns-then-try_alone-clause-value
forward-returns-then-try_alone-clause-value t c = forwards.forward-returns-then-try_alone-clause-value t c

pub forward-returns-then-try_alone-2-clause-value : goal.forward-returns-then-try_alone-2-clause-value
forward-returns-then-try_alone-2-clause-value t c = forwards.forward-returns-then-try_alone-2-clause-value t c

pub forward-returns-then-not-is_silent-clause-value : goal.forward-returns-then-not-is_silent-clause-value
forward-returns-then-not-is_silent-clause-value t c = forwards.forward-returns-then-not-is_silent-clause-value t c

pub forward-returns-clause-value : goal.forward-returns-clause-value
forward-returns-clause-value t c = forwards.forward-returns-clause-value t c

pub try_alone-returns-clause-value : goal.try_alone-returns-clause-value
try_alone-returns-clause-value t c = forwards.try_alone-returns-clause-value t c

pub try_both-returns-clause-value : goal.try_both-returns-clause-value
try_both-returns-clause-value t c = forwards.try_both-returns-clause-value t c

pub try_handshakes-returns-then-rows-eq0-clause-value : goal.try_handshakes-returns-then-rows-eq0-clause-value
try_handshakes-returns-then-rows-eq0-clause-value t c = handshakes.try_handshakes-returns-then-rows-eq0-clause-value t c

pub try_handshakes-returns-then-try_partner-clause-value : goal.try_handshakes-returns-then-try_partner-clause-value
try_handshakes-returns-then-try_partner-clause-value t c =
    handshakes.try_handshakes-returns-then-try_partner-clause-value t c

pub try_handshakes-returns-clause-value : goal.try_handshakes-returns-clause-value
try_handshakes-returns-clause-value t c = handshakes.try_handshakes-returns-clause-value t c

pub try_partner-returns-in-Some-clause-value : goal.try_partner-returns-in-Some-clause-value
try_partner-returns-in-Some-clause-value t c = handshakes.try_partner-returns-in-Some-clause-value t c

pub try_partner-returns-in-None-clause-value : goal.try_partner-returns-in-None-clause-value
try_partner-returns-in-None-clause-value t c = handshakes.try_partner-returns-in-None-clause-value t c

pub try_moves-returns-then-rows-eq0-clause-value : goal.try_moves-returns-then-rows-eq0-clause-value
try_moves-returns-then-rows-eq0-clause-value t c = trials.try_moves-returns-then-rows-eq0-clause-value t c

pub try_moves-try_rows-held-requires : goal.try_moves-try_rows-held-requires
try_moves-try_rows-held-requires t c = trials.try_moves-try_rows-held-requires t c

pub try_moves-returns : goal.try_moves-returns
try_moves-returns t c = trials.try_moves-returns t c

pub try_rows-bounds-run-place : goal.try_rows-bounds-run-place
try_rows-bounds-run-place t c = trials.try_rows-bounds-run-place t c

pub try_rows-bounds-run-place-2 : goal.try_rows-bounds-run-place-2
try_rows-bounds-run-place-2 t c = trials.try_rows-bounds-run-place-2 t c

pub try_rows-operand-held-requires : goal.try_rows-operand-held-requires
try_rows-operand-held-requires t c = trials.try_rows-operand-held-requires t c

pub try_rows-bounds-run-place-3 : goal.try_rows-bounds-run-place-3
try_rows-bounds-run-place-3 t c = trials.try_rows-bounds-run-place-3 t c

pub try_rows-returns-then-held : goal.try_rows-returns-then-held
try_rows-returns-then-held t c = trials.try_rows-returns-then-held t c

pub try_rows-returns-then-rest-eq0 : goal.try_rows-returns-then-rest-eq0
try_rows-returns-then-rest-eq0 t c = trials.try_rows-returns-then-rest-eq0 t c

pub try_rows-try_rows-requires : goal.try_rows-try_rows-requires
try_rows-try_rows-requires t c = trials.try_rows-try_rows-requires t c

pub try_rows-returns : goal.try_rows-returns
try_rows-returns t c = trials.try_rows-returns t c

pub stay-holds-held-requires : goal.stay-holds-held-requires
stay-holds-held-requires t c = trials.stay-holds-held-requires t c

pub stay-returns : goal.stay-returns
stay-returns t c = trials.stay-returns t c
