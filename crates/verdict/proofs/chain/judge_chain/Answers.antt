-- "Not" by "not" and step by step back, then true or false.
use Prim.Native.Nat.{◌+◌, ◌*◌}
use native.Mathlib.Omega.{arith}
use mathlib.Core.Path.{◌≡◌, refl, sym, ◌∙◌}
use Rattle.verdict.specs.Working.{Tells}
use Rattle.verdict.proofs.Chains.{chain_start, chain_true, chain_false, chain_not}
use Rattle.verdict.proofs.Chains.{chain_nowhere, chain_long, chain_back}
use Rattle.verdict.proofs.chain.judge_chain.Goals.{in-2, in_default+else-not-steps_back}
use Rattle.verdict.proofs.chain.judge_chain.Goals as goal

pub loop-node-init : goal.loop-node-init
loop-node-init c = (c.requires.legal.0, chain_start _ _ _ _ c.requires.legal.1 c.requires.held.0)

pub returns-in-0 : goal.returns-in-0
returns-in-0 c = chain_true _ _ _ _ _ _ _ c.loop-node.invariant.1 c.in-0.is _ refl

pub returns-in-1 : goal.returns-in-1
returns-in-1 c = chain_false _ _ _ _ _ _ _ c.loop-node.invariant.1 c.in-1.is _ refl

pub returns-then-not-steps_back : goal.returns-then-not-steps_back
returns-then-not-steps_back c = let back = sym c.is_back.ensures ∙ c.if-is_back.true in
    chain_nowhere _ _ _ _ _ _ _ c.loop-node.invariant.1 back _ c.steps_back.ensures c.if-not-steps_back.true _
    refl

pub overflow_sub-len : goal.overflow_sub-len
overflow_sub-len c = let back = sym c.is_back.ensures ∙ c.if-is_back.true in
    omega (
      arith,
      chain_long _ _ _ _ _ _ _ c.loop-node.invariant.1 back _ c.steps_back.ensures c.if-not-steps_back.false,
    )

pub returns-in_default-2 : goal.returns-in_default-2
unfolding Tells
returns-in_default-2 c = tt

pub loop-node-preserved : goal.loop-node-preserved
loop-node-preserved c = let next : 2 * (c.loop-node.node + 1) ≡ 2 * c.loop-node.node + 2 = omega arith in
    elim c.match-formula-node.branch [
      | in-2 w ↦ rw (w.len-is, w.even-is, next)
          (c.loop-node.invariant.0, chain_not _ _ _ _ _ _ _ c.loop-node.invariant.1 w.in-2.is)
      | in_default+else-not-steps_back w ↦ let back = sym w.is_back.ensures ∙ w.if-is_back.true in
          rw (w.len-is, w.even-is, next) (
            c.loop-node.invariant.0,
            chain_back _ _ _ _ _ _ _ c.loop-node.invariant.1 back _ w.steps_back.ensures w.if-not-steps_back.false,
          )
    ]

pub returns : goal.returns
unfolding Tells
returns c = tt
