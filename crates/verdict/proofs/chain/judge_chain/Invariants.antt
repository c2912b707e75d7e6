-- The formula from this node on decides, on the first `len` bytes of the run (`Chain`).
use Prim.Native.Nat.{◌*◌}
use Rattle.labels.specs.declared.label.Labels.{Labels}
use Rattle.verdict.proofs.Chains.{Chain}
use Rattle.verdict.proofs.chain.judge_chain.Given as goal

abbrev pub invariant-loop-node : goal.invariant-loop-node
invariant-loop-node l = (k : Labels) × Chain k l.formula l.run l.len-2 (2 * l.node) l.len l.even
