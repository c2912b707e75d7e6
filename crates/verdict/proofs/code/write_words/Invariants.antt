-- The first i nodes have their words, those behind them their sizes still (`Wording`).
use Prim.Native.Nat.{◌-◌, ◌*◌}
use Rattle.verdict.proofs.Coding.{Wording}
use Rattle.verdict.proofs.code.write_words.Given as goal

abbrev pub invariant-loop-i : goal.invariant-loop-i
invariant-loop-i l = Wording l.formula l.code (l.nodes - l.i) (2 * l.i)
