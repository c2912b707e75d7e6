-- Each turn puts a word in place of a size.
use Prim.Native.Nat.{◌+◌, ◌-◌, ◌*◌, ◌/◌}
use mathlib.Core.Path.{◌≡◌}
use lib.ListN.{length}
use native.Mathlib.Omega.{arith}
use Rattle.verdict.proofs.Coding.{wording_start, wording_room, wording_end, wording_fits, wording_on}
use Rattle.hml.proofs.Clauses.{to_operator_bound_below_bound}
use Rattle.verdict.proofs.code.write_words.Goals as goal

pub loop-i-init : goal.loop-i-init
loop-i-init c = let all : length c.args.formula.now / 2 - 0 ≡ length c.args.formula.now / 2 = omega arith in
    rw all (wording_start _ c.requires.whole _ c.requires.sizes_in)

pub bounds-code-n : goal.bounds-code-n
bounds-code-n c = omega (arith, wording_room _ c.requires.whole _ _ _ c.loop-i.invariant)

pub word-requires : goal.word-requires
word-requires c = to_operator_bound_below_bound (wording_fits _ c.requires.whole _ _ _ c.loop-i.invariant
    (omega (arith, c.loop-i-test.true)))

pub bounds-code-n-in-loop-i : goal.bounds-code-n-in-loop-i
bounds-code-n-in-loop-i c = omega (arith, wording_room _ c.requires.whole _ _ _ c.loop-i.invariant)

pub loop-i-preserved : goal.loop-i-preserved
loop-i-preserved c =
    let nodes = length c.args.formula.now / 2 in
    let fewer : nodes - (c.loop-i.i + 1) ≡ nodes - c.loop-i.i - 1 = omega arith in
    let next : 2 * (c.loop-i.i + 1) ≡ 2 * c.loop-i.i + 2 = omega arith in
    rw (fewer, next) (wording_on _ c.requires.whole _ _ _ c.loop-i.invariant (omega (arith, c.loop-i-test.true))
    (omega arith) _ c.word.ensures)

pub returns : goal.returns
returns c = wording_end _ c.requires.whole _ _ _ c.loop-i.invariant (omega (arith, c.loop-i-test.false))
