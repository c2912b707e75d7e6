-- Two bytes, the number's digits, and a line feed.
use native.Mathlib.Omega.{arith}
use lib.ListN.{length-set}
use Rattle.sheet_lines.proofs.LineLaws.{length_refused, refused_place, refused_put}
use Rattle.sheet_lines.proofs.lines.put_refused.Goals as goal

pub bounds-out-0 : goal.bounds-out-0
bounds-out-0 c = omega (arith, c.requires, length_refused c.args.refusal)

pub bounds-out-1 : goal.bounds-out-1
bounds-out-1 c = simp length-set (omega (arith, c.requires, length_refused c.args.refusal))

pub bounds-out-at : goal.bounds-out-at
bounds-out-at c = let placed = refused_place c.args.out.now _ _ _ _ c.requires c.number.ensures
    c.put_decimal-at.ensures.value
    c.put_decimal-at.ensures.out_after in
    omega (arith, c.requires, placed)

pub shape_of-out : goal.shape_of-out
shape_of-out c = simp length-set (refused_place c.args.out.now _ _ _ _ c.requires c.number.ensures
    c.put_decimal-at.ensures.value
    c.put_decimal-at.ensures.out_after).1

pub returns : goal.returns
returns c = refused_put c.args.out.now _ _ _ _ c.requires c.number.ensures c.put_decimal-at.ensures.value
    c.put_decimal-at.ensures.out_after
