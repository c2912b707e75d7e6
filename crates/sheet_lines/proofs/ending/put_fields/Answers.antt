-- Hexadecimal digits, then three bytes.
use native.Mathlib.Omega.{arith}
use Prim.Native.Nat.{◌+◌, ◌≤◌}
use lib.ListN.{length, length-set}
use Rattle.digits.specs.Digits.{hexadecimal}
use Rattle.digits.proofs.HexadecimalLaws.{length-hexadecimal}
use Rattle.sheet_lines.proofs.LineLaws.{field_place, field_put}
use Rattle.sheet_lines.proofs.ending.put_fields.Goals as goal

pub bounds-out-at : goal.bounds-out-at
bounds-out-at c = let counted = length-hexadecimal c.args.text.now in
    let placed = field_place c.args.out.now _ (hexadecimal c.args.text.now) _ (omega (arith, c.requires, counted))
    c.put_hexadecimal-at.ensures.value c.put_hexadecimal-at.ensures.out_after in
    omega (arith, c.requires, counted, placed)

pub overflow_add-out : goal.overflow_add-out
overflow_add-out c = let counted = length-hexadecimal c.args.text.now in
    let placed = field_place c.args.out.now _ (hexadecimal c.args.text.now) _ (omega (arith, c.requires, counted))
    c.put_hexadecimal-at.ensures.value c.put_hexadecimal-at.ensures.out_after in
    omega (arith, c.well_formed, c.requires, counted, placed)

pub bounds-out-at-2 : goal.bounds-out-at-2
bounds-out-at-2 c = let counted = length-hexadecimal c.args.text.now in
    let placed = field_place c.args.out.now _ (hexadecimal c.args.text.now) _ (omega (arith, c.requires, counted))
    c.put_hexadecimal-at.ensures.value c.put_hexadecimal-at.ensures.out_after in
    simp length-set (omega (arith, c.requires, counted, placed))

pub overflow_add-out-2 : goal.overflow_add-out-2
overflow_add-out-2 c = let counted = length-hexadecimal c.args.text.now in
    let placed = field_place c.args.out.now _ (hexadecimal c.args.text.now) _ (omega (arith, c.requires, counted))
    c.put_hexadecimal-at.ensures.value c.put_hexadecimal-at.ensures.out_after in
    omega (arith, c.well_formed, c.requires, counted, placed)

pub bounds-out-at-3 : goal.bounds-out-at-3
bounds-out-at-3 c = let counted = length-hexadecimal c.args.text.now in
    let placed = field_place c.args.out.now _ (hexadecimal c.args.text.now) _ (omega (arith, c.requires, counted))
    c.put_hexadecimal-at.ensures.value c.put_hexadecimal-at.ensures.out_after in
    simp length-set (omega (arith, c.requires, counted, placed))

pub overflow_add-result : goal.overflow_add-result
overflow_add-result c = let counted = length-hexadecimal c.args.text.now in
    let placed = field_place c.args.out.now _ (hexadecimal c.args.text.now) _ (omega (arith, c.requires, counted))
    c.put_hexadecimal-at.ensures.value c.put_hexadecimal-at.ensures.out_after in
    omega (arith, c.well_formed, c.requires, counted, placed)

pub returns : goal.returns
returns c = let counted = length-hexadecimal c.args.text.now in
    let h : length (hexadecimal c.args.text.now) + 3 ≤ length c.args.out.now
    = omega (arith, c.requires, counted) in
    record {
      value = omega (
        arith,
        counted,
        field_place _ _ _ _ h c.put_hexadecimal-at.ensures.value
            c.put_hexadecimal-at.ensures.out_after,
      );
      out_after = field_put _ _ _ _ h c.put_hexadecimal-at.ensures.value c.put_hexadecimal-at.ensures.out_after _ _ _;
    }
