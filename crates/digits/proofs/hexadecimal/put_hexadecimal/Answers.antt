-- All digits have room and are written, or none is.
use Rattle.digits.specs.Digits.{hexadecimal}
use mathlib.Core.Path.{sym}
use native.Mathlib.Omega.{arith}
use Rattle.digits.proofs.HexadecimalLaws.{length-hexadecimal}
use Rattle.digits.proofs.Puts.{room_told, put_answer, no_room_told}
use Rattle.digits.proofs.Clauses.{to_value_out_after}
use Rattle.digits.proofs.hexadecimal.put_hexadecimal.Goals as goal

pub returns-then-has_room : goal.returns-then-has_room
returns-then-has_room c = let counted = length-hexadecimal c.args.bytes.now in
    let room = room_told c.args.out.now c.args.at (hexadecimal c.args.bytes.now) _ _ (sym counted)
    c.has_room.ensures c.if-has_room.true in
    to_value_out_after (put_answer _ _ _ room _ _ (omega (arith, counted)) c.write_hexadecimal.ensures)

pub returns : goal.returns
returns c = to_value_out_after (no_room_told _ _ _ _ _ (sym (length-hexadecimal c.args.bytes.now))
    c.has_room.ensures c.if-has_room.false)
