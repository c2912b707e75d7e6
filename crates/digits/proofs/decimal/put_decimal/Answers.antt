-- Room for five bytes, or for the digits that there are; else nothing is written.
use native.Mathlib.Omega.{arith}
use Rattle.digits.specs.Digits.{decimal}
use Rattle.digits.proofs.DecimalLaws.{count-within}
use Rattle.digits.proofs.Puts.{room_enough, room_told, put_answer, no_room_told}
use Rattle.digits.proofs.Clauses.{to_value_out_after}
use Rattle.digits.proofs.decimal.put_decimal.Goals as goal

pub write_short-requires : goal.write_short-requires
write_short-requires c = let few = count-within 4 c.args.n (omega arith) in
    let room = room_enough c.args.out.now c.args.at (decimal c.args.n) 5 _ few c.has_room.ensures
    c.if-has_room.true in
    record {
      n_bound = omega arith;
      n_in_bounds = room;
    }

pub returns-then-has_room : goal.returns-then-has_room
returns-then-has_room c = let few = count-within 4 c.args.n (omega arith) in
    let room = room_enough c.args.out.now c.args.at (decimal c.args.n) 5 _ few c.has_room.ensures
    c.if-has_room.true in
    to_value_out_after (put_answer _ _ _ room _ _ c.write_short.ensures.value c.write_short.ensures.out_after)

pub returns-then-has_room-2 : goal.returns-then-has_room-2
returns-then-has_room-2 c = let room = room_told c.args.out.now c.args.at (decimal c.args.n) _ _ c.digit_count.ensures
    c.has_room-2.ensures c.if-has_room-2.true in
    to_value_out_after (put_answer _ _ _ room _ _ c.write_long.ensures.value c.write_long.ensures.out_after)

pub returns : goal.returns
returns c = to_value_out_after (no_room_told _ _ _ _ _ c.digit_count.ensures c.has_room-2.ensures c.if-has_room-2.false)
