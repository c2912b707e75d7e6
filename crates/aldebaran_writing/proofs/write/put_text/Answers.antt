-- The header's line, then a loop over the rows: the lines of the first i stand behind it.
use Prim.Native.Nat.{◌<◌}
use mathlib.Core.Path.{sym}
use native.Mathlib.Omega.{arith}
use lib.ListN.{length}
use Rattle.tables.specs.Tables.{rows_of}
use Rattle.tables.proofs.Rows.{length-rows}
use Rattle.aldebaran_writing.proofs.TextLengths.{header-room, row_room}
use Rattle.aldebaran_writing.proofs.TextPieces.{stands-kept, rows_none, rows_more, text-put}
use Rattle.hml.proofs.Clauses.{to_value_text_after}
use Rattle.aldebaran_writing.proofs.write.put_text.Goals as goal

pub put_header-at-requires : goal.put_header-at-requires
put_header-at-requires c = let rows = sym (length-rows c.args.table.now) in
    omega (arith, c.well_formed, header-room c.args.table.now c.args.first _ rows c.requires.0 c.requires.1)

pub loop-i-init : goal.loop-i-init
loop-i-init c = rows_none _ _ (rows_of c.args.table.now)

pub put_row_at-at-requires : goal.put_row_at-at-requires
put_row_at-at-requires c = let rows = sym (length-rows c.args.table.now) in
    let few : c.loop-i.i < length (rows_of c.args.table.now) = omega (arith, c.loop-i-test.true, rows) in
    let room = row_room c.args.table.now c.args.first _ rows c.requires.0 c.requires.1 _ c.loop-i.at few
    (omega (arith, c.put_header-at.ensures.value, c.loop-i.invariant.place)) in
    record {
      i_in_bounds = few;
      i_in_bounds_2 = omega (arith, c.well_formed, stands-kept c.loop-i.invariant, room);
    }

pub loop-i-preserved : goal.loop-i-preserved
loop-i-preserved c = let rows = sym (length-rows c.args.table.now) in
    rows_more (rows_of c.args.table.now) _ (omega (arith, rows)) c.loop-i.invariant _ _ c.put_row_at-at.ensures.value
    c.put_row_at-at.ensures.out_after

pub returns : goal.returns
returns c = let rows = sym (length-rows c.args.table.now) in
    to_value_text_after (text-put c.args.text.now c.args.table.now c.args.first _ c.loop-i.i rows
    c.put_header-at.ensures.value c.put_header-at.ensures.out_after c.loop-i.invariant
    (omega (arith, rows)))
