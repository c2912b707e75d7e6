-- The block's bytes are those of the next lines, as handing over asks.
use native.Mathlib.Omega.{arith}
use Rattle.sheet_lines.proofs.SheetBlocks.{sheet_short}
use Rattle.sheet_lines.proofs.WholeSheet.{block_left, lines-counted, bytes_in_room, next-bytes}
use Rattle.sheet.proofs.print_block.Goals as goal

pub overflow_add-next : goal.overflow_add-next
overflow_add-next g c = omega (
  arith,
  c.requires.1,
  c.next-first.ensures,
  lines-counted c.args.casebook.now _ _ c.write_block-block.ensures.value,
  block_left c.args.casebook.now c.next-first.result,
  sheet_short c.args.casebook.now,
)

pub hand_over-requires : goal.hand_over-requires
hand_over-requires g c = record {
  taken_value = c.requires.0;
  out_value = rw (← c.next-first.ensures) (next-bytes _ _ _ c.write_block-block.ensures.value _ _
      c.write_block-block.ensures.out_after);
  bytes_in_bounds = omega (arith, bytes_in_room _ _ _ c.write_block-block.ensures.value);
}

pub returns : goal.returns
returns g c = rw (← c.next-first.ensures) (omega
    (arith, c.hand_over.ensures, lines-counted _ _ _ c.write_block-block.ensures.value))
