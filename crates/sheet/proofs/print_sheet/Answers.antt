-- A loop over blocks; the lines before `first` were taken.
use Prim.Native.Nat.{◌+◌}
use mathlib.Core.Path.{refl, sym, ◌∙◌, ap}
use mathlib.Core.Bool.{false≢true}
use native.Mathlib.Omega.{arith}
use lib.ListN.{length}
use Rattle.sheet_lines.specs.Blocks.{block_from}
use Rattle.sheet_lines.proofs.WholeSheet.{block_left, block_last}
use Rattle.sheet.proofs.print_sheet.Goals as goal

pub print_block-printed-requires : goal.print_block-printed-requires
print_block-printed-requires g c = rw c.nothing.ensures (refl, omega arith)

pub loop-first-init : goal.loop-first-init
loop-first-init g c = (omega arith, rw c.nothing.ensures at c.print_block-printed.ensures)

pub print_block-printed-requires-in-loop-first : goal.print_block-printed-requires-in-loop-first
print_block-printed-requires-in-loop-first g c = (
  sym c.is_taken.ensures ∙ c.loop-first-test.true,
  omega (arith, c.loop-first.invariant, block_left c.args.casebook.now c.loop-first.first),
)

pub loop-first-smaller : goal.loop-first-smaller
loop-first-smaller g c = omega (
  arith,
  c.if-first-next.true,
  c.next.ensures,
  c.next-first.ensures,
  c.loop-first.invariant,
  block_left c.args.casebook.now c.loop-first.first,
)

pub loop-first-preserved : goal.loop-first-preserved
loop-first-preserved g c = (
  omega (arith, c.next-first.ensures, c.loop-first.invariant, block_left c.args.casebook.now c.loop-first.first),
  c.print_block-printed-in-loop-first.ensures ∙ ap (λ n. n + length (block_from c.args.casebook.now n))
      (sym c.next-first.ensures),
)

pub returns-else-first-next : goal.returns-else-first-next
returns-else-first-next g c = λ e.
    let last = block_last c.args.casebook.now c.loop-first.first
    (omega (arith, c.if-first-next.false, c.next.ensures, c.loop-first.invariant)) in
    omega (arith, c.loop-first.invariant, block_left c.args.casebook.now c.loop-first.first, last)

pub returns-after-loop-first : goal.returns-after-loop-first
returns-after-loop-first g c = λ e. absurd (false≢true (sym c.loop-first-test.false ∙ c.is_taken.ensures ∙ e))
