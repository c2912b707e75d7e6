-- A loop over tens; the lines of the numbers before i are written.
use mathlib.Core.Path.{refl, ◌∙◌}
use native.Mathlib.Omega.{arith}
use Rattle.sheet_lines.proofs.Filling.{kept, filled_none, filled_end}
use Rattle.sheet_lines.proofs.TurnLaws.{tens_of, tens_done, tens_full}
use Rattle.sheet_lines.proofs.line.write_turn.Goals as goal

pub loop-i-init : goal.loop-i-init
loop-i-init c = (filled_none _ _ _ _ _ c.requires.number_bound.1 c.requires.number_bound.3, refl, refl)

pub write_tens-done-requires : goal.write_tens-done-requires
write_tens-done-requires c = record {
  number_bound = (
    c.requires.number_bound.0,
    omega (arith, c.min-end.ensures, c.requires.number_bound.2),
    omega (arith, c.loop-i.invariant.0.room, kept _ _ _ _ _ _ _ _ c.loop-i.invariant.0),
  );
  tens = (
    tens_of _ _ _ c.min-end.ensures (omega arith),
    omega
        (arith, c.requires.len_in_bounds, c.loop-i.invariant.2),
  );
}

pub returns-then-i-end : goal.returns-then-i-end
returns-then-i-end c = tens_full _ _ _ _ _ _ _ _ _ _ _ _ _ _ c.loop-i.invariant.1 c.loop-i.invariant.0
    (omega (arith, c.min-end.ensures))
    (omega (arith, c.min-end.ensures, c.loop-i-test.true))
    c.write_tens-done.ensures.full (omega (arith, c.if-i-end.true))

pub loop-i-preserved : goal.loop-i-preserved
loop-i-preserved c = (
  tens_done _ _ _ _ _ _ _ _ _ _ _ _ _ _ c.loop-i.invariant.1 c.loop-i.invariant.0
      (omega (arith, c.min-end.ensures)) (omega (arith, c.min-end.ensures, c.loop-i-test.true))
      c.write_tens-done.ensures.full (omega (arith, c.if-i-end.false)),
  c.write_tens-done.ensures.line_unchanged ∙ c.loop-i.invariant.1,
  c.write_tens-done.auto.line ∙ c.loop-i.invariant.2,
)

pub returns : goal.returns
returns c = filled_end _ _ _ _ _ _ _ _ c.loop-i.invariant.0 (omega (arith, c.loop-i.invariant.0.due))
