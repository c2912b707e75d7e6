-- A loop over turns; the lines of the splittings before n are written, and the entries for endings hold.
use mathlib.Core.Path.{refl, sym, ◌∙◌}
use native.Mathlib.Omega.{arith}
use native.Mathlib.Nat.{mod-lt}
use Rattle.sheet_lines.specs.Working.{shown}
use Rattle.sheet_lines.proofs.Filling.{kept, filled_none, filled_end}
use Rattle.sheet_lines.proofs.PointTurns.{ending-within, turn_known, turn_done, turn_full, scratch_kept}
use Rattle.sheet_lines.proofs.point.write_numbers.Goals as goal

pub loop-n-init : goal.loop-n-init
loop-n-init c = (
  filled_none _ _ _ _ _ c.requires.number_bound.1 c.requires.number_bound.3,
  c.requires.endings_known,
  c.requires.scratch,
)

pub nonzero_div-t : goal.nonzero_div-t
nonzero_div-t c = omega (arith, c.requires.after_nonzero.0)

pub nonzero_rem-t : goal.nonzero_rem-t
nonzero_rem-t c = omega (arith, c.requires.after_nonzero.1)

pub nonzero_rem-n : goal.nonzero_rem-n
nonzero_rem-n c = omega (arith, c.requires.after_nonzero.0)

pub overflow_sub-after : goal.overflow_sub-after
overflow_sub-after c = omega (arith, mod-lt c.loop-n.n {m = c.args.point.after} c.requires.after_nonzero.0)

pub overflow_add-n : goal.overflow_add-n
overflow_add-n c = omega (arith, c.requires.number_bound.2, c.requires.after_nonzero.2)

pub take_ending-len-requires : goal.take_ending-len-requires
take_ending-len-requires c = record {
  t_lt_ways = (
    mod-lt _ c.requires.after_nonzero.1,
    omega (
      arith,
      c.loop-n.invariant.0.room,
      kept _ _ _ _ _ _ _ _
          c.loop-n.invariant.0,
    ),
  );
  shared = c.requires.shared;
  scratch = c.loop-n.invariant.2;
  endings_known = c.loop-n.invariant.1;
}

pub write_turn-done-requires : goal.write_turn-done-requires
write_turn-done-requires c = record {
  number_bound = (
    c.requires.number_bound.0,
    omega (
      arith,
      c.min-end.ensures,
      c.loop-n-test.true,
    ),
    omega (arith, c.min-end.ensures, c.requires.number_bound.2),
    omega
        (arith, c.loop-n.invariant.0.room, kept _ _ _ _ _ _ _ _ c.loop-n.invariant.0),
  );
  len_in_bounds = omega
      (arith, c.take_ending-len.ensures.upper_bound, c.take_ending-len.auto.line, c.loop-n.invariant.2.line_size);
}

pub remember-requires : goal.remember-requires
remember-requires c = (
  ending-within (shown c.args.window) c.args.point _ _ _ _ _ _ _ _ _ _ _ _
      c.take_ending-len.ensures.line_after c.loop-n.invariant.1
      (omega (arith, c.loop-n.invariant.0.room, kept _ _ _ _ _ _ _ _ c.loop-n.invariant.0))
      (omega (
        arith,
        c.min-end.ensures,
        c.loop-n-test.true,
      ))
      c.write_turn-done.ensures _ c.take_ending-len.ensures.value,
  c.loop-n.invariant.2.froms_size,
  c.loop-n.invariant.2.ends_size,
)

pub shape_of-out-then-n-end : goal.shape_of-out-then-n-end
shape_of-out-then-n-end c = c.write_turn-done.auto.out
    ∙ kept _ _ _ _ _ _ _ _
    c.loop-n.invariant.0

pub shape_of-text-then-n-end : goal.shape_of-text-then-n-end
shape_of-text-then-n-end c = c.take_ending-len.auto.text ∙ c.loop-n.invariant.2.text_size
    ∙ sym c.requires.scratch.text_size

pub shape_of-line-then-n-end : goal.shape_of-line-then-n-end
shape_of-line-then-n-end c = c.write_turn-done.auto.line ∙ c.take_ending-len.auto.line
    ∙ c.loop-n.invariant.2.line_size ∙ sym c.requires.scratch.line_size

pub returns-then-n-end : goal.returns-then-n-end
returns-then-n-end c = record {
  full = turn_full (shown c.args.window) c.args.point _ _ _ _ _ _ _ _ _ _ _ _
      c.take_ending-len.ensures.line_after c.loop-n.invariant.1
      (omega (arith, c.loop-n.invariant.0.room, kept _ _ _ _ _ _ _ _ c.loop-n.invariant.0))
      (omega (
        arith,
        c.min-end.ensures,
        c.loop-n-test.true,
      )) c.write_turn-done.ensures _
      _ _ _ c.loop-n.invariant.0 (omega (arith, c.min-end.ensures)) (omega (arith, c.min-end.ensures))
      c.requires.after_nonzero.0
      refl
      (omega (arith, c.if-n-end.true));
  scratch_2 = (scratch_kept _ _ _ _ _ _ _ _ _ _ _ _ c.loop-n.invariant.2
      c.remember.ensures.froms_after c.remember.ensures.ends_after
      c.take_ending-len.auto.text (c.write_turn-done.auto.line
      ∙ c.take_ending-len.auto.line));
}

pub loop-n-smaller : goal.loop-n-smaller
loop-n-smaller c = omega (
  arith,
  c.min-end.ensures,
  c.if-n-end.false,
  mod-lt
      c.loop-n.n {m = c.args.point.after}
      c.requires.after_nonzero.0,
)

pub loop-n-preserved : goal.loop-n-preserved
loop-n-preserved c = (
  turn_done (shown c.args.window) c.args.point _ _ _ _ _ _ _ _ _ _ _ _
      c.take_ending-len.ensures.line_after c.loop-n.invariant.1
      (omega (arith, c.loop-n.invariant.0.room, kept _ _ _ _ _ _ _ _ c.loop-n.invariant.0))
      (omega (arith, c.min-end.ensures, c.loop-n-test.true)) c.write_turn-done.ensures _ _ _ _ c.loop-n.invariant.0
      (omega (arith, c.min-end.ensures)) (omega (arith, c.min-end.ensures)) c.requires.after_nonzero.0 refl
      (omega (arith, c.if-n-end.false)),
  turn_known (shown c.args.window) c.args.point _ _ _ _ _ _ _ _ _ _ _ _
      c.take_ending-len.ensures.line_after c.loop-n.invariant.1
      (omega (arith, c.loop-n.invariant.0.room, kept _ _ _ _ _ _ _ _ c.loop-n.invariant.0))
      (omega (arith, c.min-end.ensures, c.loop-n-test.true)) c.write_turn-done.ensures _
      c.take_ending-len.ensures.value
      c.loop-n.invariant.2.froms_size c.loop-n.invariant.2.ends_size _ _ c.remember.ensures.froms_after
      c.remember.ensures.ends_after,
  (scratch_kept _ _ _ _ _ _ _ _ _ _ _ _ c.loop-n.invariant.2 c.remember.ensures.froms_after
      c.remember.ensures.ends_after c.take_ending-len.auto.text
      (c.write_turn-done.auto.line ∙ c.take_ending-len.auto.line)),
)

pub shape_of-out : goal.shape_of-out
shape_of-out c = kept _ _ _ _ _ _ _ _ c.loop-n.invariant.0

pub shape_of-text : goal.shape_of-text
shape_of-text c = c.loop-n.invariant.2.text_size
    ∙ sym c.requires.scratch.text_size

pub shape_of-line : goal.shape_of-line
shape_of-line c = c.loop-n.invariant.2.line_size
    ∙ sym c.requires.scratch.line_size

pub returns : goal.returns
returns c = record {
  full = filled_end _ _ _ _ _ _ _ _ c.loop-n.invariant.0 (omega (arith, c.loop-n.invariant.0.due));
  scratch_2 = c.loop-n.invariant.2;
}
