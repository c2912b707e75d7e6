-- A loop over points; the lines before i are written.
use Prim.Native.Nat.{◌+◌, ◌<◌}
use mathlib.Core.Path.{refl, ◌∙◌}
use native.Mathlib.Omega.{arith}
use native.Mathlib.Nat.{mod-lt}
use Rattle.sheet_lines.proofs.Filling.{filled_none}
use Rattle.sheet_lines.proofs.FillLaws.{next-within}
use Rattle.sheet_lines.proofs.FillLaws.{point_full, point_done, sheet_full, sheet_small}
use Rattle.sheet_lines.proofs.lines.fill.Goals as goal

pub overflow_add-end : goal.overflow_add-end
overflow_add-end c = omega (arith, c.requires.due_bound, sheet_small _ _ c.requires.numbered)

pub loop-i-init : goal.loop-i-init
loop-i-init c = (
  filled_none _ _ _ _ _ (omega arith) (omega arith),
  record { froms_size = refl; ends_size = refl; text_size = refl; line_size = refl },
  refl,
)

pub overflow_add-number : goal.overflow_add-number
overflow_add-number c = omega (
  arith,
  c.requires.due_bound,
  sheet_small _ _ c.requires.numbered,
  mod-lt c.loop-i.i {m = c.args.splittings}
      (omega (arith, c.requires.numbered.some)),
)

pub overflow_add-i : goal.overflow_add-i
overflow_add-i c = let h : c.loop-i.i < c.args.first + c.args.due =
    omega (
      arith,
      c.loop-i-test.true,
    ) in
    omega (
      arith,
      c.requires.due_bound,
      sheet_small _ _ c.requires.numbered,
      next-within _ _ c.requires.numbered _ _ c.requires.due_bound _ h _
          c.min-until.ensures _ _ _ _ _ _ c.loop-i.invariant.0
          c.write_point-done.ensures.full,
    )

pub returns-then-done-until : goal.returns-then-done-until
returns-then-done-until c = let h : c.loop-i.i < c.args.first + c.args.due =
    omega (
      arith,
      c.loop-i-test.true,
    ) in
    point_full _ _ c.requires.numbered _ _ c.requires.due_bound _ h _
    c.min-until.ensures _ _ _ _ _ _ c.loop-i.invariant.0
    c.write_point-done.ensures.full (omega arith)

pub loop-i-preserved : goal.loop-i-preserved
loop-i-preserved c = let h : c.loop-i.i < c.args.first + c.args.due =
    omega (
      arith,
      c.loop-i-test.true,
    ) in (
      point_done _ _ c.requires.numbered _ _ c.requires.due_bound _ h _
          c.min-until.ensures _ _ _ _ _ _
          c.loop-i.invariant.0
          c.write_point-done.ensures.full (omega arith),
      c.write_point-done.ensures.scratch,
      c.write_point-done.auto.halves ∙ c.loop-i.invariant.2,
    )

pub returns : goal.returns
returns c = sheet_full _ _ c.requires.numbered _ _ c.requires.due_bound _ _ _ _ c.loop-i.invariant.0 (omega arith)
