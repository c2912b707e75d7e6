-- A loop over the splittings; the halves of the first i stand in the table.
use mathlib.Core.Path.{refl, ◌∙◌}
use native.Mathlib.Omega.{arith}
use Rattle.sheet_lines.proofs.Puts.{put-kept}
use Rattle.sheet_lines.proofs.KeptTable.{listed-none, listed_more, front_kept}
use Rattle.sheet_lines.proofs.kept.list_halves.Goals as goal

pub loop-i-init : goal.loop-i-init
loop-i-init c = (listed-none _ c.requires.splits.0.log _ _, refl, c.requires.n_bound.2, omega arith)

pub loop-i-preserved : goal.loop-i-preserved
loop-i-preserved c = (
  listed_more _ c.requires.splits.0.log _ _ _ _ (omega (arith, c.requires.splits.1)) (omega (arith, c.requires.n_bound))
      c.loop-i.invariant.2
      c.loop-i.invariant.0 c.list_half.ensures,
  front_kept _ _ _ _ c.args.first _ c.list_half.ensures c.loop-i.invariant.1 (omega arith),
  put-kept _ _ _ _ c.list_half.ensures ∙ c.loop-i.invariant.2,
  omega arith,
)
