-- No rows are looked up where no formula asks for them.
use native.Mathlib.Omega.{arith}
use Rattle.verdict.proofs.TwoGrids.{empty_grids, unread_judged, filled_judged}
use Rattle.verdict.proofs.grids.look_up.Goals as goal

pub returns-then-forwards-eq0 : goal.returns-then-forwards-eq0
returns-then-forwards-eq0 c = record {
  grids = empty_grids _ c.requires.grids_value;
  same = λ φ h j. unread_judged _ _ _ _ _ φ j (omega (arith, h, c.if-forwards-eq0.true));
}

pub returns-clause-same : goal.returns-clause-same
returns-clause-same c φ h j = filled_judged _ _ _ _ _ φ j c.fill.ensures.by_index c.fill.ensures.by_index_2
