-- The first tree ends where the bytes do, or they are no formula.
use Rattle.formulas.proofs.Checking.{not_whole, whole, tree_of_lem}
use Rattle.formulas.proofs.BackDepth.{no_backs, backs_seen}
use Rattle.hml.proofs.Clauses.{to_value_few}
use Rattle.formulas.proofs.backs.back_depth.Goals as goal

pub returns-then-longer : goal.returns-then-longer
returns-then-longer c = to_value_few (no_backs _ (not_whole _ _ _ c.tree_end.ensures c.ne-longer.ensures c.if-longer.true))

pub measured-requires : goal.measured-requires
measured-requires c = let t = whole _ _ _ c.tree_end.ensures c.ne-longer.ensures c.if-longer.false in tree_of_lem _ t.0 t.1

pub returns : goal.returns
returns c = let t = whole _ _ _ c.tree_end.ensures c.ne-longer.ensures c.if-longer.false in
    to_value_few (backs_seen _ t.0 t.1 _ c.measured.ensures)
