-- The rows are tried one after the other, each by its label and target.
use Rattle.std.proofs.Common.{rules, eqb, get_or, ◌≡◌, ◌&&◌}
use Rattle.std.specs.List.{list_any}
use Rattle.std.proofs.lemmas.Iterator.Search.{any_from_yields_List}
use Rattle.std.proofs.lemmas.Iterator.{YieldsList-from_slice}
use borrow.Author.Tests.{tests}
use Rattle.tables.specs.Tables.{among}
use Rattle.tables.proofs.Searching.{rows_searched}
use mathlib.Core.Path.{◌∙◌}
use Rattle.tables.proofs.leaving.leads_to.Goals as goal

found : (c : goal.After-any)
    → c.any.result
    ≡ list_any (λ x. eqb (get_or x 1 0) c.args.label.0 && eqb (get_or x 2 0) c.args.to) c.rows_in.result.now
found c = any_from_yields_List (λ x. eqb (get_or x 1 0) c.args.label.0 && eqb (get_or x 2 0) c.args.to) _ _ _
    c.any.ensures.ran (YieldsList-from_slice c.rows_in.result.now c.iter.ensures.rest)
    (λ x b q k. search (rules, tests))

pub returns : goal.returns
unfolding among
returns c = found c ∙ rw c.rows_in.ensures
    (rows_searched (λ m. eqb m.0 c.args.label.0 && eqb m.1 c.args.to) c.args.rows.now)
