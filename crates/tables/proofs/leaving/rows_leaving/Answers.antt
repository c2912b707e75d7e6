-- The first of the rows is found by halving, and their number from there on.
use Rattle.std.proofs.Common.{rules, eqb, ltb, get_or, ◌≡◌, ℕ, Bool, List}
use borrow.Author.Tests.{tests}
use mathlib.Core.Path.{◌∙◌}
use Rattle.std.specs.List.{prefix_len}
use Rattle.std.proofs.lemmas.Iterator.{YieldsList-from_slice}
use Rattle.std.proofs.lemmas.Iterator.Consumers.{count_from_yields_List}
use Rattle.std.proofs.lemmas.Iterator.Search.{YieldsList-from_take_while}
use Rattle.std.proofs.lemmas.List.Folds.{length-prefix_len}
use Rattle.std.proofs.lemmas.List.Sorted.{IsPartitionPoint-from_clause}
use Rattle.tables.specs.Tables.{rows_of, Rising}
use Rattle.tables.specs.Working.{below}
use Rattle.tables.proofs.Spans.{rows_behind, span_together, span_exact, states_part, states_place}
use Rattle.tables.proofs.leaving.rows_leaving.Goals as goal

-- the code's tests of a row: does it leave a lower state, or this one?
abbrev lower : ℕ → List ℕ → Bool
lower p x = ltb (get_or x 0 0) p

abbrev leaves : ℕ → List ℕ → Bool
leaves p x = eqb (get_or x 0 0) p

counted : (c : goal.After-as_flattened)
    → c.count-many.result
    ≡ prefix_len (leaves c.args.state) (rows_behind c.partition_point-start.result c.rows-rows.result.now)
counted c =
    let behind = rows_behind c.partition_point-start.result c.rows-rows.result.now in
    count_from_yields_List c.take_while.result _ c.count-many.ensures.ran
    (YieldsList-from_take_while _ (leaves c.args.state) (YieldsList-from_slice behind cc)
    c.take_while.ensures.closure c.take_while.ensures.done (λ x b q k. search (rules, tests)))
    ∙ length-prefix_len (leaves c.args.state) behind

first_of_them : (c : goal.After-as_flattened) → Rising (rows_of c.args.table.now)
    → c.partition_point-start.result ≡ below c.args.state (rows_of c.args.table.now)
first_of_them c s =
    states_place _ _ _ c.rows-rows.ensures.bytes _ c.partition_point-start.ensures.bound
    (IsPartitionPoint-from_clause (lower c.args.state) _ _ c.partition_point-start.ensures.partitioned
    (states_part _ _ _ c.rows-rows.ensures.bytes s) (λ a r f k. search (rules, tests)))

pub returns : goal.returns
returns c = record {
  together = span_together _ _ _ _ _ _ c.rows-rows.ensures.bytes c.partition_point-start.ensures.bound (counted c)
      c.as_flattened.ensures.value;
  exact = span_exact _ _ _ _ _ _ c.rows-rows.ensures.bytes c.partition_point-start.ensures.bound (counted c)
      c.as_flattened.ensures.value (first_of_them c);
}
