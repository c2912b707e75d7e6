-- The rows that leave the step's states have their moves.
use mathlib.Core.Path.{◌∙◌, ap}
use lib.ListN.{length}
use Rattle.splitting.proofs.Counts.{ways-options, options_small}
use Rattle.splitting.proofs.count.ways_of.Goals as goal

pub returns : goal.returns
returns c = let e = ways-options _ _ _ c.requires _ _ _ (c.rows_leaving-left_rows.ensures.exact c.requires.left.rising)
    (c.rows_leaving-right_rows.ensures.exact c.requires.right.rising) in
    let n = c.count_ways.ensures ∙ ap length e in
    record {
      exact = n;
      few = options_small _ _ _ c.requires _ _ n;
    }
