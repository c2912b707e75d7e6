-- The rows that leave the step's states are found once; the way is chosen among theirs.
use Rattle.splitting.proofs.Counts.{ways-options}
use Rattle.splitting.proofs.Unrolling.{ways-some, number_before, left-put, right-put}
use Rattle.splitting.proofs.split.put_way.Goals as goal

pub nonzero_rem-n : goal.nonzero_rem-n
nonzero_rem-n c = let e = ways-options _ _ _ c.requires.tables _ _ _
    (c.rows_leaving-left_rows.ensures.exact c.requires.tables.left.rising)
    (c.rows_leaving-right_rows.ensures.exact c.requires.tables.right.rising) in
    ways-some _ _ _ _ 0 _ e _ c.count_ways-ways.ensures c.requires.nonzero

pub nonzero_div-result : goal.nonzero_div-result
nonzero_div-result c = let e = ways-options _ _ _ c.requires.tables _ _ _
    (c.rows_leaving-left_rows.ensures.exact c.requires.tables.left.rising)
    (c.rows_leaving-right_rows.ensures.exact c.requires.tables.right.rising) in
    ways-some _ _ _ _ 0 _ e _ c.count_ways-ways.ensures c.requires.nonzero

pub returns : goal.returns
returns c = let e = ways-options _ _ _ c.requires.tables _ _ _
    (c.rows_leaving-left_rows.ensures.exact c.requires.tables.left.rising)
    (c.rows_leaving-right_rows.ensures.exact c.requires.tables.right.rising) in
    record {
      value = number_before _ _ _ _ _ _ e _ c.count_ways-ways.ensures;
      left_out_after = left-put _ _ _ _ _ _ e _ c.count_ways-ways.ensures _ c.nth_way-way.ensures _ _ _ _
          c.put_step.ensures;
      right_out_after = right-put _ _ _ _ _ _ e _ c.count_ways-ways.ensures _ c.nth_way-way.ensures _ _ _ _
          c.put_step-2.ensures;
    }
