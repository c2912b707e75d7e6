-- At each return the tests say which case of `check_row` holds.
use Rattle.tables.proofs.Judging.{out_judged, first-judged, low_judged, new_judged, more-judged, ninth-judged}
use Rattle.tables.proofs.Judging.{seen_range, seen_below, seen_from, unseen_from}
use Rattle.tables.proofs.check.check_row.Goals as goal

pub returns-then-not-in_range : goal.returns-then-not-in_range
returns-then-not-in_range c = out_judged _ _ _ _
    (seen_range _ _ c.row_of-row.ensures c.row_of-row.ensures _ _
    c.in_range.ensures c.if-not-in_range.true)

pub returns-then-i-eq0 : goal.returns-then-i-eq0
returns-then-i-eq0 c = first-judged _ _ _ _
    (seen_range _ _ c.row_of-row.ensures c.row_of-row.ensures _ _ c.in_range.ensures
    c.if-not-in_range.false) c.if-i-eq0.true

pub returns-then-le : goal.returns-then-le
returns-then-le c = low_judged _ _ _ _
    (seen_range _ _ c.row_of-row.ensures c.row_of-row.ensures _ _ c.in_range.ensures c.if-not-in_range.false)
    c.if-i-eq0.false
    (seen_below _ _ c.row_of-last.ensures c.row_of-row.ensures c.le.ensures c.if-le.true)

pub returns-then-last-row : goal.returns-then-last-row
returns-then-last-row c = new_judged _ _ _ _
    (seen_range _ _ c.row_of-row.ensures c.row_of-row.ensures _ _ c.in_range.ensures
    c.if-not-in_range.false) c.if-i-eq0.false
    (seen_below _ _ c.row_of-last.ensures c.row_of-row.ensures c.le.ensures
    c.if-le.false) _ c.requires.1
    (unseen_from _ _ c.row_of-last.ensures c.row_of-row.ensures c.if-last-row.true)

pub returns-then-earlier-ge8 : goal.returns-then-earlier-ge8
returns-then-earlier-ge8 c = ninth-judged _ _ _ _ (seen_range _ _ c.row_of-row.ensures c.row_of-row.ensures _ _
    c.in_range.ensures c.if-not-in_range.false)
    c.if-i-eq0.false
    (seen_below _ _ c.row_of-last.ensures c.row_of-row.ensures c.le.ensures c.if-le.false) _
    c.requires.1 (seen_from _ _ c.row_of-last.ensures c.row_of-row.ensures c.if-last-row.false) c.if-earlier-ge8.true

pub returns : goal.returns
returns c = more-judged _ _ _ _ (seen_range _ _ c.row_of-row.ensures c.row_of-row.ensures _ _ c.in_range.ensures
    c.if-not-in_range.false)
    c.if-i-eq0.false
    (seen_below _ _ c.row_of-last.ensures c.row_of-row.ensures c.le.ensures c.if-le.false) _
    c.requires.1 (seen_from _ _ c.row_of-last.ensures c.row_of-row.ensures c.if-last-row.false) c.if-earlier-ge8.false
