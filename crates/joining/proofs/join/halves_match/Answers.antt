-- Each step is looked at: the law of `all`.
use Rattle.std.proofs.Common.{rules}
use Rattle.std.proofs.lemmas.Iterator.{cases_from_all, YieldsList-from_range}
use mathlib.Core.Path.{refl}
use Rattle.joining.proofs.Joined.{match_uneven, match_searched, found_is}
use Rattle.joining.proofs.join.halves_match.Goals as goal
use borrow.Author.Tests.{tests}
use mathlib.Core.Bool.{true, false}
use lib.ListN.{length}
use Prim.Native.Nat.{◌/◌}
use native.Mathlib.Omega.{arith}

pub returns-then-left-right : goal.returns-then-left-right
returns-then-left-right c = match_uneven _ _ _ c.requires.0 c.requires.1 c.if-left-right.true

pub returns : goal.returns
returns c = match_searched _ _ _ c.requires.0 c.requires.1 c.if-left-right.false _
    (cases_from_all _ _ _
    (found_is c.args.labels c.args.left.now c.args.right.now true)
    (found_is c.args.labels c.args.left.now c.args.right.now false)
    c.all.ensures.ran
    (YieldsList-from_range 0 (length c.args.left.now / 2) (length c.args.left.now / 2) refl (omega arith))
    (λ x q k. search (rules, tests)) (λ x q k. search (rules, tests)))
