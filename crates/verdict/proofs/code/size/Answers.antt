-- Each return is the size by what is known of the operator.
use mathlib.Core.Path.{sym, ◌∙◌}
use borrow.Author.Tests.{le-leb, lt-leb}
use Rattle.verdict.specs.Working.{size_by}
use Rattle.verdict.proofs.code.size.Goals as goal

pub returns-then-operator-le1 : goal.returns-then-operator-le1
unfolding size_by
returns-then-operator-le1 c = rw (le-leb _ _ c.if-operator-le1.true)

pub returns-then-has_two : goal.returns-then-has_two
unfolding size_by
returns-then-has_two c = let two = sym c.has_two.ensures ∙ c.if-has_two.true in
    rw (lt-leb _ _ c.if-operator-le1.false, two)

pub returns : goal.returns
unfolding size_by
returns c = let one = sym c.has_two.ensures ∙ c.if-has_two.false in
    rw (lt-leb _ _ c.if-operator-le1.false, one)
