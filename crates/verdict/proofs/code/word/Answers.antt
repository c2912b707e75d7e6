-- Each return is the word by whether the operator has two operands.
use mathlib.Core.Path.{sym, ◌∙◌}
use Rattle.verdict.specs.Working.{word_of}
use Rattle.verdict.proofs.code.word.Goals as goal

pub returns-then-has_two : goal.returns-then-has_two
unfolding word_of
returns-then-has_two c = let two = sym c.has_two.ensures ∙ c.if-has_two.true in rw two

pub returns : goal.returns
unfolding word_of
returns c = let one = sym c.has_two.ensures ∙ c.if-has_two.false in rw one
