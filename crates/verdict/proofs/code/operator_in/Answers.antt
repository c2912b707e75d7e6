-- The part of the word that the definition names.
use Rattle.verdict.specs.Working.{operator_in}
use borrow.Author.Rules.{rules}
use Rattle.verdict.proofs.code.operator_in.Goals as goal

pub returns : goal.returns
unfolding operator_in
returns c = search rules
