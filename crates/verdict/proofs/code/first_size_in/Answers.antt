-- The part of the word that the definition names.
use Rattle.verdict.specs.Working.{first_size_in}
use borrow.Author.Rules.{rules}
use Rattle.verdict.proofs.code.first_size_in.Goals as goal

pub returns : goal.returns
unfolding first_size_in
returns c = search rules
