-- The formula's words, the rows of each state, then the verdict.
use Rattle.verdict.proofs.Calls.{legal_whole, legal_ready, legal_given}
use Rattle.verdict.proofs.answer.verdict_by_words.Goals as goal

pub write_code-forwards-requires-clause-whole : goal.write_code-forwards-requires-clause-whole
write_code-forwards-requires-clause-whole c = legal_whole _ _ c.requires.legal

pub holds-held-requires-clause-ready : goal.holds-held-requires-clause-ready
holds-held-requires-clause-ready c = legal_ready _ _ c.requires.legal _ _ _ c.write_code-forwards.ensures.words
    c.requires.held.2 c.requires.held.0 c.requires.held.1

pub returns : goal.returns
returns c = let same = rw c.write_code-forwards.ensures.forwards at c.look_up.ensures.same in
    legal_given _ _ c.requires.legal _ _ _ c.look_up.new.grids _ c.write_code-forwards.ensures.words same _ _
    c.holds-held.ensures.value
