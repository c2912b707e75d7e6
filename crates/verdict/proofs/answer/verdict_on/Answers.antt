-- What a chain tells, or the verdict by words.
use Rattle.verdict.proofs.Calls.{told_given}
use Rattle.verdict.proofs.answer.verdict_on.Goals as goal

pub returns-in-Some : goal.returns-in-Some
returns-in-Some c = told_given _ _ c.requires.legal _ _ _ _ _ c.judge_chain.ensures _ c.in-Some.is
