-- The reading's two cases.
use mathlib.Core.Path.{refl}
use Rattle.casebook.specs.Reading.{read_answer}
use Rattle.engine.specs.Answers.{nothing}
use Rattle.engine.proofs.Answers.{gives, refuses}
use Rattle.engine.proofs.yenuslap_casebook_read.Goals as goal

pub returns-in-Ok : goal.returns-in-Ok
unfolding read_answer nothing
returns-in-Ok c = gives read_answer c.read.ensures c.in-Ok.is nothing _ refl refl

pub returns-in-Err : goal.returns-in-Err
unfolding read_answer nothing
returns-in-Err c = refuses read_answer c.read.ensures c.in-Err.is nothing c.in-Err.refusal refl refl
    c.refused.ensures
