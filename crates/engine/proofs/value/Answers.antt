-- What a call gives, by its case.
use mathlib.Core.Path.{refl}
use mathlib.Core.List.{[], ◌∷◌}
use Rattle.labels.specs.Refusals.{value_answer}
use Rattle.engine.specs.Answers.{only}
use Rattle.engine.proofs.Answers.{gives, refuses}
use Rattle.engine.proofs.value.Goals as goal

pub returns-in-Ok : goal.returns-in-Ok
unfolding only value_answer
returns-in-Ok c = gives value_answer refl c.in-Ok.is only (_ ∷ []) refl refl

pub returns-in-Err : goal.returns-in-Err
unfolding only value_answer
returns-in-Err c = refuses value_answer refl c.in-Err.is only c.in-Err.refusal refl refl
    c.refused.ensures
