-- A verdict's number, by its case.
use mathlib.Core.Path.{refl}
use mathlib.Core.List.{[], ◌∷◌}
use Rattle.verdict.specs.Verdicts.{verdict_answer, bit_of}
use Rattle.engine.specs.Answers.{only}
use Rattle.engine.proofs.Answers.{gives, refuses, bit_told}
use Rattle.engine.proofs.verdict_value.Goals as goal

pub returns-in-Ok : goal.returns-in-Ok
unfolding only verdict_answer
returns-in-Ok c = gives verdict_answer refl c.in-Ok.is only (bit_of _ ∷ []) refl (bit_told _ c.from.ensures)

pub returns-in-Err : goal.returns-in-Err
unfolding only verdict_answer
returns-in-Err c = refuses verdict_answer refl c.in-Err.is only c.in-Err.refusal refl refl c.refused.ensures
