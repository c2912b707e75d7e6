-- The reading's two cases; the lent output is what it left.
use mathlib.Core.Path.{refl}
use mathlib.Core.List.{[], ◌∷◌}
use native.Mathlib.Omega.{arith}
use Rattle.aldebaran.specs.Reading.{table_answer}
use Rattle.engine.specs.Answers.{table_told}
use Rattle.engine.proofs.Answers.{gives, refuses, table_small}
use Rattle.engine.proofs.texts.yenuslap_aldebaran_read.Goals as goal

pub overflow_mul-result : goal.overflow_mul-result
overflow_mul-result c = omega (arith, table_small _ _ _ _ _ c.read.ensures.value c.in-Ok.is)

pub overflow_add-result : goal.overflow_add-result
overflow_add-result c = omega (arith, table_small _ _ _ _ _ c.read.ensures.value c.in-Ok.is)

pub returns-in-Ok : goal.returns-in-Ok
unfolding table_answer table_told
returns-in-Ok c = record {
  value = gives table_answer c.read.ensures.value c.in-Ok.is table_told (_ ∷ _ ∷ []) refl refl;
  table_out_after = c.read.ensures.out_after;
}

pub returns-in-Err : goal.returns-in-Err
unfolding table_answer table_told
returns-in-Err c = record {
  value = refuses table_answer c.read.ensures.value c.in-Err.is table_told c.in-Err.refusal refl refl
      c.refused.ensures;
  table_out_after = c.read.ensures.out_after;
}
