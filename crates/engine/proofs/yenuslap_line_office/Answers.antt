-- Two bits, or the refusal.
use native.Mathlib.Omega.{arith}
use mathlib.Core.Path.{refl}
use mathlib.Core.List.{[], ◌∷◌}
use Rattle.verdict.specs.Verdicts.{bit_of}
use Rattle.verdict.proofs.Values.{bit_small}
use Rattle.quotient.specs.Calls.{line_answer}
use Rattle.engine.specs.Answers.{two_bits}
use Rattle.engine.proofs.Answers.{gives, refuses, bit_told}
use Rattle.engine.proofs.yenuslap_line_office.Goals as goal

pub overflow_mul-result : goal.overflow_mul-result
overflow_mul-result c = omega (arith, bit_told _ c.from.ensures, bit_small c.in-Ok.line)

pub overflow_add-result : goal.overflow_add-result
overflow_add-result c = omega (
  arith,
  bit_told _ c.from.ensures,
  bit_told _ c.from-in-Ok.ensures,
  bit_small c.in-Ok.line,
  bit_small
      c.in-Ok.machine,
)

pub returns-in-Ok : goal.returns-in-Ok
unfolding line_answer two_bits
returns-in-Ok c = let e = rw (c.of_pairs-labels.ensures, c.side_of-side.ensures) at c.line_office.ensures.value in
    gives line_answer e c.in-Ok.is two_bits (bit_of _ ∷ bit_of _ ∷ []) refl
    (rw (bit_told _ c.from.ensures, bit_told _ c.from-in-Ok.ensures))

pub returns-in-Err : goal.returns-in-Err
unfolding line_answer two_bits
returns-in-Err c = let e = rw (c.of_pairs-labels.ensures, c.side_of-side.ensures) at c.line_office.ensures.value in
    refuses line_answer e c.in-Err.is two_bits c.in-Err.refusal refl refl c.refused.ensures
