-- The record of a part of the run has the bytes of that part.
use mathlib.Core.Path.{ap}
use native.Mathlib.Omega.{arith}
use Rattle.machines.specs.Cases.{with_run}
use Rattle.casebook.specs.Reading.{case_of}
use Rattle.sheet_lines.specs.Working.{shown, between}
use Rattle.sheet_lines.proofs.CaseLaws.{part-within, part_body}
use Rattle.sheet_lines.proofs.case.Case.part.Goals as goal

pub overflow_mul-run : goal.overflow_mul-run
unfolding case_of
overflow_mul-run c = omega (
  arith,
  part-within c.args.self.bytes.now c.args.self.parts.run _ _ c.requires.0 c.requires.1,
  c.well_formed,
)

pub overflow_add-run : goal.overflow_add-run
unfolding case_of
overflow_add-run c = omega (
  arith,
  part-within c.args.self.bytes.now c.args.self.parts.run _ _ c.requires.0 c.requires.1,
  c.well_formed,
)

pub overflow_mul-run-2 : goal.overflow_mul-run-2
unfolding case_of
overflow_mul-run-2 c = omega (
  arith,
  part-within c.args.self.bytes.now c.args.self.parts.run _ _ c.requires.0 c.requires.1,
  c.well_formed,
)

pub overflow_add-run-2 : goal.overflow_add-run-2
unfolding case_of
overflow_add-run-2 c = omega (
  arith,
  part-within c.args.self.bytes.now c.args.self.parts.run _ _ c.requires.0 c.requires.1,
  c.well_formed,
)

pub returns : goal.returns
unfolding case_of between
returns c = ap (with_run (shown c.args.self))
    (part_body c.args.self.bytes.now c.args.self.parts.run _ _ c.requires.0 c.requires.1)
