-- The reading's two cases; a casebook that was read is short, so its places fit.
use native.Mathlib.Omega.{arith}
use mathlib.Core.Path.{refl}
use Rattle.casebook.specs.Reading.{read_answer}
use Rattle.engine.specs.Answers.{place_in}
use Rattle.engine.proofs.Answers.{placed, no_places, gives, refuses}
use Rattle.engine.proofs.yenuslap_casebook_part.Goals as goal

pub place_in-requires : goal.place_in-requires
place_in-requires c = placed _ (λ i. omega (arith, c.type_inv.bytes i)) _ _ c.read.ensures c.in-Ok.is

pub returns-in-Ok : goal.returns-in-Ok
unfolding read_answer
returns-in-Ok c = gives read_answer c.read.ensures c.in-Ok.is (place_in _) _ refl c.place_in.ensures

pub returns-in-Err : goal.returns-in-Err
unfolding read_answer
returns-in-Err c = refuses read_answer c.read.ensures c.in-Err.is (place_in _) c.in-Err.refusal
    (no_places _) refl c.refused.ensures
