-- The arm says the kind.
use native.Mathlib.Omega.{arith}
use Rattle.engine.proofs.Answers.{place_1, place_2, place_3, place_4, place_5, no_place}
use Rattle.engine.proofs.place_in.Goals as goal

pub returns-in-1 : goal.returns-in-1
returns-in-1 c = place_1 c.args.parts _ c.in-1.is c.place.ensures

pub returns-in-2 : goal.returns-in-2
returns-in-2 c = place_2 c.args.parts _ c.in-2.is c.place-in-2.ensures

pub returns-in-3 : goal.returns-in-3
returns-in-3 c = place_3 c.args.parts _ c.in-3.is c.place-in-3.ensures

pub returns-in-4 : goal.returns-in-4
returns-in-4 c = place_4 c.args.parts _ c.in-4.is c.place-in-4.ensures

pub returns-in-5 : goal.returns-in-5
returns-in-5 c = place_5 c.args.parts _ c.in-5.is c.place-in-5.ensures

pub returns-in_default : goal.returns-in_default
returns-in_default c = no_place _ _ (λ e. omega (arith, e)) (λ e. omega (arith, e)) (λ e. omega (arith, e))
    (λ e. omega (arith, e)) (λ e. omega (arith, e))
