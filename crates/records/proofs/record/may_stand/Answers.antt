-- What `any` answers is what the definition says.
use Prim.Native.Nat.{ℕ}
use mathlib.Core.Path.{refl, ◌∙◌}
use mathlib.Core.Bool.{Bool, ◌||◌}
use lib.Dec.{eqb}
use borrow.Author.Tests.{tests}
use Rattle.std.proofs.Common.{rules}
use Rattle.std.specs.List.{list_any}
use Rattle.std.proofs.lemmas.Iterator.{YieldsList-from_slice}
use Rattle.std.proofs.lemmas.Iterator.Search.{any_from_yields_List}
use Rattle.std.proofs.lemmas.List.Recursion.{same_from_clauses}
use Rattle.hml.specs.Lists.{any}
use Rattle.records.specs.Records.{may_stand}
use Rattle.records.proofs.record.may_stand.Goals as goal

pub returns : goal.returns
unfolding may_stand
returns c = let same = λ (k : ℕ). eqb k c.args.kind in
    any_from_yields_List same _ _ c.any.result c.any.ensures.ran (YieldsList-from_slice c.args.kinds.now cc)
    (λ x b q k. search (rules, tests))
    ∙ same_from_clauses (list_any same) (any same) (λ (k : ℕ) (b : Bool). same k || b) refl (λ _ _. refl) (λ _ _. refl)
    c.args.kinds.now
