-- The depth of a formula's back modalities: none in bytes that are no formula, else what the measure says.
use Prim.Native.Nat.{ℕ, ◌≤◌}
use mathlib.Core.Path.{◌≡◌, ◌∙◌, ap}
use mathlib.Core.List.{List, []}
use native.Mathlib.Omega.{arith}
use lib.ListN.{length}
use Rattle.hml.specs.Formula.{Formula}
use Rattle.hml.specs.Working.{backs}
use Rattle.hml.specs.Spell.{spell}
use Rattle.formulas.specs.Formulas.{formula_of}
use Rattle.formulas.specs.Working.{backs_in, backs_of, measure_of}
use Rattle.formulas.specs.declared.tree.Measure.{Measure}
use Rattle.formulas.proofs.Measures.{measure_spell, depths_size}
use Rattle.formulas.proofs.Checking.{formula_spell, formula_length}
use Rattle.std.specs.Prelude.{None}

module _ (f : List ℕ) where
  pub no_backs : formula_of f ≡ None → (0 ≡ backs_of f) × (0 ≤ length f)
  unfolding backs_of backs_in
  no_backs e = (rw e, omega arith)

  module _ (φ : Formula) (e : f ≡ spell φ []) where
    pub formula_backs : backs_of f ≡ backs φ
    unfolding backs_of backs_in
    formula_backs = rw (e, formula_spell φ)

    pub backs_seen : (m : Measure) → m ≡ measure_of f → (m.backs ≡ backs_of f) × (m.backs ≤ length f)
    backs_seen m g =
        let b : m.backs ≡ backs φ = ap (λ (x : Measure). x.backs) (g ∙ ap measure_of e ∙ measure_spell φ []) in
        (rw formula_backs b, omega (arith, b, depths_size φ, formula_length f φ e))
