-- At each return the tests say which case of the definition holds.
use native.Mathlib.Omega.{arith}
use mathlib.Core.Path.{refl, sym, ◌∙◌}
use Rattle.std.proofs.Common.{eqb-true}
use Rattle.std.proofs.lemmas.Bool.{eqb-false}
use Rattle.labels.proofs.Labels.{silent-found, idle-found, odd-found, even_found}
use Rattle.labels.proofs.label.Label.partner.Goals as goal
use Rattle.labels.proofs.label.Label.partner.Goals.{then-is_silent-via-then-is_silent}
use Rattle.labels.proofs.label.Label.partner.Goals.{then-is_silent-via-else-is_silent+then-is_idle}

pub returns-then-is_silent : goal.returns-then-is_silent
returns-then-is_silent c = elim c.then-is_silent.branch [
  | then-is_silent-via-then-is_silent w ↦ silent-found _ (eqb-true _ _ (sym c.is_silent.ensures ∙ w.if-is_silent.true))
  | then-is_silent-via-else-is_silent+then-is_idle w ↦
      idle-found _ (eqb-true _ _ (sym w.is_idle.ensures ∙ w.if-is_idle.true))
]

pub returns-then-code-eq1 : goal.returns-then-code-eq1
returns-then-code-eq1 c = odd-found _ _ (omega arith) (eqb-false _ _ (sym c.is_idle.ensures ∙ c.if-is_idle.false))
    (eqb-false _ _ (sym c.is_silent.ensures ∙ c.if-is_silent.false)) c.if-code-eq1.true refl

pub returns-else-code-eq1 : goal.returns-else-code-eq1
returns-else-code-eq1 c = even_found _ _ (omega arith) (eqb-false _ _ (sym c.is_idle.ensures ∙ c.if-is_idle.false))
    (eqb-false _ _ (sym c.is_silent.ensures ∙ c.if-is_silent.false)) c.if-code-eq1.false refl
