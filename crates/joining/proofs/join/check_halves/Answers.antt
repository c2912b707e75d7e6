-- The labels, the tables and halves, then whether the halves match.
use mathlib.Core.Path.{sym, ◌∙◌}
use Rattle.labels.proofs.Refusals.{handed_on}
use Rattle.joining.proofs.JoinCalls.{runs_bytes, labels_refuse, runs_refuse, halves_sound, halves_refused}
use Rattle.joining.proofs.join.check_halves.Goals as goal

pub returns-in_err-check : goal.returns-in_err-check
returns-in_err-check c = handed_on c.from_residual.ensures.1
    ∙ labels_refuse _ _ _ _ _ _ (sym c.check.ensures ∙ c.in_err-check.was)

pub returns-in_err-check_runs : goal.returns-in_err-check_runs
returns-in_err-check_runs c = let labels = sym c.check.ensures ∙ c.in_ok-check.was in
    handed_on c.from_residual-in_err-check_runs.ensures.1
    ∙ runs_refuse _ _ _ _ _ labels _ (sym c.check_runs.ensures ∙ c.in_err-check_runs.was)

pub halves_match-requires : goal.halves_match-requires
halves_match-requires c = runs_bytes _ _ _ _ _ (sym c.check_runs.ensures ∙ c.in_ok-check_runs.was)

pub returns-then-not-halves_match : goal.returns-then-not-halves_match
returns-then-not-halves_match c = let labels = sym c.check.ensures ∙ c.in_ok-check.was in
    let runs = sym c.check_runs.ensures ∙ c.in_ok-check_runs.was in
    halves_refused _ _ _ _ _ labels runs (sym c.halves_match.ensures ∙ c.if-not-halves_match.true)

pub returns : goal.returns
returns c = let labels = sym c.check.ensures ∙ c.in_ok-check.was in
    let runs = sym c.check_runs.ensures ∙ c.in_ok-check_runs.was in
    halves_sound _ _ _ _ _ labels runs (sym c.halves_match.ensures ∙ c.if-not-halves_match.false)
