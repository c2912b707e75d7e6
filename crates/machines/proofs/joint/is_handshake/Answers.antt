-- The left rows of the state are tried one after the other.
use Rattle.std.proofs.Common.{rules, get_or, ◌≡◌, ℕ, Bool, List}
use borrow.Author.Tests.{tests}
use mathlib.Core.Path.{sym, ◌∙◌, ap}
use Rattle.std.specs.List.{list_any}
use Rattle.std.proofs.lemmas.Iterator.{YieldsList-from_slice}
use Rattle.std.proofs.lemmas.Iterator.Search.{any_from_yields_List}
use Rattle.labels.specs.Labels.{pairing}
use Rattle.tables.specs.Working.{moves_in}
use Rattle.tables.proofs.Searching.{rows_searched}
use Rattle.machines.specs.Working.{is_answered}
use Rattle.machines.proofs.Joints.{answered_as}
use Rattle.machines.proofs.joint.is_handshake.Goals as goal

-- the code's test of a row of the left
abbrev answers_row : (c : goal.After-any) → List ℕ → Bool
answers_row c x = is_answered (pairing c.args.labels) (moves_in c.args.right.now) c.args.to.left c.args.to.right
    (get_or x 1 0, get_or x 2 0)

found : (c : goal.After-any) → c.any.result ≡ list_any (answers_row c) c.rows_in.result.now
found c = any_from_yields_List (answers_row c) _ _ _ c.any.ensures.ran
    (YieldsList-from_slice c.rows_in.result.now c.iter.ensures.rest) (λ x b q k. search (rules, tests, answered_as))

pub returns : goal.returns
returns c = rw (sym c.is_silent.ensures ∙ c.if-not-is_silent.false)
    (found c ∙ ap (list_any (answers_row c)) c.rows_in.ensures
    ∙ rows_searched (is_answered (pairing c.args.labels) (moves_in c.args.right.now) c.args.to.left c.args.to.right)
    c.args.left.now)
