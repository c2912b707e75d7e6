-- The count decides, then the number, then the room for each half.
use mathlib.Core.Path.{sym, ◌∙◌}
use Rattle.labels.proofs.Refusals.{handed_on}
use Rattle.splitting.proofs.SplitCalls.{count_refuses, number_refused, room_short, split_sound}
use Rattle.splitting.proofs.split.check_split.Goals as goal

pub returns-in_err-splittings : goal.returns-in_err-splittings
returns-in_err-splittings c = handed_on c.from_residual.ensures.1
    ∙ count_refuses _ _ _ _ _ _ _ _ (sym c.count.ensures ∙ c.in_err-splittings.was)

pub returns-then-splittings-number : goal.returns-then-splittings-number
returns-then-splittings-number c = number_refused _ _ _ _ _ _ _ _
    (sym c.count.ensures ∙ c.in_ok-splittings.was) c.if-splittings-number.true

pub returns-then-left_room-len : goal.returns-then-left_room-len
returns-then-left_room-len c = room_short _ _ _ _ _ _ _ _ (sym c.count.ensures ∙ c.in_ok-splittings.was)
    c.if-splittings-number.false c.then-left_room-len.either

pub returns : goal.returns
returns c = split_sound _ _ _ _ _ _ _ _ (sym c.count.ensures ∙ c.in_ok-splittings.was)
    c.if-splittings-number.false c.if-left_room-len.false c.if-right_room-len.false
