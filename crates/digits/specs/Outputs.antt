-- Bytes written into an output, from a place on, if they have room.
use Rattle.std.specs.Prelude.{ℕ, ◌+◌, Bool, cond, List, length, leb}
use Rattle.std.proofs.lemmas.List.Edits.{sets}

-- bytes written over those of a list, from a place on
unfoldable pub put_at : List ℕ → ℕ → List ℕ → List ℕ
put_at xs at bytes = sets xs at bytes

-- whether a list has room for bytes from a place on
unfoldable pub room_at : List ℕ → ℕ → List ℕ → Bool
room_at xs at bytes = leb (at + length bytes) (length xs)

-- the list afterwards, where bytes are written only if all of them have room, and the place behind them, or the same
-- place if they have none
unfoldable pub put_if_room : List ℕ → ℕ → List ℕ → List ℕ
put_if_room xs at bytes = cond (room_at xs at bytes) (put_at xs at bytes) xs

unfoldable pub behind_if_room : List ℕ → ℕ → List ℕ → ℕ
behind_if_room xs at bytes = cond (room_at xs at bytes) (at + length bytes) at
