-- Joining as a function: the one run that two matching halves give, or none. Document 01: "Two steps match if they form
-- one of the ways, and two halves match if they are equally long and match at each step."
use Rattle.hml.specs.Lists.{guard}
use Rattle.hml.specs.System.{Step, move, idle, Run, start, ◌▸◌, last, Pairing}
use Rattle.hml.specs.Compose.{shakes}
use Rattle.std.specs.Prelude.{None, Option, Some}

module _ (P : Pairing) {S T U : Type 0} (pair : S → T → U) where
  -- the joint step that two steps from p and q form
  abbrev pub join_step : S → T → Step S → Step T → Option (Step U)
  join_step p q (move a p') (move b q') = guard (shakes P a b) (move 0 (pair p' q'))
  join_step p q (move a p') idle = Some (move a (pair p' q))
  join_step p q idle (move b q') = Some (move b (pair p q'))
  join_step p q idle idle = Some idle

  abbrev pub extend : Option (Run U) → Option (Step U) → Option (Run U)
  extend None t = None
  extend (Some j) None = None
  extend (Some j) (Some s) = Some (j ▸ s)

  unfoldable pub join : Run S → Run T → Option (Run U)
  join (start p) (start q) = Some (start (pair p q))
  join (start p) (r ▸ t) = None
  join (l ▸ s) (start q) = None
  join (l ▸ s) (r ▸ t) = extend (join l r) (join_step (last l) (last r) s t)
