-- All splittings of a joint run. A splitting (a term of document 01) chooses one way for each step. Source document 000
-- has them as the decompositions D, picked by which side changed; here all ways count. That they are the pairs of runs
-- that join to the run, and no others, is proved in proofs/Splits.
use Rattle.std.specs.Prelude.{List, [], ◌∷◌, map, ℕ, Bool, ◌&&◌}
use Rattle.hml.specs.Lists.{same, only, each}
use Rattle.hml.specs.System.{System, Step, move, idle, Run, start, ◌▸◌, last, Pairing}
use Rattle.hml.specs.Compose.{halves, joint, ways}

-- two runs, each with one more step
abbrev pub grown : {S T : Type 0} → Run S × Run T → Step S × Step T → Run S × Run T
grown h k = (h.0 ▸ k.0, h.1 ▸ k.1)

-- the states of the two systems are told apart by these tests
module _ (P : Pairing) {S T : Type 0} (sameLeft : S → S → Bool) (sameRight : T → T → Bool) (L : System S) (R : System T)
  where
    -- have two joint moves the same label and targets?
    abbrev pub same_move : ℕ × (S × T) → ℕ × (S × T) → Bool
    same_move u v = same u.0 v.0 && (sameLeft u.1.0 v.1.0 && sameRight u.1.1 v.1.1)

    -- the splittings of one step from u
    abbrev pub options : S × T → Step (S × T) → List (Step S × Step T)
    options u (move c v) =
        each (λ w. only (same_move (joint u.0 u.1 w) (c, v)) (halves w)) (ways P L R u.0 u.1)
    options u idle = (idle, idle) ∷ []

    -- the splittings of a run: the first step varies slowest
    unfoldable pub splits : Run (S × T) → List (Run S × Run T)
    splits (start u) = (start u.0, start u.1) ∷ []
    splits (j ▸ s) = each (λ h. map (grown h) (options (last j) s)) (splits j)
