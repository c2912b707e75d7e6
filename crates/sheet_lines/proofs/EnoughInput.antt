-- What a program that reads only the front of its input relies on: one byte more than the longest casebook has is
-- enough.
use Prim.Native.Nat.{ℕ, ◌<◌}
use mathlib.Core.Path.{◌≡◌, ap}
use mathlib.Core.Logic.{⊎_elim}
use mathlib.Core.List.{List}
use lib.ListN.{take}
use Rattle.casebook.specs.Reading.{longest_casebook}
use Rattle.casebook.proofs.Enough.{judged_by_front}
use Rattle.sheet_lines.specs.Sheets.{read_lines, sheet_of}

-- the sheet of the first n bytes is that of all, if n is more than the longest casebook has
pub sheet_early : (n : ℕ) → longest_casebook < n → (s : List ℕ) → sheet_of (take n s) ≡ sheet_of s
unfolding sheet_of read_lines
sheet_early n h s = ⊎_elim (λ e. ap sheet_of e) (λ (z, a, b). rw (a, b)) (judged_by_front n h s)
