-- How the code works: what functions ask for and promise that serve others. No call's promise cites this file.
use Rattle.std.specs.Prelude.{ℕ, ◌+◌, ◌≤◌, List, length}

-- parts short enough for their records, and room for all of them
pub record Fitting (l r j q out : List ℕ) : Type 0 where
  pub left : length l ≤ 1537
  pub right : length r ≤ 1537
  pub run : length j ≤ 602
  pub question : length q ≤ 128
  pub room : 21 + length l + length r + length j + length q ≤ length out
