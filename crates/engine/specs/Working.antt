-- How the code works: what functions ask for and promise that serve others. No call's promise cites this file.
use Rattle.std.specs.Prelude.{ℕ, ◌+◌, ◌≤◌, List, Ok}
use Rattle.casebook.specs.Reading.{longest_casebook, read_answer}
use Rattle.casebook.specs.declared.read.Parts.{Parts}

-- the values of a casebook that was read
abbrev pub places_of : Parts → List ℕ
places_of p = (read_answer (Ok p)).values

-- records that lie in a sound casebook
pub record Placed (p : Parts) : Type 0 where
  pub labels : p.labels.start + p.labels.len ≤ longest_casebook
  pub left : p.left.start + p.left.len ≤ longest_casebook
  pub right : p.right.start + p.right.len ≤ longest_casebook
  pub run : p.run.start + p.run.len ≤ longest_casebook
  pub question : p.question.start + p.question.len ≤ longest_casebook
