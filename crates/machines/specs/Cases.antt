-- A case: what an exam paper shows. The labels, the tables of the two machines, the joint run and the question, each as
-- the body of its record.
use Rattle.std.specs.Prelude.{ℕ, List}
use Rattle.labels.specs.declared.label.Labels.{Labels}

pub record Case : Type 0 where
  pub labels : Labels
  pub left : List ℕ
  pub right : List ℕ
  pub run : List ℕ
  pub question : List ℕ

-- the case of these parts
abbrev pub case_with : Labels → List ℕ → List ℕ → List ℕ → List ℕ → Case
case_with k l r s f = record { labels = k; left = l; right = r; run = s; question = f }

-- the same case with another joint run, as a part of the run is
abbrev pub with_run : Case → List ℕ → Case
with_run c s = record { labels = c.labels; left = c.left; right = c.right; run = s; question = c.question }
