-- The line at a place of a text.
use Prim.Native.Nat.{ℕ, ◌-◌, ◌≤◌, ◌<◌}
use mathlib.Core.Path.{◌≡◌, refl, sym, ◌∙◌, ap}
use mathlib.Core.List.{List, [], ◌∷◌, ◌++◌}
use mathlib.Core.Logic.{◌⊎◌, inl, inr}
use native.Mathlib.Omega.{arith}
use lib.ListN.{length, take, drop, length-append, length-drop}
use Rattle.aldebaran_form.specs.Forms.{line_feed, Line}
use Rattle.aldebaran_form.specs.Lines.{next, line_in, label_of}
use Rattle.aldebaran.specs.Reading.{lines_of, lines_in}
use Rattle.aldebaran.specs.Working.{RowFound, row_lines}
use Rattle.aldebaran_form.specs.Working.{rest_at, row_in, line_found, label_found}
use Rattle.aldebaran_form.specs.declared.line.RowLine.{RowLine}
use Rattle.hml.proofs.Tests.{apart}
use Rattle.aldebaran_form.proofs.Lacks.{Lacks}
use Rattle.aldebaran_form.proofs.Scanning.{rest_in}
use Rattle.aldebaran_form.proofs.LineReading.{next-next}
use Rattle.aldebaran_form.proofs.LinesInTexts.{row_feed, row_open, FirstLine, first-line}
use Rattle.aldebaran.proofs.LineSplitting.{lines-nil, lines_feed, lines_none}
use Rattle.labels.specs.declared.label.Label.{Label}
use Rattle.std.specs.Prelude.{None, Option, Some}

-- a line in front of the others
module _ (line : List ℕ) where
  in_front_lem : (o : Option (List (List ℕ)))
      → next (next o (λ ls. Some (line ∷ ls))) lines_in
      ≡ next (line_in line) (λ l. next (next o lines_in) (λ ls. Some (l ∷ ls)))
  unfolding lines_in
  in_front_lem None = go (line_in line)
    where
      go : (x : Option Line) → ◌≡◌ {A = Option (List Line)} None (next x (λ l. None))
      go None = refl
      go (Some l) = refl
  in_front_lem (Some ls) = refl

-- the rows of a text that begins with a line
pub rows_feed : (line rest : List ℕ) → Lacks line_feed line
    → row_lines (line ++ (line_feed ∷ rest))
    ≡ next (line_in line) (λ l. next (row_lines rest) (λ ls. Some (l ∷ ls)))
unfolding row_lines
rows_feed line rest w = ap (λ o. next o lines_in) (lines_feed line rest w) ∙ in_front_lem line (lines_of rest)

pub rows-nil : row_lines [] ≡ Some []
unfolding row_lines lines_in
rows-nil = rw lines-nil

pub rows_none : (l : List ℕ) → Lacks line_feed l → 1 ≤ length l → row_lines l ≡ None
unfolding row_lines
rows_none l w h = rw (lines_none l w h)

-- a text begins with a line of the form and goes on behind it, or is none of the form
pub rows_next : (l : List ℕ) → 1 ≤ length l
    → row_lines l ≡ next (row_in l) (λ p. next (row_lines p.1) (λ ls. Some (p.0 ∷ ls)))
rows_next l h = go (first-line l)
  where
    after : Line × List ℕ → Option (List Line)
    after p = next (row_lines p.1) (λ ls. Some (p.0 ∷ ls))

    go : FirstLine l ⊎ Lacks line_feed l → row_lines l ≡ next (row_in l) after
    go (inl f) = ap row_lines f.split ∙ rows_feed f.line f.rest f.lacks
        ∙ next-next (line_in f.line) (λ x. Some (x, f.rest)) after
        ∙ ap (λ o. next o after) (sym (ap row_in f.split ∙ row_feed f.line f.rest f.lacks))
    go (inr v) = rows_none l v h ∙ ap (λ o. next o after) (sym (row_open l v))

-- what stands behind a line is shorter
row_shorter : (l : List ℕ) (p : Line × List ℕ) → row_in l ≡ Some p → length p.1 < length l
row_shorter l p e = go (first-line l)
  where
    rest_of : (f : FirstLine l) (o : Option Line) → next o (λ x. Some (x, f.rest)) ≡ Some p → p.1 ≡ f.rest
    rest_of f None q = absurd (apart cc)
    rest_of f (Some x) q =
        let z : ◌≡◌ {A = Line × List ℕ} (x, f.rest) p = cc in
        sym (ap (λ y. y.1) z)

    go : FirstLine l ⊎ Lacks line_feed l → length p.1 < length l
    go (inl f) =
        let q : p.1 ≡ f.rest = rest_of f (line_in f.line)
        (sym (row_feed f.line f.rest f.lacks) ∙ sym (ap row_in f.split) ∙ e) in
        omega (arith, ap length q, ap length f.split, length-append f.line (line_feed ∷ f.rest))
    go (inr v) = let z : ◌≡◌ {A = Option (Line × List ℕ)} None (Some p) = sym (row_open l v) ∙ e in absurd (apart cc)

-- what row_line found at a place
module _ (text : List ℕ) (at : ℕ) (h : at < length text) where
  here : next (rest_at text at) row_in ≡ row_in (drop at text)
  here = ap (λ o. next o row_in) (rest_in text at (omega arith))

  pub row_missing : line_found text None ≡ next (rest_at text at) row_in → row_lines (drop at text) ≡ None
  unfolding line_found
  row_missing e =
      let none-there : row_in (drop at text) ≡ None = sym here ∙ sym e in
      rows_next (drop at text) (omega (arith, length-drop at text)) ∙ rw none-there

  module _ (r : RowLine) (e : line_found text (Some r) ≡ next (rest_at text at) row_in) where
    abbrev told : Line
    told = record { from = r.from; label = take (r.quote - r.label) (drop r.label text); to = r.to }

    pub row : (s : Option Label) → r.behind ≤ length text
        → s ≡ label_found (label_of (take (r.quote - r.label) (drop r.label text)))
        → RowFound text at (record { from = r.from; label = s; to = r.to; behind = r.behind })
    unfolding line_found
    row s k g =
        let found : row_in (drop at text) ≡ Some (told, drop r.behind text) = sym here ∙ sym e in
        let shorter = row_shorter (drop at text) (told, drop r.behind text) found in
        record {
          line = told;
          split = rows_next (drop at text) (omega (arith, length-drop at text)) ∙ rw found;
          from = refl;
          label = sym g;
          to = refl;
          further = omega (arith, shorter, length-drop at text, length-drop r.behind text);
          within = k;
        }
