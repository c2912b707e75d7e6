-- The executable reading is the form of document 02: what a text is read as is exactly what it says.
use Prim.Native.Nat.{ℕ}
use mathlib.Core.Path.{◌≡◌, refl, sym, ◌∙◌, ap}
use mathlib.Core.List.{List, [], ◌∷◌, ◌++◌, map}
use mathlib.Core.List.Memᴰ
use mathlib.Core.Logic.{◌↔◌, ⊎_elim}
use Rattle.hml.specs.Lists.{◌∈◌, each}
use Rattle.hml.proofs.Lists.{each_map}
use Rattle.hml.proofs.Tests.{apart}
use Rattle.aldebaran_form.specs.Forms.{Header, Line, Form, header_line, row_line, ended, written}
use Rattle.aldebaran_form.specs.Forms.{ShortHeader, PlainLine, Says}
use Rattle.aldebaran_form.specs.Lines.{next, header_in, line_in}
use Rattle.aldebaran.specs.Reading.{lines_of, lines_in, form_in, form_of}
use Rattle.aldebaran.proofs.LineSplitting.{Plain, plain_nil, plain_cons, plain_front, plain_rest}
use Rattle.aldebaran.proofs.LineSplitting.{WrittenOf, lines-written, lines_read}
use Rattle.aldebaran_form.proofs.WrittenLines.{next-some, line-written, line_read, row_lacks}
use Rattle.aldebaran_form.proofs.WrittenLines.{header-written, header_read, header_lacks}
use Rattle.std.specs.Prelude.{Some}

-- each of the lines is of the form
abbrev pub PlainLines : List Line → Type 0
PlainLines lines = (l : Line) → l ∈ lines → PlainLine l

plain_tail : (l : Line) (lines : List Line) → PlainLines (l ∷ lines) → PlainLines lines
plain_tail l lines w k m = w k (Memᴰ.tail m)

-- the text is written of the header's line and the others
written-lines : (g : Form) → written g ≡ each ended (header_line g.header ∷ map row_line g.lines)
unfolding written
written-lines g = ap (ended (header_line g.header) ++◌) (sym (each_map ended row_line g.lines))

-- lines that are written are read
rows_plain : (lines : List Line) → PlainLines lines → Plain (map row_line lines)
rows_plain [] w = plain_nil
rows_plain (l ∷ lines) w =
    plain_cons (row_line l) (map row_line lines) (row_lacks l (w l (Memᴰ.head refl)))
    (rows_plain lines (plain_tail l lines w))

pub rows_written : (lines : List Line) → PlainLines lines → lines_in (map row_line lines) ≡ Some lines
unfolding lines_in
rows_written [] w = refl
rows_written (l ∷ lines) w =
    rw (line-written l (w l (Memᴰ.head refl)), rows_written lines (plain_tail l lines w))

pub form_written : (g : Form) → ShortHeader g.header → PlainLines g.lines → form_of (written g) ≡ Some g
unfolding form_of form_in
form_written g h w =
    let lines = header_line g.header ∷ map row_line g.lines in
    let p : Plain lines = plain_cons (header_line g.header) (map row_line g.lines) (header_lacks g.header)
    (rows_plain g.lines w) in
    ap form_of (written-lines g) ∙ ap (λ o. next o form_in) (lines-written lines p)
    ∙ rw (header-written g.header h, rows_written g.lines w)

-- a text of the form is read as what it says
pub read_written : (text : List ℕ) (g : Form) → Says text g → form_of text ≡ Some g
read_written text g s = ap form_of s.bytes ∙ form_written g s.header s.lines

-- lines that are read are written there
pub rows_read : (lines : List (List ℕ)) (ls : List Line) → Plain lines → lines_in lines ≡ Some ls
    → (lines ≡ map row_line ls) × PlainLines ls
unfolding lines_in
rows_read [] ls p e =
    let q : ls ≡ [] = cc in
    rw q (refl, λ l m. absurd (Memᴰ.not-nil m))
rows_read (line ∷ lines) ls p e =
    let a = next-some (line_in line) _ ls e in
    let b = next-some (lines_in lines) _ ls a.2 in
    go a.0 b.0 b.2 (line_read line a.0 (plain_front line lines p) a.1)
    (rows_read lines b.0 (plain_rest line lines p) b.1)
  where
    go : (l : Line) (rest : List Line) → Some (l ∷ rest) ≡ Some ls → (line ≡ row_line l) × PlainLine l
        → (lines ≡ map row_line rest) × PlainLines rest → (line ∷ lines ≡ map row_line ls) × PlainLines ls
    go l rest f x y =
        let q : ls ≡ l ∷ rest = cc in
        rw q (
          ap (◌∷ lines) x.0 ∙ ap (row_line l ∷◌) y.0,
          λ k m. ⊎_elim (λ (z : k ≡ l). rw z x.1) (λ (z : k ∈ rest). y.1 k z) (Memᴰ.cases_cons m),
        )

-- a text that is read is of the form, and says what it is read as
form_read : (lines : List (List ℕ)) (g : Form) → Plain lines → form_in lines ≡ Some g
    → Says (each ended lines) g
unfolding form_in
form_read [] g p e = absurd (apart cc)
form_read (line ∷ lines) g p e =
    let a = next-some (header_in line) _ g e in
    let b = next-some (lines_in lines) _ g a.2 in
    go a.0 b.0 b.2 (header_read line a.0 a.1) (rows_read lines b.0 (plain_rest line lines p) b.1)
  where
    go : (h : Header) (ls : List Line) → Some (record { header = h; lines = ls }) ≡ Some g
        → (line ≡ header_line h) × ShortHeader h → (lines ≡ map row_line ls) × PlainLines ls
        → Says (each ended (line ∷ lines)) g
    go h ls f x y =
        let q : g ≡ record { header = h; lines = ls } = cc in
        rw q (record {
          bytes = ap (each ended) (ap (◌∷ lines) x.0 ∙ ap (header_line h ∷◌) y.0)
              ∙ sym (written-lines (record { header = h; lines = ls }));
          header = x.1;
          lines = y.1;
        })

pub said : (text : List ℕ) (g : Form) → form_of text ≡ Some g → Says text g
unfolding form_of WrittenOf
said text g e =
    let a = next-some (lines_of text) form_in g e in
    let w = lines_read text a.0 a.1 in
    rw w.0 (form_read a.0 g w.1 a.2)

-- a text is read as g exactly if it is of the form and says g
pub read_exactly : (text : List ℕ) (g : Form) → (form_of text ≡ Some g) ↔ Says text g
read_exactly text g = (said text g, read_written text g)
