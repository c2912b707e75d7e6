-- The boundary's answers by their cases, each from what the code knows at its return.
use Prim.Native.Nat.{ℕ, ◌+◌, ◌*◌, ◌≤◌}
use mathlib.Core.Path.{◌≡◌, refl, sym, ◌∙◌, ap}
use mathlib.Core.Bool.{Bool, true, false, cond}
use mathlib.Core.List.{List, [], ◌∷◌}
use native.Mathlib.Omega.{arith}
use lib.Dec.{eqb}
use borrow.Author.Tests.{ne_eqb}
use Rattle.labels.specs.Refusals.{Answer, number_of, refused_as, giving}
use Rattle.labels.specs.declared.refusal.Refusal.{Refusal}
use Rattle.halves.specs.declared.side.Side.TheVariants as side
use Rattle.records.proofs.RecordLaws.{Bytes}
use Rattle.casebook.specs.Reading.{read_of, read_answer}
use Rattle.casebook.specs.declared.read.Parts.{Parts}
use Rattle.casebook.proofs.RoundTrip.{placing}
use Rattle.labels.proofs.Answers.{Within, within_at}
use Rattle.aldebaran.specs.Reading as text-reading
use Rattle.aldebaran.proofs.Values as text-values
use Rattle.engine.specs.declared.sheet.LinesAnswer.{LinesAnswer}
use Rattle.engine.specs.Answers.{packed, only, place_at, place_in, lines_told, side_of}
use Rattle.engine.specs.Working.{Placed, places_of}
use Rattle.aldebaran.specs.declared.read.ReadTable.{ReadTable}
use Rattle.std.specs.Prelude.{Ok, Result}
use Rattle.std.specs.Int.{from_bool}
use Rattle.verdict.specs.Verdicts.{bit_of}

-- values alone tell no number
packed-given : (tell : List ℕ → ℕ) (ns : List ℕ) → tell ns ≡ packed tell (giving ns)
unfolding packed
packed-given tell ns = omega arith

-- x is what a crate answers, r what it promises, and b the case that the code found
module _ {A : Type 0} (f : A → Answer) {x r b : A} (promise : x ≡ r) (found : x ≡ b) where
  same_answer : f b ≡ f r
  same_answer = ap f (sym found ∙ promise)

  -- a case that gives values
  pub gives : (tell : List ℕ → ℕ) (ns : List ℕ) {n : ℕ} → f b ≡ giving ns → n ≡ tell ns → n ≡ packed tell (f r)
  gives tell ns e h = h ∙ packed-given tell ns ∙ ap (packed tell) (sym e ∙ same_answer)

  -- one that refuses, of which nothing is told
  pub refuses : (tell : List ℕ → ℕ) (y : Refusal) {n : ℕ} → tell [] ≡ 0 → f b ≡ refused_as y
      → n ≡ packed only (refused_as y) → n ≡ packed tell (f r)
  unfolding packed only
  refuses tell y z e h = rw (← same_answer, e, z) h

  -- the same of a call for lines
  pub lines-given : {m n : ℕ} → f b ≡ giving (m ∷ n ∷ [])
      → ◌≡◌ {A = LinesAnswer} (record { refusal = 0; lines = m; bytes = n }) (lines_told (f r))
  unfolding lines_told
  lines-given e = rw (← same_answer, e)

  pub lines_refused : (y : Refusal) {n : ℕ} → f b ≡ refused_as y → n ≡ number_of y
      → ◌≡◌ {A = LinesAnswer} (record { refusal = n; lines = 0; bytes = 0 }) (lines_told (f r))
  unfolding lines_told
  lines_refused y e h = rw (← same_answer, e, h)

-- a table that was read, and its first state, are small
pub table_small : (text : List ℕ) (room n first : ℕ) (x : Result ReadTable Refusal) → x ≡ text-reading.read_of text room
    → x ≡ text-reading.gives_table n first → (n ≤ 1537) × (first ≤ 1537)
unfolding text-reading.table_answer
table_small text room n first x e f =
    let w : Within 1537 (n ∷ first ∷ []) = rw (sym e ∙ f) at (text-values.read_within text room) in
    (within_at w 0, within_at w 1)

-- the records of a casebook that was read lie within as many bytes as the longest has
pub placed : (s : List ℕ) → Bytes s → (x : Result Parts Refusal) (p : Parts) → x ≡ read_of s → x ≡ Ok p → Placed p
placed s bytes x p e f =
    let w = placing s bytes p (sym e ∙ f) in
    record {
      labels = omega (arith, w.labels, w.short);
      left = omega (arith, w.left, w.short);
      right = omega (arith, w.right, w.short);
      run = omega (arith, w.run, w.short);
      question = omega (arith, w.question, w.short);
    }

-- the kinds of records
module _ (p : Parts) (kind : ℕ) where
  pub place_1 : kind ≡ 1 → {n : ℕ} → n ≡ p.labels.start * 65536 + p.labels.len → n ≡ place_in kind (places_of p)
  unfolding place_in place_at read_answer
  place_1 e h = rw e h

  pub place_2 : kind ≡ 2 → {n : ℕ} → n ≡ p.left.start * 65536 + p.left.len → n ≡ place_in kind (places_of p)
  unfolding place_in place_at read_answer
  place_2 e h = rw e h

  pub place_3 : kind ≡ 3 → {n : ℕ} → n ≡ p.right.start * 65536 + p.right.len → n ≡ place_in kind (places_of p)
  unfolding place_in place_at read_answer
  place_3 e h = rw e h

  pub place_4 : kind ≡ 4 → {n : ℕ} → n ≡ p.run.start * 65536 + p.run.len → n ≡ place_in kind (places_of p)
  unfolding place_in place_at read_answer
  place_4 e h = rw e h

  pub place_5 : kind ≡ 5 → {n : ℕ} → n ≡ p.question.start * 65536 + p.question.len → n ≡ place_in kind (places_of p)
  unfolding place_in place_at read_answer
  place_5 e h = rw e h

  pub no_place : (kind ≡ 1 → ⊥) → (kind ≡ 2 → ⊥) → (kind ≡ 3 → ⊥) → (kind ≡ 4 → ⊥) → (kind ≡ 5 → ⊥)
      → 0 ≡ place_in kind (places_of p)
  unfolding place_in read_answer
  no_place a b c d e = rw (ne_eqb _ _ a, ne_eqb _ _ b, ne_eqb _ _ c, ne_eqb _ _ d, ne_eqb _ _ e)

-- a refused reading has no places
either_none : (b : Bool) {x y : ℕ} → x ≡ 0 → y ≡ 0 → cond b x y ≡ 0
either_none true p q = p
either_none false p q = q

pub no_places : (kind : ℕ) → place_in kind [] ≡ 0
unfolding place_in place_at
no_places kind =
    either_none (eqb kind 1) refl
    (either_none (eqb kind 2) refl
    (either_none (eqb kind 3) refl (either_none (eqb kind 4) refl (either_none (eqb kind 5) refl refl))))

-- the side that a byte names
pub left_named : (b : ℕ) → b ≡ 1 → side.Left ≡ side_of b
unfolding side_of
left_named b e = rw e

pub right_named : (b : ℕ) → b ≡ 2 → side.Right ≡ side_of b
unfolding side_of
right_named b e = rw e

pub none_named : (b : ℕ) → (b ≡ 1 → ⊥) → (b ≡ 2 → ⊥) → side.Unnamed ≡ side_of b
unfolding side_of
none_named b x y = rw (ne_eqb _ _ x, ne_eqb _ _ y)

-- a bool as a number is its bit
pub bit_told : (b : Bool) {n : ℕ} → n ≡ from_bool b → n ≡ bit_of b
unfolding bit_of
bit_told true e = e
bit_told false e = e
