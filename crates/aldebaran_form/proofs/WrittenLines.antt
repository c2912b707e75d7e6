-- The header and a line: what is written is read, and what is read is what is written there.
use Prim.Native.Nat.{ℕ, ◌≤◌}
use mathlib.Core.Path.{◌≡◌, refl, ◌∙◌, ap}
use mathlib.Core.Bool.{Bool, true, false, cond, not}
use mathlib.Core.List.{List, [], ◌∷◌, ◌++◌}
use native.Mathlib.Omega.{arith}
use lib.ListN.{length, drop}
use lib.Seq.{drop-append_seam}
use lib.Dec.{eqb}
use borrow.Author.Tests.{eq-eqb, ne_eqb, eqb-true, eqb-false}
use Rattle.hml.proofs.Tests.{apart}
use Rattle.digits.specs.Digits.{decimal}
use Rattle.aldebaran_form.specs.Forms.{line_feed, quote, comma, opening, closing, des, Header, Line, Short}
use Rattle.aldebaran_form.specs.Forms.{header_line, row_line, ShortHeader, PlainLine}
use Rattle.aldebaran_form.specs.Lines.{next, behind, front, is_digit, number_in, label_in, ending, header_in}
use Rattle.aldebaran_form.specs.Lines.{line_in}
use Rattle.aldebaran_form.proofs.Lacks.{Lacks, lacks_nil, lacks_cons, lacks_front, lacks_rest, lacks_append}
use Rattle.aldebaran_form.proofs.Lacks.{lacks_left, lacks_right}
use Rattle.aldebaran_form.proofs.Fronts.{front-split}
use Rattle.aldebaran_form.proofs.WrittenNumbers.{decimal_lacks, number-written, number_read}
use Rattle.std.specs.Prelude.{None, Option, Some}

-- what was read first, and what is read next
module _ {A B : Type 0} where
  pub next-some : (o : Option A) (f : A → Option B) (y : B) → next o f ≡ Some y
      → (x : A) × (o ≡ Some x) × (f x ≡ Some y)
  next-some None f y e = absurd (apart cc)
  next-some (Some x) f y e = (x, refl, e)

-- bytes that a line begins with
pub behind-written : (bytes rest : List ℕ) → behind bytes (bytes ++ rest) ≡ Some rest
unfolding behind
behind-written [] rest = refl
behind-written (b ∷ bytes) rest = rw (eq-eqb b b refl) (behind-written bytes rest)

pub behind_read : (bytes line rest : List ℕ) → behind bytes line ≡ Some rest → line ≡ bytes ++ rest
unfolding behind
behind_read [] line rest e = cc
behind_read (b ∷ bytes) line rest e = go line e (behind_read bytes)
  where
    test : (c : ℕ) (l : List ℕ) (x : Bool) → eqb c b ≡ x → cond x (behind bytes l) None ≡ Some rest
        → (behind bytes l ≡ Some rest → l ≡ bytes ++ rest) → c ∷ l ≡ b ∷ (bytes ++ rest)
    test c l true p f r = let q : c ≡ b = eqb-true c b p in ap (◌∷ l) q ∙ ap (b ∷◌) (r f)
    test c l false p f r = absurd (apart cc)

    go : (l : List ℕ) → behind (b ∷ bytes) l ≡ Some rest
        → ((k r : List ℕ) → behind bytes k ≡ Some r → k ≡ bytes ++ r) → l ≡ b ∷ (bytes ++ rest)
    go [] f r = absurd (apart cc)
    go (c ∷ l) f r = test c l (eqb c b) refl f (r l rest)

pub ending_read : {A : Type 0} (l : List ℕ) (x y : A) → ending l x ≡ Some y → (l ≡ []) × (x ≡ y)
unfolding ending
ending_read [] x y e = (refl, cc)
ending_read (b ∷ l) x y e = absurd (apart cc)

-- the label up to a double quote
pub label_in_lem : (label rest : List ℕ) → Lacks quote label → label_in (label ++ (quote ∷ rest)) ≡ label
unfolding label_in front
label_in_lem [] rest w = refl
label_in_lem (b ∷ label) rest w =
    rw (ne_eqb b quote (lacks_front quote b label w))
    (ap (b ∷◌) (label_in_lem label rest (lacks_rest quote b label w)))

pub label_lacks : (l : List ℕ) → Lacks quote (label_in l)
unfolding label_in front
label_lacks [] = lacks_nil quote
label_lacks (b ∷ l) = go (eqb b quote) refl (label_lacks l)
  where
    go : (x : Bool) → eqb b quote ≡ x → Lacks quote (label_in l)
        → Lacks quote (cond (not x) (b ∷ label_in l) [])
    go true e r = lacks_nil quote
    go false e r = lacks_cons quote b (label_in l) (eqb-false b quote e) r

label-split : (l : List ℕ) → l ≡ label_in l ++ drop (length (label_in l)) l
unfolding label_in
label-split l = front-split (λ b. not (eqb b quote)) l

-- a line that is written is read
plain_quote : (l : Line) → PlainLine l → Lacks quote l.label
unfolding Lacks
plain_quote l w b m e = (w.label b m).0 e

plain_feed : (l : Line) → PlainLine l → Lacks line_feed l.label
unfolding Lacks
plain_feed l w b m e = (w.label b m).1 e

pub line-written : (l : Line) → PlainLine l → line_in (row_line l) ≡ Some l
unfolding line_in row_line behind ending is_digit
line-written l w =
    let end : List ℕ = closing ∷ [] in
    let second : List ℕ = quote ∷ comma ∷ (decimal l.to ++ end) in
    rw (
      number-written l.from (comma ∷ quote ∷ (l.label ++ second)) w.from refl,
      label_in_lem l.label (comma ∷ (decimal l.to ++ end)) (plain_quote l w),
      drop-append_seam l.label second,
      number-written l.to end w.to refl,
    )

pub header-written : (h : Header) → ShortHeader h → header_in (header_line h) ≡ Some h
unfolding header_in header_line behind ending is_digit
header-written h w =
    let end : List ℕ = closing ∷ [] in
    let third : List ℕ = comma ∷ (decimal h.states ++ end) in
    rw (
      number-written h.first (comma ∷ (decimal h.rows ++ third)) w.first refl,
      number-written h.rows third w.rows refl,
      number-written h.states end w.states refl,
    )

-- they hold no line feed
pub byte_lacks : (b : ℕ) (l : List ℕ) → 11 ≤ b → Lacks line_feed l → Lacks line_feed (b ∷ l)
byte_lacks b l h v = lacks_cons line_feed b l (λ e. omega (arith, h, e)) v

number_lacks : (n : ℕ) (l : List ℕ) → Lacks line_feed l → Lacks line_feed (decimal n ++ l)
number_lacks n l v = lacks_append line_feed (decimal n) l (decimal_lacks line_feed n (omega arith)) v

closing_lacks : Lacks line_feed (closing ∷ [])
closing_lacks = byte_lacks closing [] (omega arith) (lacks_nil line_feed)

pub row_lacks : (l : Line) → PlainLine l → Lacks line_feed (row_line l)
unfolding row_line
row_lacks l w =
    let third = number_lacks l.to _ closing_lacks in
    let second = byte_lacks quote _ (omega arith) (byte_lacks comma _ (omega arith) third) in
    let label = lacks_append line_feed l.label _ (plain_feed l w) second in
    let first = byte_lacks comma _ (omega arith) (byte_lacks quote _ (omega arith) label) in
    byte_lacks opening _ (omega arith) (number_lacks l.from _ first)

pub header_lacks : (h : Header) → Lacks line_feed (header_line h)
unfolding header_line
header_lacks h =
    let third = byte_lacks comma _ (omega arith) (number_lacks h.states _ closing_lacks) in
    let second = byte_lacks comma _ (omega arith) (number_lacks h.rows _ third) in
    let front = byte_lacks opening _ (omega arith) (number_lacks h.first _ second) in
    let word = byte_lacks 115 _ (omega arith) (byte_lacks 32 _ (omega arith) front) in
    byte_lacks 100 _ (omega arith) (byte_lacks 101 _ (omega arith) word)

-- what is read of a line is what is written there
module _ {A : Type 0} (l : List ℕ) (k : List ℕ → Option A) (y : A) where
  bytes_read : (bytes : List ℕ) → next (behind bytes l) k ≡ Some y
      → (rest : List ℕ) × (l ≡ bytes ++ rest) × (k rest ≡ Some y)
  bytes_read bytes e =
      let w = next-some (behind bytes l) k y e in
      (w.0, behind_read bytes l w.0 w.1, w.2)

module _ {A : Type 0} (l : List ℕ) (k : ℕ × List ℕ → Option A) (y : A) where
  digits_read : next (number_in l) k ≡ Some y
      → (p : ℕ × List ℕ) × (l ≡ decimal p.0 ++ p.1) × Short p.0 × (k p ≡ Some y)
  digits_read e =
      let w = next-some (number_in l) k y e in
      let r = number_read l w.0.0 w.0.1 w.1 in
      (w.0, r.0, r.1, w.2)

-- the parts of a line, put together
module _ (from to : ℕ) (l₁ x₁ l₂ m x₂ m₂ : List ℕ) where
  abbrev told_line : Line
  told_line = record { from = from; label = label_in l₂; to = to }

  line_parts : (line : List ℕ) → line ≡ opening ∷ l₁ → l₁ ≡ decimal from ++ x₁ → x₁ ≡ comma ∷ quote ∷ l₂
      → drop (length (label_in l₂)) l₂ ≡ quote ∷ comma ∷ m → m ≡ decimal to ++ x₂ → x₂ ≡ closing ∷ m₂ → m₂ ≡ []
      → line ≡ row_line told_line
  unfolding row_line
  line_parts line a b c d e f g =
      let u : x₂ ≡ closing ∷ [] = f ∙ ap (closing ∷◌) g in
      let v : m ≡ decimal to ++ (closing ∷ []) = e ∙ ap (decimal to ++◌) u in
      let w : l₂ ≡ label_in l₂ ++ (quote ∷ comma ∷ (decimal to ++ (closing ∷ []))) =
      label-split l₂ ∙ ap (label_in l₂ ++◌) (d ∙ ap (λ k. quote ∷ comma ∷ k) v) in
      let y : x₁ ≡ comma ∷ quote ∷ (label_in l₂ ++ (quote ∷ comma ∷ (decimal to ++ (closing ∷ [])))) =
      c ∙ ap (λ k. comma ∷ quote ∷ k) w in
      a ∙ ap (opening ∷◌) (b ∙ ap (decimal from ++◌) y)

  line_plain : Short from → Short to → Lacks line_feed (row_line told_line) → PlainLine told_line
  unfolding row_line Lacks
  line_plain p q v =
      let second = quote ∷ comma ∷ (decimal to ++ (closing ∷ [])) in
      let first = comma ∷ quote ∷ (label_in l₂ ++ second) in
      let a = lacks_rest line_feed opening (decimal from ++ first) v in
      let b = lacks_right line_feed (decimal from) first a in
      let c = lacks_rest line_feed comma (quote ∷ (label_in l₂ ++ second)) b in
      let d = lacks_rest line_feed quote (label_in l₂ ++ second) c in
      let feed = lacks_left line_feed (label_in l₂) second d in
      record { from = p; label = λ x i. (λ z. label_lacks l₂ x i z, λ z. feed x i z); to = q }

pub line_read : (line : List ℕ) (l : Line) → Lacks line_feed line → line_in line ≡ Some l
    → (line ≡ row_line l) × PlainLine l
unfolding line_in
line_read line l v e =
    let a = bytes_read line _ l (opening ∷ []) e in
    let b = digits_read a.0 _ l a.2 in
    let c = bytes_read b.0.1 _ l (comma ∷ quote ∷ []) b.3 in
    let d = bytes_read (drop (length (label_in c.0)) c.0) _ l (quote ∷ comma ∷ []) c.2 in
    let f = digits_read d.0 _ l d.2 in
    let g = bytes_read f.0.1 _ l (closing ∷ []) f.3 in
    let h = ending_read g.0 _ l g.2 in
    go b.0.0 f.0.0 a.0 b.0.1 c.0 d.0 f.0.1 g.0 h.1 b.2 f.2
    (line_parts _ _ _ _ _ _ _ _ line a.1 b.1 c.1 d.1 f.1 g.1 h.0)
  where
    go : (from to : ℕ) (l₁ x₁ l₂ m x₂ m₂ : List ℕ) → told_line from to l₁ x₁ l₂ m x₂ m₂ ≡ l → Short from → Short to
        → line ≡ row_line (told_line from to l₁ x₁ l₂ m x₂ m₂) → (line ≡ row_line l) × PlainLine l
    go from to l₁ x₁ l₂ m x₂ m₂ q p r k =
        rw (← q) (k, line_plain from to l₁ x₁ l₂ m x₂ m₂ p r (rw k at v))

-- the parts of a header, put together
header_parts : (line l₁ x₁ l₂ x₂ l₃ x₃ l₄ : List ℕ) (h : Header) → line ≡ des ++ l₁ → l₁ ≡ decimal h.first ++ x₁
    → x₁ ≡ comma ∷ l₂ → l₂ ≡ decimal h.rows ++ x₂ → x₂ ≡ comma ∷ l₃ → l₃ ≡ decimal h.states ++ x₃
    → x₃ ≡ closing ∷ l₄ → l₄ ≡ [] → line ≡ header_line h
unfolding header_line
header_parts line l₁ x₁ l₂ x₂ l₃ x₃ l₄ h a b c d e f g i =
    let u : l₃ ≡ decimal h.states ++ (closing ∷ []) = f ∙ ap (decimal h.states ++◌) (g ∙ ap (closing ∷◌) i) in
    let v : l₂ ≡ decimal h.rows ++ (comma ∷ (decimal h.states ++ (closing ∷ []))) =
    d ∙ ap (decimal h.rows ++◌) (e ∙ ap (comma ∷◌) u) in
    a ∙ ap (des ++◌) (b ∙ ap (decimal h.first ++◌) (c ∙ ap (comma ∷◌) v))

pub header_read : (line : List ℕ) (h : Header) → header_in line ≡ Some h → (line ≡ header_line h) × ShortHeader h
unfolding header_in
header_read line h e =
    let a = bytes_read line _ h des e in
    let b = digits_read a.0 _ h a.2 in
    let c = bytes_read b.0.1 _ h (comma ∷ []) b.3 in
    let d = digits_read c.0 _ h c.2 in
    let f = bytes_read d.0.1 _ h (comma ∷ []) d.3 in
    let g = digits_read f.0 _ h f.2 in
    let i = bytes_read g.0.1 _ h (closing ∷ []) g.3 in
    let j = ending_read i.0 _ h i.2 in
    go b.0.0 d.0.0 g.0.0 j.1 b.2 d.2 g.2
    (header_parts line _ _ _ _ _ _ _ _ a.1 b.1 c.1 d.1 f.1 g.1 i.1 j.0)
  where
    go : (first rows states : ℕ) → record { first = first; rows = rows; states = states } ≡ h
        → Short first → Short rows → Short states
        → line ≡ header_line (record { first = first; rows = rows; states = states })
        → (line ≡ header_line h) × ShortHeader h
    go first rows states q x y z k = rw (← q) (k, record { first = x; rows = y; states = z })
