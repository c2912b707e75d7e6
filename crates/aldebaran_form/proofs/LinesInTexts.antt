-- A header and a line in a text: `head_in` and `row_in` read what `header_in` and `line_in` read of the bytes up to the
-- line feed, and need the line feed.
use Prim.Native.Nat.{ℕ, ◌≤◌}
use mathlib.Core.Path.{◌≡◌, refl, sym, ◌∙◌, ap}
use mathlib.Core.Bool.{Bool, true, false, cond, not, ◌&&◌}
use mathlib.Core.List.{List, [], ◌∷◌, ◌++◌, append-nil}
use mathlib.Core.Logic.{◌⊎◌, inl, inr}
use native.Mathlib.Omega.{arith}
use lib.ListN.{length, take, drop, take-append-drop}
use lib.Seq.{drop-append-le}
use lib.Dec.{eqb}
use borrow.Author.Tests.{ne_eqb, eqb-true, eqb-false}
use Rattle.hml.specs.Lists.{guard}
use Rattle.digits.specs.Digits.{read_from}
use Rattle.aldebaran_form.specs.Forms.{line_feed, quote, comma, opening, closing, des, Line}
use Rattle.aldebaran_form.specs.Lines.{next, behind, front, is_digit, digits_in, is_number, number_in, label_in}
use Rattle.aldebaran_form.specs.Lines.{ending, header_in, line_in}
use Rattle.aldebaran_form.specs.Working.{label_to, head_in, row_in}
use Rattle.aldebaran_form.proofs.Lacks.{Lacks, lacks_nil, lacks_cons, lacks_front, lacks_rest, lacks_right}
use Rattle.aldebaran_form.proofs.Fronts.{front_fit, front_before}
use Rattle.aldebaran_form.proofs.WrittenLines.{behind_read, byte_lacks}
use Rattle.aldebaran_form.proofs.LineReading.{next-next, behind-first, row_end, row_to, row_quoted}
use Rattle.std.specs.Prelude.{None, Option, Some}

-- the steps of a line by itself, from the last
abbrev line_end : ℕ → List ℕ → ℕ → List ℕ → Option Line
line_end a b c l = next (behind (closing ∷ []) l) (λ m. ending m (record { from = a; label = b; to = c }))

abbrev line-to : ℕ → List ℕ → List ℕ → Option Line
line-to a b l = next (number_in l) (λ n. line_end a b n.0 n.1)

abbrev line_quoted : ℕ → List ℕ → List ℕ → Option Line
line_quoted a b l = next (behind (quote ∷ comma ∷ []) l) (line-to a b)

-- what is left of bytes without line feeds has none
lacks_drop : (n : ℕ) (l : List ℕ) → Lacks line_feed l → Lacks line_feed (drop n l)
lacks_drop n l v = lacks_right line_feed (take n l) (drop n l) (rw (sym (take-append-drop n l)) at v)

one_lacks : (b : ℕ) → 11 ≤ b → Lacks line_feed (b ∷ [])
one_lacks b h = byte_lacks b [] h (lacks_nil line_feed)

two_lacks : (b c : ℕ) → 11 ≤ b → 11 ≤ c → Lacks line_feed (b ∷ c ∷ [])
two_lacks b c h i = byte_lacks b (c ∷ []) h (one_lacks c i)

des_lacks : Lacks line_feed des
des_lacks = byte_lacks 100 _ (omega arith)
    (byte_lacks 101 _ (omega arith) (byte_lacks 115 _ (omega arith) (two_lacks 32 opening (omega arith) (omega arith))))

-- what stands behind a line: a line feed and more, or nothing
pub record Tail (tail : List ℕ) : Type 0 where
  pub no_bytes : (b : ℕ) (bytes : List ℕ) → (b ≡ line_feed → ⊥) → behind (b ∷ bytes) tail ≡ None
  pub no_digits : digits_in tail ≡ []
  pub no_label : label_to tail ≡ []

feed_tail : (rest : List ℕ) → Tail (line_feed ∷ rest)
unfolding behind digits_in front is_digit label_to
feed_tail rest = record {
  no_bytes = λ b bytes f. rw (ne_eqb line_feed b (λ e. f (sym e)));
  no_digits = refl;
  no_label = refl;
}

no_tail : Tail []
unfolding behind digits_in front label_to
no_tail = record { no_bytes = λ b bytes f. refl; no_digits = refl; no_label = refl }

-- what is read of a line without its line feed is read in the text too
module _ (tail : List ℕ) (w : Tail tail) where
  behind_before : (bytes l : List ℕ) → Lacks line_feed bytes
      → behind bytes (l ++ tail) ≡ next (behind bytes l) (λ m. Some (m ++ tail))
  unfolding behind
  behind_before [] l v = refl
  behind_before (b ∷ bytes) [] v = w.no_bytes b bytes (lacks_front line_feed b bytes v)
  behind_before (b ∷ bytes) (c ∷ l) v = go (eqb c b) refl (behind_before bytes l (lacks_rest line_feed b bytes v))
    where
      go : (x : Bool) → eqb c b ≡ x → behind bytes (l ++ tail) ≡ next (behind bytes l) (λ m. Some (m ++ tail))
          → behind (b ∷ bytes) (c ∷ (l ++ tail)) ≡ next (behind (b ∷ bytes) (c ∷ l)) (λ m. Some (m ++ tail))
      go true e r = rw e r
      go false e r = rw e

  digits_before : (l : List ℕ) → digits_in (l ++ tail) ≡ digits_in l
  unfolding digits_in
  digits_before l = front_before is_digit l tail w.no_digits

  abbrev on : ℕ × List ℕ → Option (ℕ × List ℕ)
  on p = Some (p.0, p.1 ++ tail)

  number_before : (l : List ℕ) → number_in (l ++ tail) ≡ next (number_in l) on
  unfolding number_in digits_in
  number_before l = rw (digits_before l, drop-append-le (length (digits_in l)) l tail (front_fit is_digit l))
      (go (is_number (digits_in l)) (read_from 0 (digits_in l)) (drop (length (digits_in l)) l))
    where
      go : (x : Bool) (n : ℕ) (m : List ℕ)
          → guard {A = ℕ × List ℕ} x (n, m ++ tail) ≡ next (guard {A = ℕ × List ℕ} x (n, m)) on
      go true n m = refl
      go false n m = refl

  label_before : (l : List ℕ) → Lacks line_feed l → label_to (l ++ tail) ≡ label_in l
  unfolding label_to label_in front
  label_before [] v = w.no_label
  label_before (b ∷ l) v =
      rw (ne_eqb b line_feed (lacks_front line_feed b l v), label_before l (lacks_rest line_feed b l v))
      (go (eqb b quote))
    where
      go : (x : Bool) → cond (not x && true) (b ∷ label_in l) [] ≡ cond (not x) (b ∷ label_in l) []
      go true = refl
      go false = refl

  -- so the steps of `head_in` and `row_in` go as those of `header_in` and `line_in`, if what comes after them does
  module _ {A B : Type 0} (fin : A → Option B) where
    bytes_then : (bytes : List ℕ) (f : List ℕ → Option B) (g : List ℕ → Option A) → Lacks line_feed bytes
        → ((l : List ℕ) → Lacks line_feed l → f (l ++ tail) ≡ next (g l) fin)
        → (l : List ℕ) → Lacks line_feed l
        → next (behind bytes (l ++ tail)) f ≡ next (next (behind bytes l) g) fin
    bytes_then bytes f g v r l u = ap (λ o. next o f) (behind_before bytes l v) ∙ go (behind bytes l) refl
      where
        go : (o : Option (List ℕ)) → behind bytes l ≡ o
            → next (next o (λ m. Some (m ++ tail))) f ≡ next (next o g) fin
        go None e = refl
        go (Some m) e = r m (lacks_right line_feed bytes m (rw (behind_read bytes l m e) at u))

    number_then : (f : ℕ → List ℕ → Option B) (g : ℕ → List ℕ → Option A)
        → ((n : ℕ) (l : List ℕ) → Lacks line_feed l → f n (l ++ tail) ≡ next (g n l) fin)
        → (l : List ℕ) → Lacks line_feed l
        → next (number_in (l ++ tail)) (λ p. f p.0 p.1) ≡ next (next (number_in l) (λ p. g p.0 p.1)) fin
    unfolding number_in
    number_then f g r l u = ap (λ o. next o (λ p. f p.0 p.1)) (number_before l) ∙ go (is_number (digits_in l))
      where
        number : ℕ × List ℕ
        number = (read_from 0 (digits_in l), drop (length (digits_in l)) l)

        go : (x : Bool)
            → next (next (guard x number) on) (λ p. f p.0 p.1)
            ≡ next (next (guard x number) (λ p. g p.0 p.1)) fin
        go true = r (read_from 0 (digits_in l)) (drop (length (digits_in l)) l) (lacks_drop (length (digits_in l)) l u)
        go false = refl

    label_then : (f : List ℕ → List ℕ → Option B) (g : List ℕ → List ℕ → Option A)
        → ((label l : List ℕ) → Lacks line_feed l → f label (l ++ tail) ≡ next (g label l) fin)
        → (l : List ℕ) → Lacks line_feed l
        → f (label_to (l ++ tail)) (drop (length (label_to (l ++ tail))) (l ++ tail))
        ≡ next (g (label_in l) (drop (length (label_in l)) l)) fin
    unfolding label_in
    label_then f g r l u =
        rw (label_before l u, drop-append-le (length (label_in l)) l tail (front_fit (λ b. not (eqb b quote)) l))
        (r (label_in l) (drop (length (label_in l)) l) (lacks_drop (length (label_in l)) l u))

  -- the line feed stands where the line ends
  module _ {A : Type 0} where
    abbrev fed : A → Option (A × List ℕ)
    fed x = next (behind (line_feed ∷ []) tail) (λ rest. Some (x, rest))

    feed_then : (x : A) (l : List ℕ) → Lacks line_feed l
        → next {B = A × List ℕ} (behind (line_feed ∷ []) (l ++ tail)) (λ rest. Some (x, rest))
        ≡ next (ending l x) fed
    unfolding behind ending
    feed_then x [] u = refl
    feed_then x (c ∷ l) u = rw (ne_eqb c line_feed (lacks_front line_feed c l u))

    end_then : (x : A) (l : List ℕ) → Lacks line_feed l
        → next {B = A × List ℕ} (behind (closing ∷ line_feed ∷ []) (l ++ tail)) (λ rest. Some (x, rest))
        ≡ next (next (behind (closing ∷ []) l) (λ m. ending m x)) fed
    end_then x l u =
        ap (λ o. next o (λ rest. Some (x, rest))) (sym (behind-first closing (line_feed ∷ []) (l ++ tail)))
        ∙ sym (next-next (behind (closing ∷ []) (l ++ tail)) (behind (line_feed ∷ [])) (λ rest. Some (x, rest)))
        ∙ bytes_then fed (closing ∷ []) (λ m. next (behind (line_feed ∷ []) m) (λ rest. Some (x, rest)))
        (λ m. ending m x) (one_lacks closing (omega arith)) (feed_then x) l u

  -- a header, and what stands behind it
  head_in_lem : (line : List ℕ) → Lacks line_feed line → head_in (line ++ tail) ≡ next (header_in line) fed
  unfolding head_in header_in
  head_in_lem = bytes_then fed des _ _ des_lacks
      (number_then fed _ _ (λ first. bytes_then fed (comma ∷ []) _ _ (one_lacks comma (omega arith))
      (number_then fed _ _ (λ rows. bytes_then fed (comma ∷ []) _ _ (one_lacks comma (omega arith))
      (number_then fed _ _ (λ states. end_then (record { first = first; rows = rows; states = states })))))))

  -- a line, and what stands behind it
  row_in_lem : (line : List ℕ) → Lacks line_feed line → row_in (line ++ tail) ≡ next (line_in line) fed
  unfolding row_in line_in
  row_in_lem = bytes_then fed (opening ∷ []) _ _ (one_lacks opening (omega arith))
      (number_then fed _ _ (λ from.
      bytes_then fed (comma ∷ quote ∷ []) _ _ (two_lacks comma quote (omega arith) (omega arith))
      (label_then fed (row_quoted from) (line_quoted from) (λ label.
      bytes_then fed (quote ∷ comma ∷ []) (row_to from label) (line-to from label)
      (two_lacks quote comma (omega arith) (omega arith))
      (number_then fed (row_end from label) (line_end from label) (λ to.
      end_then (record { from = from; label = label; to = to })))))))

-- a line that a line feed ends
pub head_feed : (line rest : List ℕ) → Lacks line_feed line
    → head_in (line ++ (line_feed ∷ rest)) ≡ next (header_in line) (λ h. Some (h, rest))
unfolding behind
head_feed line rest v = head_in_lem (line_feed ∷ rest) (feed_tail rest) line v

pub row_feed : (line rest : List ℕ) → Lacks line_feed line
    → row_in (line ++ (line_feed ∷ rest)) ≡ next (line_in line) (λ l. Some (l, rest))
unfolding behind
row_feed line rest v = row_in_lem (line_feed ∷ rest) (feed_tail rest) line v

-- one that none ends
nothing : {A : Type 0} (o : Option A) → ◌≡◌ {A = Option (A × List ℕ)} (next o (λ l. None)) None
nothing None = refl
nothing (Some l) = refl

pub head_open : (line : List ℕ) → Lacks line_feed line → head_in line ≡ None
unfolding behind
head_open line v = ap head_in (sym (append-nil line)) ∙ head_in_lem [] no_tail line v ∙ nothing (header_in line)

pub row_open : (line : List ℕ) → Lacks line_feed line → row_in line ≡ None
unfolding behind
row_open line v = ap row_in (sym (append-nil line)) ∙ row_in_lem [] no_tail line v ∙ nothing (line_in line)

-- bytes up to the first line feed, or without any
pub record FirstLine (text : List ℕ) : Type 0 where
  pub line : List ℕ
  pub rest : List ℕ
  pub split : text ≡ line ++ (line_feed ∷ rest)
  pub lacks : Lacks line_feed line

pub first-line : (text : List ℕ) → FirstLine text ⊎ Lacks line_feed text
first-line [] = inr (lacks_nil line_feed)
first-line (b ∷ text) = go (eqb b line_feed) refl (first-line text)
  where
    go : (x : Bool) → eqb b line_feed ≡ x → FirstLine text ⊎ Lacks line_feed text
        → FirstLine (b ∷ text) ⊎ Lacks line_feed (b ∷ text)
    go true e r =
        let here : b ∷ text ≡ line_feed ∷ text = ap (◌∷ text) (eqb-true b line_feed e) in
        inl (record { line = []; rest = text; split = here; lacks = lacks_nil line_feed })
    go false e (inl f) = inl (record {
      line = b ∷ f.line;
      rest = f.rest;
      split = ap (b ∷◌) f.split;
      lacks = lacks_cons line_feed b f.line (eqb-false b line_feed e) f.lacks;
    })
    go false e (inr v) = inr (lacks_cons line_feed b text (eqb-false b line_feed e) v)
