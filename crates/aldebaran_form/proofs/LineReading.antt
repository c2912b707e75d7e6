-- A header and a line, read place by place: each step of `head_in` and `row_in` goes on at the place behind it.
use Prim.Native.Nat.{ℕ, ◌+◌, ◌-◌, ◌≤◌, ◌<◌}
use mathlib.Core.Path.{◌≡◌, refl, sym, ◌∙◌, ap}
use mathlib.Core.Bool.{Bool, true, false}
use mathlib.Core.List.{List, [], ◌∷◌}
use native.Mathlib.Omega.{arith}
use lib.ListN.{length, take, drop, length-drop}
use lib.Seq.{drop-drop}
use lib.Dec.{eqb, leb}
use borrow.Author.Tests.{le-leb, lt-leb, leb-true, leb-false}
use Rattle.hml.specs.Lists.{guard}
use Rattle.hml.proofs.Tests.{apart}
use Rattle.aldebaran_form.specs.Forms.{line_feed, quote, comma, closing, des, Header, Line}
use Rattle.aldebaran_form.specs.Lines.{next, behind, number_in}
use Rattle.aldebaran_form.specs.Working.{rest_at, number_at, label_to, head_in, row_in}
use Rattle.aldebaran_form.specs.declared.scan.Number.{Number}
use Rattle.aldebaran_form.proofs.Fronts.{front_fit, front_taken}
use Rattle.aldebaran_form.proofs.Scanning.{rest_in, rest_out}
use Rattle.std.specs.Prelude.{None, Option, Some}

-- two steps, taken one after the other
pub next-next : {A B C : Type 0} (o : Option A) (f : A → Option B) (g : B → Option C)
    → next o (λ x. next (f x) g) ≡ next (next o f) g
next-next None f g = refl
next-next (Some x) f g = refl

-- bytes one after the other
pub behind-first : (b : ℕ) (bytes text : List ℕ) → next (behind (b ∷ []) text) (behind bytes) ≡ behind (b ∷ bytes) text
unfolding behind
behind-first b bytes [] = refl
behind-first b bytes (c ∷ text) = go (eqb c b) refl
  where
    go : (t : Bool) → eqb c b ≡ t → next (behind (b ∷ []) (c ∷ text)) (behind bytes) ≡ behind (b ∷ bytes) (c ∷ text)
    go true e = rw e
    go false e = rw e

module _ (text : List ℕ) where
  -- a byte in front of others
  first_step : (p q b : ℕ) (bytes : List ℕ) → rest_at text q ≡ next (rest_at text p) (behind (b ∷ []))
      → next (rest_at text p) (behind (b ∷ bytes)) ≡ next (rest_at text q) (behind bytes)
  first_step p q b bytes e = go (rest_at text p) refl
    where
      go : (o : Option (List ℕ)) → rest_at text p ≡ o
          → next (rest_at text p) (behind (b ∷ bytes)) ≡ next (rest_at text q) (behind bytes)
      go None z = rw (e, z)
      go (Some l) z = rw (e, z) (sym (behind-first b bytes l))

  -- two bytes
  two_steps : (p q r b c : ℕ) → rest_at text q ≡ next (rest_at text p) (behind (b ∷ []))
      → rest_at text r ≡ next (rest_at text q) (behind (c ∷ []))
      → rest_at text r ≡ next (rest_at text p) (behind (b ∷ c ∷ []))
  two_steps p q r b c e f = f ∙ sym (first_step p q b (c ∷ []) e)

  -- bytes, then what follows them
  bytes_step : {B : Type 0} (p q : ℕ) (bytes : List ℕ) (k : List ℕ → Option B)
      → rest_at text q ≡ next (rest_at text p) (behind bytes)
      → next (rest_at text p) (λ l. next (behind bytes l) k) ≡ next (rest_at text q) k
  bytes_step p q bytes k e = next-next (rest_at text p) (behind bytes) k ∙ ap (λ o. next o k) (sym e)

  -- a number, then what follows it
  number_step : {B : Type 0} (p : ℕ) (r : Number) (k : ℕ → List ℕ → Option B)
      → number_at text r ≡ next (rest_at text p) number_in
      → next (rest_at text p) (λ l. next (number_in l) (λ n. k n.0 n.1))
      ≡ next (rest_at text r.end) (k r.value)
  unfolding number_at
  number_step p r k e =
      next-next (rest_at text p) number_in (λ n. k n.0 n.1) ∙ ap (λ o. next o (λ n. k n.0 n.1)) (sym e)
      ∙ sym (next-next (rest_at text r.end) (λ rest. Some (r.value, rest)) (λ n. k n.0 n.1))

  -- a label, then what follows it
  label_step : {B : Type 0} (p q : ℕ) (k : List ℕ → List ℕ → Option B)
      → q ≡ p + length (label_to (drop p text))
      → next (rest_at text p) (λ l. k (label_to l) (drop (length (label_to l)) l))
      ≡ next (rest_at text q) (k (label_to (drop p text)))
  unfolding label_to
  label_step {B} p q k e = go (leb p (length text)) refl
    where
      go : (b : Bool) → leb p (length text) ≡ b
          → next (rest_at text p) (λ l. k (label_to l) (drop (length (label_to l)) l))
          ≡ next (rest_at text q) (k (label_to (drop p text)))
      go true h =
          let fit : length (label_to (drop p text)) ≤ length (drop p text) = front_fit _ (drop p text) in
          let fits : q ≤ length text = omega (arith, e, fit, leb-true p (length text) h, length-drop p text) in
          let here : rest_at text q ≡ Some (drop (length (label_to (drop p text))) (drop p text)) =
          rest_in text q fits ∙ ap Some (ap (λ n. drop n text) e ∙ sym (drop-drop _ p text)) in
          rw (rest_in text p (leb-true p (length text) h), here)
      go false h =
          let far : length text < q = omega (arith, e, leb-false p (length text) h) in
          rw (rest_out text p (leb-false p (length text) h), rest_out text q far)

  -- what was read, and what stands behind it
  last_step : {B : Type 0} (p : ℕ) (x : B)
      → next {B = B × List ℕ} (rest_at text p) (λ rest. Some (x, rest)) ≡ guard (leb p (length text)) (x, drop p text)
  unfolding rest_at
  last_step {B} p x = go (leb p (length text))
    where
      go : (b : Bool)
          → next {B = B × List ℕ} (guard b (drop p text)) (λ rest. Some (x, rest)) ≡ guard b (x, drop p text)
      go true = refl
      go false = refl

  -- `des (`
  pub des_places : (d e s blank end : ℕ) → rest_at text d ≡ next (rest_at text 0) (behind (100 ∷ []))
      → rest_at text e ≡ next (rest_at text d) (behind (101 ∷ []))
      → rest_at text s ≡ next (rest_at text e) (behind (115 ∷ []))
      → rest_at text blank ≡ next (rest_at text s) (behind (32 ∷ []))
      → rest_at text end ≡ next (rest_at text blank) (behind (40 ∷ [])) → rest_at text end ≡ behind des text
  des_places d e s blank end u v w x y = sym
      (ap (λ o. next o (behind des)) (sym (rest_in text 0 (omega arith)))
      ∙ first_step 0 d 100 _ u
      ∙ first_step d e 101 _ v
      ∙ first_step e s 115 _ w
      ∙ first_step s blank 32 _ x
      ∙ sym y)

-- the steps of a header, from the last
abbrev pub header_end : ℕ → ℕ → ℕ → List ℕ → Option (Header × List ℕ)
header_end a b c l = next (behind (closing ∷ line_feed ∷ []) l)
    (λ rest. Some (record { first = a; rows = b; states = c }, rest))

abbrev pub header_third : ℕ → ℕ → List ℕ → Option (Header × List ℕ)
header_third a b l = next (number_in l) (λ n. header_end a b n.0 n.1)

abbrev pub header_second : ℕ → List ℕ → Option (Header × List ℕ)
header_second a l = next (number_in l) (λ n. next (behind (comma ∷ []) n.1) (header_third a n.0))

abbrev pub header-first : List ℕ → Option (Header × List ℕ)
header-first l = next (number_in l) (λ n. next (behind (comma ∷ []) n.1) (header_second n.0))

-- `des (first,rows,states)` and a line feed
module _ (text : List ℕ) (opened second third end behind1 : ℕ) (first rows states : Number) where
  pub header_places : rest_at text opened ≡ behind des text
      → number_at text first ≡ next (rest_at text opened) number_in
      → rest_at text second ≡ next (rest_at text first.end) (behind (44 ∷ []))
      → number_at text rows ≡ next (rest_at text second) number_in
      → rest_at text third ≡ next (rest_at text rows.end) (behind (44 ∷ []))
      → number_at text states ≡ next (rest_at text third) number_in
      → rest_at text end ≡ next (rest_at text states.end) (behind (41 ∷ []))
      → rest_at text behind1 ≡ next (rest_at text end) (behind (10 ∷ []))
      → guard {A = Header × List ℕ} (leb behind1 (length text))
      (record { first = first.value; rows = rows.value; states = states.value }, drop behind1 text)
      ≡ head_in text
  unfolding head_in
  header_places a b c d e f g h = sym
      (ap (λ o. next o header-first) (sym a)
      ∙ number_step text opened first (λ x l. next (behind (comma ∷ []) l) (header_second x)) b
      ∙ bytes_step text first.end second (44 ∷ []) (header_second first.value) c
      ∙ number_step text second rows (λ x l. next (behind (comma ∷ []) l) (header_third first.value x)) d
      ∙ bytes_step text rows.end third (44 ∷ []) (header_third first.value rows.value) e
      ∙ number_step text third states (header_end first.value rows.value) f
      ∙ bytes_step text states.end behind1 (41 ∷ 10 ∷ []) (λ rest. Some (_, rest))
      (two_steps text states.end end behind1 41 10 g h)
      ∙ last_step text behind1 _)

-- what ends in the text is told, and nothing that ends beyond it
pub told_within : {A : Type 0} (p n : ℕ) (x : A) → p ≤ n → Some x ≡ guard (leb p n) x
told_within p n x h = rw (le-leb p n h)

pub untold_beyond : {A : Type 0} (p n : ℕ) (x : A) → n < p → None ≡ guard (leb p n) x
untold_beyond p n x h = rw (lt-leb p n h)

-- the steps of a line, from the last
abbrev pub row_end : ℕ → List ℕ → ℕ → List ℕ → Option (Line × List ℕ)
row_end a b c l =
    next (behind (closing ∷ line_feed ∷ []) l) (λ rest. Some (record { from = a; label = b; to = c }, rest))

abbrev pub row_to : ℕ → List ℕ → List ℕ → Option (Line × List ℕ)
row_to a b l = next (number_in l) (λ n. row_end a b n.0 n.1)

abbrev pub row_quoted : ℕ → List ℕ → List ℕ → Option (Line × List ℕ)
row_quoted a b l = next (behind (quote ∷ comma ∷ []) l) (row_to a b)

abbrev pub row_label : ℕ → List ℕ → Option (Line × List ℕ)
row_label a l = row_quoted a (label_to l) (drop (length (label_to l)) l)

abbrev row_from : List ℕ → Option (Line × List ℕ)
row_from l = next (number_in l) (λ n. next (behind (comma ∷ quote ∷ []) n.1) (row_label n.0))

-- what stands behind a place in the text stands behind one in the text
module _ (text : List ℕ) where
  back : (p : ℕ) (o : Option (List ℕ)) → (rest_at text p ≡ None → o ≡ None) → (o ≡ None → ⊥) → p ≤ length text
  back p o f g = go (leb p (length text)) refl
    where
      go : (b : Bool) → leb p (length text) ≡ b → p ≤ length text
      go true h = leb-true p (length text) h
      go false h = absurd (g (f (rest_out text p (leb-false p (length text) h))))

  there : (q : ℕ) → q ≤ length text → rest_at text q ≡ None → ⊥
  there q h e =
      let s : rest_at text q ≡ Some (drop q text) = rest_in text q h in
      apart cc

  bytes_back : (p q : ℕ) (bytes : List ℕ) → rest_at text q ≡ next (rest_at text p) (behind bytes) → q ≤ length text
      → p ≤ length text
  bytes_back p q bytes e h = back p (rest_at text q) (λ z. e ∙ ap (λ o. next o (behind bytes)) z) (there q h)

  number-back : (p : ℕ) (r : Number) → number_at text r ≡ next (rest_at text p) number_in → r.end ≤ length text
      → p ≤ length text
  unfolding number_at
  number-back p r e h = back p (rest_at text r.end)
      (λ z. unsaid (rest_at text r.end) (λ l. (r.value, l)) (e ∙ ap (λ o. next o number_in) z)) (there r.end h)
    where
      unsaid : {A B : Type 0} (o : Option A) (f : A → B) → next o (λ x. Some (f x)) ≡ None → o ≡ None
      unsaid None f e = refl
      unsaid (Some l) f e = absurd (apart cc)

-- `(from,"label",to)` and a line feed
module _ (text : List ℕ) (at opened comma1 label quote1 closed second end behind1 : ℕ) (from to : Number)
    (a : rest_at text opened ≡ next (rest_at text at) (behind (40 ∷ [])))
    (b : number_at text from ≡ next (rest_at text opened) number_in)
    (c : rest_at text comma1 ≡ next (rest_at text from.end) (behind (44 ∷ [])))
    (d : rest_at text label ≡ next (rest_at text comma1) (behind (34 ∷ [])))
    (e : quote1 ≡ label + length (label_to (drop label text)))
    (f : rest_at text closed ≡ next (rest_at text quote1) (behind (34 ∷ [])))
    (g : rest_at text second ≡ next (rest_at text closed) (behind (44 ∷ [])))
    (h : number_at text to ≡ next (rest_at text second) number_in)
    (i : rest_at text end ≡ next (rest_at text to.end) (behind (41 ∷ [])))
    (j : rest_at text behind1 ≡ next (rest_at text end) (behind (10 ∷ []))) where
  abbrev told : List ℕ → Line
  told bytes = record { from = from.value; label = bytes; to = to.value }

  label_taken : take (quote1 - label) (drop label text) ≡ label_to (drop label text)
  unfolding label_to
  label_taken =
      let n : quote1 - label ≡ length (label_to (drop label text)) = omega (arith, e) in
      ap (λ k. take k (drop label text)) n ∙ front_taken _ (drop label text)

  pub row_places : guard (leb behind1 (length text)) (told (take (quote1 - label) (drop label text)), drop behind1 text)
      ≡ next (rest_at text at) row_in
  unfolding row_in
  row_places =
      let bytes = label_to (drop label text) in
      rw label_taken (sym
      (bytes_step text at opened (40 ∷ []) row_from a
      ∙ number_step text opened from (λ x l. next (behind (comma ∷ quote ∷ []) l) (row_label x)) b
      ∙ bytes_step text from.end label (44 ∷ 34 ∷ []) (row_label from.value)
      (two_steps text from.end comma1 label 44 34 c d)
      ∙ label_step text label quote1 (row_quoted from.value) e
      ∙ bytes_step text quote1 second (34 ∷ 44 ∷ []) (row_to from.value bytes)
      (two_steps text quote1 closed second 34 44 f g)
      ∙ number_step text second to (row_end from.value bytes) h
      ∙ bytes_step text to.end behind1 (41 ∷ 10 ∷ []) (λ rest. Some (told bytes, rest))
      (two_steps text to.end end behind1 41 10 i j)
      ∙ last_step text behind1 (told bytes)))

  pub row_inside : leb behind1 (length text) ≡ true
      → (label ≤ quote1) × (quote1 ≤ length text) × (behind1 ≤ length text)
  row_inside z =
      let last : end ≤ length text = bytes_back text end behind1 _ j (leb-true behind1 (length text) z) in
      let number : to.end ≤ length text = bytes_back text to.end end _ i last in
      let start : second ≤ length text = number-back text second to h number in
      let label_end : quote1 ≤ length text =
      bytes_back text quote1 closed _ f (bytes_back text closed second _ g start) in
      (omega (arith, e), label_end, leb-true behind1 (length text) z)
