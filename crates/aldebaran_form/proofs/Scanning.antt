-- What stands at a place of a text: the laws of past, number_at and quote_from over plain lists.
use Prim.Native.Nat.{ℕ, ◌+◌, ◌-◌, ◌*◌, ◌≤◌, ◌<◌}
use mathlib.Core.Path.{◌≡◌, refl, sym, ◌∙◌, ap}
use mathlib.Core.Bool.{Bool, true, false}
use mathlib.Core.List.{List, [], ◌∷◌}
use native.Mathlib.Omega.{arith}
use native.Mathlib.Numerals.{add-one, lt_of_le_of_ne}
use lib.ListN.{length, get_or, drop, drop_of_length-le}
use lib.Seq.{drop-cons}
use lib.Dec.{leb}
use borrow.Author.Tests.{le-leb, lt-leb, leb-true, leb-false, lt-ltb, le-ltb, eq-eqb, ne_eqb}
use Rattle.hml.specs.Lists.{guard}
use Rattle.digits.specs.Digits.{read_from}
use Rattle.aldebaran_form.specs.Lines.{next, behind, front, is_digit, digits_in, is_number, number_in}
use Rattle.aldebaran_form.specs.Working.{rest_at, number_at, goes_on, number_from, label_to}
use Rattle.aldebaran_form.specs.declared.scan.Number.{Number}
use Rattle.aldebaran_form.proofs.WrittenNumbers.{number-zero, read_grows, first_digit}
use Rattle.std.specs.Prelude.{None, Option, Some}
use Rattle.std.specs.Char.{is_ascii_digit}
use Rattle.hml.proofs.Tests.{both_true}

-- a place in the text, or at its end, and one beyond it
pub rest_in : (text : List ℕ) (at : ℕ) → at ≤ length text → rest_at text at ≡ Some (drop at text)
unfolding rest_at
rest_in text at h = rw (le-leb at (length text) h)

pub rest_out : (text : List ℕ) (at : ℕ) → length text < at → rest_at text at ≡ None
unfolding rest_at
rest_out text at h = rw (lt-leb at (length text) h)

-- what reads nothing from an empty text reads nothing from the end on
pub from_end : {B : Type 0} (f : List ℕ → Option B) (text : List ℕ) (at : ℕ) → f [] ≡ None → length text ≤ at
    → next (rest_at text at) f ≡ None
from_end {B} f text at e h = go (leb at (length text)) refl
  where
    go : (b : Bool) → leb at (length text) ≡ b → next (rest_at text at) f ≡ None
    go true q = rw (rest_in text at (leb-true _ _ q), drop_of_length-le text {i = at} h) e
    go false q = rw (rest_out text at (leb-false _ _ q))

-- from a place in the text, its byte and the others
pub rest_byte : (text : List ℕ) (at : ℕ) → at < length text
    → rest_at text at ≡ Some (get_or text at 0 ∷ drop (at + 1) text)
rest_byte text at h = rest_in text at (omega arith) ∙ rw (add-one) (ap Some (drop-cons text at 0 h))

-- the byte that is due
module _ (text : List ℕ) (at b : ℕ) where
  pub past_there : at < length text → get_or text at 0 ≡ b
      → rest_at text (at + 1) ≡ next (rest_at text at) (behind (b ∷ []))
  unfolding behind
  past_there h e = rw (rest_byte text at h, eq-eqb _ _ e) (rest_in text (at + 1) (omega arith))

  pub past_other : at < length text → (get_or text at 0 ≡ b → ⊥)
      → rest_at text (length text + 1) ≡ next (rest_at text at) (behind (b ∷ []))
  unfolding behind
  past_other h e = rw (rest_byte text at h, ne_eqb _ _ e) (rest_out text (length text + 1) (omega arith))

  pub past_end : length text ≤ at → rest_at text (length text + 1) ≡ next (rest_at text at) (behind (b ∷ []))
  unfolding behind
  past_end h = rest_out text (length text + 1) (omega arith) ∙ sym (from_end (behind (b ∷ [])) text at refl h)

-- what a digit's byte is
ascii_low : (b : ℕ) → is_ascii_digit b ≡ true → 48 ≤ b
ascii_low b e = leb-true 48 b (both_true {a = leb 48 b} e).0

ascii_high : (b : ℕ) → is_ascii_digit b ≡ true → b ≤ 57
ascii_high b e = leb-true b 57 (both_true {a = leb 48 b} e).1

-- digits from a place on
module _ (text : List ℕ) (i : ℕ) where
  byte_at : i < length text → drop i text ≡ get_or text i 0 ∷ drop (i + 1) text
  byte_at h = rw (add-one) (drop-cons text i 0 h)

  pub digit_next : i < length text → is_ascii_digit (get_or text i 0) ≡ true
      → digits_in (drop i text) ≡ get_or text i 0 ∷ digits_in (drop (i + 1) text)
  unfolding digits_in front is_digit
  digit_next h e = ap digits_in (byte_at h) ∙ rw e

  pub digit_other : i < length text → is_ascii_digit (get_or text i 0) ≡ false → digits_in (drop i text) ≡ []
  unfolding digits_in front is_digit
  digit_other h e = ap digits_in (byte_at h) ∙ rw e

  pub digit_end : length text ≤ i → digits_in (drop i text) ≡ []
  unfolding digits_in front
  digit_end h = ap digits_in (drop_of_length-le text {i = i} h)

-- the number that is due
module _ (text : List ℕ) (at : ℕ) where
  at_nowhere : number_at text (record { value = 0; end = length text + 1 }) ≡ None
  unfolding number_at
  at_nowhere = rw (rest_out text (length text + 1) (omega arith))

  pub number_end : length text ≤ at
      → number_at text (record { value = 0; end = length text + 1 }) ≡ next (rest_at text at) number_in
  unfolding number_in digits_in front is_number
  number_end h = at_nowhere ∙ sym (from_end number_in text at refl h)

  number-none : at < length text → is_number (digits_in (drop at text)) ≡ false
      → number_at text (record { value = 0; end = length text + 1 }) ≡ next (rest_at text at) number_in
  unfolding number_in
  number-none h e = at_nowhere ∙ sym (rw (rest_in text at (omega arith), e))

-- a number behind its first digit: nothing follows, or a digit
module _ (n : ℕ) (rest : List ℕ) where
  from_over : digits_in rest ≡ [] → number_from n rest ≡ Some (n, rest)
  unfolding number_from goes_on read_from
  from_over e = rw e

  from_led : (b : ℕ) (d : List ℕ) → digits_in rest ≡ b ∷ d → n ≡ 0 → number_from n rest ≡ None
  unfolding number_from goes_on
  from_led b d e z = rw (e, z)

  from_long : (b : ℕ) (d : List ℕ) → digits_in rest ≡ b ∷ d → 9999 < n → number_from n rest ≡ None
  unfolding number_from goes_on read_from
  from_long b d e h =
      let far : 100000 ≤ read_from (10 * n + (b - 48)) d = omega (arith, h, read_grows d (10 * n + (b - 48))) in
      rw (e, le-leb 1 n (omega arith), le-ltb (read_from (10 * n + (b - 48)) d) 100000 far)

from_more : (n b : ℕ) (rest : List ℕ) → is_ascii_digit b ≡ true → (n ≡ 0 → ⊥) → n ≤ 9999
    → number_from n (b ∷ rest) ≡ number_from (10 * n + (b - 48)) rest
unfolding number_from goes_on digits_in front is_digit read_from
from_more n b rest digit odd h =
    let high = ascii_high b digit in
    rw digit
    (ap (λ x. guard x (read_from (10 * n + (b - 48)) (digits_in rest), drop (length (digits_in rest)) rest))
    (same high (digits_in rest)))
  where
    some_more : 1 ≤ n
    some_more = lt_of_le_of_ne (omega arith) (λ z. odd (sym z))

    same : b ≤ 57 → (d : List ℕ) → goes_on n (b ∷ d) ≡ goes_on (10 * n + (b - 48)) d
    same high [] = rw (le-leb 1 n some_more, lt-ltb (10 * n + (b - 48)) 100000 (omega arith))
    same high (c ∷ d) = rw (le-leb 1 n some_more, le-leb 1 (10 * n + (b - 48)) (omega (arith, some_more)))

-- number_from between two digits: what it has read gives what it will read
pub record NumberRead (text : List ℕ) (at first value end : ℕ) : Type 0 where
  pub within : end ≤ length text
  pub same : number_from first (drop at text) ≡ number_from value (drop end text)

module _ (text : List ℕ) (at first value end : ℕ) (r : NumberRead text at first value end) where
  pub read_over : digits_in (drop end text) ≡ []
      → number_at text (record { value = value; end = end }) ≡ number_from first (drop at text)
  unfolding number_at
  read_over e = rw (rest_in text end r.within) (sym (r.same ∙ from_over value (drop end text) e))

  module _ (h : end < length text) (digit : is_ascii_digit (get_or text end 0) ≡ true) where
    pub read_led : value ≡ 0
        → number_at text (record { value = 0; end = length text + 1 }) ≡ number_from first (drop at text)
    read_led z = at_nowhere text at
        ∙ sym (r.same ∙ from_led value (drop end text) _ _ (digit_next text end h digit) z)

    pub read_long : 9999 < value
        → number_at text (record { value = 0; end = length text + 1 }) ≡ number_from first (drop at text)
    read_long g = at_nowhere text at
        ∙ sym (r.same ∙ from_long value (drop end text) _ _ (digit_next text end h digit) g)

    pub read_again : (value ≡ 0 → ⊥) → value ≤ 9999
        → NumberRead text at first (10 * value + (get_or text end 0 - 48)) (end + 1)
    read_again odd g = record {
      within = omega arith;
      same = r.same ∙ ap (number_from value) (byte_at text end h)
          ∙ from_more value (get_or text end 0) (drop (end + 1) text) digit odd g;
    }

-- number_at: the first digit, then the others
module _ (text : List ℕ) (at : ℕ) (h : at < length text) where
  pub number_other : is_ascii_digit (get_or text at 0) ≡ false
      → number_at text (record { value = 0; end = length text + 1 }) ≡ next (rest_at text at) number_in
  number_other e = number-none text at h (number-zero _ (ap length (digit_other text at h e)))

  pub number-first : (r : Number) → is_ascii_digit (get_or text at 0) ≡ true
      → number_at text r ≡ number_from (get_or text at 0 - 48) (drop (at + 1) text)
      → number_at text r ≡ next (rest_at text at) number_in
  number-first r digit e = e ∙ sym
      (ap (λ o. next o number_in) (rest_byte text at h)
      ∙ first_digit (get_or text at 0) (drop (at + 1) text) (ascii_low _ digit) (ascii_high _ digit))

-- the bytes of a label from a place on
module _ (text : List ℕ) (i : ℕ) where
  label-next : i < length text → (get_or text i 0 ≡ 34 → ⊥) → (get_or text i 0 ≡ 10 → ⊥)
      → label_to (drop i text) ≡ get_or text i 0 ∷ label_to (drop (i + 1) text)
  unfolding label_to front
  label-next h f g = ap label_to (byte_at text i h) ∙ rw (ne_eqb _ _ f, ne_eqb _ _ g)

  pub label-quote : i < length text → get_or text i 0 ≡ 34 → label_to (drop i text) ≡ []
  unfolding label_to front
  label-quote h e = ap label_to (byte_at text i h) ∙ rw (eq-eqb _ _ e)

  pub label_feed : i < length text → get_or text i 0 ≡ 10 → label_to (drop i text) ≡ []
  unfolding label_to front
  label_feed h e = ap label_to (byte_at text i h) ∙ rw e

  pub label_end : length text ≤ i → label_to (drop i text) ≡ []
  unfolding label_to front
  label_end h = ap label_to (drop_of_length-le text {i = i} h)

-- quote_from between two bytes: its place and the label from there on come to the same end
module _ (text : List ℕ) (at end : ℕ)
    (r : at + length (label_to (drop at text)) ≡ end + length (label_to (drop end text))) where
  pub quote_over : label_to (drop end text) ≡ [] → end ≡ at + length (label_to (drop at text))
  quote_over e = omega (arith, r, ap length e)

  pub quote_again : end < length text → (get_or text end 0 ≡ 34 → ⊥) → (get_or text end 0 ≡ 10 → ⊥)
      → at + length (label_to (drop at text)) ≡ end + 1 + length (label_to (drop (end + 1) text))
  quote_again h f g = omega (arith, r, ap length (label-next text end h f g))
