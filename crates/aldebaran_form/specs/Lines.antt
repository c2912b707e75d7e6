-- Reading a line of the form from left to right: document 02, 1/12. What lines are of the form, and what they say, is
-- `header_line` and `row_line` (Forms); this agrees with them (`header-written` and `header_read`, `line-written` and
-- `line_read`, proofs/WrittenLines).
use Rattle.std.specs.Prelude.{ℕ, zero, suc, Bool, true, false, cond, ◌&&◌, ◌||◌, not, List, [], ◌∷◌, length, get_or, drop, eqb, leb, None, Option, Some}
use Rattle.hml.specs.Lists.{guard}
use Rattle.digits.specs.Digits.{read_from}
use Rattle.aldebaran_form.specs.Forms.{quote, comma, opening, closing, des, Header, Line, spelled}

-- if something was read, what is read next; else nothing
module _ {A B : Type 0} where
  abbrev pub next : Option A → (A → Option B) → Option B
  next None f = None
  next (Some x) f = f x

-- what stands behind these bytes, if the line begins with them
unfoldable pub behind : List ℕ → List ℕ → Option (List ℕ)
behind [] line = Some line
behind (b ∷ bytes) [] = None
behind (b ∷ bytes) (c ∷ line) = cond (eqb c b) (behind bytes line) None

-- the bytes that a line begins with, as long as they pass a test
unfoldable pub front : (ℕ → Bool) → List ℕ → List ℕ
front passes [] = []
front passes (b ∷ line) = cond (passes b) (b ∷ front passes line) []

-- the digits that a line begins with
unfoldable pub is_digit : ℕ → Bool
is_digit b = leb 48 b && leb b 57

unfoldable pub digits_in : List ℕ → List ℕ
digits_in line = front is_digit line

-- "numbers of at most five digits without leading zeros"
unfoldable pub is_number : List ℕ → Bool
is_number d = leb 1 (length d) && (leb (length d) 5 && (eqb (length d) 1 || not (eqb (get_or d 0 0) 48)))

-- the number that a line begins with, and what stands behind it
unfoldable pub number_in : List ℕ → Option (ℕ × List ℕ)
number_in line = guard (is_number (digits_in line)) (read_from 0 (digits_in line), drop (length (digits_in line)) line)

-- the bytes of a label: up to the next double quote
unfoldable pub label_in : List ℕ → List ℕ
label_in line = front (λ b. not (eqb b quote)) line

-- nothing else stands on the line
unfoldable pub ending : {A : Type 0} → List ℕ → A → Option A
ending [] x = Some x
ending (b ∷ line) x = None

-- `des (first,rows,states)`
unfoldable pub header_in : List ℕ → Option Header
header_in line =
    next (behind des line) (λ l.
    next (number_in l) (λ first.
    next (behind (comma ∷ []) first.1) (λ l.
    next (number_in l) (λ rows.
    next (behind (comma ∷ []) rows.1) (λ l.
    next (number_in l) (λ states.
    next (behind (closing ∷ []) states.1) (λ l.
    ending l (record { first = first.0; rows = rows.0; states = states.0 }))))))))

-- `(from,"label",to)`
unfoldable pub line_in : List ℕ → Option Line
line_in line =
    next (behind (opening ∷ []) line) (λ l.
    next (number_in l) (λ from.
    next (behind (comma ∷ quote ∷ []) from.1) (λ l.
    next (behind (quote ∷ comma ∷ []) (drop (length (label_in l)) l)) (λ m.
    next (number_in m) (λ to.
    next (behind (closing ∷ []) to.1) (λ m.
    ending m (record { from = from.0; label = label_in l; to = to.0 })))))))

-- the equality test on bytes
unfoldable pub same_bytes : List ℕ → List ℕ → Bool
same_bytes [] [] = true
same_bytes [] (c ∷ l) = false
same_bytes (b ∷ k) [] = false
same_bytes (b ∷ k) (c ∷ l) = eqb b c && same_bytes k l

-- the label from 0 to n - 1 that is spelled so; no two are spelled alike (`spelled-one-to-one`, proofs/LabelReading)
unfoldable pub label_among : ℕ → List ℕ → Option ℕ
label_among zero bytes = None
label_among (suc n) bytes = cond (same_bytes (spelled n) bytes) (Some n) (label_among n bytes)

-- the labels are 0 to 30
unfoldable pub label_of : List ℕ → Option ℕ
label_of bytes = label_among 31 bytes
