-- The Aldebaran text form, as document 02, 1/12 gives it: "`des (first,rows,states)`, then a line `(from,"label",to)`
-- for each row, each line ended by a line feed, no blanks outside labels but the one after des, numbers of at most five
-- digits without leading zeros." A text is bytes.
use Rattle.std.specs.Prelude.{ℕ, zero, suc, ◌/◌, ◌%◌, ◌<◌, ◌≡◌, cond, List, [], ◌∷◌, ◌++◌, eqb}
use Rattle.hml.specs.Lists.{◌∈◌, each}
use Rattle.digits.specs.Digits.{decimal}
use Rattle.labels.specs.Labels.{of_pairs}
use Rattle.labels.specs.declared.label.Labels.{Labels}

-- the bytes of the form besides numbers and labels
abbrev pub line_feed : ℕ
line_feed = 10

abbrev pub quote : ℕ
quote = 34

abbrev pub comma : ℕ
comma = 44

abbrev pub opening : ℕ
opening = 40

abbrev pub closing : ℕ
closing = 41

-- `des (`
abbrev pub des : List ℕ
des = 100 ∷ 101 ∷ 115 ∷ 32 ∷ opening ∷ []

-- what the header says
pub record Header : Type 0 where
  pub first : ℕ
  pub rows : ℕ
  pub states : ℕ

-- a header of three numbers
abbrev pub header_with : ℕ → ℕ → ℕ → Header
header_with first rows states = record { first = first; rows = rows; states = states }

-- what a line says; its label is the bytes between the quotes
pub record Line : Type 0 where
  pub from : ℕ
  pub label : List ℕ
  pub to : ℕ

-- what a whole text says
pub record Form : Type 0 where
  pub header : Header
  pub lines : List Line

-- `des (first,rows,states)`
unfoldable pub header_line : Header → List ℕ
header_line h =
    des
    ++ (decimal h.first
    ++ (comma ∷ (decimal h.rows ++ (comma ∷ (decimal h.states ++ (closing ∷ []))))))

-- `(from,"label",to)`
unfoldable pub row_line : Line → List ℕ
row_line l =
    opening ∷ (decimal l.from
    ++ (comma ∷ quote ∷ (l.label ++ (quote ∷ comma ∷ (decimal l.to ++ (closing ∷ []))))))

-- "each line ended by a line feed"
unfoldable pub ended : List ℕ → List ℕ
ended line = line ++ (line_feed ∷ [])

-- the text that says it
unfoldable pub written : Form → List ℕ
written g = ended (header_line g.header) ++ each (λ l. ended (row_line l)) g.lines

-- "numbers of at most five digits"
abbrev pub Short : ℕ → Type 0
Short n = n < 100000

-- a header and a line of the form; "a label (any bytes, or none, but double quotes and line feeds)"
pub record ShortHeader (h : Header) : Type 0 where
  pub first : Short h.first
  pub rows : Short h.rows
  pub states : Short h.states

pub record PlainLine (l : Line) : Type 0 where
  pub from : Short l.from
  pub label : (b : ℕ) → b ∈ l.label → (b ≡ quote → ⊥) × (b ≡ line_feed → ⊥)
  pub to : Short l.to

-- a text of this form, and what it says
pub record Says (text : List ℕ) (g : Form) : Type 0 where
  pub bytes : text ≡ written g
  pub header : ShortHeader g.header
  pub lines : (l : Line) → l ∈ g.lines → PlainLine l

-- "Labels are spelled i for the silent step, and a1! and a1? for the labels 1 and 2, and so on to a15! and a15?"
unfoldable pub spelled : ℕ → List ℕ
spelled zero = 105 ∷ []
spelled (suc a) = 97 ∷ (decimal (suc (a / 2)) ++ (cond (eqb (a % 2) 0) 33 63 ∷ []))

-- "with k taken as 15"
abbrev pub fifteen : Labels
fifteen = of_pairs 15
