-- Records: document 01, "The casebook". "A record is a two-byte length, a two-byte kind, then the body; both
-- little-endian. The length counts kind and body. A reading position steps over one record and yields the next
-- position."
use Rattle.std.specs.Prelude.{ℕ, ◌+◌, ◌-◌, ◌*◌, ◌/◌, ◌%◌, max, Bool, cond, ◌&&◌, ◌||◌, not, List, [], ◌∷◌, ◌++◌, length, get_or, take, drop, eqb, leb, ltb, Err, Ok, Result}
use Rattle.hml.specs.Lists.{any}
use Rattle.labels.specs.Refusals.{Answer, refused_as, giving}
use Rattle.labels.specs.Labels.{of_pairs}
use Rattle.labels.specs.declared.label.Labels.{Labels}
use Rattle.labels.specs.declared.refusal.Refusal.TheVariants.{Truncated, WrongKind, WrongLength}
use Rattle.records.specs.declared.record.Lengths.{Lengths}
use Rattle.records.specs.declared.record.Record.{Record}
use Rattle.records.specs.declared.record.Cursor.{Cursor}
use Rattle.labels.specs.declared.refusal.Refusal.{Refusal}

-- two bytes, the low one first
abbrev pub word_at : List ℕ → ℕ → ℕ
word_at s i = get_or s i 0 + 256 * get_or s (i + 1) 0

-- the table of records: for each kind the shortest and the longest length, and the step from one to the next; any other
-- kind has no length
unfoldable pub lengths_of : ℕ → Lengths
-- "3"
lengths_of kind = cond (eqb kind 1) (record { shortest = 3; longest = 3; step = 1 })
    -- "3 to 1,539, a multiple of 3"
    (cond (eqb kind 2 || eqb kind 3) (record { shortest = 3; longest = 1539; step = 3 })
    -- "4 + 3 times steps, up to 604"
    (cond (eqb kind 4) (record { shortest = 4; longest = 604; step = 3 })
    -- "even, 4 to 130"
    (cond (eqb kind 5) (record { shortest = 4; longest = 130; step = 2 })
    (record { shortest = 3; longest = 0; step = 1 }))))

-- can a record of this kind have this length?
unfoldable pub fit_length : ℕ → ℕ → Bool
fit_length kind n =
    let lengths = lengths_of kind in
    leb lengths.shortest n && (leb n lengths.longest && eqb ((n - lengths.shortest) % lengths.step) 0)

-- the longest body of a record of these kinds; a length counts the kind's two bytes too
unfoldable pub longest_body : List ℕ → ℕ
longest_body [] = 0
longest_body (kind ∷ kinds) = max ((lengths_of kind).longest - 2) (longest_body kinds)

-- the longest record of these kinds: its length and its kind, of two bytes each, and the longest body
abbrev pub longest_record : List ℕ → ℕ
longest_record kinds = 4 + longest_body kinds

-- is a kind one of those that may stand at a place?
unfoldable pub may_stand : List ℕ → ℕ → Bool
may_stand kinds kind = any (λ k. eqb k kind) kinds

-- stepping over one record, of one of the kinds that may stand there: "1 (header), 2, 3, 1 (body)"
unfoldable pub next_at : List ℕ → ℕ → List ℕ → Result (Record × Cursor) Refusal
next_at s at kinds =
    cond (ltb (length s) (at + 4)) (Err Truncated)
    (cond (not (may_stand kinds (word_at s (at + 2)))) (Err WrongKind)
    (cond (not (fit_length (word_at s (at + 2)) (word_at s at))) (Err WrongLength)
    (cond (ltb (length s) (at + 2 + word_at s at)) (Err Truncated)
    (Ok (record { kind = word_at s (at + 2); start = at + 4; len = word_at s at - 2 }, record { at = at + 2 + word_at s at })))))

-- the number of such a step, and its values: kind, start and length of the record's body, and the next position
unfoldable pub next_answer : Result (Record × Cursor) Refusal → Answer
next_answer (Ok (r, c)) = giving (r.kind ∷ r.start ∷ r.len ∷ c.at ∷ [])
next_answer (Err x) = refused_as x

-- the body of a record
unfoldable pub body_of : List ℕ → Record → List ℕ
body_of s r = take r.len (drop r.start s)

-- the labels that the first record shows: its body is k
unfoldable pub labels_of : List ℕ → Record → Labels
labels_of s r = of_pairs (get_or s r.start 0)

-- labels as such a body
abbrev pub labels_bytes : Labels → List ℕ
labels_bytes k = k.pairs ∷ []

-- a record as bytes
abbrev pub word_bytes : ℕ → List ℕ
word_bytes n = n % 256 ∷ n / 256 ∷ []

unfoldable pub record_bytes : ℕ → List ℕ → List ℕ
record_bytes kind body = word_bytes (2 + length body) ++ (word_bytes kind ++ body)
