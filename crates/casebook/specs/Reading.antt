-- Reading a casebook: document 01, "The casebook" and "Who can cause a refusal": "Checked record by record, in the
-- order 1 (header), 2, 3, 1 (body), then contents from left to right."
use Rattle.std.specs.Prelude.{ℕ, ◌+◌, List, [], ◌∷◌, length, ltb, Err, Ok, Result}
use Rattle.labels.specs.Refusals.{refused_if, Answer, refused_as, giving, Check}
use Rattle.labels.specs.Labels.{check_labels}
use Rattle.labels.specs.declared.refusal.Refusal.TheVariants.{BytesAfter}
use Rattle.tables.specs.Tables.{check_table}
use Rattle.machines.specs.Joints.{check_joint}
use Rattle.machines.specs.Cases.{Case}
use Rattle.formulas.specs.Formulas.{question_limit, check_formula}
use Rattle.records.specs.Records.{longest_record, next_at, body_of, labels_of}
use Rattle.records.specs.declared.record.Cursor.{Cursor}
use Rattle.records.specs.declared.record.Record.{Record}
use Rattle.casebook.specs.declared.read.Parts.{Parts}
use Rattle.labels.specs.declared.refusal.Refusal.{Refusal}

-- go on with a record and the position behind it
abbrev pub after : Result (Record × Cursor) Refusal → (Record → Cursor → Result Parts Refusal) → Result Parts Refusal
after (Ok (r, c)) go = go r c
after (Err x) go = Err x

-- go on if the contents are sound
abbrev pub if_sound : Check → Result Parts Refusal → Result Parts Refusal
if_sound (Ok _) go = go
if_sound (Err x) go = Err x

-- "Five records, each once, in this order": the kinds that may stand at each place
abbrev pub labels_kinds : List ℕ
labels_kinds = 1 ∷ []

abbrev pub left_kinds : List ℕ
left_kinds = 2 ∷ []

abbrev pub right_kinds : List ℕ
right_kinds = 3 ∷ []

abbrev pub run_kinds : List ℕ
run_kinds = 4 ∷ []

abbrev pub question_kinds : List ℕ
question_kinds = 5 ∷ []

-- the length of the longest casebook: at each place the longest record
unfoldable pub longest_casebook : ℕ
longest_casebook =
    longest_record labels_kinds + longest_record left_kinds + longest_record right_kinds + longest_record run_kinds
    + longest_record question_kinds

-- the question record, then 11: "bytes after the question record"
unfoldable pub read_question : List ℕ → Record → Record → Record → Record → ℕ → Result Parts Refusal
read_question s h l r j at = after (next_at s at question_kinds) (λ q c.
    if_sound (check_formula (labels_of s h) question_limit (body_of s q))
    (if_sound (refused_if (ltb c.at (length s)) BytesAfter)
    (Ok (record { labels = h; left = l; right = r; run = j; question = q }))))

unfoldable pub read_run : List ℕ → Record → Record → Record → ℕ → Result Parts Refusal
read_run s h l r at = after (next_at s at run_kinds) (λ j c.
    if_sound (check_joint (labels_of s h) (body_of s l) (body_of s r) (body_of s j)) (read_question s h l r j c.at))

unfoldable pub read_right : List ℕ → Record → Record → ℕ → Result Parts Refusal
read_right s h l at = after (next_at s at right_kinds) (λ r c.
    if_sound (check_table (labels_of s h) (body_of s r)) (read_run s h l r c.at))

unfoldable pub read_left : List ℕ → Record → ℕ → Result Parts Refusal
read_left s h at = after (next_at s at left_kinds) (λ l c.
    if_sound (check_table (labels_of s h) (body_of s l)) (read_right s h l c.at))

-- all of it
unfoldable pub read_of : List ℕ → Result Parts Refusal
read_of s = after (next_at s 0 labels_kinds) (λ h c. if_sound (check_labels (labels_of s h)) (read_left s h c.at))

-- the case that the bytes show, where their parts lie so
unfoldable pub case_of : List ℕ → Parts → Case
case_of s p = record {
  labels = labels_of s p.labels;
  left = body_of s p.left;
  right = body_of s p.right;
  run = body_of s p.run;
  question = body_of s p.question;
}

-- the number of a reading, and its values: start and length of the bodies of the five records, in their order
unfoldable pub read_answer : Result Parts Refusal → Answer
read_answer (Ok p) = giving
    (p.labels.start
    ∷ p.labels.len
    ∷ p.left.start
    ∷ p.left.len
    ∷ p.right.start
    ∷ p.right.len
    ∷ p.run.start
    ∷ p.run.len
    ∷ p.question.start
    ∷ p.question.len
    ∷ [])
read_answer (Err x) = refused_as x
