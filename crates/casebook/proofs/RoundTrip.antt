-- The round trip of casebooks: what was written reads to its parts, what was read is what its parts write, and nothing
-- else is accepted.
use Prim.Native.Nat.{ℕ, ◌+◌, ◌≤◌}
use mathlib.Core.Path.{◌≡◌, refl, sym, ◌∙◌, ap, subst⁻¹}
use mathlib.Core.Logic.{◌↔◌}
use mathlib.Core.List.{List, [], ◌∷◌, ◌++◌, append-nil}
use native.Mathlib.Omega.{arith}
use lib.ListN.{length, get_or, drop, length-append, drop_of_length-le}
use lib.Dec.{ltb}
use borrow.Author.Tests.{le-ltb}
use Rattle.hml.proofs.Tests.{apart, decided_lt}
use Rattle.labels.specs.Refusals.{refused_if, first_of, Check}
use Rattle.labels.specs.Labels.{check_labels}
use Rattle.labels.specs.declared.label.Labels.{Labels}
use Rattle.labels.specs.declared.refusal.Refusal.TheVariants.{BytesAfter}
use Rattle.labels.proofs.Refusals.{judges, judged_fault, both_sound}
use Rattle.tables.specs.Tables.{check_table}
use Rattle.machines.specs.Joints.{check_joint}
use Rattle.machines.specs.Cases.{Case}
use Rattle.formulas.specs.Formulas.{question_limit, check_formula}
use Rattle.records.specs.Records.{lengths_of, fit_length, may_stand, next_at, body_of, labels_of, labels_bytes}
use Rattle.records.specs.Records.{record_bytes}
use Rattle.records.specs.declared.record.Cursor.{Cursor}
use Rattle.records.specs.declared.record.Record.{Record}
use Rattle.records.proofs.Records.{only_kind, fit_longest}
use Rattle.records.proofs.RecordLaws.{Bytes, Lies, placed, behind, next-record, record-next, record-length}
use Rattle.records.proofs.RecordLaws.{header-fits, first_byte, single}
use Rattle.casebook.specs.Reading.{labels_kinds, left_kinds, right_kinds, run_kinds, question_kinds, longest_casebook}
use Rattle.casebook.specs.Reading.{after, if_sound, read_question, read_run, read_right, read_left, read_of, case_of}
use Rattle.casebook.specs.Writing.{casebook_bytes, check_parts}
use Rattle.casebook.specs.declared.read.Parts.{Parts}
use Rattle.casebook.proofs.PartLengths.{table_fits, joint-fits, question-fits}
use Rattle.labels.specs.declared.refusal.Refusal.{Refusal}
use Rattle.std.specs.Prelude.{Err, Ok, Result}

-- a case of which each part is sound by itself
pub record SoundParts (c : Case) : Type 0 where
  pub labels : check_labels c.labels ≡ Ok tt
  pub left : check_table c.labels c.left ≡ Ok tt
  pub right : check_table c.labels c.right ≡ Ok tt
  pub run : check_joint c.labels c.left c.right c.run ≡ Ok tt
  pub question : check_formula c.labels question_limit c.question ≡ Ok tt

module _ (c : Case) where
  abbrev k : Labels
  k = c.labels

  -- parts that are sound together are sound each
  pub sound_parts : check_parts c ≡ Ok tt → SoundParts c
  unfolding check_parts first_of
  sound_parts e =
      let (a, b) = both_sound (check_labels k) _ e in
      let (d, f) = both_sound (check_table k c.left) _ b in
      let (g, h) = both_sound (check_table k c.right) _ f in
      let (i, j) = both_sound (check_joint k c.left c.right c.run) _ h in
      record {
        labels = a;
        left = d;
        right = g;
        run = i;
        question = (both_sound (check_formula k question_limit c.question) (Ok tt) j).0;
      }

  -- parts that are sound each are sound together
  pub parts_sound : SoundParts c → check_parts c ≡ Ok tt
  unfolding check_parts first_of
  parts_sound s = rw (s.labels, s.left, s.right, s.run, s.question)

  -- a casebook has 21 bytes beside its four parts
  pub casebook_length : length (casebook_bytes c)
      ≡ 21 + length c.left + length c.right + length c.run + length c.question
  unfolding casebook_bytes
  casebook_length = simp (length-append, record-length) (omega arith)

  -- a casebook of sound parts is no longer than the longest
  pub casebook_short : check_parts c ≡ Ok tt → length (casebook_bytes c) ≤ longest_casebook
  unfolding longest_casebook may_stand fit_length lengths_of
  casebook_short e =
      let s = sound_parts e in
      omega (
        arith,
        casebook_length,
        fit_longest labels_kinds 1 3 refl refl,
        fit_longest left_kinds 2 (2 + length c.left) refl (table_fits k c.left s.left).0,
        fit_longest right_kinds 3 (2 + length c.right) refl (table_fits k c.right s.right).1,
        fit_longest run_kinds 4 (2 + length c.run) refl
            (joint-fits k c.left c.right c.run s.run).0,
        fit_longest question_kinds 5 (2 + length c.question) refl
            (question-fits k c.question s.question).0,
      )

-- what a casebook that was read shows: contents that are read are sound, a record that is read was found
module _ {X : Type 0} {p : Parts} where
  sound_read : (x : Check) {y : Result Parts Refusal} → if_sound x y ≡ Ok p → (x ≡ Ok tt → y ≡ Ok p → X)
      → X
  sound_read (Ok _) e on = on refl e
  sound_read (Err z) e on = absurd (apart cc)

  record_read : (n : Result (Record × Cursor) Refusal) (judge : Record → Check) (go : Record → Cursor → Result Parts Refusal)
      → after n (λ r c. if_sound (judge r) (go r c)) ≡ Ok p
      → ((r : Record) (c : Cursor) → n ≡ Ok (r, c) → judge r ≡ Ok tt → go r c ≡ Ok p → X) → X
  record_read (Ok (r, c)) judge go e on = sound_read (judge r) e (on r c refl)
  record_read (Err x) judge go e on = absurd (apart cc)

-- equal readings have equal parts
same_parts : {x y : Parts} → ◌≡◌ {A = Result Parts Refusal} (Ok x) (Ok y) → x ≡ y
same_parts e = cc

-- nothing is behind the last record
nothing-behind : (at n : ℕ) → refused_if (ltb at n) BytesAfter ≡ Ok tt → n ≤ at
nothing-behind at n e = omega (arith, (judges (judged_fault BytesAfter (decided_lt at n))).0 e)

-- the labels' record shows k where its body is that byte alone
labels_shown : (s : List ℕ) (h : Record) (x : Labels) → body_of s h ≡ labels_bytes x → labels_of s h ≡ x
unfolding labels_of
labels_shown s h x e =
    let first = first_byte s h (omega (arith, ap length e)) in
    let z : get_or s h.start 0 ≡ x.pairs = sym first ∙ ap (λ l. get_or l 0 0) e in
    rw z

-- five records, each once, in this order, with sound contents, and nothing behind them
record Chain (s : List ℕ) (p : Parts) : Type 0 where
  c1 : Cursor
  c2 : Cursor
  c3 : Cursor
  c4 : Cursor
  c5 : Cursor
  first : next_at s 0 labels_kinds ≡ Ok (p.labels, c1)
  second : next_at s c1.at left_kinds ≡ Ok (p.left, c2)
  third : next_at s c2.at right_kinds ≡ Ok (p.right, c3)
  fourth : next_at s c3.at run_kinds ≡ Ok (p.run, c4)
  fifth : next_at s c4.at question_kinds ≡ Ok (p.question, c5)
  sound : SoundParts (case_of s p)
  all : length s ≤ c5.at

module _ (s : List ℕ) (p : Parts) where
  -- such a chain is read
  chain_read : Chain s p → read_of s ≡ Ok p
  unfolding case_of read_of read_left read_right read_run read_question
  chain_read w =
      let a = w.sound in
      rw (
        w.first,
        a.labels,
        w.second,
        a.left,
        w.third,
        a.right,
        w.fourth,
        a.run,
        w.fifth,
        a.question,
        le-ltb w.c5.at (length s) w.all,
      )

  -- what is read is such a chain
  read_chain : read_of s ≡ Ok p → Chain s p
  unfolding case_of read_of read_left read_right read_run read_question
  read_chain e =
      record_read (next_at s 0 labels_kinds) (λ h. check_labels (labels_of s h)) (λ h c. read_left s h c.at) e
      (λ h c1 n1 f1 e1.
      let k = labels_of s h in
      record_read (next_at s c1.at left_kinds) (λ l. check_table k (body_of s l)) (λ l c. read_right s h l c.at) e1
      (λ l c2 n2 f2 e2.
      record_read (next_at s c2.at right_kinds) (λ r. check_table k (body_of s r)) (λ r c. read_run s h l r c.at) e2
      (λ r c3 n3 f3 e3.
      record_read (next_at s c3.at run_kinds) (λ j. check_joint k (body_of s l) (body_of s r) (body_of s j))
      (λ j c. read_question s h l r j c.at) e3 (λ j c4 n4 f4 e4.
      record_read (next_at s c4.at question_kinds) (λ q. check_formula k question_limit (body_of s q))
      (λ q c. if_sound (refused_if (ltb c.at (length s)) BytesAfter)
      (Ok (record { labels = h; left = l; right = r; run = j; question = q }))) e4 (λ q c5 n5 f5 e5.
      sound_read (refused_if (ltb c5.at (length s)) BytesAfter) e5 (λ a b. rw (← same_parts b) (record {
        c1 = c1;
        c2 = c2;
        c3 = c3;
        c4 = c4;
        c5 = c5;
        first = n1;
        second = n2;
        third = n3;
        fourth = n4;
        fifth = n5;
        sound = record { labels = f1; left = f2; right = f3; run = f4; question = f5 };
        all = nothing-behind c5.at (length s) a;
      })))))))

  -- the parts of a casebook that was read are sound
  pub read_sound : read_of s ≡ Ok p → check_parts (case_of s p) ≡ Ok tt
  read_sound e = parts_sound (case_of s p) (read_chain e).sound

-- bytes that read to a casebook, and show this case
pub record ReadsTo (s : List ℕ) (c : Case) : Type 0 where
  pub parts : Parts
  pub read : read_of s ≡ Ok parts
  pub shows : case_of s parts ≡ c

-- reading a casebook that was written gives its parts
pub read_written : (c : Case) → check_parts c ≡ Ok tt → ReadsTo (casebook_bytes c) c
unfolding casebook_bytes case_of may_stand fit_length lengths_of
read_written c e =
    let s = casebook_bytes c in
    let k = c.labels in
    let w = sound_parts c e in
    let c1 = behind 0 (labels_bytes k) in
    let c2 = behind c1.at c.left in
    let c3 = behind c2.at c.right in
    let c4 = behind c3.at c.run in
    let p : Parts = record {
      labels = placed 1 0 (labels_bytes k);
      left = placed 2 c1.at c.left;
      right = placed 3 c2.at c.right;
      run = placed 4 c3.at c.run;
      question = placed 5 c4.at c.question;
    } in
    let (n1, b1, d1) = next-record s 0 labels_kinds 1 (labels_bytes k) _ refl refl refl in
    let (n2, b2, d2) = next-record s c1.at left_kinds 2 c.left _ refl (table_fits k c.left w.left).0 d1 in
    let (n3, b3, d3) = next-record s c2.at right_kinds 3 c.right _ refl (table_fits k c.right w.right).1
    d2 in
    let (n4, b4, d4) = next-record s c3.at run_kinds 4 c.run _ refl
    (joint-fits k c.left c.right c.run w.run).0 d3 in
    let (n5, b5, d5) = next-record s c4.at question_kinds 5 c.question [] refl
    (question-fits k c.question w.question).0 (d4 ∙ sym (append-nil (record_bytes 5 c.question))) in
    let shown : case_of s p ≡ c = rw (labels_shown s (placed 1 0 (labels_bytes k)) c.labels b1, b2, b3, b4, b5) refl in
    record {
      parts = p;
      read = chain_read s p (record {
        c1 = c1;
        c2 = c2;
        c3 = c3;
        c4 = c4;
        c5 = behind c4.at c.question;
        first = n1;
        second = n2;
        third = n3;
        fourth = n4;
        fifth = n5;
        sound = subst⁻¹ SoundParts shown w;
        all = omega (arith, casebook_length c);
      });
      shows = shown;
    }

-- a record that lies at a place of one kind stands there as the bytes of that kind
lies_as : (s : List ℕ) (at k : ℕ) (r : Record) (c : Cursor) → Lies s at (k ∷ []) r c
    → drop at s ≡ record_bytes k (body_of s r) ++ drop c.at s
lies_as s at k r c y = rw (← only_kind k r.kind y.may) y.bytes

-- a casebook that was read, of bytes
module _ (s : List ℕ) (bytes : Bytes s) (p : Parts) (e : read_of s ≡ Ok p) where
  w : Chain s p
  w = read_chain s p e

  -- its records
  labels_lies : Lies s 0 labels_kinds p.labels w.c1
  labels_lies = record-next s 0 labels_kinds bytes p.labels w.c1 w.first

  left_lies : Lies s w.c1.at left_kinds p.left w.c2
  left_lies = record-next s w.c1.at left_kinds bytes p.left w.c2 w.second

  right_lies : Lies s w.c2.at right_kinds p.right w.c3
  right_lies = record-next s w.c2.at right_kinds bytes p.right w.c3 w.third

  run_lies : Lies s w.c3.at run_kinds p.run w.c4
  run_lies = record-next s w.c3.at run_kinds bytes p.run w.c4 w.fourth

  question_lies : Lies s w.c4.at question_kinds p.question w.c5
  question_lies = record-next s w.c4.at question_kinds bytes p.question w.c5 w.fifth

  -- the body of the first is k alone
  one_byte : length (body_of s p.labels) ≡ 1
  one_byte =
      let n = length (body_of s p.labels) in
      let k = only_kind 1 p.labels.kind labels_lies.may in
      header-fits n (ap (λ x. fit_length x (2 + n)) (sym k) ∙ labels_lies.fits)

  -- writing its parts gives its bytes
  pub written_read : casebook_bytes (case_of s p) ≡ s
  unfolding casebook_bytes case_of labels_of
  written_read =
      let k : body_of s p.labels ≡ get_or s p.labels.start 0 ∷ [] = single (body_of s p.labels) one_byte
      ∙ ap (λ x. x ∷ []) (first_byte s p.labels (omega (arith, one_byte))) in
      sym (lies_as s 0 1 p.labels w.c1 labels_lies ∙ rw (
        k,
        lies_as s w.c1.at 2 p.left w.c2 left_lies,
        lies_as s w.c2.at 3 p.right w.c3 right_lies,
        lies_as s w.c3.at 4 p.run w.c4 run_lies,
        lies_as s w.c4.at 5 p.question w.c5 question_lies,
        drop_of_length-le s {i = w.c5.at} w.all,
        append-nil (record_bytes 5 (body_of s p.question)),
      ))

  -- its first record is the shortest there is: k alone, behind the record's length and kind
  pub labels-placed : (p.labels.start ≡ 4) × (p.labels.len ≡ 1)
  labels-placed = (labels_lies.start_is, sym labels_lies.body_length ∙ one_byte)

-- a casebook is accepted exactly if it is what writing makes of a case with sound parts
pub accepted_exactly : (s : List ℕ) → Bytes s
    → ((p : Parts) × (read_of s ≡ Ok p))
    ↔ ((c : Case) × (check_parts c ≡ Ok tt) × (s ≡ casebook_bytes c))
accepted_exactly s b = (
  λ (p, e). (case_of s p, read_sound s p e, sym (written_read s b p e)),
  λ (c, e, z). let t = read_written c e in (t.parts, rw z t.read),
)

-- a casebook that was read is short, and its records lie in it
pub record Placing (s : List ℕ) (p : Parts) : Type 0 where
  pub short : length s ≤ longest_casebook
  pub labels : p.labels.start + p.labels.len ≤ length s
  pub left : p.left.start + p.left.len ≤ length s
  pub right : p.right.start + p.right.len ≤ length s
  pub run : p.run.start + p.run.len ≤ length s
  pub question : p.question.start + p.question.len ≤ length s

-- a record that lies in some bytes ends in them
lies_within : (s : List ℕ) (at : ℕ) (kinds : List ℕ) (r : Record) (c : Cursor) → Lies s at kinds r c
    → r.start + r.len ≤ length s
lies_within s at kinds r c y = omega (arith, y.start_is, y.behind_is, y.room)

pub placing : (s : List ℕ) → Bytes s → (p : Parts) → read_of s ≡ Ok p → Placing s p
placing s bytes p e = record {
  short = omega (arith, casebook_short (case_of s p) (read_sound s p e), ap length (written_read s bytes p e));
  labels = lies_within s _ _ p.labels _ (labels_lies s bytes p e);
  left = lies_within s _ _ p.left _ (left_lies s bytes p e);
  right = lies_within s _ _ p.right _ (right_lies s bytes p e);
  run = lies_within s _ _ p.run _ (run_lies s bytes p e);
  question = lies_within s _ _ p.question _ (question_lies s bytes p e);
}
