-- Reading and writing over the calls: a text that was written is read as the table and first state it was written from;
-- a text that is read gives an accepted table with the text's rows; texts with the same lines in another order are
-- answered alike, refusals included; and a table that was read is written as a text with the same header and rows.
use Prim.Native.Nat.{ℕ, zero, suc, ◌/◌, ◌%◌, ◌≤◌, ◌<◌}
use native.Mathlib.Omega.{arith}
use mathlib.Core.Path.{◌≡◌, refl, sym, ◌∙◌, ap}
use mathlib.Core.Logic.{◌↔◌, ◌⊎◌, inl, inr}
use mathlib.Core.Bool.{Bool, true, false, cond}
use mathlib.Core.List.{List, [], ◌∷◌, ◌++◌, map}
use mathlib.Core.List.Memᴰ.{head as here}
use mathlib.Core.List.Memᴰ.{not-nil as nowhere}
use mathlib.Core.List.Memᴰ.{tail as next}
use mathlib.Core.List.Memᴰ.{cases_cons as ∈-cons}
use lib.ListN.{length, take, drop, length-map}
use lib.Dec.{eqb, leb}
use lib.Seq.{take-append_seam}
use borrow.Author.Tests.{eq-eqb, eqb-true, lt-ltb, le-ltb, ltb-true, lt-leb, le-leb, leb-false}
use Rattle.hml.specs.Lists.{◌∈◌}
use Rattle.hml.specs.Labels.{highest}
use Rattle.hml.specs.Machine.{Row}
use Rattle.hml.proofs.Tests.{apart, both_true, denied}
use Rattle.digits.specs.Digits.{decimal}
use Rattle.labels.specs.Labels.{count}
use Rattle.labels.specs.Refusals.{refused_if, first_of, in_front, Check}
use Rattle.labels.specs.declared.refusal.Refusal.TheVariants as refusal
use Rattle.labels.proofs.Refusals.{both_sound, unrefused}
use Rattle.tables.specs.Tables.{states_of, bytes_of, rows_of, fit_states, in_range, check_table, SoundTable}
use Rattle.tables.proofs.Chunks.{threes_chunks, chunks_whole}
use Rattle.tables.proofs.Rows.{length-rows}
use Rattle.tables.proofs.SoundTables.{sound_table}
use Rattle.aldebaran_form.specs.Forms.{line_feed, quote, Header, Line, Form, Short, PlainLine, Says, spelled, fifteen}
use Rattle.aldebaran.specs.Reading.{form_of, is_label, rows_with, rows_in, all, fit_header}
use Rattle.aldebaran.specs.Reading.{fit_rows, check_form, table_bytes, check_read, gives_table, answered}
use Rattle.aldebaran.specs.declared.read.ReadTable as given
use Rattle.aldebaran.specs.Reading.{read_of_form, read_of, output_of_form, table_output}
use Rattle.aldebaran_writing.specs.Writing.{line_of, form_for, text_of, check_text, write_of, text_output}
use Rattle.aldebaran_writing.specs.Writing.{answered as answered-text}
use Rattle.aldebaran_form.proofs.Lacks.{Lacks, lacks_nil, lacks_cons, lacks_append}
use Rattle.aldebaran_form.proofs.WrittenNumbers.{decimal_lacks}
use Rattle.aldebaran_form.proofs.LabelReading.{label-found}
use Rattle.aldebaran.proofs.Exactly.{PlainLines, form_written, read_written}
use Rattle.aldebaran.proofs.Order.{order_kept, order_length, rising_once, decided_ninth}
use Rattle.aldebaran.proofs.RowCalls.{row_each}
use Rattle.aldebaran.proofs.Accepted.{SoundForm, sound_form, accepted, table_rows, table_same}
use Rattle.aldebaran_writing.proofs.TextLengths.{text_short}
use Rattle.aldebaran.proofs.Shuffled.{Shuffled, shuffled_length, shuffled_all, shuffled_rows, shuffled_twice}
use Rattle.aldebaran.proofs.Shuffled.{shuffled_ninth, shuffled_order}
use Rattle.std.specs.Prelude.{Err, None, Ok, Option, Some}

-- a row in range
abbrev Ranged : ℕ → Row → Type 0
Ranged n r = (r.0 < n) × (r.1 ≤ 30) × (r.2 < n)

-- of the bytes below the digits, a spelled label has at most the exclamation mark
sign_other : (b : ℕ) (x : Bool) → b < 48 → (b ≡ 33 → ⊥) → cond x 33 63 ≡ b → ⊥
sign_other b true h k e = k (sym e)
sign_other b false h k e = absurd (omega (arith, h, e))

spelled_lacks : (b a : ℕ) → b < 48 → (b ≡ 33 → ⊥) → Lacks b (spelled a)
unfolding spelled
spelled_lacks b zero h k = lacks_cons b 105 [] (λ e. absurd (omega (arith, h, e))) (lacks_nil b)
spelled_lacks b (suc a) h k =
    let sign : ℕ = cond (eqb (a % 2) 0) 33 63 in
    lacks_cons b 97 (decimal (suc (a / 2)) ++ (sign ∷ [])) (λ e. absurd (omega (arith, h, e)))
    (lacks_append b (decimal (suc (a / 2))) (sign ∷ []) (decimal_lacks b (suc (a / 2)) h)
    (lacks_cons b sign [] (sign_other b (eqb (a % 2) 0) h k) (lacks_nil b)))

-- the line of a row in range is of the form
line_plain : (r : Row) → Short r.0 → Short r.2 → PlainLine (line_of r)
unfolding line_of Lacks
line_plain r h k = record {
  from = h;
  label = λ b i. (
    λ e. spelled_lacks quote r.1 (omega arith) (λ z. omega (arith, z)) b i e,
    λ e. spelled_lacks line_feed r.1 (omega arith) (λ z. omega (arith, z)) b i e,
  );
  to = k;
}

lines_plain : (n : ℕ) (rows : List Row) → n ≤ 64 → ((r : Row) → r ∈ rows → Ranged n r) → PlainLines (map line_of rows)
lines_plain n [] few h l i = absurd (nowhere i)
lines_plain n (r ∷ rows) few h l i = go (∈-cons i) (lines_plain n rows few (λ s j. h s (next j)) l)
  where
    go : (l ≡ line_of r) ⊎ (l ∈ map line_of rows) → (l ∈ map line_of rows → PlainLine l) → PlainLine l
    go (inl e) later =
        rw e (line_plain r (omega (arith, few, h r (here refl))) (omega (arith, few, h r (here refl))))
    go (inr k) later = later k

-- the lines of rows in range: their labels are spelled as labels, and their rows are these
rows-spelled : (n : ℕ) (rows : List Row) → ((r : Row) → r ∈ rows → Ranged n r)
    → all (λ l. is_label l.label) (map line_of rows) ≡ true
unfolding is_label line_of
rows-spelled n [] h = refl
rows-spelled n (r ∷ rows) h =
    rw (label-found r.1 (h r (here refl)).1) (rows-spelled n rows (λ s i. h s (next i)))

rows_again : (n : ℕ) (rows : List Row) → ((r : Row) → r ∈ rows → Ranged n r) → rows_in (map line_of rows) ≡ rows
unfolding rows_in rows_with line_of
rows_again n [] h = refl
rows_again n (r ∷ rows) h =
    rw (label-found r.1 (h r (here refl)).1) (ap (r ∷◌) (rows_again n rows (λ s i. h s (next i))))

-- the test of rows in range
rows-ranged : (n : ℕ) (rows : List Row) → ((r : Row) → r ∈ rows → Ranged n r) → all (in_range fifteen n) rows ≡ true
unfolding in_range count highest
rows-ranged n [] h = refl
rows-ranged n (r ∷ rows) h =
    let (a, b, c) = h r (here refl) in
    rw (lt-ltb r.0 n a, le-leb r.1 30 b, lt-ltb r.2 n c) (rows-ranged n rows (λ s i. h s (next i)))

-- a form that has what the checks ask for is not refused
form_sound : (g : Form) → SoundForm g → check_form g ≡ Ok tt
unfolding check_form first_of fit_rows
form_sound g s = rw (s.header, s.labels, s.states, s.ranged, s.once, s.few)

-- a table of a sound length is its states and its rows
table_whole : (t : List ℕ) → length t % 3 ≡ 1 → states_of t ∷ bytes_of (rows_of t) ≡ t
unfolding bytes_of rows_of
table_whole [] e = absurd (omega (arith, e))
table_whole (n ∷ l) e = ap (n ∷◌) (chunks_whole threes_chunks l (omega (arith, e)))

-- What the text of an accepted table says.
module _ (t : List ℕ) (s : SoundTable fifteen t) where
  table_ranged : (r : Row) → r ∈ rows_of t → Ranged (states_of t) r
  unfolding count highest
  table_ranged r i = s.ranged r i

  -- its rows are the table's
  pub rows_said_lem : (first : ℕ) → rows_in (form_for t first).lines ≡ rows_of t
  unfolding form_for
  rows_said_lem first = rows_again (states_of t) (rows_of t) table_ranged

  -- its table is this one
  pub table_again : (first : ℕ) → table_bytes (form_for t first) ≡ t
  unfolding table_bytes form_for
  table_again first =
      rw (rows_again (states_of t) (rows_of t) table_ranged, order_kept s.rising) (table_whole t s.fits.0)

  module _ (first : ℕ) (h : first < states_of t) where
    -- it is read as what it says
    pub text_form : form_of (text_of t first) ≡ Some (form_for t first)
    unfolding text_of form_for
    text_form = form_written (form_for t first)
        (record {
          first = omega (arith, h, s.few-states);
          rows = omega (arith, length-rows t, s.fits.1);
          states = omega (arith, s.few-states);
        })
        (lines_plain (states_of t) (rows_of t) s.few-states table_ranged)

    -- nothing of it is refused
    pub text_sound : check_form (form_for t first) ≡ Ok tt
    unfolding form_for fit_header fit_states
    text_sound = form_sound (form_for t first) (record {
      header = rw (eq-eqb (length (rows_of t)) (length (map line_of (rows_of t))) (sym (length-map (rows_of t) line_of)))
          (lt-ltb first (states_of t) h);
      labels = rows-spelled (states_of t) (rows_of t) table_ranged;
      states = rw (le-leb 1 (states_of t) s.some) (le-leb (states_of t) 64 s.few-states);
      ranged = rw (rows_said_lem first) (rows-ranged (states_of t) (rows_of t) table_ranged);
      once = rw (rows_said_lem first) (rising_once s.rising);
      few = rw (rows_said_lem first) (denied (decided_ninth (rows_of t)) (λ (p, k). omega (arith, k, s.eight p)));
    })

-- where the answer is a length, nothing was refused, and it is the length of what was to be written
text-answered : (c : Check) (m n : ℕ) → answered-text c m ≡ Ok n → (c ≡ Ok tt) × (m ≡ n)
text-answered (Ok _) m n e = (refl, cc)
text-answered (Err x) m n e = absurd (apart cc)

table_answered : (c : Check) (m f n first : ℕ) → answered c m f ≡ gives_table n first
    → (c ≡ Ok tt) × (m ≡ n) × (f ≡ first)
table_answered (Ok _) m f n first e = let p : ◌≡◌ {A = given.ReadTable} (record { len = m; first = f }) (record { len = n; first = first }) = cc in
    (refl, ap (λ t. t.len) p, ap (λ t. t.first) p)
table_answered (Err x) m f n first e = absurd (apart cc)

-- a text that was written is that of an accepted table and a state below its states
text_answer_lem : (t : List ℕ) (first : ℕ) (out : List ℕ) (n : ℕ) → write_of t first (length out) ≡ Ok n
    → (check_table fifteen t ≡ Ok tt) × (first < states_of t) × (take n (text_output t first out) ≡ text_of t first)
unfolding write_of text_output check_text first_of in_front
text_answer_lem t first out n e =
    let text = text_of t first in
    let (sound, m) = text-answered (check_text t first (length out)) (length text) n e in
    let (a, b) = both_sound (check_table fifteen t) _ sound in
    let (c, d) = both_sound (refused_if (leb (states_of t) first) refusal.WrongHeader) _ b in (
      a,
      leb-false (states_of t) first (unrefused (leb (states_of t) first) refusal.WrongHeader c),
      rw (sound, ← m) (take-append_seam text (drop (length text) out)),
    )

-- a text is written into each output that is long enough
text-given : (t : List ℕ) (first : ℕ) (out : List ℕ) → check_table fifteen t ≡ Ok tt → first < states_of t
    → length (text_of t first) ≤ length out → write_of t first (length out) ≡ Ok (length (text_of t first))
unfolding write_of check_text first_of
text-given t first out e h k =
    rw (e, lt-leb (states_of t) first h, le-ltb (length out) (length (text_of t first)) k) refl

-- what the answer to a text tells: it says a form of which nothing is refused, and the table is the form's
record Answered (text out : List ℕ) (n start : ℕ) : Type 0 where
  form : Form
  said : form_of text ≡ Some form
  sound : check_form form ≡ Ok tt
  first : form.header.first ≡ start
  front : take n (table_output text out) ≡ table_bytes form

table_answer_lem : (text out : List ℕ) (n first : ℕ) → read_of text (length out) ≡ gives_table n first
    → Answered text out n first
unfolding read_of read_of_form table_output output_of_form check_read first_of in_front
table_answer_lem text out n first e = go (form_of text) refl e
  where
    go : (o : Option Form) → form_of text ≡ o → read_of_form o (length out) ≡ gives_table n first
        → Answered text out n first
    go None p e = absurd (apart cc)
    go (Some g) p e =
        let bytes = table_bytes g in
        let (sound, m, f) = table_answered (check_read g (length out)) (length bytes) g.header.first n first e in
        record {
          form = g;
          said = p;
          sound = (both_sound (check_form g) _ sound).0;
          first = f;
          front = rw (p, sound, ← m) (take-append_seam bytes (drop (length bytes) out));
        }

-- a form of which nothing is refused is read into each output that is long enough
form_answer : (text : List ℕ) (g : Form) (out : List ℕ) → form_of text ≡ Some g → check_form g ≡ Ok tt
    → length (table_bytes g) ≤ length out
    → (read_of text (length out) ≡ gives_table (length (table_bytes g)) g.header.first)
    × (take (length (table_bytes g)) (table_output text out) ≡ table_bytes g)
unfolding read_of read_of_form table_output output_of_form check_read first_of in_front
form_answer text g out p e h =
    let bytes = table_bytes g in (
      rw (p, e, le-ltb (length out) (length bytes) h) refl,
      rw (p, e, le-ltb (length out) (length bytes) h) (take-append_seam bytes (drop (length bytes) out)),
    )

-- Whatever bytes are given as the table: if its text was written, the output's first bytes are read as that table and
-- first state. They are as many as the answer says, and are read into each output that is long enough.
pub written_and_read : (t : List ℕ) (first : ℕ) (out : List ℕ) (n : ℕ)
    → write_of t first (length out) ≡ Ok n → (out2 : List ℕ) → length t ≤ length out2
    → (read_of (take n (text_output t first out)) (length out2) ≡ gives_table (length t) first)
    × (take (length t) (table_output (take n (text_output t first out)) out2) ≡ t)
unfolding form_for
written_and_read t first out n e out2 h =
    let (sound, below, front) = text_answer_lem t first out n e in
    let s = sound_table fifteen t sound in
    let again = table_again t s first in
    let enough : length (table_bytes (form_for t first)) ≤ length out2 = rw again h in
    let both = form_answer (text_of t first) (form_for t first) out2 (text_form t s first below)
    (text_sound t s first below) enough in
    rw front (rw again at both)

-- what a table and its first state are that a text was read as
pub record ReadTable (text table : List ℕ) (start : ℕ) : Type 0 where
  pub form : Form
  pub said : form_of text ≡ Some form
  -- "the table's limits": check_table accepts it for 15 pairs
  pub sound : check_table fifteen table ≡ Ok tt
  -- the rows are the text's, one row for each line, and as many as the header says
  pub same_rows : (r : Row) → (r ∈ rows_of table) ↔ (r ∈ rows_in form.lines)
  pub lines : length (rows_of table) ≡ length form.lines
  pub rows : length (rows_of table) ≡ form.header.rows
  pub states : states_of table ≡ form.header.states
  pub first : start ≡ form.header.first
  pub below : start < states_of table

-- the table of a form of which nothing is refused
form_table : (text : List ℕ) (g : Form) → form_of text ≡ Some g → check_form g ≡ Ok tt
    → ReadTable text (table_bytes g) g.header.first
unfolding table_bytes fit_header
form_table text g p e =
    let s = sound_form g e in
    let (counted, low) = both_true {a = eqb g.header.rows (length g.lines)} s.header in
    let each_line = ap length (table_rows g) ∙ order_length (rows_in g.lines) ∙ row_each g.lines s.labels in
    record {
      form = g;
      said = p;
      sound = accepted g e;
      same_rows = table_same g;
      lines = each_line;
      rows = each_line ∙ sym (eqb-true g.header.rows (length g.lines) counted);
      states = refl;
      first = refl;
      below = ltb-true g.header.first g.header.states low;
    }

-- Whatever bytes are given as the text: if it was read, the output's first bytes are a table that is accepted, its rows
-- are the text's, and its states and its first state are the header's.
pub read_table : (text out : List ℕ) (n first : ℕ) → read_of text (length out) ≡ gives_table n first
    → ReadTable text (take n (table_output text out)) first
read_table text out n first e = go (table_answer_lem text out n first e)
  where
    go : Answered text out n first → ReadTable text (take n (table_output text out)) first
    go a = rw (a.front, ← a.first) (form_table text a.form a.said a.sound)

-- What does not depend on the order of a form's lines.
module _ (g g2 : Form) (same-header : g.header ≡ g2.header) (lines : Shuffled g.lines g2.lines) where
  rows_shuffled : Shuffled (rows_in g.lines) (rows_in g2.lines)
  rows_shuffled = shuffled_rows lines

  -- the number under which it is refused
  same_check : check_form g ≡ check_form g2
  unfolding check_form fit_header fit_rows
  same_check =
      rw (
        same-header,
        shuffled_length lines,
        shuffled_all (λ (l : Line). is_label l.label) lines,
        shuffled_all (in_range fifteen g2.header.states) rows_shuffled,
        shuffled_twice rows_shuffled,
        shuffled_ninth rows_shuffled,
      )

  -- the table, if nothing is refused
  shuffled_table : check_form g ≡ Ok tt → table_bytes g ≡ table_bytes g2
  unfolding table_bytes
  shuffled_table e = rw (same-header, shuffled_order rows_shuffled (sound_form g e).once)

  -- the answer and the output
  same_answer : (out : List ℕ) → (read_of_form (Some g) (length out) ≡ read_of_form (Some g2) (length out))
      × (output_of_form (Some g) out ≡ output_of_form (Some g2) out)
  unfolding read_of_form output_of_form check_read first_of
  same_answer out = go (check_form g) refl
    where
      go : (c : Check) → check_form g ≡ c → (read_of_form (Some g) (length out) ≡ read_of_form (Some g2) (length out))
          × (output_of_form (Some g) out ≡ output_of_form (Some g2) out)
      go (Ok _) e = rw (same_check, shuffled_table e, same-header) (refl, refl)
      go (Err x) e = rw (e, sym same_check ∙ e) (refl, refl)

-- "Rows may come in any order and are put in ours": two texts of the form with one header, and with the same lines in
-- whatever order, are answered alike, and leave the same bytes in the output. So both are read as the same table and
-- first state, or both are refused under the same number.
pub any_order : (text text2 : List ℕ) (g g2 : Form) → Says text g → Says text2 g2 → g.header ≡ g2.header
    → Shuffled g.lines g2.lines → (out : List ℕ)
    → (read_of text (length out) ≡ read_of text2 (length out)) × (table_output text out ≡ table_output text2 out)
unfolding read_of table_output
any_order text text2 g g2 said said2 same-header lines out =
    rw (read_written text g said, read_written text2 g2 said2) (same_answer g g2 same-header lines out)

-- what is written of a table and first state that a text was read as
pub record WrittenAgain (text table : List ℕ) (start : ℕ) (out : List ℕ) : Type 0 where
  pub form : Form
  pub said : form_of text ≡ Some form
  pub given : write_of table start (length out) ≡ Ok (length (text_of table start))
  -- the text written says the table, its rows in our order
  pub again : form_of (take (length (text_of table start)) (text_output table start out)) ≡ Some (form_for table start)
  pub ours : rows_in (form_for table start).lines ≡ rows_of table
  -- and says what the text said, but for the order
  pub same-header : (form_for table start).header ≡ form.header
  pub same_rows : (r : Row) → (r ∈ rows_in (form_for table start).lines) ↔ (r ∈ rows_in form.lines)

-- two headers with the same numbers are one
header_path : {h k : Header} → h.first ≡ k.first → h.rows ≡ k.rows → h.states ≡ k.states → h ≡ k
header_path a b c i = record { first = a i; rows = b i; states = c i }

again_written : (text t : List ℕ) (first : ℕ) (out : List ℕ) → ReadTable text t first
    → length (text_of t first) ≤ length out → WrittenAgain text t first out
unfolding form_for
again_written text t first out w h =
    let s = sound_table fifteen t w.sound in
    let given = text-given t first out w.sound w.below h in
    let front = (text_answer_lem t first out (length (text_of t first)) given).2 in
    record {
      form = w.form;
      said = w.said;
      given = given;
      again = rw front (text_form t s first w.below);
      ours = rows_said_lem t s first;
      same-header = header_path w.first w.rows w.states;
      same_rows = λ r. rw (rows_said_lem t s first) (w.same_rows r);
    }

-- A text that is read, and written again from its table and first state: 7,696 bytes are enough, and what is written
-- into an output that is long enough says the same header and the same rows, in our order.
pub read_and_written : (text out : List ℕ) (n first : ℕ) → read_of text (length out) ≡ gives_table n first
    → (length (text_of (take n (table_output text out)) first) ≤ 7696)
    × ((out2 : List ℕ) → length (text_of (take n (table_output text out)) first) ≤ length out2
    → WrittenAgain text (take n (table_output text out)) first out2)
read_and_written text out n first e =
    let w = read_table text out n first e in
    (text_short _ first w.sound w.below, λ out2 h. again_written text _ first out2 w h)
