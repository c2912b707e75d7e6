-- A text of which nothing is refused gives a table that is accepted, with the text's rows.
use Prim.Native.Nat.{ℕ, zero, suc, ◌+◌, ◌*◌, ◌≤◌, ◌<◌}
use native.Mathlib.Omega.{arith}
use mathlib.Core.Path.{◌≡◌, refl, ap}
use mathlib.Core.Logic.{◌↔◌}
use mathlib.Core.Bool.{true, false, not}
use mathlib.Core.List.{List, [], ◌∷◌}
use mathlib.Core.List.Memᴰ.{head as here}
use mathlib.Core.List.Memᴰ.{tail as there}
use lib.ListN.{length}
use lib.Dec.{leb}
use borrow.Author.Tests.{lt-ltb, le-ltb, leb-true}
use Rattle.hml.specs.Lists.{◌∈◌}
use Rattle.hml.specs.Labels.{highest}
use Rattle.hml.specs.Machine.{Row}
use Rattle.hml.proofs.Tests.{both_true}
use Rattle.labels.specs.Labels.{count}
use Rattle.labels.specs.Refusals.{refused_if, first_of}
use Rattle.labels.specs.declared.refusal.Refusal.TheVariants as refusal
use Rattle.labels.proofs.Refusals.{both_sound, passed, unrefused, judges}
use Rattle.tables.specs.Tables.{fit_states, in_range, leaving, bytes_of, rows_of, check_table, SoundTable}
use Rattle.tables.specs.Working.{below}
use Rattle.tables.proofs.Chunks.{threes_chunks, chunks_read}
use Rattle.tables.proofs.Rows.{span_size}
use Rattle.tables.proofs.SoundTables.{judged_table}
use Rattle.aldebaran_form.specs.Forms.{Form}
use Rattle.aldebaran_form.specs.Forms.{fifteen}
use Rattle.aldebaran.specs.Reading.{is_label, rows_in, all, fit_header, fit_rows, twice, ninth, check_form}
use Rattle.aldebaran.specs.Reading.{in_order, table_bytes}
use Rattle.aldebaran.proofs.Order.{order_same, order_length, order_rising, order_leaving, ninth-few}
use Rattle.aldebaran.proofs.Marks.{all-ranged}
use Rattle.aldebaran.proofs.MarkedRows.{bytes-length}
use Rattle.std.specs.Prelude.{Ok}

-- what the checks of a form ask for
pub record SoundForm (g : Form) : Type 0 where
  pub header : fit_header g ≡ true
  pub labels : all (λ l. is_label l.label) g.lines ≡ true
  pub states : fit_states g.header.states ≡ true
  pub ranged : all (in_range fifteen g.header.states) (rows_in g.lines) ≡ true
  pub once : twice (rows_in g.lines) ≡ false
  pub few : ninth (rows_in g.lines) ≡ false

-- a form of which nothing is refused has it
pub sound_form : (g : Form) → check_form g ≡ Ok tt → SoundForm g
unfolding check_form first_of fit_rows
sound_form g e =
    let (a, e1) = both_sound (refused_if (not (fit_header g)) refusal.WrongHeader) _ e in
    let (b, e2) = both_sound (refused_if (not (all (λ l. is_label l.label) g.lines)) refusal.UnknownLabel) _ e1 in
    let (c, e3) = both_sound (refused_if (not (fit_rows g)) refusal.OutOfRange) _ e2 in
    let (d, e4) = both_sound (refused_if (twice (rows_in g.lines)) refusal.RowNotAbove) _ e3 in
    let (f, e5) = both_sound (refused_if (ninth (rows_in g.lines)) refusal.NinthRow) _ e4 in
    let fit = passed (fit_rows g) refusal.OutOfRange c in
    let both = both_true {a = fit_states g.header.states} fit in
    record {
      header = passed (fit_header g) refusal.WrongHeader a;
      labels = passed (all (λ l. is_label l.label) g.lines) refusal.UnknownLabel b;
      states = both.0;
      ranged = both.1;
      once = unrefused (twice (rows_in g.lines)) refusal.RowNotAbove d;
      few = unrefused (ninth (rows_in g.lines)) refusal.NinthRow f;
    }

-- no row leaves a state below 0, and each a state below those of the table
below_none : (rows : List Row) → below 0 rows ≡ 0
unfolding below
below_none [] = refl
below_none (r ∷ rows) = rw (le-ltb r.0 0 (omega arith)) (omega (arith, below_none rows))

below_all : (n : ℕ) (rows : List Row) → ((r : Row) → r ∈ rows → r.0 < n) → below n rows ≡ length rows
unfolding below
below_all n [] h = refl
below_all n (r ∷ rows) h =
    rw (lt-ltb r.0 n (h r (here refl))) (omega (arith, below_all n rows (λ s i. h s (there i))))

below-few : (n : ℕ) (rows : List Row) → ((p : ℕ) → leaving p rows ≤ 8) → below n rows ≤ 8 * n
below-few zero rows h = omega (arith, below_none rows)
below-few (suc n) rows h =
    let e : suc n ≡ n + 1 = omega arith in
    omega (arith, ap (λ p. below p rows) e, span_size n rows, h n, below-few n rows h)

-- at most 8 rows a state
pub rows_few : (n : ℕ) (rows : List Row) → ((r : Row) → r ∈ rows → r.0 < n) → ((p : ℕ) → leaving p rows ≤ 8)
    → length rows ≤ 8 * n
rows_few n rows h k = omega (arith, below_all n rows h, below-few n rows k)

-- the rows of the table are the text's, in order
pub table_rows : (g : Form) → rows_of (table_bytes g) ≡ in_order (rows_in g.lines)
unfolding rows_of table_bytes bytes_of
table_rows g = chunks_read threes_chunks (in_order (rows_in g.lines))

pub table_same : (g : Form) (r : Row) → (r ∈ rows_of (table_bytes g)) ↔ (r ∈ rows_in g.lines)
table_same g r = rw (table_rows g) (order_same (rows_in g.lines) r)

-- three bytes a row, behind the first
pub table_length : (g : Form) → length (table_bytes g) ≡ 1 + 3 * length (rows_in g.lines)
unfolding table_bytes
table_length g =
    omega (arith, bytes-length (in_order (rows_in g.lines)), order_length (rows_in g.lines))

-- the table is as document 01 says
pub sound_bytes : (g : Form) → check_form g ≡ Ok tt → SoundTable fifteen (table_bytes g)
unfolding fit_states table_bytes count highest
sound_bytes g e = go (sound_form g e)
  where
    rows : List Row
    rows = rows_in g.lines

    n : ℕ
    n = g.header.states

    go : SoundForm g → SoundTable fifteen (table_bytes g)
    go s =
        let few = ninth-few rows s.few in
        let ranged = all-ranged n rows s.ranged in
        let some = both_true {a = leb 1 n} s.states in
        let size = rows_few n rows (λ r i. (ranged r i).0) few in
        let most : n ≤ 64 = leb-true n 64 some.1 in
        record {
          fits = (omega (arith, table_length g), omega (arith, table_length g, size, most));
          some = leb-true 1 n some.0;
          few-states = most;
          ranged = λ r i. ranged r ((table_same g r).0 i);
          rising = rw (table_rows g) (order_rising rows s.once);
          eight = λ p. rw (table_rows g) (omega (arith, order_leaving p rows, few p));
        }

-- the table is accepted
pub accepted : (g : Form) → check_form g ≡ Ok tt → check_table fifteen (table_bytes g) ≡ Ok tt
accepted g e = (judges (judged_table fifteen (table_bytes g))).1 (sound_bytes g e)
