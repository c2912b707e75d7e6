-- How large the values of answers can be.
use Prim.Native.Nat.{ℕ, ◌≤◌}
use mathlib.Core.Path.{◌≡◌, refl}
use mathlib.Core.List.{List}
use native.Mathlib.Omega.{arith}
use lib.ListN.{length}
use lib.Dec.{eqb, leb}
use borrow.Author.Tests.{ltb-true, leb-true}
use Rattle.hml.proofs.Tests.{both_true}
use Rattle.labels.specs.Refusals.{first_of, Check}
use Rattle.labels.proofs.Refusals.{both_sound}
use Rattle.labels.proofs.Answers.{Within, next, none as no_more}
use Rattle.tables.specs.Tables.{fit_states}
use Rattle.aldebaran_form.specs.Forms.{Form}
use Rattle.aldebaran.specs.Reading.{fit_header, form_of, check_form, table_bytes, check_read, answered}
use Rattle.aldebaran.specs.Reading.{read_of_form, read_of, table_answer}
use Rattle.aldebaran.proofs.Accepted.{sound_form, sound_bytes}
use Rattle.std.specs.Prelude.{Err, None, Ok, Option, Some}

-- of a reading: a table of at most 1,537 bytes, and a first state below 64
small_first : (g : Form) → check_form g ≡ Ok tt → g.header.first ≤ 63
unfolding fit_header fit_states
small_first g e =
    let s = sound_form g e in
    let low = (both_true {a = eqb g.header.rows (length g.lines)} s.header).1 in
    let few = (both_true {a = leb 1 g.header.states} s.states).1 in
    omega (arith, ltb-true g.header.first g.header.states low, leb-true g.header.states 64 few)

pub read_within : (text : List ℕ) (room : ℕ) → Within 1537 (table_answer (read_of text room)).values
unfolding read_of read_of_form table_answer check_read first_of
read_within text room = by_form (form_of text)
  where
    by_check : (g : Form) (c : Check) → check_read g room ≡ c
        → Within 1537 (table_answer (answered c (length (table_bytes g)) g.header.first)).values
    by_check g (Ok _) e =
        let s = (both_sound (check_form g) _ e).0 in
        next {n = length (table_bytes g)} (sound_bytes g s).fits.1
        (next {n = g.header.first} (omega (arith, small_first g s)) no_more)
    by_check g (Err x) e = no_more

    by_form : (f : Option Form) → Within 1537 (table_answer (read_of_form f room)).values
    by_form None = no_more
    by_form (Some g) = by_check g (check_read g room) refl
