-- How large the value of an answer can be.
use Prim.Native.Nat.{ℕ}
use mathlib.Core.Path.{◌≡◌, refl}
use mathlib.Core.List.{List}
use native.Mathlib.Omega.{arith}
use lib.ListN.{length}
use lib.Dec.{leb}
use borrow.Author.Tests.{leb-false}
use Rattle.labels.specs.Refusals.{value_answer, first_of, Check}
use Rattle.labels.specs.declared.refusal.Refusal.TheVariants as refusal
use Rattle.labels.proofs.Refusals.{both_sound, unrefused}
use Rattle.labels.proofs.Answers.{Within, next, none as no_more}
use Rattle.tables.specs.Tables.{states_of, check_table}
use Rattle.aldebaran_form.specs.Forms.{fifteen}
use Rattle.aldebaran_writing.specs.Writing.{text_of, check_text, answered, write_of, text_answer}
use Rattle.aldebaran_writing.proofs.TextLengths.{text_short}
use Rattle.std.specs.Prelude.{Err, Ok}

-- of a writing: at most 7,696 bytes
pub write_within : (t : List ℕ) (first room : ℕ) → Within 7696 (text_answer (write_of t first room)).values
unfolding write_of value_answer check_text first_of
write_within t first room = by_check (check_text t first room) refl
  where
    by_check : (c : Check) → check_text t first room ≡ c
        → Within 7696 (text_answer (answered c (length (text_of t first)))).values
    by_check (Ok _) e =
        let (s, f) = both_sound (check_table fifteen t) _ e in
        let low = unrefused (leb (states_of t) first) refusal.WrongHeader (both_sound _ _ f).0 in
        next (text_short t first s (omega (arith, leb-false (states_of t) first low))) no_more
    by_check (Err x) e = no_more
