-- How large the values of answers can be.
use Prim.Native.Nat.{ℕ, ◌+◌, ◌≤◌}
use mathlib.Core.Path.{◌≡◌, refl}
use mathlib.Core.List.{List, ◌∷◌}
use native.Mathlib.Omega.{arith}
use lib.ListN.{length}
use Rattle.labels.specs.Refusals.{value_answer, first_of, Check}
use Rattle.labels.proofs.Refusals.{both_sound}
use Rattle.labels.proofs.Answers.{Within, none, next}
use Rattle.machines.specs.Cases.{Case}
use Rattle.records.specs.Records.{lengths_of, longest_body}
use Rattle.records.specs.declared.record.Record.{Record}
use Rattle.records.proofs.RecordLaws.{Bytes}
use Rattle.casebook.specs.Reading.{longest_casebook, read_of, read_answer}
use Rattle.casebook.specs.Writing.{casebook_bytes, check_parts, check_write, answered, write_of, write_answer}
use Rattle.casebook.proofs.RoundTrip.{casebook_short, placing}
use Rattle.casebook.specs.declared.read.Parts.{Parts}
use Rattle.labels.specs.declared.refusal.Refusal.{Refusal}
use Rattle.std.specs.Prelude.{Err, Ok, Result}

-- the longest casebook, in figures
pub longest_is : longest_casebook ≡ 3825
unfolding longest_casebook longest_body lengths_of
longest_is = refl

-- of a writing: at most the length of the longest casebook
pub write_within : (c : Case) (room : ℕ) → Within longest_casebook (write_answer (write_of c room)).values
unfolding write_of value_answer check_write first_of
write_within c room = go (check_write c room) refl
  where
    go : (x : Check) → check_write c room ≡ x
        → Within longest_casebook (write_answer (answered x (length (casebook_bytes c)))).values
    go (Ok _) e = next (casebook_short c (both_sound (check_parts c) _ e).0) none
    go (Err x) e = none

-- of a reading: the records lie in at most as many bytes
place-within : (r : Record) (n : ℕ) {ns : List ℕ} → r.start + r.len ≤ n → n ≤ longest_casebook
    → Within longest_casebook ns
    → Within longest_casebook (r.start ∷ r.len ∷ ns)
place-within r n h i w = next {n = r.start} (omega arith) (next {n = r.len} (omega arith) w)

pub read_within : (s : List ℕ) → Bytes s → Within longest_casebook (read_answer (read_of s)).values
unfolding read_answer
read_within s bytes = go (read_of s) refl
  where
    go : (a : Result Parts Refusal) → read_of s ≡ a → Within longest_casebook (read_answer a).values
    go (Ok p) e =
        let w = placing s bytes p e in
        place-within p.labels _ w.labels w.short
        (place-within p.left _ w.left w.short
        (place-within p.right _ w.right w.short
        (place-within p.run _ w.run w.short
        (place-within p.question _ w.question w.short none))))
    go (Err x) e = none
