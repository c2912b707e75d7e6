-- The round trip over the calls: the marker and the registrar rely on the lent output, and on its bytes read again.
use Prim.Native.Nat.{ℕ, ◌≤◌, ◌<◌}
use mathlib.Core.Path.{◌≡◌, refl}
use mathlib.Core.List.{List, ◌++◌}
use lib.ListN.{length, take, drop}
use lib.Seq.{take-append_seam}
use borrow.Author.Tests.{lt-ltb, le-ltb}
use Rattle.hml.proofs.Tests.{apart}
use Rattle.labels.specs.Refusals.{first_of, in_front, Check}
use Rattle.labels.specs.declared.refusal.Refusal.TheVariants.{OutputTooShort}
use Rattle.labels.proofs.Refusals.{both_sound}
use Rattle.machines.specs.Cases.{Case}
use Rattle.records.proofs.RecordLaws.{Bytes}
use Rattle.casebook.specs.Reading.{read_of, case_of}
use Rattle.casebook.specs.Writing.{casebook_bytes, check_parts, check_write, answered, write_of, written_of}
use Rattle.casebook.specs.declared.read.Parts.{Parts}
use Rattle.casebook.proofs.RoundTrip.{ReadsTo, read_sound, read_written, written_read}
use Rattle.std.specs.Prelude.{Err, Ok}

-- A casebook that was read, written again from its parts. Into an output of its length or more go its own bytes, and
-- "lent bytes past it keep theirs". A shorter output is refused, 18, and "every lent byte keeps its value".
pub filed_and_returned : (s : List ℕ) → Bytes s → (p : Parts) → read_of s ≡ Ok p → (out : List ℕ)
    → (length s ≤ length out
    → (write_of (case_of s p) (length out) ≡ Ok (length s))
    × (written_of (case_of s p) out ≡ s ++ drop (length s) out))
    × (length out < length s
    → (write_of (case_of s p) (length out) ≡ Err OutputTooShort) × (written_of (case_of s p) out ≡ out))
unfolding write_of written_of check_write first_of in_front
filed_and_returned s bytes p e out =
    let sound = read_sound s p e in
    let same = written_read s bytes p e in (
      λ h. rw (sound, same, le-ltb (length out) (length s) h) (refl, refl),
      λ h. rw (sound, same, lt-ltb (length out) (length s) h) (refl, refl),
    )

-- where the answer is a length, nothing was refused, and it is the length of what was to be written
answered-whole : (c : Check) (m n : ℕ) → answered c m ≡ Ok n → (c ≡ Ok tt) × (m ≡ n)
answered-whole (Ok _) m n e = (refl, cc)
answered-whole (Err x) m n e = absurd (apart cc)

-- A case that was written, any k and bytes whatever. The output's first bytes, as many as the answer says, read to a
-- casebook that shows this case.
pub returned_as_filed : (c : Case) (out : List ℕ) (n : ℕ) → write_of c (length out) ≡ Ok n
    → ReadsTo (take n (written_of c out)) c
unfolding write_of written_of check_write first_of in_front
returned_as_filed c out n e =
    let bytes = casebook_bytes c in
    let (sound, m) = answered-whole (check_write c (length out)) (length bytes) n e in
    let seam = take-append_seam bytes (drop (length bytes) out) in
    let front : take n (written_of c out) ≡ bytes = rw (sound, ← m) seam in
    rw front (read_written c (both_sound (check_parts c) _ sound).0)
