-- Every answer of one number is taken apart rightly: for every input of each call, the header's two functions give
-- the documents' number, 0 where nothing is refused, and what the call tells of the values, 0 where it is refused.
use Prim.Native.Nat.{ℕ, ◌+◌, ◌≤◌, ◌<◌}
use mathlib.Core.Path.{◌≡◌, ap}
use mathlib.Core.Logic.{◌↔◌}
use mathlib.Core.Bool.{Bool, true, false, cond}
use mathlib.Core.List.{List}
use native.Mathlib.Omega.{arith}
use lib.ListN.{length}
use lib.Dec.{eqb}
use Rattle.labels.specs.Refusals.{Answer}
use Rattle.labels.proofs.Answers.{Within, within_at}
use Rattle.labels.proofs.Slices.{no_bytes}
use Rattle.labels.specs.declared.label.Labels.{Labels}
use Rattle.halves.specs.Cuts.{beyond, cut_of, known_of, known_part}
use Rattle.halves.specs.declared.side.Side.{Side}
use Rattle.halves.proofs.Cuts.{refused_empty}
use Rattle.machines.specs.Cases.{Case}
use Rattle.records.proofs.RecordLaws.{Bytes}
use Rattle.casebook.specs.Reading.{longest_casebook, read_of, read_answer}
use Rattle.casebook.specs.Writing.{write_of, write_answer}
use Rattle.casebook.proofs.Values.{longest_is, write_within, read_within}
use Rattle.verdict.specs.Verdicts.{joint_verdict, half_verdict, verdict_answer}
use Rattle.verdict.proofs.Values.{verdict-within}
use Rattle.splitting.specs.Splittings.{splitting_limit, count_of, count_answer, split_of, split_answer}
use Rattle.splitting.proofs.Values.{count-within, split-within}
use Rattle.joining.specs.Joinings.{joining_of, join_answer}
use Rattle.joining.proofs.Values.{join-within}
use Rattle.dividing.specs.Quotients.{quotient_answer}
use Rattle.quotient.specs.Calls.{by_half, by_number, office_of, line_answer}
use Rattle.quotient.proofs.Values.{half_within, number-within, line-within}
use Rattle.aldebaran.specs.Reading as text-reading
use Rattle.aldebaran_writing.specs.Writing as text-writing
use Rattle.aldebaran.proofs.Values as text-values
use Rattle.aldebaran_writing.proofs.Values as written-values
use Rattle.engine.specs.Answers.{packed, refusal_in, value_in, nothing, only, two_bits, place_at, place_in, table_told}

-- what a caller finds in an answer
pub record Apart (tell : List ℕ → ℕ) (a : Answer) : Type 0 where
  pub refusal : refusal_in (packed tell a) ≡ a.number
  pub value : value_in (packed tell a) ≡ tell a.values

-- it is so for every answer of which less than 2^32 is told
pub apart : (tell : List ℕ → ℕ) (a : Answer) → tell a.values < 4294967296 → Apart tell a
unfolding packed refusal_in value_in
apart tell a h = record { refusal = omega arith; value = omega arith }

-- the only value, two bits, a table with its first state, a place: from a bound of the values
pub only_apart : (a : Answer) {most : ℕ} → Within most a.values → most ≤ 65535 → Apart only a
unfolding only
only_apart a w h = apart only a (omega (arith, within_at w 0))

pub bits_apart : (a : Answer) → Within 1 a.values → Apart two_bits a
unfolding two_bits
bits_apart a w = apart two_bits a (omega (arith, within_at w 0, within_at w 1))

pub table_apart : (a : Answer) → Within 1537 a.values → Apart table_told a
unfolding table_told
table_apart a w = apart table_told a (omega (arith, within_at w 0, within_at w 1))

-- a place in a casebook that was read
place_small : (ns : List ℕ) (i : ℕ) → Within longest_casebook ns → place_at ns i < 4294967296
unfolding place_at
place_small ns i w = omega (arith, longest_is, within_at w i, within_at w (i + 1))

chosen : (b : Bool) {x y : ℕ} → x < 4294967296 → y < 4294967296 → cond b x y < 4294967296
chosen true h i = h
chosen false h i = i

places_small : (kind : ℕ) (ns : List ℕ) → Within longest_casebook ns → place_in kind ns < 4294967296
unfolding place_in
places_small kind ns w =
    chosen (eqb kind 1) (place_small ns 0 w)
    (chosen (eqb kind 2) (place_small ns 2 w)
    (chosen (eqb kind 3) (place_small ns 4 w)
    (chosen (eqb kind 4) (place_small ns 6 w)
    (chosen (eqb kind 5) (place_small ns 8 w) (omega arith)))))

-- the calls, for every input: of casebooks
pub casebook_read_apart : (s : List ℕ) → Apart nothing (read_answer (read_of s))
unfolding nothing
casebook_read_apart s = apart nothing _ (omega arith)

pub casebook_part_apart : (s : List ℕ) → Bytes s → (kind : ℕ) → Apart (place_in kind) (read_answer (read_of s))
casebook_part_apart s bytes kind = apart (place_in kind) _ (places_small kind _ (read_within s bytes))

pub casebook_write_apart : (c : Case) (room : ℕ) → Apart only (write_answer (write_of c room))
casebook_write_apart c room = only_apart _ (write_within c room) (omega (arith, longest_is))

-- of Aldebaran texts
pub aldebaran_read_apart : (text : List ℕ) (room : ℕ)
    → Apart table_told (text-reading.table_answer (text-reading.read_of text room))
aldebaran_read_apart text room = table_apart _ (text-values.read_within text room)

pub aldebaran_write_apart : (t : List ℕ) (first room : ℕ)
    → Apart only (text-writing.text_answer (text-writing.write_of t first room))
aldebaran_write_apart t first room = only_apart _ (written-values.write_within t first room) (omega arith)

-- of verdicts
pub joint-verdict_apart : (k : Labels) (l r s f : List ℕ) (point : ℕ)
    → Apart only (verdict_answer (joint_verdict k l r s f point))
joint-verdict_apart k l r s f point = only_apart _ (verdict-within _) (omega arith)

pub half_verdict_apart : (k : Labels) (t s f : List ℕ) (point : ℕ)
    → Apart only (verdict_answer (half_verdict k t s f point))
half_verdict_apart k t s f point = only_apart _ (verdict-within _) (omega arith)

-- of splittings and joins
pub count_apart : (k : Labels) (l r s : List ℕ) → Apart only (count_answer (count_of k l r s))
unfolding splitting_limit
count_apart k l r s = only_apart _ (count-within k l r s) (omega arith)

pub split_apart : (k : Labels) (l r s : List ℕ) (n a b : ℕ) → Apart only (split_answer (split_of k l r s n a b))
split_apart k l r s n a b = only_apart _ (split-within k l r s n a b) (omega arith)

pub join_apart : (k : Labels) (l r a b : List ℕ) (room : ℕ) → Apart only (join_answer (joining_of k l r a b room))
join_apart k l r a b room = only_apart _ (join-within k l r a b room) (omega arith)

-- of quotients, and the line office
pub quotient_apart : (k : Labels) (l r a b f : List ℕ) (side : Side) (point room : ℕ)
    → Apart only (quotient_answer (by_half k l r a b f side point room))
quotient_apart k l r a b f side point room = only_apart _ (half_within k l r a b f side point room) (omega arith)

pub quotient_of_splitting_apart : (c : Case) (n : ℕ) (side : Side) (point room : ℕ)
    → Apart only (quotient_answer (by_number c n side point room))
quotient_of_splitting_apart c n side point room =
    only_apart _ (number-within c n side point room) (omega arith)

pub line_office_apart : (k : Labels) (l r a b f : List ℕ) (side : Side) (point : ℕ)
    → Apart two_bits (line_answer (office_of k l r a b f side point))
line_office_apart k l r a b f side point = bits_apart _ (line-within _)

-- a cut answers a length, which is 0 exactly where it is refused
pub cut_refused_0 : (l r : List ℕ) (side : Side) (point : ℕ)
    → (beyond (known_part l r (known_of side)) point ≡ true) ↔ (length (cut_of l r side point) ≡ 0)
unfolding cut_of
cut_refused_0 l r side point =
    let (there, back) = refused_empty (known_part l r (known_of side)) point in
    (λ h. ap length (there h), λ h. back (no_bytes _ h))
