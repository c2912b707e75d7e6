-- The longest line that a sheet can have: 16,399 bytes. A point has at most 3 digits, a splitting's number 5, the joint
-- verdict one letter, each with a blank behind it; the quotient 16,384 digits; then a blank, a letter and a line feed.
use Prim.Native.Nat.{ℕ, zero, suc, ◌+◌, ◌*◌, ◌/◌, ◌%◌, ◌≤◌, ◌<◌}
use mathlib.Core.Path.{◌≡◌, refl, ap}
use mathlib.Core.Logic.{inl, inr}
use mathlib.Core.List.{List, [], ◌∷◌, ◌++◌}
use mathlib.Core.List.Memᴰ.{cases_cons as ∈-cons}
use mathlib.Core.List.Memᴰ.{not-nil as nowhere}
use native.Mathlib.Omega.{arith}
use native.Mathlib.Nat.{mod-lt, div-lt_iff_lt-mul}
use lib.ListN.{length, length-append}
use Rattle.hml.specs.Lists.{◌∈◌}
use Rattle.hml.specs.System.{steps}
use Rattle.labels.specs.Refusals.{number_of}
use Rattle.labels.specs.declared.refusal.Refusal.{Refusal}
use Rattle.machines.specs.Cases.{Case}
use Rattle.machines.specs.Joints.{joint_of}
use Rattle.casebook.specs.Reading.{read_of}
use Rattle.splitting.specs.Splittings.{splitting_limit}
use Rattle.splitting.proofs.LogRuns.{sound_log}
use Rattle.sheet_lines.specs.Sheets.{head_of, ending_of, line_of, listed, refused_line, case_lines, read_lines}
use Rattle.sheet_lines.specs.Sheets.{sheet_of}
use Rattle.sheet_lines.specs.Working.{count_in, Asked, Numbered, numbered_line}
use Rattle.sheet_lines.proofs.LineLaws.{number_small, digits_two, head_short, length_refused}
use Rattle.sheet_lines.proofs.EndingLaws.{any-ending_short}
use Rattle.sheet_lines.proofs.PartsLines.{numbered_log, lines_are, refused_count, read_asked}
use Rattle.casebook.specs.declared.read.Parts.{Parts}
use Rattle.std.specs.Prelude.{Err, Ok, Result}

-- the three first fields, and the ending
together_short : (h e : List ℕ) → length h ≤ 12 → length e ≤ 16387 → length (h ++ e) ≤ 16399
together_short h e a b = omega (arith, length-append h e, a, b)

line_short : (c : Case) (point n : ℕ) → point < 1000 → n < 100000 → length (line_of c point n) ≤ 16399
unfolding line_of
line_short c point n p h =
    together_short (head_of point n _) (ending_of _ _ _) (head_short point n _ p h) (any-ending_short c point n _)

-- what stands in a list of g's values
in_listed : (g : ℕ → List ℕ) (i m : ℕ) (x : List ℕ) → x ∈ listed g i m → (j : ℕ) × (j < i + m) × (x ≡ g j)
unfolding listed
in_listed g i zero x h = absurd (nowhere h)
in_listed g i (suc m) x h = elim (∈-cons h) [
  | inl e ↦ (i, omega arith, e)
  | inr t ↦ let (j, b, e) = in_listed g (suc i) m x t in (j, omega (arith, b), e)
]

refused_short : (x : Refusal) → length (refused_line x) ≤ 16399
refused_short x = omega (arith, length_refused x, digits_two (number_of x) (number_small x))

refused_lines_short : (x : Refusal) (line : List ℕ) → line ∈ (refused_line x ∷ []) → length line ≤ 16399
refused_lines_short x line h =
    elim (∈-cons h) [ inl e ↦ omega (arith, ap length e, refused_short x) | inr t ↦ absurd (nowhere t) ]

-- the lines of a case: line i is that of point i / ways and splitting i % ways
module _ (c : Case) (asked : Asked c) where
  numbered_short : (ways : ℕ) → Numbered c ways → (i : ℕ) → i < suc (steps (joint_of c.run)) * ways
      → length (numbered_line c ways i) ≤ 16399
  unfolding numbered_line splitting_limit
  numbered_short ways n i h =
      let some : 0 < ways = omega (arith, n.some) in
      let point : i / ways < suc (steps (joint_of c.run)) = (div-lt_iff_lt-mul {k = ways} {x = i} {y =
      suc (steps (joint_of c.run))} some).1 h in
      let steps-few = (sound_log _ _ _ _ asked.log).run.few in
      line_short c (i / ways) (i % ways) (omega (arith, point, steps-few)) (omega (arith, mod-lt i some, n.few))

  case_short : (line : List ℕ) → line ∈ case_lines c → length line ≤ 16399
  case_short line h = go (count_in c) refl
    where
      go : (x : Result ℕ Refusal) → count_in c ≡ x → length line ≤ 16399
      go (Ok n) e =
          let (i, b, q) = in_listed (numbered_line c n) 0 (suc (steps (joint_of c.run)) * n) line
          (rw (lines_are c asked n e) at h) in
          omega (arith, ap length q, numbered_short n (numbered_log c asked n e) i (omega (arith, b)))
      go (Err x) e = refused_lines_short x line (rw (refused_count c x e) at h)

-- no line of any sheet has over 16,399 bytes
pub sheet_line_short : (s line : List ℕ) → line ∈ sheet_of s → length line ≤ 16399
unfolding sheet_of read_lines
sheet_line_short s line h = go (read_of s) refl h
  where
    go : (r : Result Parts Refusal) → read_of s ≡ r → line ∈ read_lines s r → length line ≤ 16399
    go (Ok p) e m = case_short _ (read_asked s p e) line m
    go (Err x) e m = refused_lines_short x line m
