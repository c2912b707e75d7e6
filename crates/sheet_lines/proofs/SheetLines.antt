-- The lines of a sheet by their numbers: line i is that of point i / c and splitting i % c. And blocks of them.
use Prim.Native.Nat.{ℕ, zero, suc, ◌+◌, ◌-◌, ◌*◌, ◌/◌, ◌%◌, ◌≤◌, ◌<◌, min}
use mathlib.Core.Path.{◌≡◌, refl, sym, ◌∙◌, ap, ap₂}
use mathlib.Core.Bool.{Bool, true, false, false≢true}
use mathlib.Core.List.{List, [], ◌∷◌, ◌++◌, append-nil}
use native.Mathlib.Omega.{arith}
use native.Mathlib.Nat.{zero-mul, suc-mul, mul-add-div_right, mul-add-mod_self_right, div-eq_of_lt, mod-eq_of_lt}
use lib.ListN.{length, take, drop, length-append}
use lib.Dec.{leb, ltb, eqb}
use lib.Seq.{take-nil, drop-nil}
use borrow.Author.Tests.{lt-ltb, le-ltb, eq-eqb, ne_eqb, ltb-true, leb-true, leb-false}
use Rattle.hml.specs.Lists.{each}
use Rattle.hml.specs.System.{steps}
use Rattle.machines.specs.Cases.{Case}
use Rattle.machines.specs.Joints.{joint_of}
use Rattle.labels.specs.Refusals.{in_front, output_of, refused_if}
use Rattle.labels.specs.declared.refusal.Refusal.TheVariants.{OutputTooShort}
use Rattle.sheet_lines.specs.Sheets.{line_of, lines_of, listed, bytes_of, fitting, first_too_long, check_room}
use Rattle.sheet_lines.specs.Sheets.{block_of, written_or, block_answer, block_output}
use Rattle.sheet_lines.specs.Working.{put_at, Full, numbered_line}
use Rattle.sheet_lines.proofs.Puts.{put_first}
use Rattle.sheet_lines.proofs.Filling.{listed-behind, listed-agree, fitting-first, fitting-none}
use Rattle.std.specs.Prelude.{Err, Ok}
use Rattle.std.specs.Result.{result_unwrap_or}

module _ {A : Type 0} (f : ℕ → ℕ → A) (c : ℕ) (some : 1 ≤ c) where
  -- what f gives by the quotient and the remainder
  abbrev flat : ℕ → A
  flat i = f (i / c) (i % c)

  -- one stretch of c numbers
  stretch : (p : ℕ) → listed (f p) 0 c ≡ listed flat (p * c) c
  stretch p = listed-agree (f p) flat 0 (p * c) c (λ x h.
      let q : (p * c + x) / c ≡ p = mul-add-div_right some p x ∙ ap (p +◌) (div-eq_of_lt h) ∙ omega arith in
      let m : (p * c + x) % c ≡ x = mul-add-mod_self_right p c x ∙ mod-eq_of_lt h in
      let z : 0 + x ≡ x = omega arith in
      rw (z, q, m))

  -- stretch by stretch, or number by number
  pub stretches : (p m : ℕ) → each (λ q. listed (f q) 0 c) (listed (λ q. q) p m) ≡ listed flat (p * c) (m * c)
  unfolding listed
  stretches p zero = rw (zero-mul c)
  stretches p (suc m) =
      let z : suc m * c ≡ c + m * c = suc-mul m c ∙ omega arith in
      let w : suc p * c ≡ p * c + c = suc-mul p c ∙ omega arith in
      ap₂ ◌++◌ (stretch p) (stretches (suc p) m ∙ ap (λ x. listed flat x (m * c)) w)
      ∙ sym (listed-behind flat (p * c) c (m * c)) ∙ ap (listed flat (p * c)) (sym z)

-- the lines of a sheet by their numbers
pub lines_numbered : (c : Case) (ways : ℕ) → 1 ≤ ways
    → lines_of c ways ≡ listed (numbered_line c ways) 0 (suc (steps (joint_of c.run)) * ways)
unfolding lines_of numbered_line
lines_numbered c ways h =
    let z : 0 * ways ≡ 0 = zero-mul ways in
    stretches (line_of c) ways h 0 (suc (steps (joint_of c.run)))
    ∙ ap (λ x. listed (λ i. line_of c (i / ways) (i % ways)) x (suc (steps (joint_of c.run)) * ways)) z

module _ {A : Type 0} (g : ℕ → A) where
  -- those behind the first ones
  drop-listed : (n i m : ℕ) → drop n (listed g i (n + m)) ≡ listed g (i + n) m
  unfolding listed
  drop-listed zero i m = let z : i + 0 ≡ i = omega arith in let w : 0 + m ≡ m = omega arith in rw (z, w)
  drop-listed (suc n) i m =
      let z : suc i + n ≡ i + suc n = omega arith in
      let w : suc n + m ≡ suc (n + m) = omega arith in rw w (drop-listed n (suc i) m ∙ ap (λ x. listed g x m) z)

  -- the first ones
  take-listed : (n i m : ℕ) → take n (listed g i (n + m)) ≡ listed g i n
  unfolding listed
  take-listed zero i m = refl
  take-listed (suc n) i m =
      let w : suc n + m ≡ suc (n + m) = omega arith in rw w (ap (g i ∷◌) (take-listed n (suc i) m))

  take_short : (n i m : ℕ) → m ≤ n → take n (listed g i m) ≡ listed g i m
  unfolding listed
  take_short n i zero h = take-nil n
  take_short zero i (suc m) h = absurd (omega arith)
  take_short (suc n) i (suc m) h = ap (g i ∷◌) (take_short n (suc i) m (omega arith))

  drop_short : (n i m : ℕ) → m ≤ n → drop n (listed g i m) ≡ []
  unfolding listed
  drop_short n i zero h = drop-nil n
  drop_short zero i (suc m) h = absurd (omega arith)
  drop_short (suc n) i (suc m) h = drop_short n (suc i) m (omega arith)

  -- the lines that are asked for
  pub due-listed : (first most total : ℕ) → first ≤ total
      → take most (drop first (listed g 0 total)) ≡ listed g first (min most (total - first))
  due-listed first most total h =
      let z : total ≡ first + (total - first) = omega (arith, h) in
      let w : 0 + first ≡ first = omega arith in
      ap (λ x. take most (drop first (listed g 0 x))) z
      ∙ ap (take most) (drop-listed first 0 (total - first) ∙ ap (λ x. listed g x (total - first)) w)
      ∙ go (leb most (total - first)) refl
    where
      go : (b : Bool) → leb most (total - first) ≡ b
          → take most (listed g first (total - first)) ≡ listed g first (min most (total - first))
      go true e =
          let y = leb-true most (total - first) e in
          let u : total - first ≡ most + (total - first - most) = omega (arith, y) in
          let v : min most (total - first) ≡ most = omega (arith, y) in
          rw v (ap (λ x. take most (listed g first x)) u ∙ take-listed most first (total - first - most))
      go false e =
          let y = leb-false most (total - first) e in
          let v : min most (total - first) ≡ total - first = omega (arith, y) in
          rw v (take_short most first (total - first) (omega (arith, y)))

  pub none-due : (first most total : ℕ) → total ≤ first → take most (drop first (listed g 0 total)) ≡ []
  none-due first most total h = ap (take most) (drop_short first 0 total h) ∙ take-nil most

-- what fits is no longer than the room
pub fitting-room : (room : ℕ) (due : List (List ℕ)) → length (bytes_of (fitting room due)) ≤ room
unfolding bytes_of fitting
fitting-room room [] = omega arith
fitting-room room (x ∷ due) = go (leb (length x) room) refl (fitting-room (room - length x) due)
  where
    go : (b : Bool) → leb (length x) room ≡ b → length (bytes_of (fitting (room - length x) due)) ≤ room - length x
        → length (bytes_of (fitting room (x ∷ due))) ≤ room
    go true e l =
        let h = leb-true (length x) room e in
        rw e (omega (arith, length-append x (bytes_of (fitting (room - length x) due)), l, h))
    go false e l = rw e (omega arith)

-- no lines are due
module _ (due : List (List ℕ)) (e : due ≡ []) where
  pub nothing-due : (out : List ℕ)
      → (Ok (record { lines = 0; bytes = 0 }) ≡ block_answer due (length out)) × (out ≡ block_output due out)
  unfolding block_answer block_output check_room written_or block_of first_too_long fitting bytes_of in_front
  nothing-due out = rw e (refl, refl)

-- lines are due, and none fits if the first is too long
module _ (room : ℕ) (x : List ℕ) (due : List (List ℕ)) where
  none_if_short : first_too_long room (x ∷ due) ≡ eqb (length (fitting room (x ∷ due))) 0
  unfolding first_too_long
  none_if_short = go (leb (length x) room) refl
    where
      go : (b : Bool) → leb (length x) room ≡ b → ltb room (length x) ≡ eqb (length (fitting room (x ∷ due))) 0
      go true t =
          let h = leb-true (length x) room t in
          rw (
            le-ltb room (length x) h,
            fitting-first room x due h,
            ne_eqb (suc (length (fitting (room - length x) due))) 0 (λ e. omega (arith, e)),
          )
      go false t = let h = leb-false (length x) room t in rw (lt-ltb room (length x) h, fitting-none room x due h)

-- where the first line is too long nothing is written
none_written : (due : List (List ℕ)) (out : List ℕ) → first_too_long (length out) due ≡ true
    → in_front (bytes_of (fitting (length out) due)) out ≡ out
unfolding first_too_long bytes_of in_front
none_written [] out t = absurd (false≢true t)
none_written (x ∷ due) out t = rw (fitting-none (length out) x due (ltb-true (length out) (length x) t))

-- lines are due, and those that fit were filled in
module _ (g : ℕ → List ℕ) (i m : ℕ) (some : 1 ≤ m) (xs ys : List ℕ) (at j : ℕ)
    (full : Full (fitting (length xs) (listed g i m)) xs 0 i ys at j) where
  short_listed : (n : ℕ) → 1 ≤ n
      → first_too_long (length xs) (listed g i n) ≡ eqb (length (fitting (length xs) (listed g i n))) 0
  unfolding listed
  short_listed zero h = absurd (omega arith)
  short_listed (suc n) h = none_if_short (length xs) (g i) (listed g (suc i) n)

  filled-lines : j - i ≡ length (fitting (length xs) (listed g i m))
  filled-lines = omega (arith, full.counted)

  filled_output : ys ≡ in_front (bytes_of (fitting (length xs) (listed g i m))) xs
  filled_output = full.written ∙ put_first xs _ (fitting-room (length xs) (listed g i m))

  pub filled_short : j - i ≡ 0
      → (Err OutputTooShort ≡ block_answer (listed g i m) (length xs)) × (ys ≡ block_output (listed g i m) xs)
  unfolding block_answer block_output check_room written_or
  filled_short h =
      let z = short_listed m some ∙ eq-eqb _ 0 (sym filled-lines ∙ h) in
      rw z (refl, filled_output ∙ none_written (listed g i m) xs z)

  pub filled_fits : (j - i ≡ 0 → ⊥)
      → (Ok (record { lines = j - i; bytes = at }) ≡ block_answer (listed g i m) (length xs))
      × (ys ≡ block_output (listed g i m) xs)
  unfolding block_answer block_output check_room written_or block_of
  filled_fits h =
      let z = short_listed m some ∙ ne_eqb _ 0 (λ e. h (filled-lines ∙ e)) in
      let a : at ≡ length (bytes_of (fitting (length xs) (listed g i m))) = omega (arith, full.place) in
      rw (z, filled-lines, a) (refl, filled_output)

-- one line is due: it does not fit, or it is the block
module _ (due : List (List ℕ)) (x out : List ℕ) (e : due ≡ x ∷ []) where
  pub refused_short : length out < length x
      → (Err OutputTooShort ≡ block_answer due (length out)) × (out ≡ block_output due out)
  unfolding block_answer block_output check_room written_or first_too_long
  refused_short h = rw (e, lt-ltb (length out) (length x) h) (refl, refl)

  pub refused_block : (ys : List ℕ) (n : ℕ) → n ≡ length x → n ≤ length out → ys ≡ put_at out 0 x
      → (Ok (record { lines = 1; bytes = n }) ≡ block_answer due (length out)) × (ys ≡ block_output due out)
  unfolding block_answer block_output check_room written_or block_of first_too_long fitting bytes_of
  refused_block ys n m h p =
      let fits : length x ≤ length out = omega (arith, m, h) in
      let alone : bytes_of (x ∷ []) ≡ x = append-nil x in
      rw (e, le-ltb (length out) (length x) fits, fitting-first (length out) x [] fits, alone, m)
      (refl, p ∙ put_first out x fits)

-- what is written is what fits, also where that is nothing
pub written_fits : (due : List (List ℕ)) (out : List ℕ)
    → block_output due out ≡ in_front (bytes_of (fitting (length out) due)) out
unfolding block_output check_room
written_fits due out = go (first_too_long (length out) due) refl
  where
    go : (b : Bool) → first_too_long (length out) due ≡ b
        → output_of (refused_if b OutputTooShort) (bytes_of (fitting (length out) due)) out
        ≡ in_front (bytes_of (fitting (length out) due)) out
    go true e = sym (none_written due out e)
    go false e = refl

pub answered_fits : (due : List (List ℕ)) (room : ℕ)
    → result_unwrap_or (block_answer due room) (record { lines = 0; bytes = 0 }) ≡ block_of (fitting room due)
unfolding block_answer check_room written_or block_of first_too_long bytes_of
answered_fits due room = go due (first_too_long room due) refl
  where
    go : (due : List (List ℕ)) (b : Bool) → first_too_long room due ≡ b
        → result_unwrap_or (written_or (refused_if b OutputTooShort) (fitting room due)) (record { lines = 0; bytes = 0 })
        ≡ block_of (fitting room due)
    go due false e = refl
    go [] true e = absurd (false≢true e)
    go (x ∷ due) true e = rw (fitting-none room x due (ltb-true room (length x) e))
