-- The fields of a line, as they are written one after the other.
use Prim.Native.Nat.{ℕ, zero, suc, ◌+◌, ◌≤◌, ◌<◌}
use mathlib.Core.Path.{◌≡◌, refl, ◌∙◌, ap}
use mathlib.Core.List.{List, [], ◌∷◌, ◌++◌, append_assoc}
use native.Mathlib.Omega.{arith}
use lib.ListN.{length, set, take, drop, length-append, length-set}
use lib.Seq.{take-nil, drop-nil}
use Rattle.labels.specs.Refusals.{number_of}
use Rattle.labels.specs.declared.refusal.Refusal.{Refusal}
use Rattle.labels.proofs.Answers.{refusal_numbers}
use Rattle.digits.specs.Digits.{decimal}
use Rattle.sheet_lines.specs.Sheets.{blank, line_feed, head_of, refused_line}
use Rattle.sheet_lines.specs.Working.{put_at}
use Rattle.digits.specs.Outputs.{put_if_room, behind_if_room}
use Rattle.digits.proofs.DecimalLaws.{count-within}
use Rattle.digits.proofs.Puts.{placed, placed-behind}
use Rattle.sheet_lines.proofs.Puts.{put_two, behind_piece, behind-one, behind_three, put-kept, put-set-kept}

-- numbers of refusals have two digits at most
pub number_small : (x : Refusal) → number_of x < 100
number_small x = omega (arith, refusal_numbers x)

-- the head: two numbers, a letter and three blanks
pub length_head : (p n a : ℕ) → length (head_of p n a) ≡ length (decimal p) + length (decimal n) + 4
unfolding head_of
length_head p n a =
    omega (
      arith,
      length-append (decimal p) (blank ∷ (decimal n ++ (blank ∷ a ∷ blank ∷ []))),
      length-append (decimal n) (blank ∷ a ∷ blank ∷ []),
    )

-- a point of three digits at most, and a splitting's number of five
pub head_short : (p n a : ℕ) → p < 1000 → n < 100000 → length (head_of p n a) ≤ 12
head_short p n a h i = omega (arith, length_head p n a, count-within 2 p h, count-within 4 n i)

pub length_refused : (x : Refusal) → length (refused_line x) ≡ length (decimal (number_of x)) + 3
unfolding refused_line
length_refused x = omega (arith, length-append (decimal (number_of x)) (line_feed ∷ []))

pub digits_two : (n : ℕ) → n < 100 → length (decimal n) ≤ 2
digits_two = count-within 1

-- the head where it has room, piece by piece
module _ (xs y : List ℕ) (at first p n a : ℕ) (h : at + length (head_of p n a) ≤ length xs)
    (e : first ≡ behind_if_room xs at (decimal p)) (f : y ≡ put_if_room xs at (decimal p)) where
  point_room : at + length (decimal p) ≤ length xs
  point_room = omega (arith, h, length_head p n a)

  point_put : y ≡ put_at xs at (decimal p)
  point_put = placed xs at (decimal p) point_room y f

  pub head_first : (first + length (decimal n) + 4 ≡ at + length (head_of p n a)) × (length y ≡ length xs)
  head_first = (
    omega (arith, length_head p n a, placed-behind xs at (decimal p) point_room first e),
    put-kept xs y at (decimal p) point_put,
  )

  module _ (z : List ℕ) (second : ℕ) (g : second ≡ behind_if_room (set y first blank) (first + 1) (decimal n))
      (k : z ≡ put_if_room (set y first blank) (first + 1) (decimal n)) where
    number-room : first + 1 + length (decimal n) ≤ length (set y first blank)
    number-room = omega (arith, h, head_first, length-set y first blank)

    number_put : z ≡ put_at (set y first blank) (first + 1) (decimal n)
    number_put = placed (set y first blank) (first + 1) (decimal n) number-room z k

    pub head_second : (second + 3 ≡ at + length (head_of p n a)) × (length z ≡ length xs)
    head_second = (
      omega (arith, head_first, placed-behind (set y first blank) (first + 1) (decimal n) number-room second g),
      put-set-kept y z first blank (first + 1) (decimal n) number_put ∙ head_first.1,
    )

    pub head_put : set (set (set z second blank) (second + 1) a) (second + 2) blank ≡ put_at xs at (head_of p n a)
    unfolding head_of
    head_put =
        let b = decimal p ++ (blank ∷ []) in
        let u = placed-behind xs at (decimal p) point_room first e in
        let v = placed-behind (set y first blank) (first + 1) (decimal n) number-room second g in
        let l : first + 1 ≡ at + length b = omega (arith, u, length-append (decimal p) (blank ∷ [])) in
        let o = behind_piece xs (set y first blank) at (first + 1) b l
        (behind-one xs y at first (decimal p) u point_put blank) z (decimal n) number_put in
        let m : second ≡ at + length (b ++ decimal n) = omega (arith, v, l, length-append b (decimal n)) in
        let w : (b ++ decimal n) ++ (blank ∷ a ∷ blank ∷ [])
        ≡ decimal p ++ (blank ∷ (decimal n ++ (blank ∷ a ∷ blank ∷ []))) = simp append_assoc in
        behind_three xs z at second (b ++ decimal n) m o blank a blank ∙ ap (put_at xs at) w

-- the line of a refusal where it has room
module _ (xs z : List ℕ) (n m : ℕ) (x : Refusal) (h : length (refused_line x) ≤ length xs) (e : n ≡ number_of x)
    (u : m ≡ behind_if_room (set (set xs 0 82) 1 blank) 2 (decimal n))
    (f : z ≡ put_if_room (set (set xs 0 82) 1 blank) 2 (decimal n)) where
  refused_kept : length (set (set xs 0 82) 1 blank) ≡ length xs
  refused_kept = length-set (set xs 0 82) 1 blank ∙ length-set xs 0 82

  refused_room : 2 + length (decimal n) ≤ length (set (set xs 0 82) 1 blank)
  refused_room = omega (arith, h, refused_kept, length_refused x, ap (λ k. length (decimal k)) e)

  refused_number : z ≡ put_at (set (set xs 0 82) 1 blank) 2 (decimal n)
  refused_number = placed (set (set xs 0 82) 1 blank) 2 (decimal n) refused_room z f

  pub refused_place : (m + 1 ≡ length (refused_line x)) × (length z ≡ length xs)
  refused_place = (
    omega (
      arith,
      length_refused x,
      ap (λ k. length (decimal k)) e,
      placed-behind (set (set xs 0 82) 1 blank) 2 (decimal n) refused_room m u,
    ),
    put-kept (set (set xs 0 82) 1 blank) z 2 (decimal n) refused_number ∙ refused_kept,
  )

  pub refused_put : set z m line_feed ≡ put_at xs 0 (refused_line x)
  unfolding refused_line
  refused_put =
      let v = placed-behind (set (set xs 0 82) 1 blank) 2 (decimal n) refused_room m u in
      let g = behind_piece xs (set (set xs 0 82) 1 blank) 0 2 (82 ∷ blank ∷ []) (omega arith) (put_two xs 0 82 blank) z
      (decimal n) refused_number in
      behind-one xs z 0 m ((82 ∷ blank ∷ []) ++ decimal n) (omega (arith, v)) g line_feed
      ∙ ap (λ k. put_at xs 0 (82 ∷ blank ∷ (decimal k ++ (line_feed ∷ [])))) e

-- a field in front of an ending, where it has room, and the three bytes behind it
module _ (xs y b : List ℕ) (m : ℕ) (h : length b + 3 ≤ length xs) (u : m ≡ behind_if_room xs 0 b)
    (f : y ≡ put_if_room xs 0 b) where
  field_room : 0 + length b ≤ length xs
  field_room = omega (arith, h)

  pub field_place : (m ≡ length b) × (length y ≡ length xs)
  field_place = (
    omega (arith, placed-behind xs 0 b field_room m u),
    put-kept xs y 0 b (placed xs 0 b field_room y f),
  )

  pub field_put : (a c d : ℕ) → set (set (set y m a) (m + 1) c) (m + 2) d ≡ put_at xs 0 (b ++ a ∷ c ∷ d ∷ [])
  field_put = behind_three xs y 0 m b (placed-behind xs 0 b field_room m u) (placed xs 0 b field_room y f)

-- a refused casebook's or count's line, where none of it is asked for
module _ (x : List ℕ) where
  pub none_first : (first most : ℕ) → 1 ≤ first → take most (drop first (x ∷ [])) ≡ []
  none_first zero most h = absurd (omega arith)
  none_first (suc first) most h = ap (take most) (drop-nil first) ∙ take-nil most

  pub none_most : (first most : ℕ) → most ≡ 0 → take most (drop first (x ∷ [])) ≡ []
  none_most first most e = rw e

  pub one-due : (first most : ℕ) → first ≡ 0 → (most ≡ 0 → ⊥) → take most (drop first (x ∷ [])) ≡ x ∷ []
  one-due first zero e n = absurd (n refl)
  one-due first (suc most) e n = rw e (ap (x ∷◌) (take-nil most))
