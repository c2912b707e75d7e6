-- Bytes written in front of an output, one piece after the other, each into the rest that the one before it left.
use Prim.Native.Nat.{ℕ, ◌+◌, ◌-◌, ◌≤◌}
use mathlib.Core.Path.{◌≡◌, refl, ◌∙◌, ap}
use mathlib.Core.List.{List, [], ◌∷◌, ◌++◌, append_assoc, append-nil}
use native.Mathlib.Omega.{arith}
use lib.ListN.{length, drop, set, length-append, length-drop, drop_of_length-le}
use lib.Seq.{take-append_seam, drop-append_seam, drop-drop}
use borrow.Rule.Slice.PartMut.{put_mid}
use Rattle.labels.specs.Refusals.{in_front}
use Rattle.labels.proofs.Slices.{rest, rest_of}

-- nothing written
pub front-none : (xs : List ℕ) → xs ≡ in_front [] xs
unfolding in_front
front-none xs = refl

pub length_front : (b xs : List ℕ) → length b ≤ length xs → length (in_front b xs) ≡ length xs
unfolding in_front
length_front b xs h = omega (arith, length-append b (drop (length b) xs), length-drop (length b) xs)

none_left : (k : ℕ) (l : List ℕ) → drop (length l - k) (drop k l) ≡ []
none_left k l = drop_of_length-le (drop k l) {i = length l - k} (omega (arith, length-drop k l))

-- the second piece goes into the rest: together they are one piece
pub front-after : (b d xs zs ys : List ℕ) (k : ℕ) → k ≡ length b → zs ≡ in_front b xs → ys ≡ in_front d (rest k zs)
    → put_mid k (length zs - k) zs ys ≡ in_front (b ++ d) xs
unfolding in_front
front-after b d xs zs ys k p q r =
    rw (
      r,
      rest_of k zs,
      none_left k zs,
      q,
      p,
      take-append_seam b (drop (length b) xs),
      drop-append_seam b (drop (length b) xs),
      drop-drop (length d) (length b) xs,
      append-nil (d ++ drop (length b + length d) xs),
      length-append b d,
      append_assoc b d (drop (length b + length d) xs),
    )

-- two bytes, four bytes
pub put_two : (xs : List ℕ) (o a : ℕ) → 2 ≤ length xs → set (set xs 0 o) 1 a ≡ in_front (o ∷ a ∷ []) xs
unfolding in_front
put_two [] o a h = absurd (omega arith)
put_two (x ∷ []) o a h = absurd (omega arith)
put_two (x ∷ y ∷ xs) o a h = refl

pub put_four : (xs : List ℕ) (o a b q : ℕ) → 4 ≤ length xs
    → set (set (set (set xs 0 o) 1 a) 2 b) 3 q ≡ in_front (o ∷ a ∷ b ∷ q ∷ []) xs
unfolding in_front
put_four [] o a b q h = absurd (omega arith)
put_four (x ∷ []) o a b q h = absurd (omega arith)
put_four (x ∷ y ∷ []) o a b q h = absurd (omega arith)
put_four (x ∷ y ∷ z ∷ []) o a b q h = absurd (omega arith)
put_four (x ∷ y ∷ z ∷ w ∷ xs) o a b q h = refl

-- an output that holds a piece is as long as before
pub front_length : (w xs zs : List ℕ) → zs ≡ in_front w xs → length w ≤ length xs → length zs ≡ length xs
front_length w xs zs e h = ap length e ∙ length_front w xs h
