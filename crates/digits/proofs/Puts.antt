-- Bytes written over those of a list from a place on, and only where all of them have room.
use Prim.Native.Nat.{ℕ, suc, ◌+◌, ◌≤◌, ◌<◌}
use mathlib.Core.Path.{◌≡◌, refl, sym, ◌∙◌, ap}
use mathlib.Core.Bool.{Bool, true, false}
use mathlib.Core.List.{List, [], ◌∷◌, ◌++◌}
use native.Mathlib.Omega.{arith}
use lib.ListN.{length, set, length-set}
use lib.Seq.{sets, length-sets}
use lib.Dec.{leb}
use borrow.Author.Tests.{le-leb, lt-leb, leb-true, leb-false}
use Rattle.digits.specs.Outputs.{put_at, room_at, put_if_room, behind_if_room}

-- the list keeps its length
pub length-put : (xs : List ℕ) (at : ℕ) (b : List ℕ) → length (put_at xs at b) ≡ length xs
unfolding put_at
length-put xs at b = length-sets xs at b

-- one byte
pub put_one : (xs : List ℕ) (at a : ℕ) → set xs at a ≡ put_at xs at (a ∷ [])
unfolding put_at
put_one xs at a = refl

-- two bytes
pub put_two : (xs : List ℕ) (at a b : ℕ) → set (set xs at a) (at + 1) b ≡ put_at xs at (a ∷ b ∷ [])
unfolding put_at
put_two xs at a b = let z : at + 1 ≡ suc at = omega arith in rw z

-- three bytes
pub put_three : (xs : List ℕ) (at a b c : ℕ)
    → set (set (set xs at a) (at + 1) b) (at + 2) c ≡ put_at xs at (a ∷ b ∷ c ∷ [])
unfolding put_at
put_three xs at a b c =
    let z : at + 1 ≡ suc at = omega arith in let w : at + 2 ≡ suc (suc at) = omega arith in rw (z, w)

-- a byte, then more
pub put_then : (xs : List ℕ) (at a : ℕ) (b : List ℕ) → put_at (set xs at a) (at + 1) b ≡ put_at xs at (a ∷ b)
unfolding put_at
put_then xs at a b = let z : at + 1 ≡ suc at = omega arith in rw z

-- bytes behind bytes
pub put-behind : (xs : List ℕ) (at : ℕ) (b d : List ℕ) → put_at (put_at xs at b) (at + length b) d ≡ put_at xs at (b ++ d)
unfolding put_at
put-behind xs at [] d = let z : at + 0 ≡ at = omega arith in ap (λ n. sets xs n d) z
put-behind xs at (a ∷ b) d =
    let z : at + suc (length b) ≡ suc at + length b = omega arith in
    ap (λ n. sets (sets (set xs at a) (suc at) b) n d) z ∙ put-behind (set xs at a) (suc at) b d

-- bytes behind bytes, in an output that was written to
module _ (xs ys : List ℕ) (at n : ℕ) (b : List ℕ) (p : n ≡ at + length b) (e : ys ≡ put_at xs at b) where
  pub behind_piece : (zs d : List ℕ) → zs ≡ put_at ys n d → zs ≡ put_at xs at (b ++ d)
  behind_piece zs d f = f ∙ ap (λ o. put_at o n d) e ∙ ap (λ m. put_at (put_at xs at b) m d) p ∙ put-behind xs at b d

  pub behind-one : (a : ℕ) → set ys n a ≡ put_at xs at (b ++ a ∷ [])
  behind-one a = behind_piece _ _ (put_one ys n a)

  pub behind_three : (a c d : ℕ) → set (set (set ys n a) (n + 1) c) (n + 2) d ≡ put_at xs at (b ++ a ∷ c ∷ d ∷ [])
  behind_three a c d = behind_piece _ _ (put_three ys n a c d)

-- the length of an output that was written to
pub put-kept : (xs ys : List ℕ) (at : ℕ) (b : List ℕ) → ys ≡ put_at xs at b → length ys ≡ length xs
put-kept xs ys at b e = ap length e ∙ length-put xs at b

pub put-set-kept : (xs ys : List ℕ) (i a at : ℕ) (b : List ℕ) → ys ≡ put_at (set xs i a) at b → length ys ≡ length xs
put-set-kept xs ys i a at b e = put-kept (set xs i a) ys at b e ∙ length-set xs i a

-- bytes that have room are written, and the place behind them is given
module _ (xs : List ℕ) (at : ℕ) (b : List ℕ) (h : at + length b ≤ length xs) where
  pub put-room : put_if_room xs at b ≡ put_at xs at b
  unfolding put_if_room room_at
  put-room = rw (le-leb _ _ h)

  pub behind-room : behind_if_room xs at b ≡ at + length b
  unfolding behind_if_room room_at
  behind-room = rw (le-leb _ _ h)

  pub placed : (ys : List ℕ) → ys ≡ put_if_room xs at b → ys ≡ put_at xs at b
  placed ys e = e ∙ put-room

  pub placed-behind : (to : ℕ) → to ≡ behind_if_room xs at b → to ≡ at + length b
  placed-behind to e = e ∙ behind-room

  pub put_answer : (ys : List ℕ) (to : ℕ) → to ≡ at + length b → ys ≡ put_at xs at b
      → (to ≡ behind_if_room xs at b) × (ys ≡ put_if_room xs at b)
  put_answer ys to p q = (p ∙ sym behind-room, q ∙ sym put-room)

-- where they have none, nothing changes, and the place is the same
module _ (xs : List ℕ) (at : ℕ) (b : List ℕ) (h : length xs < at + length b) where
  pub put_no_room : put_if_room xs at b ≡ xs
  unfolding put_if_room room_at
  put_no_room = rw (lt-leb _ _ h)

  pub behind_no_room : behind_if_room xs at b ≡ at
  unfolding behind_if_room room_at
  behind_no_room = rw (lt-leb _ _ h)

-- what the test says of bytes, and what is answered then
pub room_enough : (xs : List ℕ) (at : ℕ) (b : List ℕ) (len : ℕ) (x : Bool) → length b ≤ len
    → x ≡ leb (at + len) (length xs) → x ≡ true → at + length b ≤ length xs
room_enough xs at b len x few tested e = omega (arith, few, leb-true (at + len) (length xs) (sym tested ∙ e))

module _ (xs : List ℕ) (at : ℕ) (b : List ℕ) (len : ℕ) (x : Bool) (counted : len ≡ length b)
    (tested : x ≡ leb (at + len) (length xs)) where
  pub room_told : x ≡ true → at + length b ≤ length xs
  room_told = room_enough xs at b len x (omega (arith, counted)) tested

  pub no_room_told : x ≡ false → (at ≡ behind_if_room xs at b) × (xs ≡ put_if_room xs at b)
  no_room_told e =
      let h : length xs < at + length b
      = omega (arith, counted, leb-false (at + len) (length xs) (sym tested ∙ e)) in
      (sym (behind_no_room xs at b h), sym (put_no_room xs at b h))
