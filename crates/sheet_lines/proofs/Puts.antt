-- Bytes written over those of a list from a place on.
use Prim.Native.Nat.{ℕ, zero, suc, ◌+◌, ◌-◌, ◌≤◌, ◌<◌}
use mathlib.Core.Path.{◌≡◌, refl, sym, ◌∙◌, ap, ap₂}
use mathlib.Core.List.{List, [], ◌∷◌, ◌++◌, append-nil, append_assoc}
use native.Mathlib.Omega.{arith}
use lib.ListN.{length, set, take, drop}
use lib.Seq.{sets, sets-eq, set-set, set_comm, take-set-le, length-take-le, take-nil, take-length, drop_at, drop-drop}
use lib.Seq.{drop-length}
use borrow.Rule.Slice.PartMut.{put_mid, post_of, Post-is}
use Rattle.labels.specs.Refusals.{in_front}
use Rattle.labels.proofs.Slices.{rest, rest_of}
use Rattle.sheet_lines.specs.Working.{put_at}
pub use Rattle.digits.proofs.Puts.{length-put, put_one, put_two, put_three, put-behind, behind_piece, behind-one}
pub use Rattle.digits.proofs.Puts.{behind_three, put-kept, put-set-kept}

-- bytes at the front of an output
pub put_first : (xs b : List ℕ) → length b ≤ length xs → put_at xs 0 b ≡ in_front b xs
unfolding put_at in_front
put_first xs b h = let z : 0 + length b ≡ length b = omega arith in sets-eq b xs 0 (omega (arith, h)) ∙ rw z

-- what stands in front keeps its value
pub put_front : (xs : List ℕ) (at n : ℕ) (b : List ℕ) → n ≤ at → take n (put_at xs at b) ≡ take n xs
unfolding put_at
put_front xs at n [] h = refl
put_front xs at n (a ∷ b) h = put_front (set xs at a) (suc at) n b (omega arith) ∙ take-set-le n xs at a h

-- a part, as the end of a front
pub part-front : (l : List ℕ) (from n : ℕ) → take n (drop from l) ≡ drop from (take (from + n) l)
part-front l zero n = let z : zero + n ≡ n = omega arith in ap (λ x. take x l) (sym z)
part-front [] (suc from) n = rw (take-nil, take-nil)
part-front (x ∷ l) (suc from) n = let z : suc from + n ≡ suc (from + n) = omega arith in rw z (part-front l from n)

-- a part in front keeps its value
pub put-part : (xs : List ℕ) (at from n : ℕ) (b : List ℕ) → from + n ≤ at
    → take n (drop from (put_at xs at b)) ≡ take n (drop from xs)
put-part xs at from n b h =
    part-front (put_at xs at b) from n ∙ ap (drop from) (put_front xs at (from + n) b h) ∙ sym (part-front xs from n)

-- a byte in front of what is written
set_front : (xs : List ℕ) (at a i : ℕ) (b : List ℕ) → i < at → set (put_at xs at b) i a ≡ put_at (set xs i a) at b
unfolding put_at
set_front xs at a i [] h = refl
set_front xs at a i (x ∷ b) h =
    set_front (set xs at x) (suc at) a i b (omega arith)
    ∙ ap (λ o. sets o (suc at) b) (set_comm xs at i x a (λ e. omega (arith, e, h)))

-- a byte of what is written, changed afterwards
pub put-set : (xs : List ℕ) (at a i : ℕ) (b : List ℕ) → i < length b
    → set (put_at xs at b) (at + i) a ≡ put_at xs at (set b i a)
unfolding put_at
put-set xs at a i [] h = absurd (omega arith)
put-set xs at a zero (x ∷ b) h =
    let z : at + 0 ≡ at = omega arith in
    ap (λ n. set (sets (set xs at x) (suc at) b) n a) z ∙ set_front (set xs at x) (suc at) a at b (omega arith)
    ∙ ap (λ o. sets o (suc at) b) (set-set xs at x a)
put-set xs at a (suc i) (x ∷ b) h =
    let z : at + suc i ≡ suc at + i = omega arith in
    ap (λ n. set (sets (set xs at x) (suc at) b) n a) z ∙ put-set (set xs at x) (suc at) a i b (omega arith)

-- a byte between bytes, changed
pub set-between : (b d : List ℕ) (x a : ℕ) → set (b ++ x ∷ d) (length b) a ≡ b ++ a ∷ d
set-between [] d x a = refl
set-between (y ∷ b) d x a = ap (y ∷◌) (set-between b d x a)

-- what is written into an output, and what follows it
pub drop-put : (xs : List ℕ) (at : ℕ) (b : List ℕ) → at + length b ≤ length xs
    → drop at (put_at xs at b) ≡ b ++ drop (at + length b) xs
unfolding put_at
drop-put xs at b h =
    ap (drop at) (sets-eq b xs at h ∙ append_assoc (take at xs) b (drop (at + length b) xs))
    ∙ drop_at (take at xs) (b ++ drop (at + length b) xs) at (length-take-le at xs (omega (arith, h)))

-- bytes copied into the rest of an output, from a place on
pub rest_copied : (y e d : List ℕ) (from : ℕ) → from + length e ≤ length y
    → d ≡ take (length e) e ++ drop (length e) (rest from y) → put_mid from (length y - from) y d ≡ put_at y from e
unfolding put_at
rest_copied y e d from h g =
    let b : drop (length e) (rest from y) ≡ drop (from + length e) y = ap (drop (length e)) (rest_of from y)
    ∙ drop-drop (length e) from y in
    let c : post_of from (length y - from) y ≡ [] = Post-is from (length y) y (omega (arith, h)) ∙ drop-length y in
    ap₂ (λ x o. take from y ++ (x ++ o)) (g ∙ ap₂ ◌++◌ (take-length e) b) c
    ∙ ap (take from y ++◌) (append-nil (e ++ drop (from + length e) y))
    ∙ sym (append_assoc (take from y) e (drop (from + length e) y)) ∙ sym (sets-eq e y from h)

-- the rest of an output that was lent and came back
pub rest_back : (y d : List ℕ) (from : ℕ) → from ≤ length y → drop from (put_mid from (length y - from) y d) ≡ d
rest_back y d from h =
    let c : post_of from (length y - from) y ≡ [] = Post-is from (length y) y (omega (arith, h)) ∙ drop-length y in
    ap (λ o. drop from (take from y ++ (d ++ o))) c ∙ drop_at (take from y) (d ++ []) from (length-take-le from y h)
    ∙ append-nil d
