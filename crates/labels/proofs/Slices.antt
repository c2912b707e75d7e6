-- Parts of slices, as the goals of proofs have them.
use Prim.Native.Nat.{ℕ, suc, ◌+◌, ◌-◌, ◌≤◌, ◌<◌, min}
use mathlib.Core.Path.{◌≡◌, refl, ap, ◌∙◌}
use mathlib.Core.List.{List, [], ◌∷◌, ◌++◌, append_assoc}
use native.Mathlib.Omega.{arith}
use lib.ListN.{length, get_or, take, drop, length-append, length-take, length-drop}
use lib.Seq.{take_all, take-add, take_at, drop-cons, drop_at, drop-drop, sets, sets-eq}

-- the part from k on
abbrev pub rest : ℕ → List ℕ → List ℕ
rest k l = take (length l - k) (drop k l)

-- it holds what is left behind k bytes
pub rest_of : (k : ℕ) (l : List ℕ) → rest k l ≡ drop k l
rest_of k l = take_all (length l - k) (drop k l) (omega (arith, length-drop k l))

-- so many bytes
pub rest_length : (k : ℕ) (l : List ℕ) → length (rest k l) ≡ length l - k
rest_length k l = ap length (rest_of k l) ∙ length-drop k l

-- and is shorter than the whole
pub rest_fewer : (k : ℕ) (l : List ℕ) → 1 ≤ k → k ≤ length l → length (rest k l) < length l
rest_fewer k l h i = simp (length-take, length-drop) (omega arith)

-- a part of no bytes is empty
pub no_bytes : (l : List ℕ) → length l ≡ 0 → l ≡ []
no_bytes [] e = refl
no_bytes (b ∷ l) e = absurd (omega arith)

-- a front with two bytes more
pub take_two : (l : List ℕ) (n : ℕ) → n + 2 ≤ length l → take (n + 2) l ≡ take n l ++ get_or l n 0 ∷ get_or l (n + 1) 0 ∷ []
take_two l n h =
    let e : n + 1 ≡ suc n = omega arith in
    rw (take-add, drop-cons l n 0 (omega arith), drop-cons l (suc n) 0 (omega arith), e)

-- bytes d written behind the bytes b
pub written_behind : (b d xs : List ℕ) (n : ℕ) → length b ≡ n → n + length d ≤ length xs
    → sets (b ++ drop n xs) n d ≡ (b ++ d) ++ drop (n + length d) xs
written_behind b d xs n e h =
    sets-eq d (b ++ drop n xs) n (omega (arith, length-append b (drop n xs), length-drop n xs))
    ∙ rw (
      take_at b (drop n xs) n e,
      ← drop-drop (length d) n (b ++ drop n xs),
      drop_at b (drop n xs) n e,
      drop-drop (length d) n xs,
      append_assoc,
    )

-- bytes that were copied to the front of others
pub copied : (h xs ys : List ℕ) → xs ≡ take (length h) h ++ ys → take (length h) xs ≡ h
copied h xs ys e = rw (e, take_all (length h) h (omega arith)) (take_at h ys (length h) refl)

-- what `copy` says where there is room for all of its bytes
pub copied_count : (xs ys : List ℕ) (n : ℕ) → length xs ≤ length ys → n ≡ min (length xs) (length ys) → n ≡ length xs
copied_count xs ys n h c = omega (arith, c)

pub copied_whole : (xs ys zs : List ℕ) (n : ℕ) → length xs ≤ length ys → n ≡ min (length xs) (length ys)
    → zs ≡ take n xs ++ drop n ys → zs ≡ take (length xs) xs ++ drop (length xs) ys
copied_whole xs ys zs n h c e = e ∙ ap (λ i. take i xs ++ drop i ys) (copied_count xs ys n h c)
