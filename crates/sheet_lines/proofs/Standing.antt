-- Endings that stand in an output: what is known of them when a line is written behind.
use Prim.Native.Nat.{ℕ, ◌+◌, ◌≤◌, ◌<◌}
use mathlib.Core.Path.{◌≡◌, refl, ◌∙◌, ap}
use mathlib.Core.Logic.{◌⊎◌, inl, inr}
use mathlib.Core.Bool.{Bool, true, false}
use mathlib.Core.List.{List, ◌++◌, append_assoc}
use native.Mathlib.Omega.{arith}
use lib.ListN.{length, get_or, set, take, drop, length-append}
use lib.Dec.{eqb}
use lib.Seq.{sets-eq, drop_at, take_at, length-take-le, get_or-set_same, get_or-set_other}
use borrow.Author.Tests.{eqb-true, eqb-false}
use Rattle.sheet_lines.specs.Working.{put_at, Standing, EndingsKnown, Forgotten}
use Rattle.sheet_lines.proofs.Puts.{put-part}

-- four pieces
whole : (a b d r : List ℕ) → a ++ (b ++ d) ++ r ≡ (a ++ b) ++ (d ++ r)
whole a b d r = simp append_assoc

-- what was written behind the front of a line is what stands there
pub put_read : (xs : List ℕ) (at : ℕ) (b d : List ℕ) → at + length (b ++ d) ≤ length xs
    → take (length d) (drop (at + length b) (put_at xs at (b ++ d))) ≡ d
unfolding put_at
put_read xs at b d h =
    let z : length (take at xs ++ b)
    ≡ at + length b = omega (arith, length-append (take at xs) b, length-take-le at xs (omega (arith, h))) in
    let r = drop (at + length (b ++ d)) xs in
    let e : put_at xs at (b ++ d) ≡ (take at xs ++ b) ++ (d ++ r) = sets-eq (b ++ d) xs at h
    ∙ whole (take at xs) b d r in
    ap (λ o. take (length d) (drop (at + length b) o)) e
    ∙ ap (take (length d)) (drop_at (take at xs ++ b) (d ++ r) (at + length b) z) ∙ take_at d r (length d) refl

module _ (e : ℕ → List ℕ) (ways : ℕ) (froms ends : List ℕ) where
  -- none stands there
  pub known_forgotten : (out : List ℕ) (at : ℕ) → Forgotten ends ways → EndingsKnown e ways froms ends out at
  unfolding EndingsKnown Forgotten
  known_forgotten out at f t h = inl (f t h)

  module _ (out : List ℕ) (at : ℕ) (known : EndingsKnown e ways froms ends out at) where
    -- they stand there still when bytes are written behind them
    pub known_put : (d : List ℕ) → EndingsKnown e ways froms ends (put_at out at d) (at + length d)
    unfolding EndingsKnown Standing
    known_put d t h = go (known t h)
      where
        go : (get_or ends t 0 ≡ 0) ⊎ Standing e out at (get_or froms t 0) (get_or ends t 0) t
            → (get_or ends t 0 ≡ 0) ⊎ Standing e (put_at out at d) (at + length d) (get_or froms t 0) (get_or ends t 0) t
        go (inl z) = inl z
        go (inr (x, y, z)) =
            inr (put-part out at (get_or froms t 0) (length (e t)) d (omega (arith, y, z)) ∙ x, y, omega (arith, z))

    -- the ending of one of them
    pub known_read : (t : ℕ) → t < ways → (get_or ends t 0 ≡ 0 → ⊥) → Standing e out at (get_or froms t 0) (get_or ends t 0) t
    unfolding EndingsKnown
    known_read t h n = go (known t h)
      where
        go : (get_or ends t 0 ≡ 0) ⊎ Standing e out at (get_or froms t 0) (get_or ends t 0) t
            → Standing e out at (get_or froms t 0) (get_or ends t 0) t
        go (inl z) = absurd (n z)
        go (inr s) = s

    -- a new one, behind other bytes
    pub known_new : (t : ℕ) (head : List ℕ) → t < length froms → t < length ends
        → at + length (head ++ e t) ≤ length out
        → EndingsKnown e ways (set froms t (at + length head)) (set ends t (at + length (head ++ e t)))
        (put_at out at (head ++ e t)) (at + length (head ++ e t))
    unfolding EndingsKnown Standing
    known_new t head l m r u i = go (eqb u t) refl
      where
        go : (b : Bool) → eqb u t ≡ b
            → (get_or (set ends t (at + length (head ++ e t))) u 0 ≡ 0)
            ⊎ Standing e (put_at out at (head ++ e t)) (at + length (head ++ e t))
            (get_or (set froms t (at + length head)) u 0) (get_or (set ends t (at + length (head ++ e t))) u 0) u
        go true q =
            rw (
              eqb-true u t q,
              get_or-set_same froms t (at + length head) 0 l,
              get_or-set_same ends t (at + length (head ++ e t)) 0 m,
            )
            (inr (put_read out at head (e t) r, omega (arith, length-append head (e t)), omega arith))
        go false q =
            let n : u ≡ t → ⊥ = eqb-false u t q in
            rw (
              get_or-set_other froms t u (at + length head) 0 n,
              get_or-set_other ends t u (at + length (head ++ e t)) 0 n,
            ) (known_put (head ++ e t) u i)
