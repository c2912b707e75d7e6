-- Counting nodes up to a limit: twice the count is the number of bytes, or two more than twice the limit.
use Prim.Native.Nat.{ℕ, ◌+◌, ◌-◌, ◌*◌, ◌≤◌, min}
use mathlib.Core.Path.{◌≡◌, ap}
use mathlib.Core.List.{List, [], ◌∷◌, ◌++◌}
use native.Mathlib.Omega.{arith}
use lib.ListN.{length, length-append}
use Rattle.dividing.specs.Working.{Behind}

-- one node
pub count-leaf : (o a : ℕ) (w : List ℕ) (limit : ℕ) → o ∷ a ∷ [] ≡ w → 2 * 1 ≡ min (length w) (2 * limit + 2)
count-leaf o a w limit e = omega (arith, ap length e)

-- no node is left below the limit
pub count_full : (w : List ℕ) (limit : ℕ) → 2 ≤ length w → limit ≡ 0 → 2 * 1 ≡ min (length w) (2 * limit + 2)
count_full w limit h e = omega (arith, h, e)

-- a node over another tree
pub count_over : (o a : ℕ) (d w : List ℕ) (n limit : ℕ) → Behind (o ∷ a ∷ []) d w → 1 ≤ limit
    → 2 * n ≡ min (length d) (2 * (limit - 1) + 2) → 2 * (1 + n) ≡ min (length w) (2 * limit + 2)
unfolding Behind
count_over o a d w n limit e h p = omega (arith, ap length e, h, p)

-- a node over two trees
module _ (o a : ℕ) (d e w : List ℕ) (b : Behind ((o ∷ a ∷ []) ++ d) e w) where
  all-length : length w ≡ 2 + length d + length e
  unfolding Behind
  all-length = omega (arith, ap length b, length-append d e)

  pub count_enough : (n limit : ℕ) → 1 ≤ limit → 2 * n ≡ min (length d) (2 * (limit - 1) + 2) → n ≡ limit
      → 2 * (limit + 1) ≡ min (length w) (2 * limit + 2)
  count_enough n limit h p q = omega (arith, all-length, h, p, q)

  -- the first is counted whole, so the second has the nodes that are left
  pub count_left : (n limit : ℕ) → 1 ≤ limit → 2 * n ≡ min (length d) (2 * (limit - 1) + 2) → (n ≡ limit → ⊥)
      → n + 1 ≤ limit
  count_left n limit h p q = go n limit (omega (arith, h, p)) q
    where
      go : (n limit : ℕ) → n ≤ limit → (n ≡ limit → ⊥) → n + 1 ≤ limit
      go n limit h q = omega (arith, h, q)

  pub count-both : (n m limit : ℕ) → 2 * n ≡ min (length d) (2 * (limit - 1) + 2) → n + 1 ≤ limit
      → 2 * m ≡ min (length e) (2 * (limit - 1 - n) + 2) → 2 * (1 + n + m) ≡ min (length w) (2 * limit + 2)
  count-both n m limit p h q = omega (arith, all-length, h, p, q)

-- no node is left below the limit, for a node over one tree and over two
pub full_over : (o a : ℕ) (d w : List ℕ) (limit : ℕ) → Behind (o ∷ a ∷ []) d w → limit ≡ 0
    → 2 * 1 ≡ min (length w) (2 * limit + 2)
unfolding Behind
full_over o a d w limit b e = omega (arith, ap length b, e)

pub full_both : (o a : ℕ) (d e w : List ℕ) (limit : ℕ) → Behind ((o ∷ a ∷ []) ++ d) e w → limit ≡ 0
    → 2 * 1 ≡ min (length w) (2 * limit + 2)
full_both o a d e w limit b z = omega (arith, all-length o a d e w b, z)
