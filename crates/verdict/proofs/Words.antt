-- What words say of a formula's text: the bytes of its last n nodes, their parts, and the first of these nodes.
use Prim.Native.Nat.{ℕ, zero, suc, ◌-◌, ◌*◌, ◌%◌, ◌≤◌}
use mathlib.Core.Path.{◌≡◌, refl}
use mathlib.Core.Bool.{true, false}
use mathlib.Core.List.{List}
use native.Mathlib.Omega.{arith}
use lib.ListN.{length, get_or, drop}
use Rattle.formulas.specs.Working.{tree_size}
use Rattle.verdict.specs.Working.{operator_in, first_size_in, has_two, label_in, text_of, Skips}

module _ (ws : List ℕ) where
  -- two bytes a node
  pub text-length : (n : ℕ) → length (text_of ws n) ≡ 2 * n
  unfolding text_of
  text-length zero = refl
  text-length (suc n) = omega (arith, text-length n)

  -- without its first m nodes
  pub text-drop : (m n : ℕ) → m ≤ n → drop (2 * m) (text_of ws n) ≡ text_of ws (n - m)
  unfolding text_of
  text-drop zero n h = let z : n - 0 ≡ n = omega arith in rw z
  text-drop (suc m) zero h = absurd (omega arith)
  text-drop (suc m) (suc n) h =
      let twice : 2 * suc m ≡ suc (suc (2 * m)) = omega arith in
      let less : suc n - suc m ≡ n - m = omega arith in
      rw (twice, less) (text-drop m n (omega arith))

  -- without the first one
  pub text-behind : (n : ℕ) → 1 ≤ n → drop 2 (text_of ws n) ≡ text_of ws (n - 1)
  text-behind n h = text-drop 1 n h

  -- the first node: its operator, and its label where it is neither "and" nor "or"
  pub text-operator : (n : ℕ) → 1 ≤ n → get_or (text_of ws n) 0 0 ≡ operator_in (get_or ws n 0)
  unfolding text_of
  text-operator zero h = absurd (omega arith)
  text-operator (suc n) h = refl

  pub text-label : (n : ℕ) → 1 ≤ n → has_two (operator_in (get_or ws n 0)) ≡ false
      → get_or (text_of ws n) 1 0 ≡ get_or ws n 0 % 256
  unfolding text_of label_in
  text-label zero h e = absurd (omega arith)
  text-label (suc n) h e = rw e

  -- what holds of the last n nodes holds of fewer
  pub skips_fewer : (n m : ℕ) → m ≤ n → Skips ws n → Skips ws m
  unfolding Skips
  skips_fewer n m h s = λ i k. s i (omega arith)

  -- the first node is "and" or "or": it has the size of its first operand, which begins behind it
  pub skips-first : (n : ℕ) → 1 ≤ n → Skips ws n → has_two (operator_in (get_or ws n 0)) ≡ true
      → first_size_in (get_or ws n 0) ≡ tree_size (text_of ws (n - 1))
  unfolding Skips
  skips-first zero h s e = absurd (omega arith)
  skips-first (suc n) h s e =
      let less : suc n - 1 ≡ n = omega arith in
      rw less (s n (omega arith) e)
