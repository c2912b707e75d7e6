-- The lengths and the kinds of records: what fits, and what may stand at a place.
use Prim.Native.Nat.{ℕ, ◌+◌, ◌-◌, ◌%◌, ◌≤◌, max}
use mathlib.Core.Path.{◌≡◌, refl, sym, ap}
use mathlib.Core.Bool.{Bool, true, false, cond, ◌||◌, false≢true}
use mathlib.Core.List.{List, [], ◌∷◌}
use native.Mathlib.Omega.{arith}
use lib.ListN.{length}
use lib.Dec.{eqb}
use borrow.Author.Tests.{eqb-true, le-ltb}
use Rattle.hml.specs.Lists.{any}
use Rattle.hml.proofs.Tests.{apart, Decides, decides, decided_iff, decided_and, decided_same, decided_le}
use Rattle.records.specs.Records.{lengths_of, fit_length, longest_body, may_stand, word_at, next_at}
use Rattle.labels.specs.declared.refusal.Refusal.TheVariants.{WrongKind}
use Rattle.std.specs.Prelude.{Err}
use Rattle.records.specs.declared.record.Lengths.{Lengths}

-- the table of records by its kinds
module _ (kind : ℕ) where
  -- every length counts the kind and one byte at least, and no step is 0
  pub lengths_some : (3 ≤ (lengths_of kind).shortest) × (1 ≤ (lengths_of kind).step)
  unfolding lengths_of
  lengths_some = go (eqb kind 1) (eqb kind 2 || eqb kind 3) (eqb kind 4) (eqb kind 5)
    where
      table : Bool → Bool → Bool → Bool → Lengths
      table a b c d =
          cond a (record { shortest = 3; longest = 3; step = 1 })
          (cond b (record { shortest = 3; longest = 1539; step = 3 })
          (cond c (record { shortest = 4; longest = 604; step = 3 })
          (cond d (record { shortest = 4; longest = 130; step = 2 })
          (record { shortest = 3; longest = 0; step = 1 }))))

      go : (a b c d : Bool) → (3 ≤ (table a b c d).shortest) × (1 ≤ (table a b c d).step)
      go true b c d = (omega arith, omega arith)
      go false true c d = (omega arith, omega arith)
      go false false true d = (omega arith, omega arith)
      go false false false true = (omega arith, omega arith)
      go false false false false = (omega arith, omega arith)

-- the lengths that fit a kind: from the shortest to the longest, a step apart
pub decided_fit : (kind n : ℕ)
    → Decides (((lengths_of kind).shortest ≤ n) × (n ≤ (lengths_of kind).longest)
    × ((n - (lengths_of kind).shortest) % (lengths_of kind).step ≡ 0))
    (fit_length kind n)
unfolding fit_length
decided_fit kind n =
    decided_iff (λ t. (t.0, t.1.0, t.1.1)) (λ t. (t.0, (t.1, t.2)))
    (decided_and (decided_le (lengths_of kind).shortest n)
    (decided_and (decided_le n (lengths_of kind).longest)
    (decided_same ((n - (lengths_of kind).shortest) % (lengths_of kind).step) 0)))

-- a length that fits counts at least the kind and one byte
pub fit_some : (kind n : ℕ) → fit_length kind n ≡ true → 3 ≤ n
fit_some kind n e = omega (arith, ((decides (decided_fit kind n)).0 e).0, (lengths_some kind).0)

-- no record of the kinds of a place has a longer body than the longest
pub fit_longest : (kinds : List ℕ) (kind n : ℕ) → may_stand kinds kind ≡ true → fit_length kind n ≡ true
    → n ≤ 2 + longest_body kinds
unfolding may_stand longest_body
fit_longest [] kind n may e = absurd (false≢true may)
fit_longest (k ∷ kinds) kind n may e = go (eqb k kind) refl may (λ later. fit_longest kinds kind n later e)
  where
    go : (b : Bool) → eqb k kind ≡ b → (b || any (λ x. eqb x kind) kinds) ≡ true
        → (any (λ x. eqb x kind) kinds ≡ true → n ≤ 2 + longest_body kinds)
        → n ≤ 2 + max ((lengths_of k).longest - 2) (longest_body kinds)
    go true p h on =
        let z = ((decides (decided_fit kind n)).0 e).1 in
        let w = ap (λ x. (lengths_of x).longest) (eqb-true k kind p) in
        omega (arith, z, w)
    go false p h on = omega (arith, on h)

-- where one kind may stand, a kind that may is it
pub only_kind : (k kind : ℕ) → may_stand (k ∷ []) kind ≡ true → kind ≡ k
unfolding may_stand
only_kind k kind e = go (eqb k kind) refl e
  where
    go : (b : Bool) → eqb k kind ≡ b → (b || false) ≡ true → kind ≡ k
    go true p e = sym (eqb-true k kind p)
    go false p e = absurd (apart cc)

-- a kind that may not stand at a place is refused, whatever the length before it
module _ (s : List ℕ) (at : ℕ) (kinds : List ℕ) (header : at + 4 ≤ length s)
    (kind : ℕ) (seen : kind ≡ word_at s (at + 2)) where
  pub other_kind : may_stand kinds kind ≡ false → Err WrongKind ≡ next_at s at kinds
  unfolding next_at
  other_kind n = rw (le-ltb (length s) (at + 4) header, ← seen, n)
