-- Document 01's labels: "With k handshake pairs, k from 0 to 15, the labels are 0 to 2k; the partner of an odd label is
-- the next number, of an even one (from 2) the number before." This is one `Pairing` for each k. A `Pairing` holds two
-- proofs, that nobody is the partner of 0 and that partners have each other: they stand between the partners and
-- `pairs`.
use Rattle.std.specs.Prelude.{◌≡◌, refl, Bool, true, false, cond, ℕ, zero, suc, ◌+◌, ◌-◌, ◌*◌, ◌%◌, ◌≤◌, ◌<◌, min, eqb, leb, None, Option, Some}
use Rattle.std.proofs.Common.{ap, arith, eq-eqb, ne_eqb, eqb-true, le-leb, leb-true}
use Rattle.std.proofs.lemmas.Bool.{eqb-false}
use Rattle.hml.specs.System.{Pairing}

-- the highest label of k pairs. 255 marks an idle and is never a label, so there is none above 254, whatever k is
unfoldable pub highest : ℕ → ℕ
highest k = min (2 * k) 254

-- the partner of a label: of an odd one the next number, of an even one (from 2) the number before, of 0 nobody
unfoldable pub partner_of : ℕ → Option ℕ
partner_of a = cond (eqb a 0) None (Some (cond (eqb (a % 2) 1) (a + 1) (a - 1)))

-- the partner among the labels of k pairs: what is no label of theirs has none
unfoldable pub partner_among : ℕ → ℕ → Option ℕ
partner_among k a = cond (leb a (highest k)) (partner_of a) None

pub silent_alone : (k : ℕ) → partner_among k 0 ≡ None
unfolding partner_among partner_of
silent_alone k = rw (le-leb 0 (highest k) (omega arith))

-- what it means for a number that a test of it failed
pub positive : (a : ℕ) → (a ≡ 0 → ⊥) → 1 ≤ a
positive zero n = absurd (n refl)
positive (suc a) n = omega arith

even_of : (a : ℕ) → (a % 2 ≡ 1 → ⊥) → a % 2 ≡ 0
even_of a n = go (a % 2) (omega arith) n
  where
    go : (m : ℕ) → m < 2 → (m ≡ 1 → ⊥) → m ≡ 0
    go zero h n = refl
    go (suc zero) h n = absurd (n refl)
    go (suc (suc m)) h n = absurd (omega (arith, h))

even_highest : (k : ℕ) → highest k % 2 ≡ 0
unfolding highest
even_highest k = omega arith

no_partner : {b : ℕ} → None ≡ Some b → ⊥
no_partner e = let z : ◌≡◌ {A = ℕ} 0 1 = cc in omega arith

-- a label and its partner are labels of the k pairs, from 1 on, and have each other
pub partners : (k a b : ℕ) → partner_among k a ≡ Some b
    → (1 ≤ a) × (a ≤ highest k) × (1 ≤ b) × (b ≤ highest k) × (partner_among k b ≡ Some a)
unfolding partner_among partner_of
partners k a b e = go (leb a (highest k)) (eqb a 0) (eqb (a % 2) 1) refl refl refl e
  where
    go : (t z o : Bool) → leb a (highest k) ≡ t → eqb a 0 ≡ z → eqb (a % 2) 1 ≡ o
        → cond t (cond z None (Some (cond o (a + 1) (a - 1)))) None ≡ Some b
        → (1 ≤ a) × (a ≤ highest k) × (1 ≤ b) × (b ≤ highest k) × (partner_among k b ≡ Some a)
    go false z o h n p e = absurd (no_partner e)
    go true true o h n p e = absurd (no_partner e)
    go true false true h n p e =
        let q : a + 1 ≡ b = cc in
        let l = leb-true a (highest k) h in
        let m = eqb-true (a % 2) 1 p in
        let c : a + 1 ≤ highest k = omega (arith, l, m, even_highest k) in
        rw (← q) (
          omega (arith, m),
          l,
          omega arith,
          c,
          rw (
            le-leb (a + 1) (highest k) c,
            ne_eqb (a + 1) 0 (λ z. omega (arith, z)),
            ne_eqb ((a + 1) % 2) 1 (λ z. omega (arith, m, z)),
          )
              (ap Some (omega arith)),
        )
    go true false false h n p e =
        let q : a - 1 ≡ b = cc in
        let l = leb-true a (highest k) h in
        let o = positive a (eqb-false a 0 n) in
        let m = even_of a (eqb-false (a % 2) 1 p) in
        let c : a - 1 ≤ highest k = omega (arith, l) in
        rw (← q) (
          o,
          l,
          omega (arith, o, m),
          c,
          rw (
            le-leb (a - 1) (highest k) c,
            ne_eqb (a - 1) 0 (λ z. omega (arith, o, m, z)),
            eq-eqb ((a - 1) % 2) 1 (omega (arith, o, m)),
          )
              (ap Some (omega (arith, o))),
        )

-- document 01's pairing, for each k
unfoldable pub pairs : ℕ → Pairing
pairs k = record { partner = partner_among k; silent = silent_alone k; returned = λ {a} {b} e. (partners k a b e).4 }
