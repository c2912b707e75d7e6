-- The cases of a partner lookup, each from what the code knows at its return.
use Prim.Native.Nat.{ℕ, ◌+◌, ◌-◌, ◌%◌, ◌≤◌, ◌<◌}
use mathlib.Core.Path.{◌≡◌, refl, sym, ap}
use native.Mathlib.Omega.{arith}
use lib.Dec.{leb}
use mathlib.Core.Bool.{true, false}
use borrow.Author.Tests.{eq-eqb, ne_eqb, le-leb, leb-true}
use Rattle.hml.specs.Labels.{highest, partner_of, partner_among, pairs, silent_alone, partners}
use Rattle.hml.proofs.Tests.{apart, decided_lt}
use Rattle.labels.specs.Labels.{count, pairing, check_labels, any_partner, partner_found}
use Rattle.labels.specs.declared.refusal.Refusal.TheVariants.{TooManyPairs}
use Rattle.labels.proofs.Refusals.{Judges, judged_iff, judged_fault}
use Rattle.labels.specs.declared.label.Label.{Label}
use Rattle.labels.specs.declared.label.Labels.{Labels}
use Rattle.std.specs.Prelude.{None, Option, Some}

pub silent-found : (a : ℕ) → a ≡ 0 → None ≡ partner_found (any_partner a)
unfolding any_partner partner_found
silent-found a e = rw (e, silent_alone 127)

pub idle-found : (a : ℕ) → a ≡ 255 → None ≡ partner_found (any_partner a)
unfolding any_partner partner_found partner_among highest
idle-found a e = rw e

no_idle : (a : ℕ) → a < 256 → (a ≡ 255 → ⊥) → a ≤ 254
no_idle a h n = omega (arith, h, n)

pub odd-found : (a b : ℕ) → a < 256 → (a ≡ 255 → ⊥) → (a ≡ 0 → ⊥) → a % 2 ≡ 1 → b ≡ a + 1
    → Some (record { 0 = b }) ≡ partner_found (any_partner a)
unfolding any_partner partner_found partner_among partner_of highest
odd-found a b h m n o e = rw (e, le-leb a 254 (no_idle a h m), ne_eqb a 0 n, eq-eqb (a % 2) 1 o)

pub even_found : (a b : ℕ) → a < 256 → (a ≡ 255 → ⊥) → (a ≡ 0 → ⊥) → (a % 2 ≡ 1 → ⊥) → b ≡ a - 1
    → Some (record { 0 = b }) ≡ partner_found (any_partner a)
unfolding any_partner partner_found partner_among partner_of highest
even_found a b h m n o e = rw (e, le-leb a 254 (no_idle a h m), ne_eqb a 0 n, ne_eqb (a % 2) 1 o)

-- no label is above 254: 255 marks an idle
pub count_most : (labels : Labels) → count labels ≤ 254
unfolding count highest
count_most labels = omega arith

below_all : (a : ℕ) {n : ℕ} → n ≤ 254 → a ≤ n → a ≤ highest 127
unfolding highest
below_all a m h = omega (arith, m, h)

-- among the labels of a call the partner is that of the label as such, since a partner is never above the highest label
pub inside_found : (labels : Labels) (a : ℕ) → leb a (count labels) ≡ true
    → partner_found (any_partner a) ≡ partner_found ((pairing labels).partner a)
unfolding any_partner pairing pairs partner_among count
inside_found labels a h = rw (h, le-leb a (highest 127) (below_all a (count_most labels) (leb-true a (count labels) h)))

pub outside_found : (labels : Labels) (a : ℕ) → leb a (count labels) ≡ false
    → None ≡ partner_found ((pairing labels).partner a)
unfolding pairing pairs partner_among partner_found count
outside_found labels a h = rw h

-- a label and its partner are handshake labels of the call
pub partner-ranged : (labels : Labels) (a b : ℕ) → (pairing labels).partner a ≡ Some b
    → (1 ≤ a) × (a ≤ count labels) × (1 ≤ b) × (b ≤ count labels)
unfolding pairing pairs count
partner-ranged labels a b e = let t = partners labels.pairs a b e in (t.0, t.1, t.2, t.3)

-- 4: k is accepted exactly if it is at most 15
pub judged-labels : (labels : Labels) → Judges (labels.pairs ≤ 15) (check_labels labels)
unfolding check_labels
judged-labels labels =
    judged_iff (λ n. small labels.pairs n) (λ h n. omega (arith, h, n))
    (judged_fault TooManyPairs (decided_lt 15 labels.pairs))
  where
    small : (k : ℕ) → (15 < k → ⊥) → k ≤ 15
    small k n = omega (arith, n)

-- what a partner lookup found
pub found_some : (o : Option ℕ) (b : Label) → Some b ≡ partner_found o → o ≡ Some b.0
unfolding partner_found
found_some None b e = absurd (apart cc)
found_some (Some x) b e = let q : b ≡ record { 0 = x } = cc in ap (λ l. Some l.0) (sym q)

pub found_none : (o : Option ℕ) → None ≡ partner_found o → o ≡ None
unfolding partner_found
found_none None e = refl
found_none (Some x) e = absurd (apart cc)
