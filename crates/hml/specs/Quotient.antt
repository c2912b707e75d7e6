-- The quotient of a formula by one half of a joint run: table 1 of source document 000, as document 01 writes it out.
-- That it keeps the verdict (theorem 1) is `quotient_sound`, proofs/Quotients.
use Rattle.std.specs.Prelude.{Bool, true, false, List, [], ◌∷◌, ◌++◌, ℕ, None, Option, Some}
use Rattle.hml.specs.Lists.{same, only, given, each}
use Rattle.hml.specs.System.{System, move, idle, Run, start, ◌▸◌, last, Pairing}
use Rattle.hml.specs.Formula.{Formula, top, bottom, not, and, or, fwd, back, fwd_idle, back_idle}

-- disjuncts joined by "or" to the right
abbrev pub ors : Formula → List Formula → Formula
ors d [] = d
ors d (e ∷ es) = or d (ors e es)

-- what a partner gives, if there is one
abbrev pub of_partner : Option ℕ → (ℕ → Formula) → List Formula
of_partner None f = []
of_partner (Some c) f = f c ∷ []

-- `back a` where the known half ends in a move of label b: is b that label? is a silent? has b a partner?
abbrev pub back_by : Bool → Bool → Option ℕ → Formula → Formula
back_by true z o φ = back_idle φ
back_by false false o φ = bottom
back_by false true None φ = bottom
back_by false true (Some c) φ = back c φ

module _ (P : Pairing) {T : Type 0} (K : System T) where
  -- "True, false, not, and, or pass through." Forward by a: by a over the quotient by r with an idle; for each row of
  -- label a, by idle over that by r with that move; and if a is 0, for each row whose label has a partner (document
  -- 01's labels from 1 on all have one), by the partner. Back by a label: by what r ends with
  unfoldable pub quotient : Formula → Run T → Formula
  quotient top r = top
  quotient bottom r = bottom
  quotient (not φ) r = not (quotient φ r)
  quotient (and φ ψ) r = and (quotient φ r) (quotient ψ r)
  quotient (or φ ψ) r = or (quotient φ r) (quotient ψ r)
  quotient (fwd a φ) r = ors (fwd a (quotient φ (r ▸ idle)))
      (each (λ (n : ℕ × T). only (same n.0 a) (fwd_idle (quotient φ (r ▸ move n.0 n.1)))) (K (last r))
      ++ each (λ (n : ℕ × T). of_partner (P.partner n.0) (λ c. fwd c (quotient φ (r ▸ move n.0 n.1))))
      (given (same 0 a) (K (last r))))
  quotient (back a φ) (start q) = bottom
  quotient (back a φ) (r ▸ move b q) = back_by (same b a) (same 0 a) (P.partner b) (quotient φ r)
  quotient (back a φ) (r ▸ idle) = back a (quotient φ r)
  quotient (fwd_idle φ) r = fwd_idle (quotient φ (r ▸ idle))
  quotient (back_idle φ) (start q) = bottom
  quotient (back_idle φ) (r ▸ move b q) = bottom
  quotient (back_idle φ) (r ▸ idle) = back_idle (quotient φ r)
