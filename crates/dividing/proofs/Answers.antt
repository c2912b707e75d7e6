-- The answer of a quotient's call and the lent output afterwards, by the cases of its checks.
use Prim.Native.Nat.{ℕ, ◌*◌, ◌≤◌, ◌<◌}
use mathlib.Core.Path.{◌≡◌, refl, ◌∙◌, sym}
use mathlib.Core.Logic.{◌↔◌}
use mathlib.Core.Bool.{Bool, true, false}
use mathlib.Core.List.{List, [], ◌++◌}
use native.Mathlib.Omega.{arith}
use lib.ListN.{length, take, drop}
use lib.Seq.{take_at, drop_at}
use lib.Dec.{ltb}
use borrow.Author.Tests.{lt-ltb, le-ltb, ltb-true, ltb-false}
use Rattle.hml.proofs.Tests.{apart}
use Rattle.hml.specs.Formula.{Formula, size}
use Rattle.hml.specs.Spell.{spell}
use Rattle.hml.proofs.Spelling.{length-spell}
use Rattle.labels.specs.Refusals.{first_of, in_front, output_of, Check}
use Rattle.labels.specs.declared.refusal.Refusal.{Refusal}
use Rattle.labels.specs.declared.refusal.Refusal.TheVariants.{QuotientTooLarge, OutputTooShort}
use Rattle.formulas.specs.Formulas.{quotient_limit}
use Rattle.dividing.specs.Quotients.{nodes_of, text_of, check_size, check_tree, written, answer_of, output_after}
use Rattle.std.specs.Prelude.{Err, Ok, Option, Some}

-- the bytes of a tree: two a node
pub text-length : (ψ : Formula) → length (spell ψ []) ≡ 2 * size ψ
text-length ψ = omega (arith, length-spell ψ [])

-- after a refusal every lent byte keeps its value
pub refused_kept : (parts : Check) (tree : Option Formula) (out : List ℕ) (x : Refusal)
    → answer_of parts tree (length out) ≡ Err x → out ≡ output_after parts tree out
unfolding answer_of output_after
refused_kept parts tree out x e = go (check_tree parts tree (length out)) e
  where
    go : (c : Check) → written c (2 * nodes_of tree) ≡ Err x → out ≡ output_of c (text_of tree) out
    go (Ok _) e = absurd (apart cc)
    go (Err y) e = refl

-- a part that is refused refuses the call
pub part_refused : (parts : Check) (tree : Option Formula) (out : List ℕ) (x : Refusal) → parts ≡ Err x
    → (Err x ≡ answer_of parts tree (length out)) × (out ≡ output_after parts tree out)
unfolding answer_of output_after check_tree first_of
part_refused parts tree out x e = rw e (refl, refl)

-- where the parts are sound: 17 over the node limit, whatever is lent
module _ (ψ : Formula) where
  pub too_large : quotient_limit < size ψ → (room : ℕ) → answer_of (Ok tt) (Some ψ) room ≡ Err QuotientTooLarge
  unfolding answer_of check_tree check_size first_of nodes_of
  too_large h room = rw (lt-ltb 4096 (size ψ) h)

  -- else 18 under two bytes a node
  module _ (h : size ψ ≤ quotient_limit) where
    pub too_short : (room : ℕ) → room < 2 * size ψ → answer_of (Ok tt) (Some ψ) room ≡ Err OutputTooShort
    unfolding answer_of check_tree check_size first_of nodes_of
    too_short room i = rw (le-ltb 4096 (size ψ) h, lt-ltb room (2 * size ψ) i)

    -- else the bytes, two a node
    pub enough_room : (room : ℕ) → 2 * size ψ ≤ room → answer_of (Ok tt) (Some ψ) room ≡ Ok (2 * size ψ)
    unfolding answer_of check_tree check_size first_of nodes_of
    enough_room room i = rw (le-ltb 4096 (size ψ) h, le-ltb room (2 * size ψ) i)

    -- in front of what the lent bytes past them were
    pub text_output_lem : (out : List ℕ) → 2 * size ψ ≤ length out
        → output_after (Ok tt) (Some ψ) out ≡ spell ψ [] ++ drop (2 * size ψ) out
    unfolding output_after check_tree check_size first_of nodes_of text_of in_front
    text_output_lem out i = rw (le-ltb 4096 (size ψ) h, le-ltb (length out) (2 * size ψ) i, text-length ψ)

    pub text-written : (out : List ℕ) → 2 * size ψ ≤ length out
        → take (2 * size ψ) (output_after (Ok tt) (Some ψ) out) ≡ spell ψ []
    text-written out i =
        rw (text_output_lem out i) (take_at (spell ψ []) (drop (2 * size ψ) out) (2 * size ψ) (text-length ψ))

    pub rest_kept : (out : List ℕ) → 2 * size ψ ≤ length out
        → drop (2 * size ψ) (output_after (Ok tt) (Some ψ) out) ≡ drop (2 * size ψ) out
    rest_kept out i = rw (text_output_lem out i) (drop_at (spell ψ []) (drop (2 * size ψ) out) (2 * size ψ)
        (text-length ψ))

  -- 17 comes for no other reason
  pub exactly_too_large : (room : ℕ)
      → (answer_of (Ok tt) (Some ψ) room ≡ Err QuotientTooLarge) ↔ (quotient_limit < size ψ)
  exactly_too_large room = (λ e. go (ltb 4096 (size ψ)) (ltb room (2 * size ψ)) refl refl e, λ h. too_large h room)
    where
      go : (a b : Bool) → ltb 4096 (size ψ) ≡ a → ltb room (2 * size ψ) ≡ b
          → answer_of (Ok tt) (Some ψ) room ≡ Err QuotientTooLarge → quotient_limit < size ψ
      go true b p q e = ltb-true 4096 (size ψ) p
      go false true p q e =
          let z = sym (too_short (ltb-false 4096 (size ψ) p) room (ltb-true room (2 * size ψ) q)) ∙ e in
          absurd (apart cc)
      go false false p q e =
          let z = sym (enough_room (ltb-false 4096 (size ψ) p) room (ltb-false room (2 * size ψ) q)) ∙ e in
          absurd (apart cc)
