-- The ending of a line, from what the quotient's call answers and writes.
use Prim.Native.Nat.{ℕ, ◌+◌, ◌*◌, ◌/◌, ◌≤◌}
use mathlib.Core.Path.{◌≡◌, refl, sym, ◌∙◌, ap}
use mathlib.Core.List.{List, [], ◌∷◌, ◌++◌}
use native.Mathlib.Omega.{arith}
use lib.ListN.{length, take, drop, replicate, length-append, length-replicate}
use lib.Dec.{ltb}
use lib.Seq.{take_at}
use borrow.Author.Tests.{ltb-false}
use Rattle.hml.proofs.Tests.{apart}
use Rattle.hml.specs.Formula.{Formula}
use Rattle.labels.specs.Refusals.{number_of, first_of, refused_if, in_front, output_of, Check}
use Rattle.labels.specs.declared.refusal.Refusal.{Refusal}
use Rattle.labels.specs.declared.refusal.Refusal.TheVariants.{OutputTooShort}
use Rattle.labels.proofs.Refusals.{both_sound, unrefused}
use Rattle.machines.specs.Cases.{Case}
use Rattle.dividing.specs.Quotients.{nodes_of, text_of, check_size, check_tree, written, answer_of, output_after}
use Rattle.dividing.proofs.Answers.{text-length}
use Rattle.quotient.specs.Calls.{by_number, by_number_output}
use Rattle.digits.specs.Digits.{decimal, hexadecimal}
use Rattle.sheet_lines.specs.Sheets.{blank, dash, line_feed, text_room, ending_of, quotient_at, text_at}
use Rattle.sheet_lines.specs.Working.{put_at, check_at, tree_at, answer_at, quotient_in, output_in, ending_in}
use Rattle.digits.proofs.HexadecimalLaws.{length-hexadecimal}
use Rattle.sheet_lines.proofs.LineLaws.{digits_two, number_small}
use Rattle.sheet_lines.proofs.Puts.{put_first}
use Rattle.std.specs.Prelude.{Err, None, Ok, Option, Result, Some}

-- two bytes a node
nodes_bytes : (tree : Option Formula) → length (text_of tree) ≡ 2 * nodes_of tree
unfolding text_of nodes_of
nodes_bytes None = refl
nodes_bytes (Some ψ) = text-length ψ

-- an answer with so many bytes: they are the tree's, and fit
module _ (parts : Check) (tree : Option Formula) (out : List ℕ) where
  room : check_tree parts tree (length out) ≡ Ok tt → 2 * nodes_of tree ≤ length out
  unfolding check_tree first_of
  room s =
      let (_, a) = both_sound parts _ s in
      let (_, b) = both_sound (check_size tree) _ a in
      let (c, _) = both_sound (refused_if (ltb (length out) (2 * nodes_of tree)) OutputTooShort) _ b in
      ltb-false (length out) (2 * nodes_of tree) (unrefused _ _ c)

  written-bytes : (n : ℕ) → answer_of parts tree (length out) ≡ Ok n
      → (take n (output_after parts tree out) ≡ text_of tree) × (n ≡ length (text_of tree)) × (n ≤ length out)
  unfolding answer_of output_after in_front
  written-bytes n e = go (check_tree parts tree (length out)) refl e
    where
      go : (c : Check) → check_tree parts tree (length out) ≡ c → written c (2 * nodes_of tree) ≡ Ok n
          → (take n (output_of c (text_of tree) out) ≡ text_of tree) × (n ≡ length (text_of tree)) × (n ≤ length out)
      go (Ok _) s w =
          let z : 2 * nodes_of tree ≡ n = cc in
          let l : length (text_of tree) ≡ n = nodes_bytes tree ∙ z in
          (take_at (text_of tree) (drop (length (text_of tree)) out) n l, sym l, omega (arith, z, room s))
      go (Err x) s w = absurd (apart cc)

-- the call for a quotient, at the end of a window
module _ (c : Case) (letter t : ℕ) where
  abbrev q : ℕ
  q = length c.run / 3

  module _ (text : List ℕ) (size : length text ≡ 8192) where
    module _ (n : ℕ) (told : quotient_in c t (length text) ≡ Ok n) where
      pub text_told : (z : List ℕ) → z ≡ output_in c t text
          → (take n z ≡ text_at c q t) × (n ≡ length (text_at c q t)) × (n ≤ 8192)
      unfolding text_at by_number by_number_output
      text_told z e =
          let (a, b, d) = written-bytes (check_at c q t) (tree_at c q t) text n told in
          (ap (take n) e ∙ a, b, omega (arith, d, size))

      pub ending-written : ending_in c letter t ≡ hexadecimal (text_at c q t) ++ (blank ∷ letter ∷ line_feed ∷ [])
      unfolding ending_in ending_of quotient_at
      ending-written = let e : quotient_in c t text_room ≡ Ok n = rw size at told in rw e

    pub ending_refused : (x : Refusal) → quotient_in c t (length text) ≡ Err x
        → ending_in c letter t ≡ decimal (number_of x) ++ (blank ∷ dash ∷ line_feed ∷ [])
    unfolding ending_in ending_of quotient_at
    ending_refused x told = let e : quotient_in c t text_room ≡ Err x = rw size at told in rw e

-- an ending that was written to the front of a buffer
pub ending-front : (xs ys e d : List ℕ) (n : ℕ) → length xs ≡ 16387 → e ≡ d → n ≡ length d → n ≤ 16387
    → ys ≡ put_at xs 0 d → (n ≡ length e) × (take n ys ≡ e) × (n ≤ 16387)
unfolding in_front
ending-front xs ys e d n s q m h f = (
  m ∙ ap length (sym q),
  ap (take n) (f ∙ put_first xs d (omega (arith, m, h, s))) ∙ take_at d (drop (length d) xs) n (sym m) ∙ sym q,
  h,
)

pub length_fields : (text : List ℕ) (letter : ℕ)
    → length (hexadecimal text ++ (blank ∷ letter ∷ line_feed ∷ [])) ≡ 2 * length text + 3
length_fields text letter =
    omega (arith, length-append (hexadecimal text) (blank ∷ letter ∷ line_feed ∷ []), length-hexadecimal text)

pub length_refusal : (x : Refusal)
    → (length (decimal (number_of x) ++ (blank ∷ dash ∷ line_feed ∷ [])) ≡ length (decimal (number_of x)) + 3)
    × (length (decimal (number_of x)) ≤ 2)
length_refusal x = (
  omega (arith, length-append (decimal (number_of x)) (blank ∷ dash ∷ line_feed ∷ [])),
  digits_two (number_of x) (number_small x),
)

-- what is then written to a buffer is the ending
module _ (c : Case) (letter t : ℕ) (text : List ℕ) (size : length text ≡ 8192) (xs ys : List ℕ)
    (room : length xs ≡ 16387) (m : ℕ) where
  abbrev Ending : Type 0
  Ending = (m ≡ length (ending_in c letter t)) × (take m ys ≡ ending_in c letter t) × (m ≤ 16387)

  pub fields_ending : (n : ℕ) → quotient_in c t (length text) ≡ Ok n
      → (z : List ℕ) → z ≡ output_in c t text
      → m ≡ 2 * length (take n z) + 3 → ys ≡ put_at xs 0 (hexadecimal (take n z) ++ (blank ∷ letter ∷ line_feed ∷ []))
      → Ending
  fields_ending n told z e p q =
      let (a, b, i) = text_told c letter t text size n told z e in
      let d = length_fields (take n z) letter in
      ending-front xs ys _ _ m room
      (ending-written c letter t text size n told
      ∙ ap (λ x. hexadecimal x ++ (blank ∷ letter ∷ line_feed ∷ [])) (sym a)) (p ∙ sym d)
      (omega (arith, p, ap length a, b, i)) q

  pub refusal_ending : (x : Refusal) → quotient_in c t (length text) ≡ Err x
      → m ≡ length (decimal (number_of x)) + 3 → ys ≡ put_at xs 0 (decimal (number_of x) ++ (blank ∷ dash ∷ line_feed ∷ []))
      → Ending
  refusal_ending x told p q =
      let (d, few) = length_refusal x in
      ending-front xs ys _ _ m room (ending_refused c letter t text size x told) (p ∙ sym d)
      (omega (arith, p, few)) q

-- an ending is short: 4,096 nodes of four digits each, and three bytes
pub any-ending_short : (c : Case) (point n letter : ℕ)
    → length (ending_of (quotient_at c point n) (text_at c point n) letter) ≤ 16387
unfolding quotient_at text_at by_number ending_of
any-ending_short c point n letter = go (answer_at c point n text_room) refl
  where
    tree : Option Formula
    tree = tree_at c point n

    room : List ℕ
    room = replicate 8192 0

    size : length room ≡ 8192
    size = length-replicate {A = ℕ} 8192 0

    go : (a : Result ℕ Refusal) → answer_at c point n text_room ≡ a → length (ending_of a (text_of tree) letter) ≤ 16387
    go (Ok m) e =
        let (_, b, i) = written-bytes (check_at c point n) tree room m (rw size e) in
        omega (arith, length_fields (text_of tree) letter, b, i, size)
    go (Err x) e = let (d, few) = length_refusal x in omega (arith, d, few)

pub ending_short : (c : Case) (letter t : ℕ) → length (ending_in c letter t) ≤ 16387
unfolding ending_in
ending_short c letter t = any-ending_short c (length c.run / 3) t letter
