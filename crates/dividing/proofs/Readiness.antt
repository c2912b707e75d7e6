-- What a call for an operand may rely on, from what the call for the whole does.
use Prim.Native.Nat.{ℕ, ◌+◌, ◌-◌, ◌*◌, ◌/◌, ◌≤◌, max}
use mathlib.Core.Path.{◌≡◌, refl, ◌∙◌, ap}
use mathlib.Core.Logic.{⊎_elim}
use mathlib.Core.Bool.{true}
use mathlib.Core.List.{List}
use native.Mathlib.Omega.{arith}
use lib.ListN.{length, get_or}
use Rattle.hml.specs.Formula.{Formula, not, nesting}
use Rattle.labels.proofs.Slices.{rest}
use Rattle.halves.proofs.HalfBuffers.{put_two, length-put_two, held-longer, half_shorter}
use Rattle.halves.specs.Working.{HeldHalf}
use Rattle.formulas.specs.Operators.{is_forward, is_back, is_connective}
use Rattle.formulas.specs.Working.{tree_of}
use Rattle.formulas.proofs.Operators.{Unary, at}
use Rattle.formulas.proofs.Operands.{AndOr, operand_part, operand_is, first_part, second_part, operands_are}
use Rattle.formulas.proofs.Operands.{nesting_connected, forward_operand, back_operand, connectives}
use Rattle.dividing.specs.Working.{Ready}

module _ (sizes xs : List ℕ) (n : ℕ) (f : List ℕ) (y : Ready sizes xs n 0 f) where
  operand_ready : (g : Formula → Formula) → Unary f g → (m steps : ℕ) → HeldHalf xs m
      → m + 2 * (steps + nesting (tree_of (rest 2 f))) ≤ n + 2 * nesting (g (tree_of (rest 2 f)))
      → Ready sizes xs m steps (rest 2 f)
  operand_ready g u m steps h i = record {
    part = operand_part sizes f y.part g u;
    held = h;
    room = omega (arith, i, ap nesting (operand_is sizes f y.part g u), y.room);
    size = y.size;
    slots = y.slots;
  }

  pub forward_ready : is_forward (get_or f 0 0) ≡ true → Ready sizes xs n 1 (rest 2 f)
  forward_ready o =
      let w = forward_operand f y.part.tree o in
      operand_ready w.over w.tree n 1 y.held (omega (arith, w.nests (tree_of (rest 2 f))))

  pub back_ready : is_back (get_or f 0 0) ≡ true → 3 ≤ n → Ready sizes xs (n - 2) 0 (rest 2 f)
  back_ready o l =
      let w = back_operand f y.part.tree o in
      operand_ready w.over w.tree (n - 2) 0 (half_shorter xs n y.held l)
      (omega (arith, w.nests (tree_of (rest 2 f))))

  module _ (o : AndOr (get_or f 0 0)) (m : ℕ) (e : m ≡ get_or sizes (length f / 2 - 2) 0) where
    both-room : n + 2 * max (nesting (tree_of (rest 2 f))) (nesting (tree_of (rest (2 * m + 2) f))) ≤ length xs
    both-room =
        omega (
          arith,
          y.room,
          ap nesting (operands_are sizes f y.part o m e)
              ∙ nesting_connected (get_or f 0 0) (tree_of (rest 2 f)) (tree_of (rest (2 * m + 2) f)),
        )

    pub second_ready : Ready sizes xs n 0 (rest (2 * m + 2) f)
    second_ready =
        record {
          part = second_part sizes f y.part o m e;
          held = y.held;
          room = omega (arith, both-room);
          size = y.size;
          slots = y.slots;
        }

    first_of : Ready sizes xs n 0 (rest 2 f)
    first_of =
        record {
          part = first_part sizes f y.part o;
          held = y.held;
          room = omega (arith, both-room);
          size = y.size;
          slots = y.slots;
        }

  pub connective_ready : is_connective (get_or f 0 0) ≡ true → Ready sizes xs n 0 (rest 2 f)
  unfolding nesting
  connective_ready i =
      ⊎_elim (λ e. operand_ready not (at f y.part.tree 2 e) n 0 y.held (omega arith))
      (λ o. first_of o (get_or sizes (length f / 2 - 2) 0) refl) (connectives (get_or f 0 0) i)

-- the run with one step more
pub longer_ready : (sizes xs : List ℕ) (n : ℕ) (f : List ℕ) → Ready sizes xs n 1 f → (a q : ℕ)
    → (a ≡ 255 → q ≡ get_or xs (n - 1) 0) → Ready sizes (put_two xs n a q) (n + 2) 0 f
longer_ready sizes xs n f y a q k = record {
  part = y.part;
  held = held-longer xs n y.held a q (omega (arith, y.room)) k;
  room = omega (arith, y.room, length-put_two xs n a q);
  size = length-put_two xs n a q ∙ y.size;
  slots = y.slots;
}
