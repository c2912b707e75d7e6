-- Document 02, 2/12, "The left half becomes the usual known side", over the calls' answers and outputs: where no side
-- is named they are those by the left half, and demand 3 holds of them. What unnamed means is said once, by `known_of`
-- (halves/specs/Cuts); so all of this is `demand_three`, or holds by computing. The cut is halves' (`unnamed_cut`).
use Prim.Native.Nat.{ℕ, ◌≤◌, ◌<◌}
use mathlib.Core.Path.{◌≡◌, refl}
use mathlib.Core.List.{List}
use lib.ListN.{length, take}
use Rattle.hml.specs.System.{steps, stop}
use Rattle.labels.specs.declared.label.Labels.{Labels}
use Rattle.halves.specs.Halves.{half_of}
use Rattle.halves.specs.declared.side.Side.TheVariants as side
use Rattle.machines.specs.Joints.{joint_of}
use Rattle.machines.specs.Cases.{Case}
use Rattle.formulas.specs.Formulas.{question_limit, check_formula}
use Rattle.verdict.specs.Verdicts.{half_holds, half_verdict}
use Rattle.joining.specs.Joinings.{join_bytes, check_halves}
use Rattle.splitting.specs.Splittings.{check_log, splitting_limit}
use Rattle.dividing.specs.Quotients.{quotient_by, text_of}
use Rattle.quotient.specs.Calls.{tree_by_half, check_by_half, by_half, by_half_output, tree_by_number, by_number}
use Rattle.quotient.specs.Calls.{by_number_output, splittings_in, right_in, machine_holds, check_line, office_of}
use Rattle.quotient.specs.Demand.{verdict_at, halves_given, halves_output}
use Rattle.quotient.proofs.DemandThree.{demand_three, written_agrees}
use Rattle.std.specs.Prelude.{Ok}

-- "A caller who names no side now gets the quotient by the left half", given halves: the tree; the answer, 12 on the
-- left half among it; the lent output
module _ (k : Labels) (l r a b f : List ℕ) (point : ℕ) where
  pub unnamed_tree : tree_by_half k l r a b f side.Unnamed point ≡ quotient_by k l (stop point (half_of a)) f
  unfolding tree_by_half
  unnamed_tree = refl

  pub unnamed_by_half : (room : ℕ)
      → by_half k l r a b f side.Unnamed point room ≡ by_half k l r a b f side.Left point room
  unfolding by_half check_by_half tree_by_half
  unnamed_by_half room = refl

  pub unnamed_by_half_output : (out : List ℕ)
      → by_half_output k l r a b f side.Unnamed point out ≡ by_half_output k l r a b f side.Left point out
  unfolding by_half_output check_by_half tree_by_half
  unnamed_by_half_output out = refl

  -- the line office's machine is the right one
  pub unnamed_machine : machine_holds k l r a b f side.Unnamed point
      ≡ half_holds r b (text_of (quotient_by k l (stop point (half_of a)) f)) point
  unfolding machine_holds tree_by_half
  unnamed_machine = refl

  pub unnamed_office : office_of k l r a b f side.Unnamed point ≡ office_of k l r a b f side.Left point
  unfolding office_of check_line check_by_half tree_by_half machine_holds
  unnamed_office = refl

-- by number
module _ (c : Case) (n point : ℕ) where
  pub unnamed_by_number : (room : ℕ) → by_number c n side.Unnamed point room ≡ by_number c n side.Left point room
  unfolding by_number tree_by_number tree_by_half
  unnamed_by_number room = refl

  pub unnamed_by_number_output : (out : List ℕ)
      → by_number_output c n side.Unnamed point out ≡ by_number_output c n side.Left point out
  unfolding by_number_output tree_by_number tree_by_half
  unnamed_by_number_output out = refl

-- "Equality of the two verdicts covers the unnamed call with its new meaning": under the very bytes that it writes, the
-- right half's verdict is that on the log. Given halves, however many splittings there are, and by number
module _ (c : Case) (point : ℕ) (log : check_log c.labels c.left c.right c.run ≡ Ok tt)
    (question : check_formula c.labels question_limit c.question ≡ Ok tt)
    (within : point ≤ steps (joint_of c.run)) where
  pub unnamed_agrees : (a b : List ℕ) → check_halves c.labels c.left c.right a b ≡ Ok tt
      → join_bytes c.labels a b ≡ c.run
      → (out : List ℕ) (n : ℕ) → halves_given c a b side.Unnamed point (length out) ≡ Ok n
      → half_verdict c.labels c.right b (take n (halves_output c a b side.Unnamed point out)) point
      ≡ verdict_at c point
  unnamed_agrees a b halves join =
      written_agrees ((demand_three c side.Unnamed point log question within).by_halves a b halves join)

  pub unnamed_number_agrees : (i : ℕ) → i < length (splittings_in c) → length (splittings_in c) ≤ splitting_limit
      → (out : List ℕ) (n : ℕ) → by_number c i side.Unnamed point (length out) ≡ Ok n
      → half_verdict c.labels c.right (right_in c i) (take n (by_number_output c i side.Unnamed point out)) point
      ≡ verdict_at c point
  unnamed_number_agrees i below few =
      written_agrees ((demand_three c side.Unnamed point log question within).by_numbers i below few)
