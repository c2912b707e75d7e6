-- Counting splittings step by step: the product of the steps' ways, capped.
use Prim.Native.Nat.{ℕ, zero, suc, ◌+◌, ◌-◌, ◌*◌, ◌/◌, ◌≤◌, ◌<◌, min}
use mathlib.Core.Path.{◌≡◌, refl, sym, ◌∙◌, ap}
use mathlib.Core.Bool.{Bool, true, false}
use mathlib.Core.List.{List}
use native.Mathlib.Omega.{arith}
use native.Mathlib.Nat.{mul-zero, mul-suc, mul-le-mul}
use lib.ListN.{length, get_or, take}
use lib.Seq.{take_all}
use lib.Dec.{leb}
use borrow.Author.Tests.{leb-true, leb-false}
use Rattle.hml.proofs.Tests.{tested-ℕ}
use Rattle.hml.specs.System.{Run, start, ◌▸◌, last}
use Rattle.hml.specs.Split.{splits}
use Rattle.hml.proofs.Splits.{splits-count}
use Rattle.hml.specs.Lists.{same}
use Rattle.labels.specs.Labels.{pairing}
use Rattle.labels.specs.declared.label.Labels.{Labels}
use Rattle.tables.specs.Tables.{table_of, rows_of, rows_from, bytes_of}
use Rattle.tables.specs.Working.{moves_in}
use Rattle.tables.proofs.SoundTables.{moves_distinct, moves-few}
use Rattle.tables.proofs.Searching.{leaving-moves}
use Rattle.halves.specs.Runs.{step_of}
use Rattle.machines.specs.Joints.{joint_of}
use Rattle.machines.specs.Working.{Tables, Held}
use Rattle.machines.proofs.Buffers.{held_empty, held_step}
use Rattle.splitting.specs.Splittings.{splittings_of}
use Rattle.ways.specs.Working.{Steps, ways_here}
use Rattle.splitting.specs.Working.{Log, options_of}
use Rattle.machines.specs.Steps.{joint_step_at, joint_read}
use Rattle.machines.specs.declared.step.JointStep.{JointStep}
use Rattle.machines.proofs.Steps.{step_found, none_found}
use Rattle.ways.proofs.RowWays.{ways-few}
use Rattle.ways.proofs.Options.{options-listed}
use Rattle.std.specs.Prelude.{None, Some}

-- the ways of a step, by the rows that leave its states
module _ (labels : Labels) (l r : List ℕ) (t : Tables labels l r) (step : JointStep) where
  listed : options_of labels l r step
      ≡ ways_here (pairing labels) (table_of l step.before.left) (table_of r step.before.right) step
  unfolding options_of
  listed = options-listed (pairing labels) (table_of l) (table_of r) step
      (moves_distinct t.left step.before.left) (moves_distinct t.right step.before.right)

  pub ways-options : (ls rs : List ℕ) → ls ≡ bytes_of (rows_from step.before.left (rows_of l))
      → rs ≡ bytes_of (rows_from step.before.right (rows_of r))
      → ways_here (pairing labels) (moves_in ls) (moves_in rs) step ≡ options_of labels l r step
  ways-options ls rs a b =
      rw (leaving-moves l step.before.left ls a, leaving-moves r step.before.right rs b) (sym listed)

  options-few : length (options_of labels l r step) ≤ 10
  options-few =
      let f = ways-few (pairing labels) (table_of l step.before.left) (table_of r step.before.right) step in
      omega (arith, ap length listed, f, moves-few t.left step.before.left)

  pub options_small : (n : ℕ) → n ≡ length (options_of labels l r step) → n ≤ 10
  options_small n e = omega (arith, e, options-few)

-- a capped product is the product, capped
pub product_capped : (a w cap : ℕ) → min (min a cap * w) cap ≡ min (a * w) cap
product_capped a w cap = go (leb a cap) refl w
  where
    go : (b : Bool) → leb a cap ≡ b → (w : ℕ) → min (min a cap * w) cap ≡ min (a * w) cap
    go true e w = let z : min a cap ≡ a = omega (arith, leb-true a cap e) in rw z
    go false e zero = rw (mul-zero, mul-zero)
    go false e (suc w) =
        let z : min a cap ≡ cap = omega (arith, leb-false a cap e) in
        rw z (omega (arith, mul-suc cap w, mul-suc a w, leb-false a cap e))

module _ (k : Labels) (l r s : List ℕ) where
  -- a log stopped at i, and its splittings
  abbrev pub up_to : ℕ → Run (ℕ × ℕ)
  up_to i = joint_of (take (3 * i + 2) s)

  abbrev pub splits_up_to : ℕ → List (Run ℕ × Run ℕ)
  splits_up_to i = splits (pairing k) same same (table_of l) (table_of r) (up_to i)

  -- the splittings of step i, from the states before it
  abbrev pub options_at : ℕ → List Steps
  options_at i = options_of k l r (joint_step_at s i)

  -- so many splittings have the steps before step i, or 65,536 if there are more
  unfoldable pub CountedTo : ℕ → ℕ → Type 0
  CountedTo i n = n ≡ min (length (splits_up_to i)) 65536

-- the steps of a log
module _ {k : Labels} {l r s : List ℕ} (g : Log k l r s) where
  pub up_to_end : up_to k l r s (length s / 3) ≡ joint_of s
  up_to_end = ap joint_of (take_all (3 * (length s / 3) + 2) s (omega (arith, g.run.whole)))

  held_at : (i : ℕ) → i ≤ length s / 3 → Held s (3 * i + 2)
  held_at i h =
      record {
        whole = omega arith;
        within = omega (arith, g.run.whole, h);
        kept = λ m j. g.held.kept m
            (omega (arith, g.run.whole, h, j));
      }

  pub up_to-start : up_to k l r s 0 ≡ start (get_or s 0 0, get_or s 1 0)
  up_to-start = held_empty s 2 (held_at 0 (omega arith)) (omega arith)

  module _ (i : ℕ) (h : i < length s / 3) where
    pub states_before : last (up_to k l r s i) ≡ (get_or s (3 * i) 0, get_or s (3 * i + 1) 0)
    states_before = g.held.kept i (omega (arith, g.run.whole, h))

    pub one_step : up_to k l r s (i + 1)
        ≡ up_to k l r s i ▸ step_of (get_or s (3 * i + 2) 0) (get_or s (3 * i + 3) 0, get_or s (3 * i + 4) 0)
    one_step =
        let e = held_step s (3 * (i + 1) + 2) (held_at (i + 1) (omega arith)) (omega arith) in
        let x : 3 * (i + 1) + 2 - 3 ≡ 3 * i + 2 = omega arith in
        let y : 3 * (i + 1) + 2 - 2 ≡ 3 * i + 3 = omega arith in
        let z : 3 * (i + 1) + 2 - 1 ≡ 3 * i + 4 = omega arith in
        rw (x, y, z) at e

    -- each multiplies the number of splittings by its ways
    pub step_splits : length (splits_up_to k l r s (i + 1)) ≡ length (splits_up_to k l r s i) * length (options_at k l r s i)
    unfolding options_of joint_step_at
    step_splits =
        rw one_step (splits-count (pairing k) tested-ℕ tested-ℕ (table_of l) (table_of r) (up_to k l r s i) _
        ∙ rw states_before)

  pub counted_start : CountedTo k l r s 0 1
  unfolding CountedTo splits
  counted_start = rw up_to-start

  -- each step is there
  pub counted_there : (i : ℕ) → i < length s / 3 → None ≡ joint_read s i → ⊥
  counted_there i h a = omega (arith, h, none_found s i g.run.whole a)

  pub counted_on : (i n w m : ℕ) (x : JointStep) → Some x ≡ joint_read s i → CountedTo k l r s i n
      → w ≡ length (options_of k l r x) → m ≡ min (n * w) 65536 → CountedTo k l r s (i + 1) m
  unfolding CountedTo
  counted_on i n w m x a c e f =
      let found = step_found s i x a in
      let v : w ≡ length (options_at k l r s i) = e ∙ rw found.here in
      rw (f, step_splits i found.within, c, v)
      (product_capped (length (splits_up_to k l r s i)) (length (options_at k l r s i)) 65536)

  pub counted_small : (i n : ℕ) → CountedTo k l r s i n → n ≤ 65536
  unfolding CountedTo
  counted_small i n c = omega (arith, c)

  pub counted_end : (n : ℕ) → CountedTo k l r s (length s / 3) n → n ≡ min (length (splittings_of k l r s)) 65536
  unfolding CountedTo splittings_of
  counted_end n c = rw (← up_to_end) c

-- a capped number times a few ways
pub product_small : (n w : ℕ) → n ≤ 65536 → w ≤ 10 → n * w ≤ 655360
product_small n w h i = mul-le-mul h i
