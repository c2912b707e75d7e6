-- A step written behind the run: what all moves of a trial have in common, then the mover's state.
use Prim.Native.Nat.{ℕ, ◌+◌, ◌≤◌, ◌<◌}
use mathlib.Core.Path.{◌≡◌, ◌∙◌, ap}
use mathlib.Core.Bool.{◌&&◌}
use mathlib.Core.List.{List}
use native.Mathlib.Omega.{arith}
use lib.ListN.{length, get_or, take, set, length-set}
use lib.Seq.{set_comm, set-set, set-get_or, get_or-set_same, get_or-set_other}
use Rattle.hml.specs.Lists.{same}
use Rattle.hml.proofs.Lists.{any_cong}
use Rattle.hml.specs.System.{◌▸◌}
use Rattle.hml.specs.Formula.{Formula}
use Rattle.labels.specs.declared.label.Labels.{Labels}
use Rattle.halves.specs.Runs.{step_of}
use Rattle.machines.specs.Joints.{joint_of}
use Rattle.machines.proofs.Buffers.{length-put, longer-run, held-longer}
use Rattle.machines.specs.Working.{Held, put}
use Rattle.halves.specs.declared.side.Known.{Known as Mover}
use Rattle.halves.specs.declared.side.Known.TheVariants as mover
use Rattle.verdict.specs.Working.{Ready, Shown, judged, tried, place_of, targets_of}

-- a byte that was written over can be put back
pub set_back : (xs ys : List ℕ) (i v : ℕ) → ys ≡ set xs i v → set ys i (get_or xs i 0) ≡ xs
set_back xs ys i v e = rw e (set-set xs i v (get_or xs i 0) ∙ set-get_or xs i 0)

-- the mover's state is among the three bytes of a step
pub place-within : (m : Mover) (n : ℕ) → place_of m n < n + 3
unfolding place_of
place-within mover.Left n = omega arith
place-within mover.Right n = omega arith

-- the run and the step behind it, with another state of the mover
moved_held : (m : Mover) (xs : List ℕ) (n : ℕ) → Held xs n → n + 3 ≤ length xs → Shown (get_or xs n 0) → (to : ℕ)
    → Held (set xs (place_of m n) to) (n + 3)
unfolding place_of
moved_held mover.Left xs n h room shown to =
    rw whole (held-longer xs n h (get_or xs n 0) to (get_or xs (n + 2) 0) room (λ e. absurd (shown e)))
  where
    whole : set xs (n + 1) to ≡ put xs n (get_or xs n 0) to (get_or xs (n + 2) 0)
    whole =
        let apart = set_comm xs (n + 1) (n + 2) to (get_or xs (n + 2) 0) (λ e. omega arith) in
        rw (set-get_or xs n 0, apart, set-get_or xs (n + 2) 0)
moved_held mover.Right xs n h room shown to =
    rw whole (held-longer xs n h (get_or xs n 0) (get_or xs (n + 1) 0) to room (λ e. absurd (shown e)))
  where
    whole : set xs (n + 2) to ≡ put xs n (get_or xs n 0) (get_or xs (n + 1) 0) to
    whole = rw (set-get_or xs n 0, set-get_or xs (n + 1) 0)

module _ (k : Labels) (ws xs : List ℕ) (n i : ℕ) (y : Ready k ws xs n 1 i) where
  abbrev room : n + 3 ≤ length xs
  room = omega (arith, y.room)

  -- the longer run is ready for the tree
  pub moved_ready : (m : Mover) → Shown (get_or xs n 0) → (to : ℕ) → Ready k ws (set xs (place_of m n) to) (n + 3) 0 i
  moved_ready m shown to = record {
    tree = y.tree;
    ranged = y.ranged;
    skips = y.skips;
    held = moved_held m xs n y.held room shown to;
    room = rw (length-set xs (place_of m n) to) (omega (arith, y.room));
    size = length-set xs (place_of m n) to ∙ y.size;
    few = y.few;
  }

  -- what is written behind the run leaves the run as it is
  pub written_ready : (a p q : ℕ) → Shown a → Ready k ws (put xs n a p q) n 1 i
  written_ready a p q shown = record {
    tree = y.tree;
    ranged = y.ranged;
    skips = y.skips;
    held = held;
    room = rw (length-put xs n a p q) y.room;
    size = length-put xs n a p q ∙ y.size;
    few = y.few;
  }
    where
      longer : Held (put xs n a p q) (n + 3)
      longer = held-longer xs n y.held a p q room (λ e. absurd (shown e))

      held : Held (put xs n a p q) n
      held = record {
        whole = y.held.whole;
        within = omega (arith, y.held.within, length-put xs n a p q);
        kept = λ m i. longer.kept m (omega (arith, i));
      }

  pub written-label : (a p q : ℕ) → get_or (put xs n a p q) n 0 ≡ a
  written-label a p q =
      get_or-set_other (set (set xs n a) (n + 1) p) (n + 2) n q 0 (λ e. omega arith)
      ∙ get_or-set_other (set xs n a) (n + 1) n p 0 (λ e. omega arith)
      ∙ get_or-set_same xs n a 0 (omega (arith, room))

-- the run with the step: its label, the mover's state and the other one
moved_run : (m : Mover) (xs : List ℕ) (n : ℕ) → Held xs n → n + 3 ≤ length xs → (a other to : ℕ)
    → joint_of (take (n + 3) (set (put xs n a other other) (place_of m n) to))
    ≡ joint_of (take n xs) ▸ step_of a (targets_of m to other)
unfolding place_of targets_of
moved_run mover.Left xs n h room a other to = rw (
  set_comm (set (set xs n a) (n + 1) other) (n + 2) (n + 1) other to (λ e. omega arith),
  set-set (set xs n a) (n + 1) other to,
) (longer-run xs n h a to other room)
moved_run mover.Right xs n h room a other to =
    rw (set-set (set (set xs n a) (n + 1) other) (n + 2) other to) (longer-run xs n h a other to room)

-- trying the states one after the other is trying the steps
pub steps-tried : (labels : Labels) (l r : List ℕ) (φ : Formula) (m : Mover) (xs : List ℕ) (n : ℕ)
    → Held xs n → n + 3 ≤ length xs → (a other b : ℕ) (moves : List (ℕ × ℕ))
    → tried (λ (to : ℕ). judged labels l r φ (joint_of (take (n + 3) (set (put xs n a other other) (place_of m n) to))))
    b moves
    ≡ tried (λ (to : ℕ). judged labels l r φ (joint_of (take n xs) ▸ step_of a (targets_of m to other))) b moves
unfolding tried
steps-tried labels l r φ m xs n h room a other b moves =
    any_cong (λ v. ap (λ j. same v.0 b && judged labels l r φ j) (moved_run m xs n h room a other v.1)) moves
