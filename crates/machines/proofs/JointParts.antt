-- The parts of an accepted joint run, up to one of its points and from it on: they are accepted, and read as the parts
-- of what is read.
use Prim.Native.Nat.{ℕ, zero, suc, ◌+◌, ◌-◌, ◌*◌, ◌≤◌, ◌<◌}
use mathlib.Core.Path.{◌≡◌, sym, ◌∙◌, ap}
use mathlib.Core.Bool.{true}
use mathlib.Core.List.{List, [], ◌∷◌, ◌++◌}
use native.Mathlib.Omega.{arith}
use lib.ListN.{length, take, drop}
use lib.Seq.{drop-append-le}
use Rattle.hml.proofs.Tests.{decides, both_true}
use Rattle.hml.specs.Lists.{each}
use Rattle.hml.proofs.Lists.{each_append, length-each}
use Rattle.hml.specs.System.{Run, start, ◌▸◌, move, idle, first, last, steps, stop, RunOf}
use Rattle.hml.proofs.NewestSteps.{behind, last-behind, first-behind, steps-from, run-behind}
use Rattle.labels.specs.Refusals.{first_of}
use Rattle.labels.proofs.Refusals.{judges}
use Rattle.labels.specs.declared.label.Labels.{Labels}
use Rattle.tables.specs.Tables.{states_of, table_of}
use Rattle.tables.proofs.SoundTables.{no_idle-label, move-ranged}
use Rattle.halves.specs.Runs.{written}
use Rattle.halves.proofs.Runs.{NoIdleLabel, length-written, ends-written, step_bytes, last-bytes}
use Rattle.machines.specs.Joints.{joint_bytes, joint_of, JointRun, fit_joint, is_joint_run, check_joint}
use Rattle.machines.proofs.JointRuns.{state_bytes, steps_chunks, accepted_joint, joint_read_lem, joint_decides}
use Rattle.machines.proofs.JointRuns.{joint_in_range, joint-stop, joint_stopped, judged-joint}
use Rattle.machines.specs.Working.{Tables, AcceptedJoint, tables_of}
use Rattle.std.specs.Prelude.{Ok}

-- a written step more, in a run and in its newest steps
more-behind : (n : ℕ) (j : Run (ℕ × ℕ)) (e : ℕ × (ℕ × ℕ))
    → joint_bytes (behind n j) ≡ drop (3 * (steps j - n)) (joint_bytes j)
    → state_bytes (first (behind n j)) ++ each (step_bytes state_bytes) (written (behind n j) ++ e ∷ [])
    ≡ drop (3 * (suc (steps j) - suc n)) (state_bytes (first j) ++ each (step_bytes state_bytes) (written j ++ e ∷ []))
unfolding joint_bytes
more-behind n j e b =
    let g = step_bytes state_bytes in
    let m : 3 * (suc (steps j) - suc n) ≡ 3 * (steps j - n) = omega arith in
    let k : 3 * (steps j - n) ≤ length (joint_bytes j) = omega
    (arith, length-each g 3 steps_chunks.sized (written j), length-written j) in
    rw (m, each_append g (written (behind n j)) (e ∷ []), each_append g (written j) (e ∷ []))
    (ap (◌++ (g e ++ [])) b ∙ sym (drop-append-le (3 * (steps j - n)) (joint_bytes j) (g e ++ []) k))

-- the newest steps of a joint run are spelled by the last bytes of its spelling, from the states before these steps on
bytes-behind : (n : ℕ) (j : Run (ℕ × ℕ)) → n ≤ steps j
    → joint_bytes (behind n j) ≡ drop (3 * (steps j - n)) (joint_bytes j)
unfolding joint_bytes written
bytes-behind zero j h =
    let m : 3 * (steps j - 0) ≡ length (written j) * 3 = omega (arith, length-written j) in
    rw m (sym (last-bytes state_bytes steps_chunks (first j) (written j) ∙ ap state_bytes (ends-written j)))
bytes-behind (suc n) (start u) h = absurd (omega arith)
bytes-behind (suc n) (j ▸ move a u) h = more-behind n j (a, u) (bytes-behind n j (omega arith))
bytes-behind (suc n) (j ▸ idle) h =
    rw (last-behind n j) (more-behind n j (255, last j) (bytes-behind n j (omega arith)))

-- an accepted joint run of two sound tables
module _ (k : Labels) (l r : List ℕ) (tables : Tables k l r) (s : List ℕ) (sound : check_joint k l r s ≡ Ok tt) where
  abbrev free : NoIdleLabel (table_of l) × NoIdleLabel (table_of r)
  free = (no_idle-label tables.left, no_idle-label tables.right)

  tested : (fit_joint s ≡ true) × (is_joint_run k l r s ≡ true)
  tested =
      both_true ((decides (joint_decides k l r free.0 free.1 s)).1
      ((judges (judged-joint k l r s tables.left tables.right)).0 sound))

  accepted : AcceptedJoint k l r s
  accepted = accepted_joint k l r free.0 free.1 s tested.0 tested.1

  module _ (n : ℕ) where
    -- up to a point it is accepted
    pub joint_until : check_joint k l r (take (3 * n + 2) s) ≡ Ok tt
    unfolding check_joint first_of
    joint_until = let (f, e) = joint_stopped k l r s n tested.0 tested.1 in rw (f, e)

    -- and ends in states of the tables
    ranged : ((last (stop n (joint_of s))).0 < states_of l) × ((last (stop n (joint_of s))).1 < states_of r)
    ranged =
        let (f, e) = joint_stopped k l r s n tested.0 tested.1 in
        rw (joint-stop s n)
        at (joint_in_range k l r free.0 free.1 (λ p a q m. (move-ranged tables.left p a q m).2)
        (λ p a q m. (move-ranged tables.right p a q m).2) (take (3 * n + 2) s) f e)

    module _ (within : n ≤ steps (joint_of s)) where
      -- what follows the point, as a run
      abbrev follows : Run (ℕ × ℕ)
      follows = behind (steps (joint_of s) - n) (joint_of s)

      follows_run : RunOf (tables_of k l r) follows
      follows_run = run-behind (tables_of k l r) (steps (joint_of s) - n) accepted.run

      -- it is spelled by the bytes from the point on
      follows_bytes : joint_bytes follows ≡ drop (3 * n) s
      follows_bytes =
          let m : 3 * (steps (joint_of s) - (steps (joint_of s) - n)) ≡ 3 * n = omega (arith, within) in
          bytes-behind (steps (joint_of s) - n) (joint_of s) (omega arith) ∙ rw (m, accepted.spelled)

      -- so these bytes are read as it
      pub joint_later : joint_of (drop (3 * n) s) ≡ behind (steps (joint_of s) - n) (joint_of s)
      joint_later = ap joint_of (sym follows_bytes) ∙ joint_read_lem k l r free.0 free.1 follows_run

      -- and are accepted
      pub joint-from : check_joint k l r (drop (3 * n) s) ≡ Ok tt
      unfolding JointRun
      joint-from =
          let f = first-behind (steps (joint_of s) - n) (joint_of s) in
          (judges (judged-joint k l r (drop (3 * n) s) tables.left tables.right)).1 (
            follows,
            sym follows_bytes,
            follows_run,
            rw f ranged.0,
            rw f ranged.1,
            omega (arith, steps-from n (joint_of s), accepted.few),
          )
