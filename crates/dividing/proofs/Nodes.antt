-- A back modality over a half without steps.
use Prim.Native.Nat.{ℕ, ◌+◌, ◌-◌, ◌*◌, ◌/◌, ◌%◌}
use mathlib.Core.Path.{◌≡◌, refl}
use mathlib.Core.Bool.{Bool, true, false, cond, ◌&&◌}
use mathlib.Core.List.{List}
use native.Mathlib.Omega.{arith}
use lib.ListN.{length}
use lib.Dec.{eqb}
use borrow.Author.Tests.{le-ltb}
use Rattle.labels.specs.declared.label.Labels.{Labels}
use Rattle.halves.specs.Steps.{step_read}
use Rattle.halves.specs.declared.step.Step.{Step}
use Rattle.dividing.specs.Working.{last_read, past_read}
use Rattle.std.specs.Prelude.{None, Option}

-- it has no last step, so that every back modality fails
pub no_steps : (labels : Labels) (o a : ℕ) (s : List ℕ) → length s / 2 ≡ 0 → None ≡ past_read labels o a (last_read s)
unfolding past_read last_read step_read
no_steps labels o a s z =
    rw (
      le-ltb (2 * (length s / 2 - 1) + 2) (length s) (omega (arith, z)),
      none (eqb (length s % 2) 1) _,
    )
  where
    none : (b : Bool) (y : Option Step) → cond (b && false) y None ≡ None
    none true y = refl
    none false y = refl
