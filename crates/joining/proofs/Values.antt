-- How large the value of an answer can be.
use Prim.Native.Nat.{ℕ, ◌≤◌}
use mathlib.Core.Path.{◌≡◌, refl}
use mathlib.Core.Bool.{true}
use mathlib.Core.List.{List}
use native.Mathlib.Omega.{arith}
use lib.ListN.{length}
use Rattle.labels.specs.Refusals.{value_answer, first_of, Check}
use Rattle.labels.specs.Labels.{check_labels}
use Rattle.labels.proofs.Refusals.{both_sound, passed}
use Rattle.labels.proofs.Answers.{Within, none, next}
use Rattle.labels.specs.declared.label.Labels.{Labels}
use Rattle.tables.specs.Tables.{check_table}
use Rattle.halves.specs.Halves.{is_half_run, check_half}
use Rattle.halves.proofs.HalfRuns.{accepted_half}
use Rattle.joining.specs.Joinings.{join_bytes, check_halves, check_join, joined, joining_of, join_answer}
use Rattle.joining.proofs.Joined.{join-length}
use Rattle.joining.proofs.JoinCalls.{halves_call}
use Rattle.std.specs.Prelude.{Err, Ok}

module _ (k : Labels) (l r a b : List ℕ) where
  left-run : check_halves k l r a b ≡ Ok tt → is_half_run l a ≡ true
  unfolding check_halves check_half first_of
  left-run e =
      let (_, c) = both_sound (check_labels k) _ e in
      let (_, d) = both_sound (check_table k l) _ c in
      let (_, f) = both_sound (check_table k r) _ d in
      passed (is_half_run l a) _ (both_sound (check_half l a) _ f).0

  -- the run of halves that no check refuses has at most 200 steps
  join_most : check_halves k l r a b ≡ Ok tt → length (join_bytes k a b) ≤ 602
  join_most e =
      let h = halves_call k l r a b e in
      let w = accepted_half l a (left-run e) in
      omega (arith, join-length k a b h.left h.right h.match, w.counted, w.few)

  -- of a join: at most 602
  pub join-within : (room : ℕ) → Within 602 (join_answer (joining_of k l r a b room)).values
  unfolding joining_of value_answer check_join first_of
  join-within room = go (check_join k l r a b room) refl
    where
      go : (c : Check) → check_join k l r a b room ≡ c
          → Within 602 (join_answer (joined c (length (join_bytes k a b)))).values
      go (Ok _) e = next (join_most (both_sound (check_halves k l r a b) _ e).0) none
      go (Err x) e = none
