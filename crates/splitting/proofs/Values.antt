-- How large the values of answers can be.
use Prim.Native.Nat.{ℕ, ◌≤◌}
use mathlib.Core.Path.{◌≡◌, refl}
use mathlib.Core.List.{List}
use native.Mathlib.Omega.{arith}
use lib.ListN.{length}
use lib.Dec.{ltb}
use borrow.Author.Tests.{ltb-false}
use Rattle.labels.specs.Refusals.{value_answer, refused_if, first_of, Check}
use Rattle.labels.proofs.Refusals.{both_sound, unrefused}
use Rattle.labels.proofs.Answers.{Within, none, next}
use Rattle.labels.specs.declared.label.Labels.{Labels}
use Rattle.splitting.specs.Splittings.{splittings_of, splitting_limit, check_log, check_count, counted, count_of}
use Rattle.splitting.specs.Splittings.{count_answer}
use Rattle.splitting.specs.Splittings.{half_length, check_split, halved, split_of, split_answer}
use Rattle.splitting.proofs.LogRuns.{sound_log}
use Rattle.splitting.proofs.Outcomes.{split_checked}
use Rattle.std.specs.Prelude.{Err, Ok}

module _ (k : Labels) (l r s : List ℕ) where
  -- a count that is not refused is at most the limit
  pub count_most : check_count k l r s ≡ Ok tt → length (splittings_of k l r s) ≤ splitting_limit
  unfolding check_count first_of
  count_most e =
      let (_, a) = both_sound (check_log k l r s) _ e in
      let (b, _) = both_sound (refused_if (ltb splitting_limit (length (splittings_of k l r s))) _) _ a in
      ltb-false _ _ (unrefused _ _ b)

  -- of a count: at most 65,535
  pub count-within : Within splitting_limit (count_answer (count_of k l r s)).values
  unfolding count_of value_answer
  count-within = go (check_count k l r s) refl
    where
      go : (c : Check) → check_count k l r s ≡ c
          → Within splitting_limit (count_answer (counted c (length (splittings_of k l r s)))).values
      go (Ok _) e = next (count_most e) none
      go (Err x) e = none

  -- a half of a sound log has at most 200 steps
  pub half_most : check_log k l r s ≡ Ok tt → half_length s ≤ 401
  unfolding half_length
  half_most e = omega (arith, (sound_log k l r s e).run.few)

  -- of a split: at most 401
  pub split-within : (n a b : ℕ) → Within 401 (split_answer (split_of k l r s n a b)).values
  unfolding split_of value_answer
  split-within n a b = go (check_split k l r s n a b) refl
    where
      go : (c : Check) → check_split k l r s n a b ≡ c → Within 401 (split_answer (halved c (half_length s))).values
      go (Ok _) e = next (half_most (split_checked k l r s n a b e).0) none
      go (Err x) e = none
