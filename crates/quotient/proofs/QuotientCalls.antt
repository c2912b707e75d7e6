-- What the quotient's calls let through to the division, and their answers.
use Prim.Native.Nat.{ℕ, ◌/◌, ◌≤◌, ◌<◌}
use mathlib.Core.Path.{◌≡◌, refl, sym, ◌∙◌, ap}
use mathlib.Core.Bool.{false, ◌||◌}
use mathlib.Core.List.{List}
use native.Mathlib.Omega.{arith}
use lib.ListN.{length, take}
use lib.Seq.{take_at}
use lib.Dec.{ltb, leb}
use borrow.Author.Tests.{le-ltb, ltb-false, leb-false}
use Rattle.hml.proofs.Tests.{apart}
use Rattle.hml.specs.System.{steps}
use Rattle.labels.specs.Refusals.{then_of, first_of, refused_if, in_front, Check}
use Rattle.labels.specs.Labels.{check_labels}
use Rattle.labels.specs.declared.refusal.Refusal.{Refusal}
use Rattle.labels.specs.declared.refusal.Refusal.TheVariants.{PointBeyond, TooManySplittings, NoSuchSplitting}
use Rattle.labels.specs.declared.refusal.Refusal.TheVariants.{OutputTooShort}
use Rattle.labels.proofs.Refusals.{both_sound, passed, unrefused}
use Rattle.labels.specs.declared.label.Labels.{Labels}
use Rattle.tables.specs.Tables.{check_table}
use Rattle.halves.specs.Halves.{half_of, is_half_run, check_half}
use Rattle.halves.specs.Cuts.{known_of, known_part, beyond, cut_of}
use Rattle.halves.specs.declared.side.Side.{Side}
use Rattle.halves.specs.declared.side.Known.{Known}
use Rattle.halves.specs.declared.side.Known.TheVariants as known
use Rattle.halves.proofs.Cuts.{cut_stopped, cut_accepted}
use Rattle.machines.specs.Joints.{joint_of, check_joint}
use Rattle.machines.specs.Cases.{case_with}
use Rattle.formulas.specs.Formulas.{question_limit, check_formula}
use Rattle.joining.specs.Joinings.{check_halves}
use Rattle.splitting.specs.Splittings.{splittings_of, check_log, splitting_limit, check_count, check_number, check_split}
use Rattle.splitting.specs.Splittings.{left_half, right_half, half_length, halved, split_of, left_output, right_output}
use Rattle.splitting.proofs.LogRuns.{sound_log, nth_length}
use Rattle.splitting.proofs.Values.{half_most}
use Rattle.splitting.proofs.Outcomes.{halves-answered}
use Rattle.splitting.proofs.AllSplittings.{splitting_joins}
use Rattle.dividing.specs.Quotients.{quotient_by, answer_of, output_after, check_division}
use Rattle.dividing.proofs.Answers.{part_refused}
use Rattle.quotient.specs.Calls.{tree_by_half, check_by_half, by_half, by_half_output, tree_by_number, check_by_number}
use Rattle.quotient.specs.Calls.{by_number, by_number_output}
use Rattle.quotient.specs.Working.{check_asked_run, log_first, check_asked_log}
use Rattle.quotient.proofs.SplitRuns.{log_parts, split-run, known_within}
use Rattle.std.specs.Prelude.{Err, Ok, Result}

-- the known table, the known half of it and the question, that no check refuses, at a point of the half
pub record KnownParts (k : Labels) (l r a b f : List ℕ) (side : Side) (point : ℕ) : Type 0 where
  pub labels : check_labels k ≡ Ok tt
  pub table : check_table k (known_part l r (known_of side)) ≡ Ok tt
  pub half : check_half (known_part l r (known_of side)) (known_part a b (known_of side)) ≡ Ok tt
  pub question : check_formula k question_limit f ≡ Ok tt
  pub within : beyond (known_part a b (known_of side)) point ≡ false

-- the known one of two sound tables, and of two sound halves
known_table : (k : Labels) (l r : List ℕ) (known : Known) → check_table k l ≡ Ok tt → check_table k r ≡ Ok tt
    → check_table k (known_part l r known) ≡ Ok tt
known_table k l r known.Left e f = e
known_table k l r known.Right e f = f

known_half : (l r a b : List ℕ) (known : Known) → check_half l a ≡ Ok tt → check_half r b ≡ Ok tt
    → check_half (known_part l r known) (known_part a b known) ≡ Ok tt
known_half l r a b known.Left e f = e
known_half l r a b known.Right e f = f

-- the division by the known half, cut at the point: it refuses nothing but 17 and 18, and its tree is the quotient by
-- the known half stopped at the point
module _ (k : Labels) (l r a b f : List ℕ) (side : Side) (point : ℕ) (parts : KnownParts k l r a b f side point)
    (t h : List ℕ) (u : t ≡ known_part l r (known_of side)) (v : h ≡ cut_of a b side point) where
  division_sound : check_division k t h f ≡ Ok tt
  unfolding check_division first_of cut_of check_half
  division_sound =
      rw (
        u,
        v,
        parts.labels,
        parts.table,
        parts.question,
        cut_accepted (known_part a b (known_of side)) point (known_part l r (known_of side))
            (passed (is_half_run (known_part l r (known_of side)) (known_part a b (known_of side))) _ parts.half)
            parts.within,
      )

  division_tree : quotient_by k t (half_of h) f ≡ tree_by_half k l r a b f side point
  unfolding tree_by_half cut_of
  division_tree = rw (u, v, cut_stopped (known_part a b (known_of side)) point parts.within)

  divided_answer : {q : Result ℕ Refusal} (room : ℕ) → q ≡ answer_of (check_division k t h f) (quotient_by k t (half_of h) f) room
      → q ≡ answer_of (Ok tt) (tree_by_half k l r a b f side point) room
  divided_answer room e = rw (← division_sound, ← division_tree) e

  divided_output : {x : List ℕ} (out : List ℕ)
      → x ≡ output_after (check_division k t h f) (quotient_by k t (half_of h) f) out
      → x ≡ output_after (Ok tt) (tree_by_half k l r a b f side point) out
  divided_output out e = rw (← division_sound, ← division_tree) e

-- the quotient by a half
module _ (k : Labels) (l r a b f : List ℕ) (side : Side) (point : ℕ) where
  pub by_half_refused : (x : Refusal) → check_by_half k l r a b f side point ≡ Err x → (out : List ℕ)
      → (Err x ≡ by_half k l r a b f side point (length out))
      × (out ≡ by_half_output k l r a b f side point out)
  unfolding by_half by_half_output
  by_half_refused x e out = part_refused (check_by_half k l r a b f side point) _ out x e

  module _ (e : check_by_half k l r a b f side point ≡ Ok tt) where
    -- what the checks let through
    pub by_half_checked : KnownParts k l r a b f side point × (check_halves k l r a b ≡ Ok tt)
    unfolding check_by_half check_halves first_of
    by_half_checked =
        let (labels, c) = both_sound (check_labels k) _ e in
        let (left, d) = both_sound (check_table k l) _ c in
        let (right, g) = both_sound (check_table k r) _ d in
        let (question, h) = both_sound (check_formula k question_limit f) _ g in
        let (point, i) = both_sound (refused_if (beyond (known_part a b (known_of side)) point) PointBeyond) _ h in
        let (x, j) = both_sound (check_half l a) _ i in
        let (y, m) = both_sound (check_half r b) _ j in (
          record {
            labels = labels;
            table = known_table k l r (known_of side) left right;
            half = known_half l r a b (known_of side) x y;
            question = question;
            within = unrefused _ _ point;
          },
          rw (labels, left, right, x, y) m,
        )

    pub by_half_divided : (t h out x : List ℕ) (q : Result ℕ Refusal) → t ≡ known_part l r (known_of side)
        → h ≡ cut_of a b side point
        → q ≡ answer_of (check_division k t h f) (quotient_by k t (half_of h) f) (length out)
        → x ≡ output_after (check_division k t h f) (quotient_by k t (half_of h) f) out
        → (q ≡ by_half k l r a b f side point (length out)) × (x ≡ by_half_output k l r a b f side point out)
    unfolding by_half by_half_output
    by_half_divided t h out x q u v c d =
        let parts = by_half_checked.0 in
        rw e (
          divided_answer k l r a b f side point parts t h u v (length out) c,
          divided_output k l r a b f side point parts t h u v out d,
        )

-- checks in a row, grouped: the log's four, what is asked (two), the number's two. Those of the number's log count once
grouped : (c t u j q p m n : Check) → let log = then_of c (then_of t (then_of u (then_of j (Ok tt)))) in
    then_of c (then_of t (then_of u (then_of j (then_of q (then_of p (then_of m (then_of n (Ok tt))))))))
    ≡ then_of log (then_of (then_of q (then_of p (Ok tt))) (then_of (then_of log (then_of m (Ok tt))) (then_of n (Ok tt))))
grouped (Err x) t u j q p m n = refl
grouped (Ok _) (Err x) u j q p m n = refl
grouped (Ok _) (Ok _) (Err x) j q p m n = refl
grouped (Ok _) (Ok _) (Ok _) (Err x) q p m n = refl
grouped (Ok _) (Ok _) (Ok _) (Ok _) (Err x) p m n = refl
grouped (Ok _) (Ok _) (Ok _) (Ok _) (Ok _) (Err x) m n = refl
grouped (Ok _) (Ok _) (Ok _) (Ok _) (Ok _) (Ok _) (Err x) n = refl
grouped (Ok _) (Ok _) (Ok _) (Ok _) (Ok _) (Ok _) (Ok _) n = refl

-- what the check of a number lets through
number_checked : (k : Labels) (l r s : List ℕ) (n : ℕ) → check_number k l r s n ≡ Ok tt
    → (check_log k l r s ≡ Ok tt) × (length (splittings_of k l r s) ≤ 65535) × (n < length (splittings_of k l r s))
unfolding check_number check_count first_of splitting_limit
number_checked k l r s n e =
    let (count, a) = both_sound (check_count k l r s) _ e in
    let (log, b) = both_sound (check_log k l r s) _ count in
    let (few, _) = both_sound (refused_if (ltb splitting_limit (length (splittings_of k l r s))) _) _ b in
    let (below, _) = both_sound (refused_if (leb (length (splittings_of k l r s)) n) _) _ a in
    (log, ltb-false _ _ (unrefused _ _ few), leb-false _ _ (unrefused _ _ below))

-- what a split's answer says of its checks
halved_refused : (c : Check) (m : ℕ) (x : Refusal) → halved c m ≡ Err x → c ≡ Err x
halved_refused (Ok _) m x e = absurd (apart cc)
halved_refused (Err y) m x e = let z : y ≡ x = cc in ap Err z

-- the quotient by the splitting of a number
module _ (k : Labels) (l r s f : List ℕ) (n point : ℕ) where
  -- where the log is sound it has as many steps as threes of bytes
  same_points : (c d : Check)
      → then_of (check_log k l r s)
      (then_of (then_of c (then_of (refused_if (ltb (steps (joint_of s)) point) PointBeyond) (Ok tt))) d)
      ≡ then_of (check_log k l r s)
      (then_of (then_of c (then_of (refused_if (ltb (length s / 3) point) PointBeyond) (Ok tt))) d)
  same_points c d = go (check_log k l r s) refl
    where
      go : (log : Check) → check_log k l r s ≡ log
          → then_of log (then_of (then_of c (then_of (refused_if (ltb (steps (joint_of s)) point) PointBeyond) (Ok tt))) d)
          ≡ then_of log (then_of (then_of c (then_of (refused_if (ltb (length s / 3) point) PointBeyond) (Ok tt))) d)
      go (Err x) e = refl
      go (Ok _) e = rw (sound_log k l r s e).run.counted

  -- what the call judges: the log, what is asked of it, the number
  number_regroup : check_by_number (case_with k l r s f) n point
      ≡ then_of (check_log k l r s) (then_of (check_asked_run k s f point) (check_number k l r s n))
  unfolding check_by_number check_number check_count check_log check_asked_run first_of
  number_regroup =
      grouped (check_labels k) (check_table k l) (check_table k r) (check_joint k l r s) (check_formula k question_limit f)
      (refused_if (ltb (steps (joint_of s)) point) PointBeyond)
      (refused_if (ltb splitting_limit (length (splittings_of k l r s))) TooManySplittings)
      (refused_if (leb (length (splittings_of k l r s)) n) NoSuchSplitting)
      ∙ same_points (check_formula k question_limit f) (check_number k l r s n)

  -- where something asked is refused, the log or that decides
  asked-log_decides : (x : Refusal) → check_asked_log k l r s f point ≡ Err x
      → check_by_number (case_with k l r s f) n point ≡ Err x
  unfolding check_asked_log
  asked-log_decides x e = number_regroup ∙ go (check_asked_run k s f point) e
    where
      go : (c : Check) → log_first (check_log k l r s) c ≡ Err x
          → then_of (check_log k l r s) (then_of c (check_number k l r s n)) ≡ Err x
      go (Ok _) e = absurd (apart cc)
      go (Err y) e = e

  pub labels_refuse : (x : Refusal) → check_labels k ≡ Err x → (side : Side) (out : List ℕ)
      → (Err x ≡ by_number (case_with k l r s f) n side point (length out))
      × (out ≡ by_number_output (case_with k l r s f) n side point out)
  unfolding by_number by_number_output check_by_number first_of
  labels_refuse x e side out = part_refused (check_by_number (case_with k l r s f) n point) _ out x (rw e)

  pub asked-log_refuses : (x : Refusal) → check_asked_log k l r s f point ≡ Err x → (side : Side) (out : List ℕ)
      → (Err x ≡ by_number (case_with k l r s f) n side point (length out))
      × (out ≡ by_number_output (case_with k l r s f) n side point out)
  unfolding by_number by_number_output
  asked-log_refuses x e side out = part_refused (check_by_number (case_with k l r s f) n point) _ out x
      (asked-log_decides x e)

  module _ (asked : check_asked_log k l r s f point ≡ Ok tt) where
    -- nothing asked is refused
    asked_sound : check_asked_run k s f point ≡ Ok tt
    unfolding check_asked_log
    asked_sound = go (check_asked_run k s f point) asked
      where
        go : (c : Check) → log_first (check_log k l r s) c ≡ Ok tt → c ≡ Ok tt
        go (Ok _) e = refl
        go (Err y) e = let z = (both_sound (check_log k l r s) (Err y) e).1 in absurd (apart cc)

    -- the number decides
    number_decides : check_by_number (case_with k l r s f) n point ≡ check_number k l r s n
    unfolding check_number check_count first_of
    number_decides = number_regroup ∙ rw asked_sound (go (check_log k l r s) _ _)
      where
        go : (c m d : Check) → then_of c (then_of (then_of c m) d) ≡ then_of (then_of c m) d
        go (Ok _) m d = refl
        go (Err x) m d = refl

    -- and so does a split into outputs that have room for every half: it gives no 18
    split_decides : (x y : ℕ) → (401 ≤ x) × (401 ≤ y) → check_split k l r s n x y ≡ check_by_number (case_with k l r s f) n
        point
    unfolding check_split first_of
    split_decides x y (i, j) = go (check_number k l r s n) refl ∙ sym number_decides
      where
        go : (c : Check) → check_number k l r s n ≡ c
            → then_of c (then_of (refused_if (ltb x (half_length s) || ltb y (half_length s)) OutputTooShort) (Ok tt)) ≡ c
        go (Ok _) e =
            let h = half_most k l r s (number_checked k l r s n e).0 in
            rw (le-ltb x (half_length s) (omega (arith, h, i)), le-ltb y (half_length s) (omega (arith, h, j)))
        go (Err z) e = refl

    pub split_refuses : (x y : ℕ) (z : Refusal) → split_of k l r s n x y ≡ Err z → (401 ≤ x) × (401 ≤ y)
        → (side : Side) (out : List ℕ)
        → (Err z ≡ by_number (case_with k l r s f) n side point (length out))
        × (out ≡ by_number_output (case_with k l r s f) n side point out)
    unfolding split_of by_number by_number_output
    split_refuses x y z e room side out =
        part_refused (check_by_number (case_with k l r s f) n point) _ out z (sym (split_decides x y room)
        ∙ halved_refused _ _ z e)

    -- the split gives the halves of the number
    module _ (x y m : ℕ) (told : split_of k l r s n x y ≡ Ok m) (room : (401 ≤ x) × (401 ≤ y)) where
      split_sound : check_split k l r s n x y ≡ Ok tt
      unfolding split_of
      split_sound = (halves-answered _ _ m told).0

      by_number_passed : check_by_number (case_with k l r s f) n point ≡ Ok tt
      by_number_passed = sym (split_decides x y room) ∙ split_sound

      number_sound : check_number k l r s n ≡ Ok tt
      number_sound = sym number_decides ∙ by_number_passed

      half_size : half_length s ≡ m
      unfolding split_of
      half_size = (halves-answered (check_split k l r s n x y) _ m told).1

      -- they have room in the outputs
      pub halves-room : (m ≤ x) × (m ≤ y)
      halves-room =
          let h = half_most k l r s (number_checked k l r s n number_sound).0 in
          omega (arith, h, half_size, room)

      -- the known one of them is what the division takes
      number_parts : (side : Side) → KnownParts k l r (left_half k l r s n) (right_half k l r s n) f side point
      unfolding check_asked_run first_of
      number_parts side =
          let (log, _, below) = number_checked k l r s n number_sound in
          let parts = log_parts k l r s log in
          let (question, p) = both_sound (check_formula k question_limit f) _ asked_sound in
          let (within, _) = both_sound (refused_if (ltb (length s / 3) point) PointBeyond) _ p in
          let (e, j, _, _, _) = splitting_joins k l r s n log below in
          let split = split-run k l r s _ _ point e j
          (omega (arith, (sound_log k l r s log).run.counted, ltb-false (length s / 3) point (unrefused _ _ within))) in
          record {
            labels = parts.machines.labels;
            table = known_table k l r (known_of side) parts.machines.left parts.machines.right;
            half = known_half l r _ _ (known_of side) split.left split.right;
            question = question;
            within = known_within k l r s _ _ point split (known_of side);
          }

    -- the fronts of the outputs x and y of a split, afterwards u and v
    module _ (x y u v : List ℕ) (m : ℕ) (told : split_of k l r s n (length x) (length y) ≡ Ok m)
        (left : u ≡ left_output k l r s n x (length y)) (right : v ≡ right_output k l r s n (length x) y)
        (room : (401 ≤ length x) × (401 ≤ length y)) where
      fronts : (take m u ≡ left_half k l r s n) × (take m v ≡ right_half k l r s n)
      unfolding left_output right_output in_front
      fronts =
          let sound = split_sound (length x) (length y) m told room in
          let size = half_size (length x) (length y) m told room in
          let (p, q) = nth_length k l r s n
          (number_checked k l r s n (number_sound (length x) (length y) m told room)).2 in (
            rw (left, sound) (take_at (left_half k l r s n) _ m (p ∙ size)),
            rw (right, sound) (take_at (right_half k l r s n) _ m (q ∙ size)),
          )

      pub by_number-divided : (side : Side) (t h out z : List ℕ) (q : Result ℕ Refusal) → t ≡ known_part l r (known_of side)
          → h ≡ cut_of (take m u) (take m v) side point
          → q ≡ answer_of (check_division k t h f) (quotient_by k t (half_of h) f) (length out)
          → z ≡ output_after (check_division k t h f) (quotient_by k t (half_of h) f) out
          → (q ≡ by_number (case_with k l r s f) n side point (length out))
          × (z ≡ by_number_output (case_with k l r s f) n side point out)
      unfolding by_number by_number_output tree_by_number
      by_number-divided side t h out z q table half c d =
          let cut : h ≡ cut_of (left_half k l r s n) (right_half k l r s n) side point = rw (fronts.0, fronts.1)
          at half in
          let parts = number_parts (length x) (length y) m told room side in
          rw (by_number_passed (length x) (length y) m told room) (
            divided_answer k l r _ _ f side point parts t h table cut (length out) c,
            divided_output k l r _ _ f side point parts t h table cut out d,
          )
