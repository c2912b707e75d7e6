-- What the checks of a call let through, and that its answer is then the verdict.
use Prim.Native.Nat.{ℕ, ◌+◌, ◌*◌, ◌/◌, ◌%◌, ◌≤◌, ◌<◌}
use mathlib.Core.Path.{◌≡◌, refl, sym, ◌∙◌, ap, fun_ext}
use mathlib.Core.Bool.{Bool, true, false, not, false≢true}
use mathlib.Core.List.{List, [], ◌∷◌, ◌++◌}
use native.Mathlib.Omega.{arith}
use lib.ListN.{length, get_or, take}
use lib.Seq.{take-take, take_at, get_or-take, length-take-le}
use lib.Dec.{ltb}
use borrow.Author.Tests.{lt-ltb, le-ltb, ltb-false, ne_eqb}
use Rattle.hml.specs.Lists.{present}
use Rattle.hml.specs.System.{Run, last, steps, stop}
use Rattle.hml.specs.Formula.{Formula, nesting, holds}
use Rattle.hml.specs.Machine.{machine}
use Rattle.hml.proofs.Alone.{holds_alone}
use Rattle.labels.specs.Refusals.{then_of, first_of, refused_if, Check}
use Rattle.labels.specs.Labels.{check_labels, pairing}
use Rattle.labels.specs.declared.label.Labels.{Labels}
use Rattle.labels.specs.declared.refusal.Refusal.{Refusal}
use Rattle.labels.specs.declared.refusal.Refusal.TheVariants.{PointBeyond}
use Rattle.labels.proofs.Slices.{copied}
use Rattle.labels.proofs.Refusals.{then_sound, both_sound, passed, unrefused, judges}
use Rattle.tables.specs.Tables.{table_of, check_table, fit_table, fit_states, rows_of, threes, check_rows, SoundTable}
use Rattle.tables.proofs.SoundTables.{sound_table, no_idle-label}
use Rattle.halves.specs.Halves.{half_of, is_half_run, check_half, check_table_and_half}
use Rattle.halves.specs.Cuts.{beyond}
use Rattle.halves.proofs.HalfRuns.{AcceptedHalf, accepted_half, half_stop}
use Rattle.machines.specs.Joints.{joint_of, fit_joint, is_joint_run, check_joint, check_tables_and_joint}
use Rattle.machines.proofs.JointRuns.{accepted_joint, joint-stop}
use Rattle.machines.specs.Working.{Tables, AcceptedJoint, Held}
use Rattle.machines.proofs.Buffers.{accepted_held}
use Rattle.formulas.specs.Formulas.{formula_of, quotient_limit, Legal, check_formula}
use Rattle.formulas.specs.Working.{Tree, tree_of, forwards_in}
use Rattle.formulas.proofs.Checking.{judged_formula, legal_tree, formula_length}
use Rattle.formulas.proofs.ForwardCount.{nesting_forwards}
use Rattle.formulas.proofs.Operands.{legal_nesting, legal_labels}
use Rattle.verdict.specs.Verdicts.{joint_holds, half_holds, check_joint_call, check_half_call, verdict_of, answered}
use Rattle.verdict.specs.Verdicts.{joint_verdict, half_verdict}
use Rattle.verdict.specs.Working.{Ready, Coded, Whole, Tells, judged_by, tree_at, tables_hold, beside_still}
use Rattle.verdict.proofs.Still.{still_read, still-length, still-take, still-ends}
use Rattle.std.specs.Prelude.{Err, Ok, Option, Result, Some}
use Rattle.std.specs.Result.{is_err}

-- a buffer that begins with a run up to its point p, which ends at each point in the two states written last
front-held : (s xs : List ℕ) (p : ℕ) → take (3 * p + 2) xs ≡ take (3 * p + 2) s → 3 * p + 2 ≤ length xs
    → ((m : ℕ) → m ≤ p → last (joint_of (take (3 * m + 2) s)) ≡ (get_or s (3 * m) 0, get_or s (3 * m + 1) 0))
    → Held xs (3 * p + 2)
front-held s xs p e h ends = record { whole = omega arith; within = h; kept = kept }
  where
    front : (n : ℕ) → n ≤ 3 * p + 2 → take n xs ≡ take n s
    front n i = sym (take-take n (3 * p + 2) xs i) ∙ ap (take n) e ∙ take-take n (3 * p + 2) s i

    front_at : (n : ℕ) → n < 3 * p + 2 → get_or xs n 0 ≡ get_or s n 0
    front_at n i = sym (get_or-take (3 * p + 2) xs n 0 i) ∙ ap (λ zs. get_or zs n 0) e ∙ get_or-take (3 * p + 2) s n 0 i

    kept : (m : ℕ) → 3 * m + 2 ≤ 3 * p + 2
        → last (joint_of (take (3 * m + 2) xs)) ≡ (get_or xs (3 * m) 0, get_or xs (3 * m + 1) 0)
    kept m i =
        rw (front (3 * m + 2) i, front_at (3 * m) (omega arith), front_at (3 * m + 1) (omega arith))
        (ends m (omega arith))

-- a legal formula is one tree, and ready for its verdict by its words
module _ (k : Labels) (f : List ℕ) (legal : Legal k quotient_limit f) where
  pub legal_whole : Whole f
  unfolding Legal Whole
  legal_whole = let (φ, e, s, l, d) = legal in (φ, e, s)

  one-tree : Tree f
  unfolding Legal Tree
  one-tree = let (φ, e, s, l, d) = legal in (φ, [], e)

  legal_few : length f / 2 ≤ 4096
  unfolding Legal
  legal_few = let (φ, e, s, l, d) = legal in omega (arith, formula_length f φ e, s)

  pub legal_ready : (ws xs : List ℕ) (n : ℕ) → Coded ws f → length xs ≡ 614 → Held xs n → n ≤ 602
      → Ready k ws xs n 0 (length f / 2)
  legal_ready ws xs n c w h i = record {
    tree = rw c.spelled one-tree;
    ranged = rw c.spelled (legal_labels k quotient_limit f legal);
    skips = c.skips;
    held = h;
    room = rw c.spelled (omega (arith, legal_nesting k quotient_limit f legal, i, w));
    size = w;
    few = legal_few;
  }

  -- the verdict on its tree is the answer
  module _ (labels : Labels) (l r : List ℕ) (j : Run (ℕ × ℕ)) (b : Bool) (p : b ≡ tables_hold labels l r (tree_of f) j) where
    tree-judged : b ≡ present (λ φ. tables_hold labels l r φ j) (formula_of f)
    tree-judged = rw (legal_tree k quotient_limit f legal) p

    tree_given : Ok b ≡ verdict_of (present (λ φ. tables_hold labels l r φ j) (formula_of f))
    tree_given = ap Ok tree-judged

  -- as a chain tells it
  module _ (labels : Labels) (l r : List ℕ) (j : Run (ℕ × ℕ)) (w : Option Bool) (h : Tells w f j) where
    pub told_given : (b : Bool) → w ≡ Some b → Ok b ≡ verdict_of (present (λ φ. tables_hold labels l r φ j) (formula_of f))
    unfolding Tells tables_hold
    told_given b e = let t = rw e at h in tree_given labels l r j b (t _)

  -- the verdict by grids is the tables' verdict, if it is for every formula that nests so many forward modalities
  module _ (labels : Labels) (l r g ws : List ℕ) (c : Coded ws f)
      (same : (φ : Formula) → nesting φ ≤ forwards_in f → (j : Run (ℕ × ℕ))
      → judged_by labels g φ j ≡ tables_hold labels l r φ j)
      (j : Run (ℕ × ℕ)) (b : Bool) (p : b ≡ judged_by labels g (tree_at ws (length f / 2)) j) where
    grids_judged : b ≡ tables_hold labels l r (tree_of f) j
    grids_judged = let q = rw c.spelled at p in q ∙ same (tree_of f) (nesting_forwards f one-tree) j

    pub legal_given : Ok b ≡ verdict_of (present (λ φ. tables_hold labels l r φ j) (formula_of f))
    legal_given = tree_given labels l r j b grids_judged

-- the joint call
module _ (k : Labels) (l r s f : List ℕ) where
  -- the checks of the parts
  abbrev pub joint_parts : Check
  joint_parts = then_of (check_labels k) (then_of (check_tables_and_joint k l r s) (check_formula k quotient_limit f))

  joint_regroup : (p : ℕ)
      → check_joint_call k l r s f p ≡ then_of joint_parts (refused_if (ltb (steps (joint_of s)) p) PointBeyond)
  unfolding check_joint_call check_tables_and_joint first_of
  joint_regroup p =
      go (check_labels k) (check_table k l) (check_table k r) (check_joint k l r s) (check_formula k quotient_limit f)
      (refused_if (ltb (steps (joint_of s)) p) PointBeyond)
    where
      go : (c l r j f b : Check)
          → then_of c (then_of l (then_of r (then_of j (then_of f (then_of b (Ok tt))))))
          ≡ then_of (then_of c (then_of (then_of l (then_of r (then_of j (Ok tt)))) f)) b
      go (Err x) l r j f b = refl
      go (Ok _) (Err x) r j f b = refl
      go (Ok _) (Ok _) (Err x) j f b = refl
      go (Ok _) (Ok _) (Ok _) (Err x) f b = refl
      go (Ok _) (Ok _) (Ok _) (Ok _) (Err x) b = refl
      go (Ok _) (Ok _) (Ok _) (Ok _) (Ok _) b = then_sound b

  -- what they let through
  pub record JointCall : Type 0 where
    pub tables : Tables k l r
    pub fit : fit_joint s ≡ true
    pub real : is_joint_run k l r s ≡ true
    pub legal : Legal k quotient_limit f

  joint_parts_lem : joint_parts ≡ Ok tt → JointCall
  unfolding check_tables_and_joint check_joint first_of
  joint_parts_lem e =
      let (labels, a) = both_sound (check_labels k)
      (then_of (check_tables_and_joint k l r s) (check_formula k quotient_limit f))
      e in
      let (b, formula) = both_sound (check_tables_and_joint k l r s) (check_formula k quotient_limit f) a in
      let (left, c) = both_sound (check_table k l) _ b in
      let (right, d) = both_sound (check_table k r) _ c in
      let (run, _) = both_sound (check_joint k l r s) _ d in
      let (fit, g) = both_sound (refused_if (not (fit_joint s)) _) _ run in
      let (real, _) = both_sound (refused_if (not (is_joint_run k l r s)) _) _ g in
      record {
        tables = record { left = sound_table k l left; right = sound_table k r right };
        fit = passed (fit_joint s) _ fit;
        real = passed (is_joint_run k l r s) _ real;
        legal = (judges (judged_formula k quotient_limit f)).0 formula;
      }

  module _ (call : JointCall) where
    joint_accepted : AcceptedJoint k l r s
    joint_accepted =
        accepted_joint k l r (no_idle-label call.tables.left) (no_idle-label call.tables.right) s call.fit
        call.real

    joint-steps : steps (joint_of s) ≡ length s / 3
    joint-steps = joint_accepted.counted

  -- the cases of the check
  pub joint_refused : (p : ℕ) (x : Refusal) → joint_parts ≡ Err x → Err x ≡ check_joint_call k l r s f p
  joint_refused p x e = rw (joint_regroup p, e)

  pub joint-beyond : (p : ℕ) → joint_parts ≡ Ok tt → length s / 3 < p → Err PointBeyond ≡ check_joint_call k l r s f p
  joint-beyond p e h = rw (joint_regroup p, e, joint-steps (joint_parts_lem e), lt-ltb (length s / 3) p h)

  pub joint_sound : (p : ℕ) → joint_parts ≡ Ok tt → p ≤ length s / 3 → Ok tt ≡ check_joint_call k l r s f p
  joint_sound p e h = rw (joint_regroup p, e, joint-steps (joint_parts_lem e), le-ltb (length s / 3) p h)

  pub joint_call : (p : ℕ) → check_joint_call k l r s f p ≡ Ok tt → JointCall × (p ≤ length s / 3)
  joint_call p e =
      let (a, b) = both_sound joint_parts (refused_if (ltb (steps (joint_of s)) p) PointBeyond)
      (sym (joint_regroup p) ∙ e) in
      let c = joint_parts_lem a in
      (c, omega (arith, joint-steps c, ltb-false (steps (joint_of s)) p (unrefused _ _ b)))

  -- a call that is let through, at its point
  module _ (p : ℕ) (check : check_joint_call k l r s f p ≡ Ok tt) where
    joint_through : JointCall
    joint_through = (joint_call p check).0

    pub joint_tables : Tables k l r
    joint_tables = joint_through.tables

    pub joint_legal : Legal k quotient_limit f
    joint_legal = joint_through.legal

    pub joint-room : (3 * p + 2 ≤ length s) × (p ≤ 200)
    joint-room =
        let a = joint_accepted joint_through in
        omega (arith, a.whole, a.counted, a.few, (joint_call p check).1)

    -- a buffer that begins with the run up to the point
    module _ (xs : List ℕ) (e : take (3 * p + 2) xs ≡ take (3 * p + 2) s) where
      pub joint-held : 3 * p + 2 ≤ length xs → Held xs (3 * p + 2)
      joint-held h =
          let held = accepted_held k l r (no_idle-label joint_tables.left) (no_idle-label joint_tables.right) s
          joint_through.fit joint_through.real in
          front-held s xs p e h (λ m i. held.kept m (omega (arith, i, joint-room)))

      pub joint_answer : (v : Result Bool Refusal)
          → v ≡ verdict_of (present (λ φ. tables_hold k l r φ (joint_of (take (3 * p + 2) xs)))
          (formula_of f))
          → v ≡ joint_verdict k l r s f p
      unfolding joint_verdict joint_holds answered tables_hold
      joint_answer v w = rw (check, ← joint-stop s p, ← e) w

-- the copy of the first n bytes
pub front_copied : (s xs ys : List ℕ) (n : ℕ) → n ≤ length s → xs ≡ take (length (take n s)) (take n s) ++ ys
    → take n xs ≡ take n s
front_copied s xs ys n h e = let c = copied (take n s) xs ys e in rw (length-take-le n s h) at c

-- the labels judged first, then the other parts
pub labels_refused : (c d : Check) (x : Refusal) → c ≡ Err x → then_of c d ≡ Err x
labels_refused c d x e = rw e

pub labels_sound : (c d e : Check) → c ≡ Ok tt → d ≡ e → then_of c d ≡ e
labels_sound c d e p q = rw p q

-- a check that refuses is not sound, and its refusal is the answer
pub answer_refused : (c : Check) (x : Refusal) (b : Bool) → c ≡ Err x → Err x ≡ answered c b
unfolding answered
answer_refused c x b e = rw e

-- the table of one state and no rows is sound, and nothing leaves its state
abbrev pub still : List ℕ
still = 1 ∷ []

still_sound : (k : Labels) → SoundTable k still
unfolding check_table fit_table fit_states rows_of threes check_rows first_of
still_sound k = sound_table k still refl

nothing_leaves : table_of still 0 ≡ []
unfolding table_of machine rows_of threes
nothing_leaves = refl

-- a half that no check refuses has a table that none refuses
pub run_tabled : (k : Labels) (t s : List ℕ) (c : Check) → c ≡ check_table_and_half k t s → is_err c ≡ false
    → check_table k t ≡ Ok tt
unfolding check_table_and_half first_of
run_tabled k t s (Ok _) h e = (both_sound (check_table k t) _ (sym h)).0
run_tabled k t s (Err x) h e = absurd (false≢true (sym e))

-- the half call
module _ (k : Labels) (t s f : List ℕ) where
  -- the checks of the parts
  abbrev pub half_parts : Check
  half_parts = then_of (check_labels k) (then_of (check_table k t) (check_formula k quotient_limit f))

  half_regroup : (p : ℕ)
      → check_half_call k t s f p ≡ then_of half_parts (then_of (refused_if (beyond s p) PointBeyond) (check_half t s))
  unfolding check_half_call first_of
  half_regroup p =
      go (check_labels k) (check_table k t) (check_formula k quotient_limit f) (refused_if (beyond s p) PointBeyond)
      (check_half t s)
    where
      go : (c t f b h : Check)
          → then_of c (then_of t (then_of f (then_of b (then_of h (Ok tt))))) ≡ then_of (then_of c (then_of t f)) (then_of b h)
      go (Err x) t f b h = refl
      go (Ok _) (Err x) f b h = refl
      go (Ok _) (Ok _) (Err x) b h = refl
      go (Ok _) (Ok _) (Ok _) (Err x) h = refl
      go (Ok _) (Ok _) (Ok _) (Ok _) h = then_sound h

  -- what they let through
  pub record HalfCall : Type 0 where
    pub table : SoundTable k t
    pub run : is_half_run t s ≡ true
    pub legal : Legal k quotient_limit f

  half_parts_lem : half_parts ≡ Ok tt → (check_table k t ≡ Ok tt) × (check_formula k quotient_limit f ≡ Ok tt)
  half_parts_lem e =
      let (labels, a) = both_sound (check_labels k) (then_of (check_table k t) (check_formula k quotient_limit f)) e in
      both_sound (check_table k t) (check_formula k quotient_limit f) a

  -- the cases of the check: labels that are refused
  pub half_unlabelled : (p : ℕ) (x : Refusal) → check_labels k ≡ Err x → Err x ≡ check_half_call k t s f p
  half_unlabelled p x e = rw (half_regroup p, e)

  -- the table refused, or not: then what is left, in order
  module _ (labels : check_labels k ≡ Ok tt) (p : ℕ) where
    pub half_untabled : (x : Refusal) → check_table k t ≡ Err x → Err x ≡ check_half_call k t s f p
    unfolding check_half_call first_of
    half_untabled x e = rw (labels, e)

    pub half_tabled : check_table k t ≡ Ok tt
        → {c d : Check} → check_formula k quotient_limit f ≡ c → refused_if (beyond s p) PointBeyond ≡ d
        → then_of c (then_of d (check_table_and_half k t s)) ≡ check_half_call k t s f p
    unfolding check_half_call check_table_and_half first_of
    half_tabled e formula point = rw (labels, e, formula, point)

  pub half_call : (p : ℕ) → check_half_call k t s f p ≡ Ok tt → HalfCall × (beyond s p ≡ false)
  unfolding check_half
  half_call p e =
      let (a, b) = both_sound half_parts (then_of (refused_if (beyond s p) PointBeyond) (check_half t s))
      (sym (half_regroup p) ∙ e) in
      let (x, y) = both_sound (refused_if (beyond s p) PointBeyond) (check_half t s) b in
      let (table, formula) = half_parts_lem a in (
        record {
          table = sound_table k t table;
          run = passed (is_half_run t s) _ y;
          legal = (judges (judged_formula k quotient_limit f)).0 formula;
        },
        unrefused _ _ x,
      )

  -- a call that is let through, at its point
  module _ (p : ℕ) (check : check_half_call k t s f p ≡ Ok tt) where
    half_through : HalfCall
    half_through = (half_call p check).0

    within : beyond s p ≡ false
    within = (half_call p check).1

    pub half_legal : Legal k quotient_limit f
    half_legal = half_through.legal

    half_accepted : AcceptedHalf t s
    half_accepted = accepted_half t s half_through.run

    pub half_room : (2 * p + 1 ≤ length s) × (p ≤ 200)
    unfolding beyond
    half_room =
        let a = half_accepted in
        let w : ltb (length s / 2) p ≡ false = rw (ne_eqb (length s % 2) 0 (λ z. omega (arith, a.odd, z))) at within in
        omega (arith, a.odd, a.counted, a.few, ltb-false (length s / 2) p w)

    half_odd : length (take (2 * p + 1) s) % 2 ≡ 1
    half_odd = rw (length-take-le (2 * p + 1) s half_room.0) (omega arith)

    pub half_tables : Tables k t still
    half_tables = record { left = half_through.table; right = still_sound k }

    -- a buffer that begins with the run up to the point, beside the machine that stays in its state
    module _ (xs ys : List ℕ) (e : xs ≡ beside_still (take (2 * p + 1) s) ++ ys) where
      half_front : take (3 * p + 2) xs ≡ beside_still (take (2 * p + 1) s)
      half_front =
          let z = length-take-le (2 * p + 1) s half_room.0 in
          rw e (take_at (beside_still (take (2 * p + 1) s)) ys (3 * p + 2)
          (still-length (take (2 * p + 1) s) half_odd ∙ omega (arith, z)))

      pub half_held : 3 * p + 2 ≤ length xs → Held xs (3 * p + 2)
      half_held h =
          front-held (beside_still s) xs p (half_front ∙ sym (still-take s p half_room.0)) h
          (λ m i. still-ends t s half_through.run m (omega (arith, i, half_room)))

      pub half_answer : (v : Result Bool Refusal)
          → v ≡ verdict_of (present (λ φ. tables_hold k t still φ (joint_of (take (3 * p + 2) xs)))
          (formula_of f))
          → v ≡ half_verdict k t s f p
      unfolding half_verdict half_holds answered tables_hold
      half_answer v w =
          let same : (φ : Formula)
          → tables_hold k t still φ (joint_of (take (3 * p + 2) xs))
          ≡ holds (table_of t) φ (stop p (half_of s)) = λ φ.
          rw (half_front, still_read (take (2 * p + 1) s) half_odd, ← half_stop s p)
          (holds_alone (pairing k) (table_of t) (table_of still) 0 nothing_leaves φ (half_of (take (2 * p + 1) s))) in
          w ∙ ap verdict_of (ap (λ F. present F (formula_of f)) (fun_ext same)) ∙ rw check
