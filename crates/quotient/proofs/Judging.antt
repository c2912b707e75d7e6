-- The cases of what the quotient's calls judge, each from what the code knows at its return.
use Prim.Native.Nat.{ℕ, ◌/◌, ◌≤◌, ◌<◌}
use mathlib.Core.Path.{◌≡◌, refl, sym, ◌∙◌, ap}
use mathlib.Core.Bool.{Bool, true, false, not}
use mathlib.Core.List.{List}
use lib.ListN.{length}
use borrow.Author.Tests.{lt-ltb, le-ltb}
use Rattle.labels.specs.Refusals.{then_of, first_of, refused_if, Check}
use Rattle.labels.specs.Labels.{check_labels}
use Rattle.labels.specs.declared.refusal.Refusal.{Refusal}
use Rattle.labels.specs.declared.refusal.Refusal.TheVariants.{PointBeyond, HalvesDoNotMatch}
use Rattle.labels.proofs.Refusals.{then_sound}
use Rattle.tables.specs.Tables.{check_table}
use Rattle.halves.specs.Halves.{check_half}
use Rattle.halves.specs.Cuts.{known_of, known_part, beyond, cut_of}
use Rattle.halves.specs.declared.side.Side.{Side}
use Rattle.halves.proofs.Cuts.{refused_empty}
use Rattle.labels.proofs.Slices.{no_bytes}
use Rattle.labels.specs.declared.label.Labels.{Labels}
use Rattle.formulas.specs.Formulas.{question_limit, check_formula}
use Rattle.joining.specs.Joinings.{halves_match, check_halves}
use Rattle.splitting.specs.Splittings.{check_log}
use Rattle.quotient.specs.Calls.{check_by_half}
use Rattle.quotient.specs.Working.{check_asked, check_asked_run, check_asked_log}
use Rattle.std.specs.Prelude.{Err, Ok}

module _ (k : Labels) (a b f : List ℕ) (side : Side) (point : ℕ) where
  -- what is asked of two halves
  pub question_refused : (x : Refusal) → check_formula k question_limit f ≡ Err x
      → Err x ≡ check_asked k a b f side point
  unfolding check_asked first_of
  question_refused x e = rw e

  module _ (e : check_formula k question_limit f ≡ Ok tt) (x : List ℕ) (cut : x ≡ cut_of a b side point) where
    pub cut_refused : length x ≡ 0 → Err PointBeyond ≡ check_asked k a b f side point
    unfolding check_asked first_of cut_of
    cut_refused h = rw (e, (refused_empty (known_part a b (known_of side)) point).1 (sym cut ∙ no_bytes x h))

    pub cut-given : (length x ≡ 0 → ⊥) → Ok tt ≡ check_asked k a b f side point
    unfolding check_asked first_of cut_of
    cut-given n = go (beyond (known_part a b (known_of side)) point) refl
      where
        go : (t : Bool) → beyond (known_part a b (known_of side)) point ≡ t → Ok tt ≡ check_asked k a b f side point
        go true h = absurd (n (ap length (cut ∙ (refused_empty (known_part a b (known_of side)) point).0 h)))
        go false h = rw (e, h)

  -- what a call judges that takes halves, with what is asked as one
  by_half_regroup : (l r : List ℕ) → check_by_half k l r a b f side point
      ≡ then_of (check_labels k)
      (then_of (check_table k l)
      (then_of (check_table k r)
      (then_of (check_asked k a b f side point)
      (then_of (check_half l a) (then_of (check_half r b) (refused_if (not (halves_match k a b)) HalvesDoNotMatch))))))
  unfolding check_by_half check_asked first_of
  by_half_regroup l r =
      go (check_labels k) (check_table k l) (check_table k r) (check_formula k question_limit f)
      (refused_if (beyond (known_part a b (known_of side)) point) PointBeyond) (check_half l a) (check_half r b)
    where
      m : Check
      m = refused_if (not (halves_match k a b)) HalvesDoNotMatch

      go : (c l r f p a b : Check)
          → then_of c (then_of l (then_of r (then_of f (then_of p (then_of a (then_of b (then_of m (Ok tt))))))))
          ≡ then_of c (then_of l (then_of r (then_of (then_of f (then_of p (Ok tt))) (then_of a (then_of b m)))))
      go (Err x) l r f p a b = refl
      go (Ok _) (Err x) r f p a b = refl
      go (Ok _) (Ok _) (Err x) f p a b = refl
      go (Ok _) (Ok _) (Ok _) (Err x) p a b = refl
      go (Ok _) (Ok _) (Ok _) (Ok _) (Err x) a b = refl
      go (Ok _) (Ok _) (Ok _) (Ok _) (Ok _) (Err x) b = refl
      go (Ok _) (Ok _) (Ok _) (Ok _) (Ok _) (Ok _) (Err x) = refl
      go (Ok _) (Ok _) (Ok _) (Ok _) (Ok _) (Ok _) (Ok _) = then_sound m

  module _ (l r : List ℕ) where
    -- nothing asked is refused: the halves' checks decide
    pub halves_decide : check_asked k a b f side point ≡ Ok tt → {c : Check} → c ≡ check_halves k l r a b
        → c ≡ check_by_half k l r a b f side point
    unfolding check_halves first_of
    halves_decide e d =
        d ∙ rw (by_half_regroup l r, e, then_sound (refused_if (not (halves_match k a b)) HalvesDoNotMatch))

    pub labels_decide : (x : Refusal) → check_labels k ≡ Err x → Err x ≡ check_by_half k l r a b f side point
    unfolding check_by_half first_of
    labels_decide x e = rw e

    -- else the tables are judged first
    pub asked_decides : check_labels k ≡ Ok tt → (x : Refusal) → check_asked k a b f side point ≡ Err x
        → then_of (check_table k l) (then_of (check_table k r) (Err x)) ≡ check_by_half k l r a b f side point
    asked_decides e x h = rw (by_half_regroup l r, e, h)

-- what is asked of a joint run
module _ (k : Labels) (s f : List ℕ) (point : ℕ) where
  pub run-question_refused : (x : Refusal) → check_formula k question_limit f ≡ Err x
      → Err x ≡ check_asked_run k s f point
  unfolding check_asked_run first_of
  run-question_refused x e = rw e

  module _ (e : check_formula k question_limit f ≡ Ok tt) where
    pub run_point_beyond : length s / 3 < point → Err PointBeyond ≡ check_asked_run k s f point
    unfolding check_asked_run first_of
    run_point_beyond h = rw (e, lt-ltb (length s / 3) point h)

    pub run_point_within : point ≤ length s / 3 → Ok tt ≡ check_asked_run k s f point
    unfolding check_asked_run first_of
    run_point_within h = rw (e, le-ltb (length s / 3) point h)

  module _ (l r : List ℕ) where
    pub log-left : check_asked_run k s f point ≡ Ok tt → Ok tt ≡ check_asked_log k l r s f point
    unfolding check_asked_log
    log-left e = rw e

    pub log-judged : (x : Refusal) → check_asked_run k s f point ≡ Err x
        → then_of (check_log k l r s) (Err x) ≡ check_asked_log k l r s f point
    unfolding check_asked_log
    log-judged x e = rw e
