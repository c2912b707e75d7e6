-- What the checks of a join let through, and its answers.
use Prim.Native.Nat.{ℕ, ◌+◌, ◌*◌, ◌/◌, ◌≤◌, ◌<◌}
use mathlib.Core.Path.{◌≡◌, refl, sym, ◌∙◌, ap}
use mathlib.Core.Bool.{true, false, not}
use mathlib.Core.List.{List}
use native.Mathlib.Omega.{arith}
use lib.ListN.{length}
use borrow.Author.Tests.{lt-ltb, le-ltb}
use Rattle.hml.proofs.Tests.{apart}
use Rattle.labels.specs.Refusals.{then_of, first_of, refused_if, in_front, Check}
use Rattle.labels.specs.Labels.{check_labels}
use Rattle.labels.specs.declared.refusal.Refusal.{Refusal}
use Rattle.labels.specs.declared.refusal.Refusal.TheVariants.{HalvesDoNotMatch, OutputTooShort}
use Rattle.labels.proofs.Refusals.{then_sound, both_sound, passed}
use Rattle.labels.specs.declared.label.Labels.{Labels}
use Rattle.tables.specs.Tables.{check_table}
use Rattle.halves.specs.Halves.{is_half_run, check_half, check_table_and_half}
use Rattle.halves.proofs.HalfBuffers.{accepted_held}
use Rattle.joining.specs.Joinings.{halves_match, join_bytes, check_halves, check_join, joining_of, join_output}
use Rattle.joining.specs.Working.{HalfBytes, check_runs}
use Rattle.joining.proofs.Joined.{join-length}
use Rattle.std.specs.Prelude.{Err, Ok}

module _ (k : Labels) (l r a b : List ℕ) where
  -- both tables and both halves: the left half is sound with its table, or decides after both tables
  pub runs_sound : check_table_and_half k l a ≡ Ok tt → {x : Check} → x ≡ check_table_and_half k r b → x ≡ check_runs k l r a b
  unfolding check_table_and_half check_runs first_of
  runs_sound e f = f ∙ go (check_table k l) (check_half l a) e
    where
      go : (t h : Check) → then_of t (then_of h (Ok tt)) ≡ Ok tt
          → check_table_and_half k r b ≡ then_of t (then_of (check_table k r) (then_of h (then_of (check_half r b) (Ok tt))))
      go (Ok _) (Ok _) e = refl
      go (Ok _) (Err y) e = absurd (apart cc)
      go (Err y) h e = absurd (apart cc)

  pub runs_refused : (y : Refusal) → check_table_and_half k l a ≡ Err y
      → then_of (check_table k l) (then_of (check_table k r) (Err y)) ≡ check_runs k l r a b
  unfolding check_table_and_half check_runs first_of
  runs_refused y e = go (check_table k l) (check_half l a) e
    where
      go : (t h : Check) → then_of t (then_of h (Ok tt)) ≡ Err y
          → then_of t (then_of (check_table k r) (Err y))
          ≡ then_of t (then_of (check_table k r) (then_of h (then_of (check_half r b) (Ok tt))))
      go (Ok _) (Ok _) e = absurd (apart cc)
      go (Ok _) (Err z) e = ap (then_of (check_table k r)) (sym e)
      go (Err z) h e = refl

  pub runs_bytes : check_runs k l r a b ≡ Ok tt → HalfBytes a × HalfBytes b
  unfolding check_runs check_half first_of
  runs_bytes e =
      let (_, c) = both_sound (check_table k l) _ e in
      let (_, d) = both_sound (check_table k r) _ c in
      let (left, f) = both_sound (check_half l a) _ d in
      let (right, _) = both_sound (check_half r b) _ f in
      (accepted_held l a (passed (is_half_run l a) _ left), accepted_held r b (passed (is_half_run r b) _ right))

  -- the checks of halves, as the code groups them
  halves_regroup : check_halves k l r a b
      ≡ then_of (check_labels k) (then_of (check_runs k l r a b) (refused_if (not (halves_match k a b)) HalvesDoNotMatch))
  unfolding check_halves check_runs first_of
  halves_regroup =
      go (check_labels k) (check_table k l) (check_table k r) (check_half l a) (check_half r b)
      (refused_if (not (halves_match k a b)) HalvesDoNotMatch)
    where
      go : (c l r a b m : Check)
          → then_of c (then_of l (then_of r (then_of a (then_of b (then_of m (Ok tt))))))
          ≡ then_of c (then_of (then_of l (then_of r (then_of a (then_of b (Ok tt))))) m)
      go (Err x) l r a b m = refl
      go (Ok _) (Err x) r a b m = refl
      go (Ok _) (Ok _) (Err x) a b m = refl
      go (Ok _) (Ok _) (Ok _) (Err x) b m = refl
      go (Ok _) (Ok _) (Ok _) (Ok _) (Err x) m = refl
      go (Ok _) (Ok _) (Ok _) (Ok _) (Ok _) m = then_sound m

  pub labels_refuse : (x : Refusal) → check_labels k ≡ Err x → Err x ≡ check_halves k l r a b
  labels_refuse x e = rw (halves_regroup, e)

  module _ (p : check_labels k ≡ Ok tt) where
    pub runs_refuse : (x : Refusal) → check_runs k l r a b ≡ Err x → Err x ≡ check_halves k l r a b
    runs_refuse x e = rw (halves_regroup, p, e)

    module _ (s : check_runs k l r a b ≡ Ok tt) where
      pub halves_sound : halves_match k a b ≡ true → Ok tt ≡ check_halves k l r a b
      halves_sound e = rw (halves_regroup, p, s, e)

      pub halves_refused : halves_match k a b ≡ false → Err HalvesDoNotMatch ≡ check_halves k l r a b
      halves_refused e = rw (halves_regroup, p, s, e)

  -- what they let through
  pub record Halves : Type 0 where
    pub left : HalfBytes a
    pub right : HalfBytes b
    pub match : halves_match k a b ≡ true

  pub halves_call : check_halves k l r a b ≡ Ok tt → Halves
  halves_call e =
      let (_, c) = both_sound (check_labels k) _ (sym halves_regroup ∙ e) in
      let (s, m) = both_sound (check_runs k l r a b) _ c in
      let (x, y) = runs_bytes s in
      record { left = x; right = y; match = passed (halves_match k a b) _ m }

  -- the answers, and the output afterwards
  module _ (out : List ℕ) where
    pub join_refused : (x : Refusal) → check_halves k l r a b ≡ Err x
        → (Err x ≡ joining_of k l r a b (length out)) × (out ≡ join_output k l r a b out)
    unfolding joining_of join_output check_join first_of
    join_refused x e = rw e (refl, refl)

    module _ (c : check_halves k l r a b ≡ Ok tt) where
      size : length (join_bytes k a b) ≡ 3 * (length a / 2) + 2
      size = let h = halves_call c in join-length k a b h.left h.right h.match

      pub join_short : length out < 3 * (length a / 2) + 2
          → (Err OutputTooShort ≡ joining_of k l r a b (length out)) × (out ≡ join_output k l r a b out)
      unfolding joining_of join_output check_join first_of
      join_short h = rw (c, lt-ltb (length out) (length (join_bytes k a b)) (omega (arith, size))) (refl, refl)

      module _ (room : 3 * (length a / 2) + 2 ≤ length out) where
        pub join-room : length (join_bytes k a b) ≤ length out
        join-room = omega (arith, size)

        pub join_written : {out' : List ℕ} → out' ≡ in_front (join_bytes k a b) out
            → (Ok (3 * (length a / 2) + 2) ≡ joining_of k l r a b (length out))
            × (out' ≡ join_output k l r a b out)
        unfolding joining_of join_output check_join first_of
        join_written e =
            rw (c, le-ltb (length out) (length (join_bytes k a b)) join-room) (ap Ok (sym size), e)
