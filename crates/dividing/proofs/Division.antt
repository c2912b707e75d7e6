-- The division of a question by a half run: what the checks let through, and the answers.
use Prim.Native.Nat.{ℕ, ◌+◌, ◌*◌, ◌≤◌, ◌<◌, min}
use mathlib.Core.Path.{◌≡◌, sym, ◌∙◌, ap}
use mathlib.Core.Bool.{true}
use mathlib.Core.List.{List, [], ◌++◌}
use native.Mathlib.Omega.{arith}
use lib.ListN.{length, take, drop}
use lib.Seq.{take-length}
use lib.Dec.{leb}
use borrow.Author.Tests.{leb-true, eqb-true}
use Rattle.hml.proofs.Tests.{both_true}
use Rattle.hml.specs.Formula.{Formula, size, nesting}
use Rattle.hml.specs.Spell.{spell}
use Rattle.hml.proofs.Spelling.{length-spell}
use Rattle.hml.specs.Quotient.{quotient}
use Rattle.labels.specs.Refusals.{then_of, first_of, in_front, Check}
use Rattle.labels.specs.Labels.{check_labels, pairing}
use Rattle.labels.specs.declared.label.Labels.{Labels}
use Rattle.labels.specs.declared.refusal.Refusal.{Refusal}
use Rattle.labels.specs.declared.refusal.Refusal.TheVariants.{QuotientTooLarge, OutputTooShort}
use Rattle.labels.proofs.Refusals.{judges, both_sound, passed}
use Rattle.labels.proofs.Slices.{copied, copied_whole}
use Rattle.tables.specs.Tables.{table_of, check_table, SoundTable}
use Rattle.tables.proofs.SoundTables.{sound_table}
use Rattle.halves.specs.Halves.{half_of, is_half_run, check_half, check_table_and_half}
use Rattle.halves.proofs.HalfRuns.{accepted_half}
use Rattle.halves.proofs.HalfBuffers.{accepted_held, held_copied}
use Rattle.formulas.specs.Formulas.{question_limit, quotient_limit, Legal, check_formula}
use Rattle.formulas.specs.Working.{sizes_over, forwards_in, Tree, tree_of}
use Rattle.formulas.proofs.Checking.{judged_formula, legal_tree, formula_length}
use Rattle.formulas.proofs.Operators.{tree-some}
use Rattle.formulas.proofs.ForwardCount.{nesting_forwards}
use Rattle.formulas.proofs.TreeSizes.{length_over}
use Rattle.formulas.proofs.Operands.{legal_part, legal_nesting}
use Rattle.dividing.specs.Quotients.{tree_by, quotient_by, answer_of, output_after, check_division}
use Rattle.dividing.specs.Working.{text, Ready, surely_fits}
use Rattle.dividing.proofs.QuotientSize.{quotient-size}
use Rattle.dividing.proofs.Answers.{text-length, too_large, too_short, enough_room, text_output_lem, refused_kept}
use Rattle.std.specs.Prelude.{Err, Ok, Some}

-- the order of the checks
module _ (k : Labels) (t h f : List ℕ) where
  pub labels_refused : (x : Refusal) → check_labels k ≡ Err x → Err x ≡ check_division k t h f
  unfolding check_division first_of
  labels_refused x e = rw e

  module _ (e : check_labels k ≡ Ok tt) where
    -- the question is sound: the table and the half of it are left
    pub question_sound : (c : Check) → check_formula k question_limit f ≡ Ok tt → c ≡ check_table_and_half k t h
        → c ≡ check_division k t h f
    unfolding check_division check_table_and_half first_of
    question_sound c q p = rw (e, q) p

    -- it is not: the table's numbers come before its own
    pub question_refused : (x : Refusal) → check_formula k question_limit f ≡ Err x
        → then_of (check_table k t) (Err x) ≡ check_division k t h f
    unfolding check_division first_of
    question_refused x q = rw (e, q)

  -- what no check refuses
  pub division_sound : check_division k t h f ≡ Ok tt → SoundTable k t × (is_half_run t h ≡ true) × Legal k question_limit f
  unfolding check_division first_of check_half
  division_sound e =
      let (p, a) = both_sound (check_labels k) _ e in
      let (u, b) = both_sound (check_table k t) _ a in
      let (v, c) = both_sound (check_formula k question_limit f) _ b in (
        sound_table k t u,
        passed (is_half_run t h) _ (both_sound (check_half t h) (Ok tt) c).0,
        (judges (judged_formula k question_limit f)).0 v,
      )

-- the half in the buffer, once it is copied
pub half_copied : (t h : List ℕ) → is_half_run t h ≡ true → (ys zs : List ℕ) (n : ℕ) → length ys ≡ 409
    → n ≡ min (length h) (length ys) → zs ≡ take n h ++ drop n ys → take (length h) zs ≡ h
half_copied t h run ys zs n size count e =
    let a = accepted_half t h run in
    copied h zs _ (copied_whole h ys zs n (omega (arith, a.counted, a.few, a.odd, size)) count e)

module _ (labels : Labels) (t h f : List ℕ) (run : is_half_run t h ≡ true) (legal : Legal labels question_limit f)
  where
    -- the tree of the quotient
    pub tree : Formula
    tree = quotient (pairing labels) (table_of t) (tree_of f) (half_of h)

    tree_is : quotient_by labels t (half_of h) f ≡ Some tree
    unfolding quotient_by tree_by tree
    tree_is = rw (legal_tree labels question_limit f legal)

    -- neither 17 nor 18 with so many bytes lent
    abbrev pub Fits : ℕ → Type 0
    Fits room = (size tree ≤ quotient_limit) × (2 * size tree ≤ room)

    -- a question without forward modalities has at least the nodes of its quotient, and 64 at most
    pub sure_fits : (room : ℕ) → surely_fits f room ≡ true → Fits room
    unfolding surely_fits tree Legal Tree
    sure_fits room e =
        let (long, None) = both_true {a = leb (length f) room} e in
        let (φ, s, z, l, d) = legal in
        let flat : nesting (tree_of f) ≡ 0 = omega
        (arith, nesting_forwards f (φ, [], s), eqb-true (forwards_in f) _ None) in
        omega (
          arith,
          quotient-size (pairing labels) (table_of t) (tree_of f) (half_of h) flat,
          tree-some f (φ, [], s),
          formula_length f φ s,
          z,
          leb-true (length f) room long,
        )

    module _ (xs : List ℕ) (c : take (length h) xs ≡ h) where
      -- the copied half and the question are ready for the count and the writing
      pub question_ready : (sizes : List ℕ) → length sizes ≡ 64 → length xs ≡ 409
          → Ready (sizes_over f sizes) xs (length h) 0 f
      question_ready sizes z w =
          let a = accepted_half t h run in
          let n : length h ≤ 401 = omega (arith, a.counted, a.few, a.odd) in
          record {
            part = legal_part labels question_limit f legal sizes (omega (arith, z));
            held = held_copied h xs (length h) (accepted_held t h run) (c ∙ sym (take-length h)) (omega (arith, n, w));
            room = omega (arith, legal_nesting labels question_limit f legal, n, w);
            size = w;
            slots = length_over f sizes ∙ z;
          }

      text_is : text labels t f (half_of (take (length h) xs)) ≡ spell tree []
      unfolding text tree
      text_is = rw c

      text-size : length (text labels t f (half_of (take (length h) xs))) ≡ 2 * size tree
      text-size = omega (arith, ap length text_is, length-spell tree [])

      -- what the count says of the size
      module _ (n : ℕ) (e : 2 * n ≡ min (length (text labels t f (half_of (take (length h) xs)))) (2 * 4096 + 2)) where
        pub answer_large : (out : List ℕ) → 4096 < n
            → (Err QuotientTooLarge
            ≡ answer_of (Ok tt) (quotient_by labels t (half_of h) f) (length out))
            × (out ≡ output_after (Ok tt) (quotient_by labels t (half_of h) f) out)
        answer_large out h =
            rw tree_is (let a = too_large tree (omega (arith, e, text-size, h))
            (length out) in (sym a, refused_kept (Ok tt) (Some tree) out QuotientTooLarge a))

        module _ (small : n ≤ 4096) where
          counted-size : n ≡ size tree
          counted-size = omega (arith, e, text-size, small)

          pub answer_short : (out : List ℕ) → length out < 2 * n
              → (Err OutputTooShort
              ≡ answer_of (Ok tt) (quotient_by labels t (half_of h) f) (length out))
              × (out ≡ output_after (Ok tt) (quotient_by labels t (half_of h) f) out)
          answer_short out h =
              rw tree_is (let a = too_short tree (omega (arith, counted-size, small)) (length out)
              (omega (arith, counted-size, h)) in (sym a, refused_kept (Ok tt) (Some tree) out OutputTooShort a))

          -- what is counted within the limit and the room fits
          pub counted-fits : (out : List ℕ) → 2 * n ≤ length out → Fits (length out)
          counted-fits out room = omega (arith, counted-size, small, room)

      module _ (out : List ℕ) (fits : Fits (length out)) where
        -- a quotient that fits is written, and its length is the answer
        pub text-fits : length (text labels t f (half_of (take (length h) xs))) ≤ length out
        text-fits = omega (arith, text-size, fits)

        pub answer_written : (m : ℕ) (zs : List ℕ) → m ≡ length (text labels t f (half_of (take (length h) xs)))
            → zs ≡ in_front (text labels t f (half_of (take (length h) xs))) out
            → (Ok m ≡ answer_of (Ok tt) (quotient_by labels t (half_of h) f) (length out))
            × (zs ≡ output_after (Ok tt) (quotient_by labels t (half_of h) f) out)
        unfolding in_front
        answer_written m zs p q =
            let (s, r) = fits in
            rw tree_is (
              rw (p, text-size) (sym (enough_room tree s (length out) r)),
              q ∙ rw (text_is, text-length tree) (sym (text_output_lem tree s out r)),
            )
