-- Demand 3: the verdict on a log stopped at a point is the verdict on either half stopped there, under the very bytes
-- written as the quotient by the other half stopped there. One theorem, `demand_three`, over the definitions that the
-- public calls promise to answer, for every accepted log, every point of it, every splitting and both known sides, and
-- where no side is named; for that call it is spelled out in `unnamed_agrees` (Unnamed).
use Prim.Native.Nat.{ℕ, ◌*◌, ◌≤◌}
use mathlib.Core.Bool.{Bool, true, false}
use mathlib.Core.Path.{◌≡◌, refl, sym, ◌∙◌, ap}
use mathlib.Core.List.{List, []}
use lib.ListN.{length, take, drop}
use lib.Dec.{ltb}
use borrow.Author.Tests.{ltb-true, ltb-false}
use Rattle.hml.proofs.Tests.{apart}
use Rattle.hml.specs.System.{steps, stop}
use Rattle.hml.specs.Formula.{Formula, size, holds}
use Rattle.hml.specs.Compose.{beside}
use Rattle.labels.specs.Labels.{pairing}
use Rattle.hml.specs.Spell.{spell}
use Rattle.hml.specs.Quotient.{quotient}
use Rattle.labels.specs.declared.label.Labels.{Labels}
use Rattle.tables.specs.Tables.{table_of}
use Rattle.halves.specs.Halves.{half_of}
use Rattle.halves.specs.Cuts.{known_of, known_part, other_part, cut_of}
use Rattle.halves.specs.declared.side.Side.{Side}
use Rattle.halves.proofs.Cuts.{cut_stopped}
use Rattle.machines.specs.Joints.{joint_of}
use Rattle.machines.specs.Cases.{Case, case_with}
use Rattle.formulas.specs.Formulas.{question_limit, quotient_limit, check_formula}
use Rattle.verdict.specs.Verdicts.{verdict_of, joint_verdict, half_verdict}
use Rattle.joining.specs.Joinings.{join_bytes, check_halves}
use Rattle.splitting.specs.Splittings.{splitting_limit, check_log, left_half, right_half}
use Rattle.splitting.proofs.AllSplittings.{splitting_joins}
use Rattle.dividing.specs.Quotients.{answer_of, output_after}
use Rattle.dividing.proofs.Answers.{refused_kept, too_short, enough_room, text-written, rest_kept, exactly_too_large}
use Rattle.quotient.specs.Calls.{tree_by_half, by_half, by_half_output, tree_by_number, by_number, by_number_output}
use Rattle.quotient.proofs.Quotients.{tree-found, question_read, question-fits, quotient_fits, verdict-kept}
use Rattle.quotient.proofs.SplitRuns.{LogParts, log_parts, SplitRun, split-run, joint_call_sound}
use Rattle.quotient.proofs.SplitRuns.{by_number_sound, known_within, by_half_sound, half_call_sound}
use Rattle.quotient.proofs.GivenVerdicts.{joint-given, half_given}
use Rattle.quotient.specs.Demand.{DemandThree, Given, Decomposed, Demand, verdict_at}
use Rattle.labels.specs.declared.refusal.Refusal.{Refusal}
use Rattle.std.specs.Prelude.{Ok, Result, Some}

-- one splitting of a sound log and a legal question φ: a call whose checks pass does what the demand says
module _ (k : Labels) (l r s a b f : List ℕ) (side : Side) (point : ℕ) (log : LogParts k l r s)
    (within : point ≤ steps (joint_of s)) (split : SplitRun k l r s a b point) (φ : Formula) (asked : f ≡ spell φ [])
  where
    -- the tree of the quotient by the known half stopped at the point
    abbrev ψ : Formula
    ψ =
        quotient (pairing k) (table_of (known_part l r (known_of side))) φ
        (stop point (half_of (known_part a b (known_of side))))

    tree_is : tree_by_half k l r a b f side point ≡ Some ψ
    unfolding tree_by_half
    tree_is = tree-found k (known_part l r (known_of side)) (stop point (half_of (known_part a b (known_of side)))) f φ asked

    cut_is : half_of (cut_of a b side point) ≡ stop point (half_of (known_part a b (known_of side)))
    unfolding cut_of
    cut_is = cut_stopped (known_part a b (known_of side)) point (known_within k l r s a b point split (known_of side))

    module _ (legal : check_formula k question_limit f ≡ Ok tt) where
      log-verdict : joint_verdict k l r s f point
          ≡ verdict_of (holds (beside (pairing k) (table_of l) (table_of r)) φ (stop point (joint_of s)))
      log-verdict =
          joint-given k f φ asked point l r s (joint_call_sound k l r s log point within f (question-fits k f legal))

      -- the tree's bytes are a formula that verdicts take, and under them the verdict on the other half is that on the
      -- log
      other_verdict : size ψ ≤ quotient_limit
          → half_verdict k (other_part l r (known_of side)) (other_part a b (known_of side)) (spell ψ []) point
          ≡ joint_verdict k l r s f point
      other_verdict h =
          let fits = quotient_fits k (known_part l r (known_of side)) (stop point (half_of (known_part a b (known_of side))))
          f
          φ asked legal h in
          half_given k (spell ψ []) ψ refl point _ _
          (half_call_sound k l r s log point within (spell ψ []) a b split fits (known_of side))
          ∙ ap verdict_of (sym (verdict-kept k l r a b (known_of side) φ (joint_of s) point split.join))
          ∙ sym log-verdict

      module _ (answer : ℕ → Result ℕ Refusal) (output : List ℕ → List ℕ)
          (answers : (room : ℕ) → answer room ≡ answer_of (Ok tt) (Some ψ) room)
          (outputs : (out : List ℕ) → output out ≡ output_after (Ok tt) (Some ψ) out) where
        tree-given : size ψ ≤ quotient_limit → (out : List ℕ) → 2 * size ψ ≤ length out
            → Given (case_with k l r s f) a b side point answer output ψ out
        tree-given h out i =
            let bytes : take (2 * size ψ) (output out) ≡ spell ψ [] = ap (take (2 * size ψ)) (outputs out)
            ∙ text-written ψ h out i in
            record {
              written = answers (length out) ∙ enough_room ψ h (length out) i;
              spelled = bytes;
              kept = ap (drop (2 * size ψ)) (outputs out) ∙ rest_kept ψ h out i;
              agree =
                  ap (λ x. half_verdict k (other_part l r (known_of side)) (other_part a b (known_of side)) x point) bytes
                  ∙ other_verdict h;
            }

        decomposed : Decomposed (case_with k l r s f) a b side point answer output
        decomposed = record {
          question = φ;
          asked = asked;
          tree = ψ;
          divided = refl;
          found = tree_is;
          cut = cut_is;
          verdict = log-verdict;
          too_large = λ room. rw (answers room) (exactly_too_large ψ room);
          too_short = λ h room i. answers room ∙ too_short ψ h room i;
          untouched = λ out x e. outputs out ∙ sym (refused_kept (Ok tt) (Some ψ) out x (sym (answers (length out)) ∙ e));
          given = tree-given;
        }

-- demand 3, of the case of these parts
by_parts : (k : Labels) (l r s f : List ℕ) (side : Side) (point : ℕ) → check_log k l r s ≡ Ok tt
    → check_formula k question_limit f ≡ Ok tt → point ≤ steps (joint_of s)
    → Demand (case_with k l r s f) side point
unfolding by_half by_half_output by_number by_number_output tree_by_number splitting_limit
by_parts k l r s f side point log question within = record {
  by_halves = by_halves;
  by_splittings = λ n h. let (e, j, _, _, _) = splitting_joins k l r s n log h in by_halves _ _ e j;
  by_numbers = λ n h i.
      let (e, j, _, _, _) = splitting_joins k l r s n log h in
      let split = split-run k l r s _ _ point e j within in
      let tree = tree_is k l r s _ _ f side point parts within split φ asked in
      let sound = by_number_sound k l r s parts point within f question n h i in
      decomposed k l r s (left_half k l r s n) (right_half k l r s n) f side point parts within split φ asked question _ _
      (λ room. rw (sound, tree)) (λ out. rw (sound, tree));
}
  where
    parts : LogParts k l r s
    parts = log_parts k l r s log

    φ : Formula
    φ = (question_read k f question).0

    asked : f ≡ spell φ []
    asked = (question_read k f question).1

    by_halves : (a b : List ℕ) → check_halves k l r a b ≡ Ok tt → join_bytes k a b ≡ s
        → Decomposed (case_with k l r s f) a b side point (by_half k l r a b f side point)
        (by_half_output k l r a b f side point)
    by_halves a b e j =
        let split = split-run k l r s a b point e j within in
        let tree = tree_is k l r s a b f side point parts within split φ asked in
        let sound = by_half_sound k l r s parts point within f a b split question side in
        decomposed k l r s a b f side point parts within split φ asked question _ _ (λ room. rw (sound, tree))
        (λ out. rw (sound, tree))

-- demand 3
pub demand_three : DemandThree
demand_three c = by_parts c.labels c.left c.right c.run c.question

-- where a call that does as demand 3 says tells of n bytes written, the verdicts agree under these n bytes
pub written_agrees : {c : Case} {a b : List ℕ} {side : Side} {point : ℕ} {answer : ℕ → Result ℕ Refusal}
    {output : List ℕ → List ℕ} → Decomposed c a b side point answer output
    → (out : List ℕ) (n : ℕ) → answer (length out) ≡ Ok n
    → half_verdict c.labels (other_part c.left c.right (known_of side)) (other_part a b (known_of side))
    (take n (output out)) point
    ≡ verdict_at c point
written_agrees {c} {a} {b} {side} {point} {answer} {output} d out n told =
    go (ltb quotient_limit (size d.tree)) (ltb (length out) (2 * size d.tree)) refl refl
  where
    go : (large short : Bool) → ltb quotient_limit (size d.tree) ≡ large
        → ltb (length out) (2 * size d.tree) ≡ short
        → half_verdict c.labels (other_part c.left c.right (known_of side)) (other_part a b (known_of side))
        (take n (output out)) point
        ≡ verdict_at c point
    go true short e f =
        let refused = (d.too_large (length out)).1 (ltb-true _ _ e) in absurd (apart cc)
    go false true e f =
        let refused = d.too_short (ltb-false _ _ e) (length out) (ltb-true _ _ f) in absurd (apart cc)
    go false false e f =
        let given = d.given (ltb-false _ _ e) out (ltb-false _ _ f) in
        let same : n ≡ 2 * size d.tree = let z = sym told ∙ given.written in cc in rw same given.agree
