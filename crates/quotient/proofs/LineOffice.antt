-- The line office: what its checks let through, that both verdicts are then given and the same, and its answers.
use Prim.Native.Nat.{ℕ, ◌*◌, ◌≤◌}
use mathlib.Core.Path.{◌≡◌, refl, sym, ◌∙◌, ap}
use mathlib.Core.Bool.{Bool, true, false}
use mathlib.Core.List.{List, [], ◌∷◌}
use native.Mathlib.Omega.{arith}
use lib.ListN.{length, take}
use lib.Dec.{ltb}
use borrow.Author.Tests.{le-ltb, ltb-false}
use Rattle.hml.proofs.Tests.{apart}
use Rattle.hml.specs.System.{steps}
use Rattle.hml.specs.Formula.{Formula}
use Rattle.hml.specs.Compose.{paired}
use Rattle.hml.proofs.Composition.{Join}
use Rattle.hml.specs.Spell.{spell}
use Rattle.hml.proofs.Joins.{join-steps}
use Rattle.labels.specs.Labels.{pairing}
use Rattle.labels.specs.Refusals.{then_of, first_of, refused_if, Check}
use Rattle.labels.specs.declared.refusal.Refusal.{Refusal}
use Rattle.labels.specs.declared.refusal.Refusal.TheVariants.{QuotientTooLarge, OutputTooShort}
use Rattle.labels.proofs.Refusals.{both_sound, passed, unrefused}
use Rattle.labels.specs.declared.label.Labels.{Labels}
use Rattle.halves.specs.Halves.{half_of, is_half_run, check_half}
use Rattle.halves.specs.Cuts.{known_of, known_part, other_part}
use Rattle.halves.specs.declared.side.Side.{Side}
use Rattle.halves.specs.declared.side.Known.{Known}
use Rattle.halves.specs.declared.side.Known.TheVariants as known
use Rattle.halves.proofs.Cuts.{cut-points}
use Rattle.machines.specs.Joints.{joint_of}
use Rattle.machines.specs.Cases.{case_with}
use Rattle.verdict.specs.Verdicts.{verdict_of, joint_verdict, half_verdict}
use Rattle.joining.specs.Joinings.{join_bytes, check_halves}
use Rattle.splitting.proofs.LogRuns.{sound_halves, halves_join, joined_read}
use Rattle.splitting.proofs.AllSplittings.{joined-log}
use Rattle.dividing.specs.Quotients.{nodes_of, text_of, check_size, check_tree, written, answer_of}
use Rattle.quotient.specs.Calls.{tree_by_half, check_by_half, by_half, by_half_output, line_holds, machine_holds}
use Rattle.quotient.specs.Calls.{check_line, verdicts_of, office_of, Same}
use Rattle.quotient.proofs.QuotientCalls.{by_half_checked}
use Rattle.quotient.proofs.Quotients.{verdict-kept}
use Rattle.quotient.proofs.GivenVerdicts.{joint-holds, half_holds_lem}
use Rattle.quotient.proofs.DemandThree.{demand_three, written_agrees}
use Rattle.quotient.specs.Demand.{Decomposed}
use Rattle.std.specs.Prelude.{Err, Ok, Option, Result}

-- an answer and the checks behind it
written_refused : (c : Check) (m : ℕ) (x : Refusal) → written c m ≡ Err x → c ≡ Err x
written_refused (Ok _) m x e = absurd (apart cc)
written_refused (Err y) m x e = let z : y ≡ x = cc in ap Err z

written_told : (c : Check) (m n : ℕ) → written c m ≡ Ok n → (c ≡ Ok tt) × (m ≡ n)
written_told (Ok _) m n e = (refl, cc)
written_told (Err y) m n e = absurd (apart cc)

-- with two bytes lent for each node of the limit there is no 18
no_short : (parts : Check) (tree : Option Formula) (room : ℕ) → 8192 ≤ room
    → check_tree parts tree room ≡ first_of (parts ∷ check_size tree ∷ [])
unfolding check_tree check_size first_of
no_short parts tree room h = ap (then_of parts) (go (ltb 4096 (nodes_of tree)) refl)
  where
    go : (b : Bool) → ltb 4096 (nodes_of tree) ≡ b
        → then_of (refused_if b QuotientTooLarge) (then_of (refused_if (ltb room (2 * nodes_of tree)) OutputTooShort) (Ok tt))
        ≡ then_of (refused_if b QuotientTooLarge) (Ok tt)
    go true e = refl
    go false e = rw (le-ltb room (2 * nodes_of tree) (omega (arith, ltb-false 4096 (nodes_of tree) e)))

-- what is said of an answer is said of its equal
pub given_same : {x y z : Result (Bool × Bool) Refusal} → x ≡ y → (y ≡ z) × Same y → (x ≡ z) × Same x
given_same e t = (e ∙ t.0, rw e t.1)

-- the verdict on the machine as the line office answers both
abbrev pub both_of : Result Bool Refusal → Result (Bool × Bool) Refusal
both_of (Ok b) = Ok (b, b)
both_of (Err x) = Err x

module _ (k : Labels) (l r a b f : List ℕ) (side : Side) (point : ℕ) where
  -- the log that the halves join to
  abbrev log : List ℕ
  log = join_bytes k a b

  abbrev tree : Option Formula
  tree = tree_by_half k l r a b f side point

  -- where the line office refuses nothing, demand 3 applies
  module _ (e : check_line k l r a b f side point ≡ Ok tt) where
    parts_sound : check_by_half k l r a b f side point ≡ Ok tt
    unfolding check_line first_of
    parts_sound = (both_sound (check_by_half k l r a b f side point) _ e).0

    halves_sound : check_halves k l r a b ≡ Ok tt
    halves_sound = (by_half_checked k l r a b f side point parts_sound).1

    point_within : point ≤ steps (joint_of log)
    unfolding check_half
    point_within =
        let parts = (by_half_checked k l r a b f side point parts_sound).0 in
        let halves = sound_halves k l r a b halves_sound in
        let (m, n) = join-steps (pairing k) paired (halves_join halves).0 in
        let h = passed (is_half_run (known_part l r (known_of side)) (known_part a b (known_of side))) _ parts.half in
        let i = ltb-false _ _
        (sym (cut-points (known_part a b (known_of side)) point (known_part l r (known_of side)) h) ∙ parts.within) in
        rw (joined_read halves) (go (known_of side) m n i)
      where
        go : {j : ℕ} (known : Known) → steps (half_of a) ≡ j → steps (half_of b) ≡ j
            → point ≤ steps (half_of (known_part a b known)) → point ≤ j
        go known.Left m n i = omega (arith, m, i)
        go known.Right m n i = omega (arith, n, i)

    demand : Decomposed (case_with k l r log f) a b side point (by_half k l r a b f side point)
        (by_half_output k l r a b f side point)
    demand =
        (demand_three (case_with k l r log f) side point (joined-log k l r a b halves_sound)
        (by_half_checked k l r a b f side point parts_sound).0.question point_within).by_halves a b halves_sound refl

    small : nodes_of tree ≤ 4096
    unfolding check_line check_size first_of
    small =
        let (s, _) = both_sound (refused_if (ltb 4096 (nodes_of tree)) _) _
        (both_sound (check_by_half k l r a b f side point) _ e).1 in
        ltb-false 4096 _ (unrefused _ _ s)

    -- the verdict on the line is given
    line-verdict : joint_verdict k l r log f point ≡ verdict_of (line_holds k l r a b f point)
    unfolding line_holds
    line-verdict =
        demand.verdict ∙ ap verdict_of (sym (joint-holds k f demand.question demand.asked point l r log))

    -- and that on the machine is the same
    pub verdicts_same : line_holds k l r a b f point ≡ machine_holds k l r a b f side point
    unfolding line_holds machine_holds text_of
    verdicts_same =
        let halves = sound_halves k l r a b halves_sound in
        let join : Join (pairing k) paired (half_of a) (half_of b) (joint_of log) = rw (joined_read halves)
        (halves_join halves).0 in
        joint-holds k f demand.question demand.asked point l r log
        ∙ verdict-kept k l r a b (known_of side) demand.question (joint_of log) point join
        ∙ rw (
          demand.found,
          half_holds_lem k (spell demand.tree []) demand.tree refl point (other_part l r (known_of side))
              (other_part a b (known_of side)),
          demand.divided,
        )

    -- under the bytes that were written
    machine-verdict : (n : ℕ) (out : List ℕ) → by_half k l r a b f side point (length out) ≡ Ok n
        → half_verdict k (other_part l r (known_of side)) (other_part a b (known_of side))
        (take n (by_half_output k l r a b f side point out)) point
        ≡ verdict_of (machine_holds k l r a b f side point)
    machine-verdict n out told =
        written_agrees demand out n told ∙ line-verdict ∙ ap verdict_of verdicts_same

  -- whatever is refused, the two answers of the line office are the same where both are given
  pub answers_same : Same (office_of k l r a b f side point)
  unfolding office_of Same
  answers_same = go (check_line k l r a b f side point) refl
    where
      go : (c : Check) → check_line k l r a b f side point ≡ c
          → Same (verdicts_of c (line_holds k l r a b f point) (machine_holds k l r a b f side point))
      go (Ok _) e = verdicts_same e
      go (Err x) e = tt

  -- the checks of the quotient, with room for every quotient, are those of the line office
  module _ (room n : ℕ) (told : by_half k l r a b f side point room ≡ Ok n) (enough : 8192 ≤ room) where
    line_sound : check_line k l r a b f side point ≡ Ok tt
    unfolding by_half answer_of check_line
    line_sound = sym (no_short (check_by_half k l r a b f side point) tree room enough) ∙ (written_told _ _ n told).0

    -- the bytes written have room
    pub line-room : n ≤ room
    unfolding by_half answer_of
    line-room =
        omega (
          arith,
          (written_told (check_tree (check_by_half k l r a b f side point) tree room) _ n told).1,
          small line_sound,
          enough,
        )

  -- the answers
  pub line_refused : (room : ℕ) (x : Refusal) → by_half k l r a b f side point room ≡ Err x → 8192 ≤ room
      → (Err x ≡ office_of k l r a b f side point) × Same (Err x)
  unfolding by_half answer_of office_of check_line Same
  line_refused room x told enough =
      let c = sym (no_short (check_by_half k l r a b f side point) tree room enough)
      ∙ written_refused _ _ x told in (rw c, tt)

  pub line-answered : (out text : List ℕ) (n : ℕ) → by_half k l r a b f side point (length out) ≡ Ok n
      → text ≡ by_half_output k l r a b f side point out
      → (t h : List ℕ) → t ≡ other_part l r (known_of side) → h ≡ other_part a b (known_of side) → (m : Result Bool Refusal)
      → m ≡ half_verdict k t h (take n text) point
      → (q : Result (Bool × Bool) Refusal) → q ≡ both_of m → 8192 ≤ length out → (q ≡ office_of k l r a b f side point) × Same q
  unfolding office_of
  line-answered out text n told e t h u v m y q z enough = (given, rw given answers_same)
    where
      given : q ≡ office_of k l r a b f side point
      given =
          let sound = line_sound (length out) n told enough in
          z ∙ rw (y, u, v, e, machine-verdict sound n out told, sound, verdicts_same sound)
