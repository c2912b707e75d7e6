-- The operators: what a call for an operand may rely on, and the verdict from those of the operands.
use Prim.Native.Nat.{ℕ, ◌+◌, ◌-◌, ◌*◌, ◌%◌, ◌≤◌, max}
use mathlib.Core.Path.{◌≡◌, refl, sym, ◌∙◌, ap}
use mathlib.Core.Logic.{⊎_elim}
use mathlib.Core.Bool.{Bool, true, false, ◌&&◌, ◌||◌, not as negate, or-false, false≢true, beq}
use mathlib.Core.List.{List}
use native.Mathlib.Omega.{arith}
use lib.ListN.{length, get_or, take, drop}
use lib.Dec.{eqb, leb}
use borrow.Author.Tests.{leb-true}
use Rattle.hml.proofs.Tests.{both_true, decides, decided_or, decided_same}
use Rattle.hml.specs.System.{Run, ◌▸◌}
use Rattle.hml.specs.Formula.{Formula, not, fwd, fwd_idle, size, nesting, labelled, holds}
use Rattle.labels.specs.Labels.{count}
use Rattle.labels.proofs.Labels.{count_most}
use Rattle.labels.specs.declared.label.Labels.{Labels}
use Rattle.halves.specs.Runs.{step_of}
use Rattle.machines.specs.Joints.{joint_of}
use Rattle.machines.proofs.Buffers.{held_shorter}
use Rattle.machines.specs.Working.{Held}
use Rattle.formulas.specs.Operators.{is_forward, is_back, is_connective, is_modality}
use Rattle.formulas.specs.Working.{Tree, tree_of}
use Rattle.formulas.proofs.OperatorTable.{forward_numbers, back_numbers}
use Rattle.formulas.proofs.Operators.{Unary, Binary, at, node_room}
use Rattle.formulas.proofs.Operands.{AndOr, connected, tree-size, back_operand, and-or, modality_operator, two_up}
use Rattle.formulas.proofs.Operands.{nesting_connected, labelled_connected}
use Rattle.verdict.specs.Working.{Ready, Shown, Skips, goes_on, steps_back, has_two, judged, tree_at, text_of}
use Rattle.verdict.specs.Working.{operator_in, first_size_in}
use Rattle.verdict.proofs.Backs as backs
use Rattle.verdict.proofs.Words.{text-length, text-drop, text-behind, text-operator, text-label}
use Rattle.verdict.proofs.Words.{skips_fewer, skips-first}

-- which operator it is, by the tests that it passed or failed
neither : (a b : Bool) → (a || b) ≡ false → (a ≡ false) × (b ≡ false)
neither true b e = absurd (false≢true (sym e))
neither false b e = (refl, e)

pub two_operands : (o : ℕ) → goes_on o ≡ true → (o ≡ 2 → ⊥) → is_back o ≡ false → AndOr o
unfolding goes_on
two_operands o e n b = and-or o (sym (or-false _) ∙ (rw b at e)) n

pub looks-forward : (f : List ℕ) → Tree f → (o : ℕ) → get_or f 0 0 ≡ o → (o ≡ 0 → ⊥) → (o ≡ 1 → ⊥)
    → goes_on o ≡ false → is_forward o ≡ true
unfolding goes_on is_modality
looks-forward f t o e a b n =
    let (c, d) = neither (is_connective o) (is_back o) n in
    let m = modality_operator f t (rw e (two_up o a b)) (rw e c) in
    sym (or-false _) ∙ (rw (e, d) at m)

pub forward_five : (o : ℕ) → is_forward o ≡ true → (o ≡ 7 → ⊥) → o ≡ 5
forward_five o e n =
    ⊎_elim (λ z. z) (λ z. absurd (n z))
    ((decides (decided_or (decided_same o 5) (decided_same o 7))).0 (sym (forward_numbers o) ∙ e))

back-one_operand : (o : ℕ) → is_back o ≡ true → has_two o ≡ false
unfolding has_two
back-one_operand o e =
    ⊎_elim (λ z. rw z) (λ z. rw z)
    ((decides (decided_or (decided_same o 6) (decided_same o 8))).0 (sym (back_numbers o) ∙ e))

has_two_lem : (o : ℕ) → AndOr o → has_two o ≡ true
unfolding has_two
has_two_lem o w = ⊎_elim (λ e. rw e) (λ e. rw e) w

first_true : (a b : Bool) → (a && b) ≡ true → a ≡ true
first_true a b e = (both_true {a = a} {b = b} e).0

second_true : (a b : Bool) → (a && b) ≡ true → b ≡ true
second_true a b e = (both_true {a = a} {b = b} e).1

-- the first node of a tree that begins at a word
module _ (ws : List ℕ) (i : ℕ) (t : Tree (text_of ws i)) where
  pub some_node : 1 ≤ i
  some_node = omega (arith, node_room (text_of ws i) t, text-length ws i)

  pub operator_read : get_or (text_of ws i) 0 0 ≡ operator_in (get_or ws i 0)
  operator_read = text-operator ws i some_node

  -- a label's operator is neither "and" nor "or"
  label_read_lem : (o : ℕ) → operator_in (get_or ws i 0) ≡ o → has_two o ≡ false → get_or (text_of ws i) 1 0 ≡ get_or ws i 0 % 256
  label_read_lem o e h = text-label ws i some_node (rw e h)

  -- what it is made of where it has one operand
  operand_is : (g : Formula → Formula) → Unary (text_of ws i) g → tree_at ws i ≡ g (tree_at ws (i - 1))
  operand_is g u = let e = u.is in rw (text-behind ws i some_node) at e

  pub operand_tree : (g : Formula → Formula) → Unary (text_of ws i) g → Tree (text_of ws (i - 1))
  operand_tree g u = let e = u.operand in rw (text-behind ws i some_node) at e

  -- and where it has two: the second begins where the first one ends, which the word tells
  module _ (s : Skips ws i) (o : AndOr (operator_in (get_or ws i 0))) where
    two : Binary (text_of ws i) (connected (operator_in (get_or ws i 0)))
    two = ⊎_elim
        (λ e. rw e (at (text_of ws i) t 3 (operator_read ∙ e)))
        (λ e. rw e (at (text_of ws i) t 4 (operator_read ∙ e))) o

    first-tree : Tree (text_of ws (i - 1))
    first-tree = let e = two.first in rw (text-behind ws i some_node) at e

    first-size : first_size_in (get_or ws i 0) ≡ size (tree_at ws (i - 1))
    first-size = skips-first ws i some_node s (has_two_lem _ o) ∙ tree-size (text_of ws (i - 1)) first-tree

    pub second_begins : 2 + first_size_in (get_or ws i 0) ≤ i
    second_begins =
        let e = two.room in
        let room = rw (text-behind ws i some_node) at e in
        omega (arith, room, first-size, text-length ws i)

    second_text : drop (2 * size (tree_of (drop 2 (text_of ws i)))) (drop 2 (text_of ws i))
        ≡ text_of ws (i - 1 - first_size_in (get_or ws i 0))
    second_text =
        rw (text-behind ws i some_node, ← first-size)
        (text-drop ws (first_size_in (get_or ws i 0)) (i - 1) (omega (arith, second_begins)))

    second_tree : Tree (text_of ws (i - 1 - first_size_in (get_or ws i 0)))
    second_tree = let e = two.second in rw second_text at e

    operands_are : tree_at ws i
        ≡ connected (operator_in (get_or ws i 0)) (tree_at ws (i - 1)) (tree_at ws (i - 1 - first_size_in (get_or ws i 0)))
    operands_are = let e = two.is in rw (second_text, text-behind ws i some_node) at e

-- what a call for an operand may rely on
module _ (k : Labels) (ws xs : List ℕ) (n i : ℕ) (y : Ready k ws xs n 0 i) where
  abbrev w : ℕ
  w = get_or ws i 0

  -- the operand of a modality or of "not"
  operand_ready : (g : Formula → Formula) → Unary (text_of ws i) g → (m more : ℕ) → Held xs m
      → (labelled (count k) (g (tree_at ws (i - 1))) ≡ true → labelled (count k) (tree_at ws (i - 1)) ≡ true)
      → m + 3 * (more + nesting (tree_at ws (i - 1))) ≤ n + 3 * nesting (g (tree_at ws (i - 1)))
      → Ready k ws xs m more (i - 1)
  operand_ready g u m more h l room =
      let e = operand_is ws i y.tree g u in
      let ranged = y.ranged in
      record {
        tree = operand_tree ws i y.tree g u;
        ranged = l (rw e at ranged);
        skips = skips_fewer ws i (i - 1) (omega arith) y.skips;
        held = h;
        room = omega (arith, room, ap nesting e, y.room);
        size = y.size;
        few = omega (arith, y.few);
      }

  abbrev here : (o : ℕ) → operator_in w ≡ o → get_or (text_of ws i) 0 0 ≡ o
  here o e = operator_read ws i y.tree ∙ e

  pub not_ready : operator_in w ≡ 2 → Ready k ws xs n 0 (i - 1)
  unfolding labelled nesting
  not_ready e = operand_ready not (at (text_of ws i) y.tree 2 (here 2 e)) n 0 y.held (λ l. l) (omega arith)

  -- a label byte is one of the labels
  label_low : (g : ℕ → Formula → Formula) → ((a : ℕ) (φ : Formula)
      → labelled (count k) (g a φ) ≡ (leb a (count k) && labelled (count k) φ))
      → Unary (text_of ws i) (g (get_or (text_of ws i) 1 0)) → get_or (text_of ws i) 1 0 ≤ 254
  label_low g d u =
      let a = get_or (text_of ws i) 1 0 in
      let ranged = y.ranged in
      let whole = rw (operand_is ws i y.tree (g a) u, d a (tree_at ws (i - 1))) at ranged in
      omega (arith, leb-true a (count k) (first_true _ (labelled (count k) (tree_at ws (i - 1))) whole), count_most k)

  pub forward_ready : operator_in w ≡ 5 → Ready k ws xs n 1 (i - 1) × Shown (w % 256)
  unfolding labelled nesting has_two
  forward_ready e =
      let a = get_or (text_of ws i) 1 0 in
      let u = at (text_of ws i) y.tree 5 (here 5 e) in
      let low = label_low fwd (λ a φ. refl) u in (
        operand_ready (fwd a) u n 1 y.held (second_true (leb a (count k)) _) (omega arith),
        λ z. omega (arith, low, label_read_lem ws i y.tree 5 e refl, z),
      )

  pub idle_ready : operator_in w ≡ 7 → Ready k ws xs n 1 (i - 1)
  unfolding labelled nesting
  idle_ready e = operand_ready fwd_idle (at (text_of ws i) y.tree 7 (here 7 e)) n 1 y.held (λ l. l) (omega arith)

  pub back_ready : is_back (operator_in w) ≡ true → 5 ≤ n → Ready k ws xs (n - 3) 0 (i - 1)
  back_ready o l =
      let x = back_operand (text_of ws i) y.tree (rw (operator_read ws i y.tree) o) in
      operand_ready x.over x.tree (n - 3) 0 (held_shorter xs n y.held l) (x.ranged (count k) _)
      (omega (arith, x.nests (tree_at ws (i - 1))))

  -- the operands of "and" and "or"
  module _ (o : AndOr (operator_in w)) where
    both : tree_at ws i ≡ connected (operator_in w) (tree_at ws (i - 1)) (tree_at ws (i - 1 - first_size_in w))
    both = operands_are ws i y.tree y.skips o

    both-ranged : (labelled (count k) (tree_at ws (i - 1)) ≡ true)
        × (labelled (count k) (tree_at ws (i - 1 - first_size_in w)) ≡ true)
    both-ranged =
        both_true (sym (ap (labelled (count k)) both ∙ labelled_connected (count k) (operator_in w) _ _) ∙ y.ranged)

    both-room : n + 3 * max (nesting (tree_at ws (i - 1))) (nesting (tree_at ws (i - 1 - first_size_in w))) ≤ length xs
    both-room = omega (arith, y.room, ap nesting both ∙ nesting_connected (operator_in w) _ _)

    pub first_ready : Ready k ws xs n 0 (i - 1)
    first_ready = record {
      tree = first-tree ws i y.tree y.skips o;
      ranged = both-ranged.0;
      skips = skips_fewer ws i (i - 1) (omega arith) y.skips;
      held = y.held;
      room = omega (arith, both-room);
      size = y.size;
      few = omega (arith, y.few);
    }

    pub second_ready : Ready k ws xs n 0 (i - 1 - first_size_in w)
    second_ready = record {
      tree = second_tree ws i y.tree y.skips o;
      ranged = both-ranged.1;
      skips = skips_fewer ws i (i - 1 - first_size_in w) (omega arith) y.skips;
      held = y.held;
      room = omega (arith, both-room);
      size = y.size;
      few = omega (arith, y.few);
    }

-- the verdict from those of the operands
module _ (labels : Labels) (l r ws : List ℕ) (i : ℕ) (j : Run (ℕ × ℕ)) (t : Tree (text_of ws i)) where
  abbrev it : (o : ℕ) → operator_in (get_or ws i 0) ≡ o → get_or (text_of ws i) 0 0 ≡ o
  it o e = operator_read ws i t ∙ e

  pub judged-top : operator_in (get_or ws i 0) ≡ 0 → true ≡ judged labels l r (tree_at ws i) j
  unfolding judged holds
  judged-top e = rw (at (text_of ws i) t 0 (it 0 e))

  pub judged-bottom : operator_in (get_or ws i 0) ≡ 1 → false ≡ judged labels l r (tree_at ws i) j
  unfolding judged holds
  judged-bottom e = rw (at (text_of ws i) t 1 (it 1 e))

  pub judged-not : (b : Bool) → operator_in (get_or ws i 0) ≡ 2 → b ≡ judged labels l r (tree_at ws (i - 1)) j
      → negate b ≡ judged labels l r (tree_at ws i) j
  unfolding judged holds
  judged-not b e p = rw (operand_is ws i t not (at (text_of ws i) t 2 (it 2 e))) (ap negate p)

  pub judged-forward : (b : Bool) → operator_in (get_or ws i 0) ≡ 5
      → b ≡ judged labels l r (fwd (get_or ws i 0 % 256) (tree_at ws (i - 1))) j → b ≡ judged labels l r (tree_at ws i) j
  unfolding has_two
  judged-forward b e p =
      rw (operand_is ws i t (fwd (get_or (text_of ws i) 1 0)) (at (text_of ws i) t 5 (it 5 e)), label_read_lem ws i t 5 e refl)
      p

  pub judged-idle : (b : Bool) (u : ℕ × ℕ) → operator_in (get_or ws i 0) ≡ 7
      → b ≡ judged labels l r (tree_at ws (i - 1)) (j ▸ step_of 255 u) → b ≡ judged labels l r (tree_at ws i) j
  unfolding judged holds step_of
  judged-idle b u e p = rw (operand_is ws i t fwd_idle (at (text_of ws i) t 7 (it 7 e))) p

  -- "and" and "or": the first operand settles it, or the second does
  module _
      (s : Skips ws i) (o : AndOr (operator_in (get_or ws i 0))) (a : Bool)
      (p : a ≡ judged labels l r (tree_at ws (i - 1)) j) where
    first-judged : a ≡ judged labels l r (tree_of (drop 2 (text_of ws i))) j
    first-judged = rw (text-behind ws i (some_node ws i t)) p

    pub judged_settled : beq a (eqb (operator_in (get_or ws i 0)) 4) ≡ true → a ≡ judged labels l r (tree_at ws i) j
    unfolding judged holds
    judged_settled q = ⊎_elim
        (λ e. rw ((at (text_of ws i) t 3 (it 3 e)).is, ← first-judged) (settled a _ (rw e at q)))
        (λ e. rw ((at (text_of ws i) t 4 (it 4 e)).is, ← first-judged) (settled_or a _ (rw e at q))) o
      where
        settled : (a c : Bool) → beq a false ≡ true → a ≡ (a && c)
        settled true c s = absurd (false≢true s)
        settled false c s = refl

        settled_or : (a c : Bool) → beq a true ≡ true → a ≡ (a || c)
        settled_or true c s = refl
        settled_or false c s = absurd (false≢true s)

    pub judged_second : beq a (eqb (operator_in (get_or ws i 0)) 4) ≡ false
        → judged labels l r (tree_at ws (i - 1 - first_size_in (get_or ws i 0))) j ≡ judged labels l r (tree_at ws i) j
    unfolding judged holds
    judged_second q = ⊎_elim
        (λ z. rw (operands_are ws i t s o, z, ← p, open_and a (rw z at q)))
        (λ z. rw (operands_are ws i t s o, z, ← p, open_or a (rw z at q))) o
      where
        open_and : (a : Bool) → beq a false ≡ false → a ≡ true
        open_and true s = refl
        open_and false s = absurd (false≢true (sym s))

        open_or : (a : Bool) → beq a true ≡ false → a ≡ false
        open_or true s = absurd (false≢true (sym s))
        open_or false s = refl

-- a back modality, on the run in the first n bytes of xs
module _ (k : Labels) (l r ws xs : List ℕ) (n i : ℕ) (y : Ready k ws xs n 0 i)
    (o : is_back (operator_in (get_or ws i 0)) ≡ true) where
  abbrev f : List ℕ
  f = text_of ws i

  -- the word has both bytes of its node
  asked : (b : Bool) → b ≡ steps_back (operator_in (get_or ws i 0)) (get_or ws i 0 % 256) xs n
      → b ≡ steps_back (get_or f 0 0) (get_or f 1 0) xs n
  asked b g = rw (operator_read ws i y.tree, label_read_lem ws i y.tree _ refl (back-one_operand _ o)) g

  back-here : is_back (get_or f 0 0) ≡ true
  back-here = rw (operator_read ws i y.tree) o

  -- as the code asks: a run too short, or another last step
  module _ (b : Bool) (g : b ≡ steps_back (operator_in (get_or ws i 0)) (get_or ws i 0 % 256) xs n) where
    pub back_other : b ≡ false → false ≡ judged k l r (tree_at ws i) (joint_of (take n xs))
    unfolding judged
    back_other e =
        backs.back_other _ (count k) f xs n y.tree (count_most k) y.ranged y.held back-here b (asked b g) e

    pub back_long : b ≡ true → 5 ≤ n
    back_long e = backs.back_long xs n _ _ b (asked b g) e

    pub back-same : b ≡ true
        → judged k l r (tree_at ws (i - 1)) (joint_of (take (n - 3) xs))
        ≡ judged k l r (tree_at ws i) (joint_of (take n xs))
    unfolding judged
    back-same e =
        rw (← text-behind ws i (some_node ws i y.tree))
        (backs.back-same _ (count k) f xs n y.tree (count_most k) y.ranged y.held back-here b (asked b g) e)
