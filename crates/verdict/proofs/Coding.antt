-- The words of a formula, written in two loops: the size of each tree, from the last node on, then in its place the
-- word of each node, from the first one on.
use Prim.Native.Nat.{ℕ, zero, suc, ◌+◌, ◌-◌, ◌*◌, ◌/◌, ◌≤◌, ◌<◌}
use mathlib.Core.Path.{◌≡◌, refl, sym, ◌∙◌, ap}
use mathlib.Core.Bool.{Bool, true, false, cond, false≢true}
use mathlib.Core.List.{List, [], ◌∷◌}
use native.Mathlib.Omega.{arith}
use lib.ListN.{length, get_or, drop, set, length-set}
use lib.Seq.{get_or-set_same, get_or-set_other}
use lib.Dec.{eqb, leb}
use borrow.Author.Tests.{eqb-true, eqb-false}
use Rattle.formulas.specs.Operators.{is_forward}
use Rattle.formulas.specs.Working.{tree_size, forwards_in}
use Rattle.formulas.proofs.TreeSizes.{split, short_size}
use Rattle.verdict.specs.Working.{operator_in, first_size_in, has_two, label_in, text_of, Skips, Coded, Whole}
use Rattle.verdict.specs.Working.{last_nodes, SizesIn, size_by, word_of}
use Rattle.verdict.proofs.Nodes.{Node, last-length, last-from, last_none, last-drop}
use Rattle.verdict.proofs.Nodes.{whole_nodes, last_fits, here-few, here_node, here-operator, here_label}
use Rattle.verdict.proofs.Nodes.{here-behind, here-room}

-- a node looks forward or does not, and so on for those behind it; no more do than there are nodes
first-forward : (f : List ℕ) → 2 ≤ length f → forwards_in f ≡ cond (is_forward (get_or f 0 0)) 1 0 + forwards_in (drop 2 f)
unfolding forwards_in
first-forward [] h = absurd (omega arith)
first-forward (o ∷ []) h = absurd (omega arith)
first-forward (o ∷ a ∷ f) h = refl

one_at_most : (b : Bool) → cond b 1 0 ≤ 1
one_at_most true = omega arith
one_at_most false = omega arith

forwards_few : (f : List ℕ) → 2 * forwards_in f ≤ length f
unfolding forwards_in
forwards_few [] = omega arith
forwards_few (o ∷ []) = omega arith
forwards_few (o ∷ a ∷ f) = omega (arith, one_at_most (is_forward o), forwards_few f)

-- the second operand's size counts where there is a second operand
second_counts : (o first m n : ℕ) → (has_two o ≡ true → m ≡ n) → size_by o first m ≡ size_by o first n
unfolding size_by
second_counts o first m n h = go (has_two o) refl
  where
    go : (b : Bool) → has_two o ≡ b
        → cond (leb o 1) 1 (cond (has_two o) (1 + first + m) (1 + first))
        ≡ cond (leb o 1) 1 (cond (has_two o) (1 + first + n) (1 + first))
    go true e = rw (h e)
    go false e = rw e

-- a list with another element behind the sizes has them too, and one more if that is the next size
sizes_kept : (ws f : List ℕ) (n j v : ℕ) → n < j → SizesIn ws f n → SizesIn (set ws j v) f n
unfolding SizesIn
sizes_kept ws f n j v h s i k l = get_or-set_other ws j i v 0 (λ e. omega (arith, e)) ∙ s i k l

sizes_more : (ws f : List ℕ) (n v : ℕ) → n + 1 < length ws → v ≡ tree_size (last_nodes f (n + 1)) → SizesIn ws f n
    → SizesIn (set ws (n + 1) v) f (n + 1)
unfolding SizesIn
sizes_more ws f n v h e s i k l = go (eqb i (n + 1)) refl
  where
    go : (b : Bool) → eqb i (n + 1) ≡ b → get_or (set ws (n + 1) v) i 0 ≡ tree_size (last_nodes f i)
    go true q = rw (eqb-true i (n + 1) q) (get_or-set_same ws (n + 1) v 0 h ∙ e)
    go false q =
        let other = eqb-false i (n + 1) q in
        sizes_kept ws f n (n + 1) v (omega arith) s i k (omega (arith, other))

-- the sizes of the trees of the last n nodes are found; `first` is that of the first of them
pub record Sizing (f ws : List ℕ) (n first forwards : ℕ) : Type 0 where
  pub nodes : n ≤ length f / 2
  pub size : first ≡ tree_size (last_nodes f n)
  pub sizes : SizesIn ws f n
  pub count : forwards ≡ forwards_in (last_nodes f n)
  pub slots : length ws ≡ 4097

module _ (f : List ℕ) (whole : Whole f) (ws : List ℕ) where
  pub sizing_start : length ws ≡ 4097 → Sizing f ws 0 0 0
  unfolding SizesIn forwards_in
  sizing_start s = record {
    nodes = omega arith;
    size = rw (last_none f) (sym (short_size [] (omega arith)));
    sizes = λ i h k. absurd (omega arith);
    count = rw (last_none f);
    slots = s;
  }

  module _ (n first forwards : ℕ) (s : Sizing f ws n first forwards) where
    -- no node is left
    pub sizing_end : length f / 2 ≤ n → (SizesIn ws f (length f / 2) × (length ws ≡ 4097)) × (forwards ≡ forwards_in f)
    sizing_end h =
        let z : n ≡ length f / 2 = omega (arith, s.nodes, whole_nodes f whole) in
        let all : last_nodes f n ≡ f = last-from f 0 n (omega (arith, s.nodes, whole_nodes f whole)) in
        ((rw z at s.sizes, s.slots), s.count ∙ ap forwards_in all)

    -- the node before
    module _ (h : n < length f / 2) where
      abbrev at : ℕ
      at = length f - 2 * n - 2

      next : length f ≡ at + 2 * (n + 1)
      next = omega arith

      pub sizing_room : n < 4096
      sizing_room = omega (arith, here-few f whole at (n + 1) n next refl)

      first_fits : first ≤ n
      first_fits = omega (arith, s.size, last_fits f whole n (omega (arith, next)))

      -- the size of the second operand of "and" and "or" stands in the list
      second_size : has_two (get_or f at 0) ≡ true → get_or ws (n - first) 0 ≡ tree_size (last_nodes f (n - first))
      unfolding SizesIn
      second_size e =
          s.sizes (n - first) (omega (arith, s.size, here-room f whole at (n + 1) n next refl e)) (omega arith)

      -- so the new size is that of this tree, and fits
      pub sizing_fits : ((first ≤ n) × (n ≤ 4096))
          × (has_two (get_or f at 0) ≡ true → get_or ws (n - first) 0 ≤ 4096)
      sizing_fits = (
        (first_fits, omega (arith, sizing_room)),
        λ e. omega (arith, second_size e, last_fits f whole (n - first) (omega (arith, next)), sizing_room),
      )

      -- no more nodes look forward than there are
      pub sizing_count : forwards ≤ n
      sizing_count =
          omega (arith, s.count, forwards_few (last_nodes f n), last-length f n (omega (arith, next)))

      module _ (m : ℕ) (e : m ≡ size_by (get_or f at 0) first (get_or ws (n - first) 0)) where
        size-here : m ≡ tree_size (last_nodes f (n + 1))
        size-here =
            let sum = (here_node f whole at (n + 1) n next refl).sum in
            let operator = here-operator f whole at (n + 1) n next refl in
            let behind = here-behind f whole at (n + 1) n next refl in
            let second = last-drop f first n first_fits (omega (arith, next)) in
            let known : tree_size (last_nodes f (n + 1))
            ≡ size_by (get_or f at 0) first (tree_size (last_nodes f (n - first)))
            = rw (operator, behind, ← s.size, second) at sum in
            e ∙ second_counts (get_or f at 0) first _ _ second_size ∙ sym known

        count-here : forwards + cond (is_forward (get_or f at 0)) 1 0 ≡ forwards_in (last_nodes f (n + 1))
        count-here =
            let l = last-length f (n + 1) (omega (arith, next)) in
            let c = first-forward (last_nodes f (n + 1)) (omega (arith, l)) in
            let operator = here-operator f whole at (n + 1) n next refl in
            let behind = here-behind f whole at (n + 1) n next refl in
            omega (arith, rw (operator, behind) at c, s.count)

        pub sizing_on : (total : ℕ) → total ≡ forwards + cond (is_forward (get_or f at 0)) 1 0
            → Sizing f (set ws (n + 1) m) (n + 1) m total
        sizing_on total q = record {
          nodes = omega arith;
          size = size-here;
          sizes = sizes_more ws f n m (omega (arith, sizing_room, s.slots)) size-here s.sizes;
          count = q ∙ count-here;
          slots = length-set ws (n + 1) m ∙ s.slots;
        }

-- what a word says of the first node of some bytes
pub record Word (w : ℕ) (f : List ℕ) : Type 0 where
  pub operator : operator_in w ≡ get_or f 0 0
  pub label : label_in w ≡ get_or f 1 0
  pub skip : has_two (operator_in w) ≡ true → first_size_in w ≡ tree_size (drop 2 f)

-- the word of a node says that
word_says : (f : List ℕ) (first : ℕ) → Node f → get_or f 1 0 < 256
    → (has_two (get_or f 0 0) ≡ true → (first ≡ tree_size (drop 2 f)) × (first < 4096))
    → Word (word_of (get_or f 0 0) (get_or f 1 0) first) f
unfolding operator_in label_in first_size_in word_of
word_says f first node byte known = go (has_two (get_or f 0 0)) refl
  where
    go : (b : Bool) → has_two (get_or f 0 0) ≡ b → Word (word_of (get_or f 0 0) (get_or f 1 0) first) f
    go true e =
        let (same, small) = known e in
        let o : (4096 * get_or f 0 0 + first) / 4096 ≡ get_or f 0 0 = omega arith in
        rw e (record { operator = o; label = rw (o, e) (sym (node.bare e)); skip = λ k. omega arith })
    go false e =
        let o : (4096 * get_or f 0 0 + get_or f 1 0) / 4096 ≡ get_or f 0 0 = omega arith in
        rw e (record {
          operator = o;
          label = rw (o, e) (omega arith);
          skip = λ k. absurd (false≢true (sym e ∙ (rw o at k)));
        })

-- the nodes before the last n have their words, and the last n their sizes still
pub record Wording (f ws : List ℕ) (n at : ℕ) : Type 0 where
  pub nodes : length f ≡ at + 2 * n
  pub sizes : SizesIn ws f n
  pub words : (i : ℕ) → n < i → 2 * i ≤ length f → Word (get_or ws i 0) (last_nodes f i)
  pub slots : length ws ≡ 4097

module _ (f : List ℕ) (whole : Whole f) (ws : List ℕ) where
  pub wording_start : SizesIn ws f (length f / 2) × (length ws ≡ 4097) → Wording f ws (length f / 2) 0
  wording_start (known, slots) = record {
    nodes = omega (arith, whole_nodes f whole);
    sizes = known;
    words = λ i h k. absurd (omega arith);
    slots = slots;
  }

  module _ (n at : ℕ) (s : Wording f ws n at) where
    pub wording_room : n ≤ 4096
    wording_room = omega (arith, s.nodes, whole_nodes f whole)

    -- all nodes have their words
    module _ (h : n ≤ 0) where
      behind-first : (m : ℕ) → 2 * suc m ≤ length f → drop 2 (last_nodes f (suc m)) ≡ last_nodes f m
      behind-first m k = here-behind f whole (length f - 2 * suc m) (suc m) m (omega arith) (omega arith)

      all-text : (m : ℕ) → 2 * m ≤ length f → text_of ws m ≡ last_nodes f m
      unfolding text_of
      all-text zero k = sym (last_none f)
      all-text (suc m) k =
          let w = s.words (suc m) (omega arith) k in
          let l = last-length f (suc m) k in
          rw (w.operator, w.label, all-text m (omega arith), ← behind-first m k)
          (sym (split (last_nodes f (suc m)) (omega arith)))

      pub wording_end : Coded ws f
      unfolding Skips
      wording_end = record {
        spelled =
            all-text (length f / 2) (omega arith)
            ∙ last-from f 0 (length f / 2) (omega (arith, whole_nodes f whole));
        skips = λ i k e.
            let l : 2 * suc i ≤ length f = omega arith in
            (s.words (suc i) (omega arith) l).skip e
            ∙ ap tree_size (behind-first i l ∙ sym (all-text i (omega arith)));
      }

    -- the next node
    module _ (h : 0 < n) where
      fewer : n ≡ n - 1 + 1
      fewer = omega arith

      -- the size below the word of "and" and "or" is that of its first operand
      below : has_two (get_or f at 0) ≡ true
          → (get_or ws (n - 1) 0 ≡ tree_size (last_nodes f (n - 1))) × (get_or ws (n - 1) 0 < 4096)
      unfolding SizesIn
      below e =
          let room = here-room f whole at n (n - 1) s.nodes fewer e in
          let known = s.sizes (n - 1) (omega (arith, room)) (omega arith) in
          (known, omega (arith, known, room, wording_room))

      pub wording_fits : (get_or f at 0 ≤ 8) × (has_two (get_or f at 0) ≡ true → get_or ws (n - 1) 0 < 4096)
      wording_fits =
          let operator = here-operator f whole at n (n - 1) s.nodes fewer in
          (rw operator at (here_node f whole at n (n - 1) s.nodes fewer).low, λ e. (below e).1)

      pub wording_on : get_or f (at + 1) 0 < 256 → (w : ℕ)
          → w ≡ word_of (get_or f at 0) (get_or f (at + 1) 0) (get_or ws (n - 1) 0)
          → Wording f (set ws n w) (n - 1) (at + 2)
      unfolding SizesIn
      wording_on byte w e = record {
        nodes = omega (arith, s.nodes);
        sizes = sizes_kept ws f (n - 1) n w (omega arith) (λ i k l. s.sizes i k (omega arith));
        words = λ i k l. go i k l (eqb i n) refl;
        slots = length-set ws n w ∙ s.slots;
      }
        where
          operator : get_or (last_nodes f n) 0 0 ≡ get_or f at 0
          operator = here-operator f whole at n (n - 1) s.nodes fewer

          label : get_or (last_nodes f n) 1 0 ≡ get_or f (at + 1) 0
          label = here_label f whole at n (n - 1) s.nodes fewer

          known : has_two (get_or (last_nodes f n) 0 0) ≡ true
              → (get_or ws (n - 1) 0 ≡ tree_size (drop 2 (last_nodes f n))) × (get_or ws (n - 1) 0 < 4096)
          known k = rw (here-behind f whole at n (n - 1) s.nodes fewer) (below (rw operator at k))

          says : Word w (last_nodes f n)
          says =
              rw (e, ← operator, ← label)
              (word_says (last_nodes f n) (get_or ws (n - 1) 0) (here_node f whole at n (n - 1) s.nodes fewer)
              (rw label byte) known)

          go : (i : ℕ) → n - 1 < i → 2 * i ≤ length f → (b : Bool) → eqb i n ≡ b
              → Word (get_or (set ws n w) i 0) (last_nodes f i)
          go i k l true q =
              rw (eqb-true i n q, get_or-set_same ws n w 0 (omega (arith, s.slots, wording_room))) says
          go i k l false q =
              let other = eqb-false i n q in
              rw (get_or-set_other ws n i w 0 other) (s.words i (omega (arith, other)) l)
