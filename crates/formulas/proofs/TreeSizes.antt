-- The sizes of all trees: each from its node's operands and the sizes behind it, for any bytes; and what a list that
-- begins with them says of the parts of a formula.
use Prim.Native.Nat.{ℕ, zero, suc, ◌+◌, ◌-◌, ◌*◌, ◌/◌, ◌≤◌, ◌<◌, min}
use mathlib.Core.Path.{◌≡◌, refl, sym, ◌∙◌, ap}
use mathlib.Core.Bool.{Bool, true, false}
use mathlib.Core.List.{List, [], ◌∷◌, ◌++◌}
use native.Mathlib.Omega.{arith}
use lib.ListN.{length, get_or, take, drop, set, length-append, length-take, length-drop, drop_of_length-le}
use lib.Seq.{take_all, take_at, take-take, take-suc, drop-cons, drop-drop, get_or_at, get_or-take, set_at, append_snoc}
use lib.Dec.{ltb}
use borrow.Author.Tests.{ltb-true, ltb-false}
use Rattle.hml.proofs.Tests.{apart}
use Rattle.hml.specs.Formula.{Formula, size}
use Rattle.hml.specs.Spell.{spell, Shape, leaf, unary, binary, bad, shape, next, trees, single, parse}
use Rattle.hml.proofs.Spelling.{length-spell, parse-spell, parse_sound}
use Rattle.formulas.specs.Working.{node_of, size_in, tree_size, sizes_of, sizes_over, Sized, Tree}
use Rattle.formulas.specs.Working.{measure_of, operands_in, size_behind}
use Rattle.formulas.proofs.OperatorTable.{Agrees, none-due, one-due, two_due, nothing, agrees}
use Rattle.formulas.proofs.OperatorTable.{shape_node, shape_node_lem}
use Rattle.formulas.proofs.Measures.{spell-drop, size-some, measure_spell, first_operand, second_operand}
use Rattle.std.specs.Prelude.{None, Option, Some}

-- bytes that spell a tree have its size
pub size-spell : (φ : Formula) (rest : List ℕ) → tree_size (spell φ rest) ≡ size φ
unfolding tree_size size_in
size-spell φ rest = rw (parse-spell φ rest)

-- bytes begin with a tree of some size, or with none and have size 0
data Found (f : List ℕ) : Type 0 where
  tree : (φ : Formula) (rest : List ℕ) → f ≡ spell φ rest → tree_size f ≡ size φ → Found f
  treeless : tree_size f ≡ 0 → (Tree f → ⊥) → Found f

found : (f : List ℕ) → Found f
unfolding tree_size size_in Tree
found f = go (parse f) refl
  where
    go : (t : Option (Formula × List ℕ)) → parse f ≡ t → Found f
    go None e = treeless (rw e) (λ (φ, rest, s). let q = sym (parse-spell φ rest) ∙ ap parse (sym s) ∙ e in apart cc)
    go (Some (φ, rest)) e = tree φ rest (sym (parse_sound f φ rest e)) (rw e)

module _ (f : List ℕ) where
  -- a tree has a size
  tree-size : Tree f → tree_size f ≡ 0 → ⊥
  unfolding Tree
  tree-size (φ, rest, s) e = let q = size-spell φ rest in omega (arith, size-some φ, q, sym (ap tree_size s) ∙ e)

  -- where there is a size, there is a tree
  size-tree : (tree_size f ≡ 0 → ⊥) → Tree f
  unfolding Tree
  size-tree k = go (found f)
    where
      go : Found f → Tree f
      go (tree φ rest s e) = (φ, rest, s)
      go (treeless e h) = absurd (k e)

  -- and where there is none, there is no size
  no_tree : (Tree f → ⊥) → tree_size f ≡ 0
  unfolding Tree
  no_tree k = go (found f)
    where
      go : Found f → tree_size f ≡ 0
      go (tree φ rest s e) = absurd (k (φ, rest, s))
      go (treeless e h) = e

  -- and no size is more than there are nodes
  pub size_room : 2 * tree_size f ≤ length f
  size_room = go (found f)
    where
      go : Found f → 2 * tree_size f ≤ length f
      go (tree φ rest s e) = omega (arith, e, length-spell φ rest, ap length s)
      go (treeless e h) = omega (arith, e)

  -- it is half the length that is measured
  measured_size : Tree f → (measure_of f).len ≡ 2 * tree_size f
  unfolding Tree
  measured_size (φ, bs, s) = rw (s, measure_spell φ bs, size-spell φ bs)

-- the first node of some bytes
abbrev first : List ℕ → Option ℕ
first f = node_of (get_or f 0 0) (get_or f 1 0)

module _ (f : List ℕ) (room : 2 ≤ length f) where
  -- the two bytes of the first node, and those behind it
  pub split : f ≡ get_or f 0 0 ∷ get_or f 1 0 ∷ drop 2 f
  split = go f room
    where
      go : (f : List ℕ) → 2 ≤ length f → f ≡ get_or f 0 0 ∷ get_or f 1 0 ∷ drop 2 f
      go [] h = absurd (omega arith)
      go (o ∷ []) h = absurd (omega arith)
      go (o ∷ a ∷ bs) h = refl

  -- a tree's bytes, two a node, and those behind it are all bytes
  spelled-size : (φ : Formula) (bs : List ℕ) → f ≡ spell φ bs → 2 * tree_size f + length bs ≡ length f
  spelled-size φ bs s = rw s (omega (arith, size-spell φ bs, length-spell φ bs))

  -- a bad node begins no tree
  pub bad-size : None ≡ first f → 0 ≡ tree_size f
  unfolding tree_size size_in parse trees
  bad-size e =
      go (shape (get_or f 0 0) (get_or f 1 0)) (e ∙ shape_node_lem (get_or f 0 0) (get_or f 1 0)) ∙ ap tree_size (sym split)
    where
      go : (s : Shape) → None ≡ shape_node s → 0 ≡ size_in (single (next s 0 (λ m. trees (drop 2 f) m)))
      go (leaf φ) e = absurd (apart cc)
      go (unary g) e = absurd (apart cc)
      go (binary g) e = absurd (apart cc)
      go bad e = refl

  module _ (k : ℕ) (e : Some k ≡ first f) where
    -- a node without operands is a tree
    pub leaf-size : k ≡ 0 → 1 ≡ tree_size f
    leaf-size k0 = go (agrees (get_or f 0 0) (get_or f 1 0)) e
      where
        go : {o : Option ℕ} → Agrees (get_or f 0 0) (get_or f 1 0) o → Some k ≡ o → 1 ≡ tree_size f
        go (none-due φ x s d) e = omega (arith, spelled-size φ (drop 2 f) (split ∙ sym (s (drop 2 f))), length-drop 2 f)
        go (one-due g x s d) e = absurd (omega (arith, k0, ap operands_in e))
        go (two_due g x s d) e = absurd (omega (arith, k0, ap operands_in e))
        go (nothing x) e = absurd (apart cc)

    -- n is the size of the first operand
    module _ (k0 : k ≡ 0 → ⊥) (n : ℕ) (q : n ≡ tree_size (drop 2 f)) where
      no_leaf : operands_in (first f) ≡ 0 → ⊥
      no_leaf z = k0 (ap operands_in e ∙ z)

      pub first_missing : n ≡ 0 → 0 ≡ tree_size f
      first_missing z = sym (no_tree f (λ t. tree-size (drop 2 f) (first_operand f t no_leaf) (sym q ∙ z)))

      module _ (some_first : n ≡ 0 → ⊥) where
        first-tree : Tree (drop 2 f)
        first-tree = size-tree (drop 2 f) (λ z. some_first (q ∙ z))

        pub one_size : k ≡ 1 → 1 + n ≡ tree_size f
        unfolding Tree
        one_size k1 = go (agrees (get_or f 0 0) (get_or f 1 0)) e first-tree
          where
            go : {o : Option ℕ} → Agrees (get_or f 0 0) (get_or f 1 0) o → Some k ≡ o → Tree (drop 2 f)
                → 1 + n ≡ tree_size f
            go (none-due φ x s d) e t = absurd (omega (arith, k1, ap operands_in e))
            go (one-due g x s d) e (φ, bs, t) =
                omega (
                  arith,
                  q,
                  spelled-size (g φ) bs (split ∙ rw t (sym (s φ bs))),
                  ap tree_size t ∙ size-spell φ bs,
                  ap length t ∙ length-spell φ bs,
                  length-drop 2 f,
                )
            go (two_due g x s d) e t = absurd (omega (arith, k1, ap operands_in e))
            go (nothing x) e t = absurd (apart cc)

        -- m is the size of the second operand, which begins where the first one ends
        module _ (k1 : k ≡ 1 → ⊥) (m : ℕ) (z : m ≡ tree_size (drop (2 * n) (drop 2 f))) where
          pub second_missing : m ≡ 0 → 0 ≡ tree_size f
          second_missing m0 = sym (no_tree f (λ t. tree-size (drop (2 * n) (drop 2 f)) (second t) (sym z ∙ m0)))
            where
              second : Tree f → Tree (drop (2 * n) (drop 2 f))
              second t =
                  rw (q, ← measured_size (drop 2 f) first-tree)
                  (second_operand f t no_leaf (λ w. k1 (ap operands_in e ∙ w)))

          pub two_size : (m ≡ 0 → ⊥) → 1 + n + m ≡ tree_size f
          unfolding Tree
          two_size some-second =
              go (agrees (get_or f 0 0) (get_or f 1 0)) e first-tree
              (size-tree (drop (2 * n) (drop 2 f)) (λ w. some-second (z ∙ w)))
            where
              go : {o : Option ℕ} → Agrees (get_or f 0 0) (get_or f 1 0) o → Some k ≡ o → Tree (drop 2 f)
                  → Tree (drop (2 * n) (drop 2 f)) → 1 + n + m ≡ tree_size f
              go (none-due φ x s d) e t u = absurd (k0 (ap operands_in e))
              go (one-due g x s d) e t u = absurd (k1 (ap operands_in e))
              go (two_due g x s d) e (φ, bs, t) (ψ, cs, u) =
                  let w : n ≡ size φ = q ∙ ap tree_size t ∙ size-spell φ bs in
                  let d : drop (2 * n) (drop 2 f) ≡ bs = rw (w, t) (spell-drop φ bs) in
                  let b : bs ≡ spell ψ cs = sym d ∙ u in
                  omega (
                    arith,
                    w,
                    z ∙ ap tree_size u ∙ size-spell ψ cs,
                    spelled-size (g φ ψ) cs
                        (split ∙ ap (λ l. get_or f 0 0 ∷ get_or f 1 0 ∷ l) (t ∙ ap (spell φ) b) ∙ sym (s φ ψ cs)),
                    ap length t ∙ length-spell φ bs,
                    ap length b ∙ length-spell ψ cs,
                    length-drop 2 f,
                  )
              go (nothing x) e t u = absurd (apart cc)

-- one size for each node
pub length_sizes : (f : List ℕ) → length (sizes_of f) ≡ length f / 2
unfolding sizes_of
length_sizes [] = refl
length_sizes (o ∷ []) = refl
length_sizes (o ∷ a ∷ bs) = length-append (sizes_of bs) (tree_size (o ∷ a ∷ bs) ∷ []) ∙ omega (arith, length_sizes bs)

-- the sizes behind the first node are those in front of the last size
sizes_behind : (f : List ℕ) → sizes_of (drop 2 f) ≡ take (length f / 2 - 1) (sizes_of f)
unfolding sizes_of
sizes_behind [] = refl
sizes_behind (o ∷ []) = refl
sizes_behind (o ∷ a ∷ bs) =
    sym (take_at (sizes_of bs) (tree_size (o ∷ a ∷ bs) ∷ []) (length (o ∷ a ∷ bs) / 2 - 1)
    (omega (arith, length_sizes bs)))

-- and so on for each part
sizes_part : (f : List ℕ) (m : ℕ) → sizes_of (drop (2 * m) f) ≡ take (length f / 2 - m) (sizes_of f)
sizes_part f zero = sym (take_all (length f / 2 - 0) (sizes_of f) (omega (arith, length_sizes f)))
sizes_part f (suc m) =
    let twice : 2 * suc m ≡ 2 * m + 2 = omega arith in
    let less : length (drop (2 * m) f) / 2 - 1 ≡ length f / 2 - suc m = omega (arith, length-drop (2 * m) f) in
    rw (twice, ← drop-drop 2 (2 * m) f, sizes_behind (drop (2 * m) f), sizes_part f m, less)
    (take-take (length f / 2 - suc m) (length f / 2 - m) (sizes_of f) (omega arith))

-- the last size is that of the first tree
last-size : (f : List ℕ) → 2 ≤ length f → get_or (sizes_of f) (length f / 2 - 1) 0 ≡ tree_size f
unfolding sizes_of
last-size [] h = absurd (omega arith)
last-size (o ∷ []) h = absurd (omega arith)
last-size (o ∷ a ∷ bs) h = get_or_at (sizes_of bs) (tree_size (o ∷ a ∷ bs)) [] 0 _ (omega (arith, length_sizes bs))

-- the size of the tree n nodes behind the first one
size_at : (f : List ℕ) (n : ℕ) → n < length f / 2
    → get_or (sizes_of f) (length f / 2 - 1 - n) 0 ≡ tree_size (drop (2 * n) f)
size_at f n h =
    let less : length (drop (2 * n) f) / 2 - 1 ≡ length f / 2 - 1 - n = omega (arith, length-drop (2 * n) f) in
    let last : get_or (sizes_of (drop (2 * n) f)) (length (drop (2 * n) f) / 2 - 1) 0
    ≡ tree_size (drop (2 * n) f) = last-size (drop (2 * n) f) (omega (arith, length-drop (2 * n) f)) in
    sym (get_or-take (length f / 2 - n) (sizes_of f) (length f / 2 - 1 - n) 0 (omega arith))
    ∙ (rw (sizes_part f n, less) at last)

-- fewer bytes than a node has begin no tree
pub short_size : (f : List ℕ) → length f < 2 → tree_size f ≡ 0
unfolding tree_size size_in parse trees
short_size [] h = refl
short_size (o ∷ []) h = refl
short_size (o ∷ a ∷ bs) h = absurd (omega arith)

-- the look at a size: it is there, or n is behind the last node
pub size_found : (sizes : List ℕ) (n : ℕ) → n < length sizes → get_or sizes (length sizes - 1 - n) 0 ≡ size_behind sizes n
unfolding size_behind
size_found sizes n h = let place : length sizes - n ≡ suc (length sizes - 1 - n) = omega arith in rw place

pub size_over : (sizes : List ℕ) (n : ℕ) → length sizes ≤ n → 0 ≡ size_behind sizes n
unfolding size_behind
size_over sizes n h = let place : length sizes - n ≡ 0 = omega arith in rw place

-- what it finds is the size of the tree n nodes behind the first one
pub size-behind : (f : List ℕ) (n : ℕ) → size_behind (sizes_of f) n ≡ tree_size (drop (2 * n) f)
size-behind f n = go (ltb n (length f / 2)) refl
  where
    go : (b : Bool) → ltb n (length f / 2) ≡ b → size_behind (sizes_of f) n ≡ tree_size (drop (2 * n) f)
    go true e =
        let h : n < length f / 2 = ltb-true n (length f / 2) e in
        sym (size_found (sizes_of f) n (omega (arith, length_sizes f))) ∙ rw (length_sizes f) (size_at f n h)
    go false e =
        let h : length f / 2 ≤ n = ltb-false n (length f / 2) e in
        sym (size_over (sizes_of f) n (omega (arith, length_sizes f)))
        ∙ sym (short_size (drop (2 * n) f) (omega (arith, length-drop (2 * n) f)))

-- sizes written over a list long enough for them stand at its front, and the list keeps its length
pub sizes_over_lem : (f xs : List ℕ) → length f / 2 ≤ length xs → Sized (sizes_over f xs) f
unfolding Sized sizes_over
sizes_over_lem f xs h =
    rw (take_all (length xs) (sizes_of f) (omega (arith, length_sizes f)))
    (take_at (sizes_of f) (drop (length (sizes_of f)) xs) (length f / 2) (length_sizes f))

pub length_over : (f xs : List ℕ) → length (sizes_over f xs) ≡ length xs
unfolding sizes_over
length_over f xs =
    length-append (take (length xs) (sizes_of f)) (drop (length (sizes_of f)) xs)
    ∙ omega (arith, length-take (length xs) (sizes_of f), length-drop (length (sizes_of f)) xs)

module _ (sizes f : List ℕ) where
  -- a list that begins with the sizes of f has one for each node
  pub sized-room : Sized sizes f → length f / 2 ≤ length sizes
  unfolding Sized
  sized-room s = omega (arith, length_sizes f, ap length s, length-take (length f / 2) sizes)

  -- it begins with those of each part of f from a later node on
  pub sized-part : (m : ℕ) → Sized sizes f → Sized sizes (drop (2 * m) f)
  unfolding Sized
  sized-part m s =
      let less : length (drop (2 * m) f) / 2 ≡ length f / 2 - m = omega (arith, length-drop (2 * m) f) in
      rw (less, sizes_part f m, ← s) (sym (take-take (length f / 2 - m) (length f / 2) sizes (omega arith)))

  -- the last of them is the size of the first tree
  pub sized-first : Sized sizes f → 2 ≤ length f → get_or sizes (length f / 2 - 1) 0 ≡ tree_size f
  unfolding Sized
  sized-first s h = sym (get_or-take (length f / 2) sizes (length f / 2 - 1) 0 (omega arith)) ∙ rw s (last-size f h)

-- what the code finds in the sizes behind the first node
module _ (f sizes : List ℕ) (p : sizes ≡ sizes_of (drop 2 f)) where
  pub size_known : (n m : ℕ) → m ≡ size_behind sizes n → m ≡ tree_size (drop (2 * n) (drop 2 f))
  size_known n m e = e ∙ ap (λ l. size_behind l n) p ∙ size-behind (drop 2 f) n

  -- two operands have fewer nodes than there are
  pub sizes_fit : 2 ≤ length f → (n m : ℕ) → n ≡ size_behind sizes 0 → m ≡ size_behind sizes n
      → 2 + 2 * n + 2 * m ≤ length f
  sizes_fit h n m e q =
      omega (
        arith,
        size_known 0 n e,
        size_room (drop 2 f),
        size_known n m q,
        size_room (drop (2 * n) (drop 2 f)),
        length-drop (2 * n) (drop 2 f),
        length-drop 2 f,
      )

-- nothing is left to take, or to drop, behind i elements
take_rest : (i j : ℕ) (l : List ℕ) → i ≤ j → min j (length l) ≤ i → take i l ≡ take j l
take_rest i j l h r = sym (take-take i j l h) ∙ take_all i (take j l) (omega (arith, length-take j l))

drop_rest : (i j : ℕ) (l : List ℕ) → i ≤ j → min j (length l) ≤ i → drop i l ≡ drop j l
drop_rest i j l h r = go (ltb i (length l)) refl
  where
    go : (b : Bool) → ltb i (length l) ≡ b → drop i l ≡ drop j l
    go true e = let s = ltb-true i (length l) e in let same : i ≡ j = omega (arith, s) in ap (λ k. drop k l) same
    go false e =
        let s = ltb-false i (length l) e in
        drop_of_length-le l {i = i} s ∙ sym (drop_of_length-le l {i = j} (omega (arith, s)))

-- the next element of one list in its place in the other
one_more : (xs ys : List ℕ) (i : ℕ) → i < length xs → i < length ys
    → set (take i xs ++ drop i ys) i (get_or xs i 0) ≡ take (i + 1) xs ++ drop (i + 1) ys
one_more xs ys i h r =
    let next : i + 1 ≡ suc i = omega arith in
    rw (
      next,
      drop-cons ys i 0 r,
      take-suc xs i 0 h,
      set_at (take i xs) (get_or ys i 0) (drop (suc i) ys) (get_or xs i 0) i (omega (arith, length-take i xs)),
    )
    (sym (append_snoc (take i xs) (get_or xs i 0) (drop (suc i) ys)))

-- i sizes are found, the rest of the list is as it was
pub record Sizing (f old xs : List ℕ) (i : ℕ) : Type 0 where
  pub within : i ≤ min (length f / 2) (length old)
  pub same : xs ≡ take i (sizes_of f) ++ drop i old

module _ (f old : List ℕ) where
  pub sizing_start : Sizing f old old 0
  sizing_start = record { within = omega arith; same = refl }

  module _ (xs : List ℕ) (i : ℕ) (g : Sizing f old xs i) where
    found-length : length (take i (sizes_of f)) ≡ i
    found-length = let l = g.within in omega (arith, l, length_sizes f, length-take i (sizes_of f))

    pub sizing_end : min (length f / 2) (length old) ≤ i → xs ≡ sizes_over f old
    unfolding sizes_over
    sizing_end h =
        let l = g.within in
        rw (
          g.same,
          take_rest i (length old) (sizes_of f) (omega arith) (omega (arith, length_sizes f)),
          drop_rest i (length (sizes_of f)) old (omega (arith, length_sizes f)) (omega (arith, length_sizes f)),
        )

    module _ (more : i < min (length f / 2) (length old)) where
      -- the node with i nodes behind it
      abbrev here : List ℕ
      here = drop (2 * (length f / 2 - 1 - i)) f

      pub here-room : 2 ≤ length here
      here-room = omega (arith, length-drop (2 * (length f / 2 - 1 - i)) f)

      pub here-behind : take i xs ≡ sizes_of (drop 2 here)
      here-behind =
          let next : 2 * (length f / 2 - 1 - i) + 2 ≡ 2 * (length f / 2 - i) = omega arith in
          let left : length f / 2 - (length f / 2 - i) ≡ i = omega arith in
          rw (g.same, drop-drop 2 (2 * (length f / 2 - 1 - i)) f, next, sizes_part f (length f / 2 - i), left)
          (take_at (take i (sizes_of f)) (drop i old) i found-length)

      pub sizing_on : (n : ℕ) → n ≡ tree_size here → Sizing f old (set xs i n) (i + 1)
      sizing_on n e = record {
        within = omega arith;
        same =
            let place : length f / 2 - 1 - (length f / 2 - 1 - i) ≡ i = omega arith in
            let size : get_or (sizes_of f) (length f / 2 - 1 - (length f / 2 - 1 - i)) 0
            ≡ tree_size here = size_at f (length f / 2 - 1 - i) (omega arith) in
            rw (g.same, e ∙ sym (rw place at size))
            (one_more (sizes_of f) old i (omega (arith, length_sizes f)) (omega arith));
      }
