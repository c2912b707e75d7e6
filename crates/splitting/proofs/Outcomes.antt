-- What the calls of split and join give when they answer.
use Prim.Native.Nat.{ℕ, ◌≤◌, ◌<◌}
use mathlib.Core.Path.{◌≡◌, refl, sym, ◌∙◌, ap}
use mathlib.Core.List.{List, ◌++◌}
use native.Mathlib.Omega.{arith}
use lib.ListN.{length, take}
use lib.Seq.{take_at}
use lib.Dec.{leb}
use borrow.Author.Tests.{lt-leb, le-ltb, leb-false}
use Rattle.hml.proofs.Tests.{apart}
use Rattle.labels.specs.Refusals.{first_of, refused_if, in_front, Check}
use Rattle.labels.proofs.Refusals.{both_sound, unrefused}
use Rattle.labels.specs.declared.label.Labels.{Labels}
use Rattle.splitting.specs.Splittings.{splittings_of, check_log, check_count, check_number, check_split, left_half}
use Rattle.splitting.specs.Splittings.{right_half, half_length, counted, halved, split_of, left_output, right_output}
use Rattle.joining.specs.Joinings.{join_bytes, check_halves, check_join, joined, joining_of, join_output}
use Rattle.splitting.proofs.LogRuns.{nth_length}
use Rattle.std.specs.Prelude.{Err, Ok}

-- what a call of the split answers for the lent outputs x and y: the length of the halves a and b, with which the
-- outputs then begin
pub record SplitGives (k : Labels) (l r s : List ℕ) (n : ℕ) (x y a b : List ℕ) : Type 0 where
  pub answer : split_of k l r s n (length x) (length y) ≡ Ok (length a)
  pub equal : length b ≡ length a
  pub left : left_output k l r s n x (length y) ≡ in_front a x
  pub right : right_output k l r s n (length x) y ≡ in_front b y

-- what a call of the join answers for the lent output: the length of the log s, with which the output then begins
pub record JoinGives (k : Labels) (l r a b out s : List ℕ) : Type 0 where
  pub answer : joining_of k l r a b (length out) ≡ Ok (length s)
  pub output : join_output k l r a b out ≡ in_front s out

-- an answer shows that no check refused, and its value
pub halves-answered : (c : Check) (m n : ℕ) → halved c m ≡ Ok n → (c ≡ Ok tt) × (m ≡ n)
halves-answered (Ok _) m n e = (refl, cc)
halves-answered (Err x) m n e = absurd (apart cc)

join-answered : (c : Check) (m n : ℕ) → joined c m ≡ Ok n → (c ≡ Ok tt) × (m ≡ n)
join-answered (Ok _) m n e = (refl, cc)
join-answered (Err x) m n e = absurd (apart cc)

pub count-answered : (c : Check) (m n : ℕ) → counted c m ≡ Ok n → (c ≡ Ok tt) × (m ≡ n)
count-answered (Ok _) m n e = (refl, cc)
count-answered (Err x) m n e = absurd (apart cc)

-- of two equal lists, fronts of equal length are equal
same-front : (p q u v : List ℕ) → length p ≡ length q → p ++ u ≡ q ++ v → p ≡ q
same-front p q u v h e = sym (take_at p u (length q) h) ∙ ap (take (length q)) e ∙ take_at q v (length q) refl

module _ (k : Labels) (l r s : List ℕ) (n : ℕ) where
  -- a call that no check refuses has a log and a number of one of its splittings
  pub split_checked : (x y : ℕ) → check_split k l r s n x y ≡ Ok tt
      → (check_log k l r s ≡ Ok tt) × (n < length (splittings_of k l r s))
  unfolding check_split check_number check_count first_of
  split_checked x y e =
      let (number, _) = both_sound (check_number k l r s n) _ e in
      let (count, a) = both_sound (check_count k l r s) _ number in
      let (below, _) = both_sound (refused_if (leb (length (splittings_of k l r s)) n) _) _ a in
      let (log, _) = both_sound (check_log k l r s) _ count in
      (log, leb-false _ _ (unrefused _ _ below))

  -- nothing is refused of a number below the count where there is room
  split_passes : (x y : ℕ) → check_count k l r s ≡ Ok tt → n < length (splittings_of k l r s) → half_length s ≤ x
      → half_length s ≤ y → check_split k l r s n x y ≡ Ok tt
  unfolding check_split check_number first_of
  split_passes x y e h i j =
      rw (e, lt-leb (length (splittings_of k l r s)) n h, le-ltb x (half_length s) i, le-ltb y (half_length s) j)

  -- it gives the halves of its number
  pub split_gives : (x y : List ℕ) → check_split k l r s n (length x) (length y) ≡ Ok tt
      → SplitGives k l r s n x y (left_half k l r s n) (right_half k l r s n)
  unfolding split_of left_output right_output
  split_gives x y e =
      let (a, b) = nth_length k l r s n (split_checked (length x) (length y) e).1 in
      record { answer = rw (e, a); equal = b ∙ sym a; left = rw e; right = rw e }

  -- so does each number below the count where there is room
  pub room_gives : (a b : List ℕ) → check_count k l r s ≡ Ok tt → n < length (splittings_of k l r s)
      → left_half k l r s n ≡ a → right_half k l r s n ≡ b
      → (x y : List ℕ) → length a ≤ length x → length b ≤ length y → SplitGives k l r s n x y a b
  room_gives a b e h u v x y i j =
      let (p, q) = nth_length k l r s n h in
      rw (u, v) at (split_gives x y
      (split_passes (length x) (length y) e h (omega (arith, p, ap length u, i)) (omega (arith, q, ap length v, j))))

  -- and nothing else is given
  pub split-given : (x y a b : List ℕ) → SplitGives k l r s n x y a b
      → (check_split k l r s n (length x) (length y) ≡ Ok tt) × (left_half k l r s n ≡ a) × (right_half k l r s n ≡ b)
  unfolding split_of left_output right_output in_front
  split-given x y a b g =
      let (e, m) = halves-answered (check_split k l r s n (length x) (length y)) (half_length s) (length a) g.answer in
      let (u, v) = nth_length k l r s n (split_checked (length x) (length y) e).1 in (
        e,
        same-front _ a _ _ (u ∙ m) (rw e at g.left),
        same-front _ b _ _ (v ∙ m ∙ sym g.equal) (rw e at g.right),
      )

module _ (k : Labels) (l r a b : List ℕ) where
  join_checked : (room : ℕ) → check_join k l r a b room ≡ Ok tt → check_halves k l r a b ≡ Ok tt
  unfolding check_join first_of
  join_checked room e = (both_sound (check_halves k l r a b) _ e).0

  -- a call that no check refuses gives what the halves join to
  pub join_gives : (out s : List ℕ) → check_halves k l r a b ≡ Ok tt → join_bytes k a b ≡ s → length s ≤ length out
      → JoinGives k l r a b out s
  unfolding joining_of join_output check_join first_of
  join_gives out s e j h =
      record {
        answer = rw (e, j, le-ltb (length out) (length s) h);
        output = rw (e, j, le-ltb (length out) (length s) h);
      }

  -- and nothing else is given
  pub join-given : (out s : List ℕ) → JoinGives k l r a b out s
      → (check_halves k l r a b ≡ Ok tt) × (join_bytes k a b ≡ s)
  unfolding joining_of join_output in_front
  join-given out s g =
      let (e, m) = join-answered (check_join k l r a b (length out)) (length (join_bytes k a b)) (length s) g.answer in
      (join_checked (length out) e, same-front _ s _ _ m (rw e at g.output))
