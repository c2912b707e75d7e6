-- Pieces written one after the other into an output, each into the rest that the one before it left.
use Prim.Native.Nat.{ℕ, ◌+◌, ◌-◌, ◌≤◌}
use mathlib.Core.Path.{◌≡◌, refl, sym, ◌∙◌, ap}
use mathlib.Core.List.{List, [], ◌∷◌, ◌++◌, append_assoc, append-nil}
use native.Mathlib.Omega.{arith}
use lib.ListN.{length, take, drop, length-append, length-drop}
use lib.Seq.{take-append_seam}
use borrow.Rule.Slice.PartMut.{put_mid}
use Rattle.labels.specs.Refusals.{in_front}
use Rattle.labels.proofs.Slices.{rest, rest_of}
use Rattle.labels.proofs.Outputs.{front-none, length_front, front-after, front_length}
use Rattle.dividing.specs.Working.{Behind}

-- what is left behind a piece
pub rest_front : (b xs zs : List ℕ) (k : ℕ) → k ≡ length b → zs ≡ in_front b xs → length b ≤ length xs
    → length (rest k zs) ≡ length xs - k
unfolding in_front
rest_front b xs zs k p q h = ap length (rest_of k zs) ∙ length-drop k zs ∙ ap (◌- k) (ap length q ∙ length_front b xs h)

-- what a function gives that writes a piece w into the output xs: how long it is, and the output afterwards. It may be
-- nothing
pub nothing : (w xs : List ℕ) → [] ≡ w → (0 ≡ length w) × (xs ≡ in_front w xs)
nothing w xs e = rw (← e) (refl, front-none xs)

-- one piece
pub one_piece : (b w xs zs : List ℕ) (k : ℕ) → b ≡ w → k ≡ length b → zs ≡ in_front b xs
    → (k ≡ length w) × (zs ≡ in_front w xs)
one_piece b w xs zs k e p q = (p ∙ ap length e, q ∙ ap (λ z. in_front z xs) e)

-- or two
pub joined : (b d : List ℕ) → Behind b d (b ++ d)
unfolding Behind
joined b d = refl

-- a node, and the piece behind it
pub node_over_length : (o a : ℕ) (d w : List ℕ) → Behind (o ∷ a ∷ []) d w → {n : ℕ} → n ≡ length d → 2 + n ≡ length w
unfolding Behind
node_over_length o a d w e p = omega (arith, ap length e, p)

module _ (b d w : List ℕ) (m : ℕ) (e : Behind b d w) (h : length w ≤ m) where
  both-length : length b + length d ≡ length w
  unfolding Behind
  both-length = sym (length-append b d) ∙ ap length e

  -- the room for the first, and for the second
  pub first_fits : length b ≤ m
  first_fits = omega (arith, both-length, h)

  pub second_fits : (xs zs : List ℕ) (k : ℕ) → m ≡ length xs → k ≡ length b → zs ≡ in_front b xs
      → length d ≤ length (rest k zs)
  second_fits xs zs k z p q =
      omega (arith, rest_front b xs zs k p q (omega (arith, first_fits, z)), h, both-length, p, z)

pub two_pieces : (b d w xs zs ys : List ℕ) (k n : ℕ) → Behind b d w → k ≡ length b → zs ≡ in_front b xs → n ≡ length d
    → ys ≡ in_front d (rest k zs)
    → (k + n ≡ length w) × (put_mid k (length zs - k) zs ys ≡ in_front w xs)
unfolding Behind
two_pieces b d w xs zs ys k n e p q m r =
    rw (← e) (omega (arith, p, m, length-append b d), front-after b d xs zs ys k p q r)

-- n bytes are written into the output xs, and with those of the piece `later` behind them they are the piece w
pub record Written (w xs later : List ℕ) (n : ℕ) (out : List ℕ) : Type 0 where
  pub done : List ℕ
  pub count : n ≡ length done
  pub whole : Behind done later w
  pub same : out ≡ in_front done xs

module _ (w xs : List ℕ) where
  pub none_written : Written w xs w 0 xs
  unfolding Behind
  none_written = record { done = []; count = refl; whole = refl; same = front-none xs }

  module _ {later : List ℕ} {n : ℕ} {out : List ℕ} (s : Written w xs later n out) where
    pub skip_written : {next : List ℕ} → next ≡ later → Written w xs next n out
    skip_written e = record { done = s.done; count = s.count; whole = rw e s.whole; same = s.same }

    pub all_written : [] ≡ later → (n ≡ length w) × (out ≡ in_front w xs)
    unfolding Behind
    all_written e =
        let z : s.done ≡ w = sym (append-nil s.done) ∙ ap (s.done ++◌) e ∙ s.whole in
        (s.count ∙ ap length z, s.same ∙ ap (λ d. in_front d xs) z)

    module _ (h : length w ≤ length xs) where
      done-length : length s.done + length later ≡ length w
      unfolding Behind
      done-length = sym (length-append s.done later) ∙ ap length s.whole

      -- the output keeps its length
      pub written_length : length out ≡ length xs
      written_length = front_length s.done xs out s.same (omega (arith, done-length, h))

      pub written_within : n ≤ length out
      written_within = omega (arith, s.count, done-length, h, written_length)

      module _ (d next : List ℕ) (e : Behind d next later) where
        -- there is room for the next piece
        pub next_within : n + length d ≤ length out
        unfolding Behind
        next_within =
            omega (arith, s.count, done-length, h, written_length, ap length e, length-append d next)

        pub next_fits : length d ≤ length (rest n out)
        next_fits = omega (arith, next_within, ap length (rest_of n out) ∙ length-drop n out)

        pub next_written : (m : ℕ) → m ≡ n + length d → (ys : List ℕ) → ys ≡ in_front d (rest n out)
            → Written w xs next m (put_mid n (length out - n) out ys)
        unfolding Behind
        next_written m k ys r =
            record {
              done = s.done ++ d;
              count = omega (arith, k, s.count, length-append s.done d);
              whole = append_assoc s.done d next ∙ ap (s.done ++◌) e ∙ s.whole;
              same = front-after s.done d xs out ys n s.count s.same r;
            }

-- a piece read back
pub taken : (b xs zs : List ℕ) (n : ℕ) → zs ≡ in_front b xs → n ≡ length b → take n zs ≡ b
unfolding in_front
taken b xs zs n e p = rw (e, p) (take-append_seam b (drop (length b) xs))

pub piece_within : (b xs zs : List ℕ) (n : ℕ) → zs ≡ in_front b xs → n ≡ length b → n ≤ length zs
unfolding in_front
piece_within b xs zs n e p = omega (arith, ap length e, length-append b (drop (length b) xs), p)

pub piece_length : (b xs zs : List ℕ) (n : ℕ) → zs ≡ in_front b xs → n ≡ length b → n ≡ length (take n zs)
piece_length b xs zs n e p = p ∙ ap length (sym (taken b xs zs n e p))
