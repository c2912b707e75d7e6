-- Bytes read in chunks of a fixed size, such as the rows of a table and the steps of a run.
use Prim.Native.Nat.{ℕ, zero, suc, ◌+◌, ◌*◌, ◌/◌, ◌%◌, ◌<◌}
use mathlib.Core.Path.{◌≡◌, refl, sym, ◌∙◌, ap}
use mathlib.Core.List.{List, [], ◌∷◌, ◌++◌, map, append-nil, append_assoc}
use native.Mathlib.Nat.{mul-zero, mul-suc, add_comm, mul-add-mod_self_right, mod-eq_of_lt, mul-add-div_right}
use native.Mathlib.Nat.{div-eq_of_lt}
use native.Mathlib.Omega.{arith}
use lib.ListN.{length, take, length-append, length-take}
use lib.Seq.{take-nil, take-append-add}
use Rattle.hml.specs.Lists.{each}
use Rattle.hml.proofs.Lists.{length-each}
use Rattle.labels.proofs.Slices.{no_bytes}
use Rattle.tables.specs.Tables.{threes}
use Rattle.tables.specs.Working.{row_bytes}
use Rattle.std.specs.Simd.{first_chunks}

-- bytes that are chunks of k, with g for the bytes of each, and fewer than k at the end
pub data Chunked {B : Type 0} (k : ℕ) (g : B → List ℕ) : List ℕ → Type 0 where
  less : (bs : List ℕ) → length bs < k → Chunked k g bs
  chunk : (e : B) {bs : List ℕ} → Chunked k g bs → Chunked k g (g e ++ bs)

-- f reads bytes in chunks of k, with g for the bytes of each; bytes that fill no chunk are none
pub record Chunks {B : Type 0} (k : ℕ) (g : B → List ℕ) (f : List ℕ → List B) : Type 0 where
  pub some : 0 < k
  pub sized : (e : B) → length (g e) ≡ k
  pub none : (bs : List ℕ) → length bs < k → f bs ≡ []
  pub one : (e : B) (bs : List ℕ) → f (g e ++ bs) ≡ e ∷ f bs
  pub every : (bs : List ℕ) → Chunked k g bs

module _ {B : Type 0} {k : ℕ} {g : B → List ℕ} {f : List ℕ → List B} (c : Chunks k g f) where
  -- bytes are the chunks that are read, and fewer than k
  pub chunks_split : {bs : List ℕ} → Chunked k g bs → (rest : List ℕ) × (length rest < k) × (each g (f bs) ++ rest ≡ bs)
  chunks_split (less bs h) = (bs, h, rw (c.none bs h))
  chunks_split (chunk e {bs = bs} x) = let (rest, h, p) = chunks_split x in (rest, h, rw (c.one, append_assoc, p))

  -- chunks in front of other bytes are read first
  pub chunks_each : (es : List B) (bs : List ℕ) → f (each g es ++ bs) ≡ es ++ f bs
  chunks_each [] bs = refl
  chunks_each (e ∷ es) bs = rw (append_assoc, c.one, chunks_each es bs)

  -- the bytes of chunks are read as these chunks
  pub chunks_read : (es : List B) → f (each g es) ≡ es
  chunks_read es = ap f (sym (append-nil (each g es))) ∙ chunks_each es [] ∙ rw (c.none [] c.some) (append-nil es)

  -- the first chunks of bytes that are chunks
  take-each : (es : List B) (n : ℕ) (rest : List ℕ) → length rest < k → f (take (k * n) (each g es ++ rest)) ≡ take n es
  take-each [] n rest h = c.none (take (k * n) rest) (simp length-take (omega arith)) ∙ sym (take-nil n)
  take-each (e ∷ es) zero rest h = rw mul-zero (c.none [] c.some)
  take-each (e ∷ es) (suc n) rest h =
      let s : k * suc n ≡ length (g e) + k * n = mul-suc k n ∙ rw (c.sized e) (add_comm (k * n) k) in
      rw (s, append_assoc, take-append-add, c.one, take-each es n rest h)

  module _ (bs : List ℕ) where
    -- what is read of the first n chunks is the first n of what is read
    pub chunks_take : (n : ℕ) → f (take (k * n) bs) ≡ take n (f bs)
    chunks_take n =
        let (rest, h, e) = chunks_split (c.every bs) in
        ap (λ (l : List ℕ). f (take (k * n) l)) (sym e) ∙ take-each (f bs) n rest h

    -- the bytes: the chunks that are read, and fewer than k
    counted : (rest : List ℕ) → each g (f bs) ++ rest ≡ bs → length bs ≡ length (f bs) * k + length rest
    counted rest e =
        ap length (sym e) ∙ length-append (each g (f bs)) rest ∙ ap (◌+ length rest) (length-each g k c.sized (f bs))

    -- there are as many chunks as the bytes have room for
    pub chunks_length : length (f bs) ≡ length bs / k
    chunks_length =
        let (rest, h, e) = chunks_split (c.every bs) in
        rw (counted rest e, mul-add-div_right c.some (length (f bs)) (length rest), div-eq_of_lt h) (omega arith)

    module _ (whole : length bs % k ≡ 0) where
      -- bytes that are whole chunks are those of the chunks that are read
      pub chunks_whole : each g (f bs) ≡ bs
      chunks_whole =
          let (rest, h, e) = chunks_split (c.every bs) in
          let z : length rest ≡ 0 = sym (mod-eq_of_lt h) ∙ sym (mul-add-mod_self_right (length (f bs)) k (length rest))
          ∙ ap (◌% k) (sym (counted rest e)) ∙ whole in
          sym (append-nil (each g (f bs))) ∙ ap (each g (f bs) ++◌) (sym (no_bytes rest z)) ∙ e

      -- what stands after whole chunks is read after them
      pub chunks_append : (cs : List ℕ) → f (bs ++ cs) ≡ f bs ++ f cs
      chunks_append cs = ap (λ (l : List ℕ). f (l ++ cs)) (sym chunks_whole) ∙ chunks_each (f bs) cs

-- the same chunks by another name
pub chunks_map : {B C : Type 0} {k : ℕ} {g : B → List ℕ} {f : List ℕ → List B} (to : B → C) (from : C → B)
    → ((b : B) → from (to b) ≡ b) → ((e : C) → to (from e) ≡ e) → Chunks k g f
    → Chunks k (λ e. g (from e)) (λ bs. map to (f bs))
chunks_map {C = C} {k} {g} to from back forth c = record {
  some = c.some;
  sized = λ e. c.sized (from e);
  none = λ bs h. rw (c.none bs h);
  one = λ e bs. rw (c.one, forth);
  every = λ bs. named (c.every bs);
}
  where
    named : {bs : List ℕ} → Chunked k g bs → Chunked k (λ (e : C). g (from e)) bs
    named (less bs h) = less bs h
    named (chunk b {bs = bs} x) = rw (ap (λ z. g z ++ bs) (back b)) at (chunk (to b) (named x))

-- three bytes a row
pub threes_chunks : Chunks 3 row_bytes threes
unfolding threes
threes_chunks = record { some = omega arith; sized = λ r. refl; none = none; one = λ r bs. refl; every = every }
  where
    none : (bs : List ℕ) → length bs < 3 → threes bs ≡ []
    none [] h = refl
    none (a ∷ []) h = refl
    none (a ∷ b ∷ []) h = refl
    none (a ∷ b ∷ c ∷ bs) h = absurd (omega arith)

    every : (bs : List ℕ) → Chunked 3 row_bytes bs
    every [] = less [] (omega arith)
    every (a ∷ []) = less (a ∷ []) (omega arith)
    every (a ∷ b ∷ []) = less (a ∷ b ∷ []) (omega arith)
    every (a ∷ b ∷ c ∷ bs) = chunk (a, b, c) (every bs)

-- and so the library cuts them
pub threes_cut : (bs : List ℕ) → first_chunks 3 (length bs / 3) bs ≡ map row_bytes (threes bs)
unfolding threes
threes_cut [] = refl
threes_cut (a ∷ []) = refl
threes_cut (a ∷ b ∷ []) = refl
threes_cut (a ∷ b ∷ c ∷ bs) =
    let n : length (a ∷ b ∷ c ∷ bs) / 3 ≡ suc (length bs / 3) = omega arith in
    rw n (ap ((a ∷ b ∷ c ∷ []) ∷◌) (threes_cut bs))
