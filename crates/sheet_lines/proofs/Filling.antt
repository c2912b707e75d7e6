-- Filling an output with lines, as many as fit.
use Prim.Native.Nat.{ℕ, zero, suc, ◌+◌, ◌-◌, ◌≤◌, ◌<◌}
use mathlib.Core.Path.{◌≡◌, refl, sym, ◌∙◌, ap, ap₂}
use mathlib.Core.Bool.{Bool, true, false}
use mathlib.Core.List.{List, [], ◌∷◌, ◌++◌, append_assoc, append-nil}
use native.Mathlib.Omega.{arith}
use lib.ListN.{length, length-append}
use lib.Dec.{leb}
use borrow.Author.Tests.{le-leb, lt-leb, leb-true}
use Rattle.sheet_lines.specs.Sheets.{listed, bytes_of, fitting}
use Rattle.sheet_lines.specs.Working.{put_at, Filled, Full}
use Rattle.sheet_lines.proofs.Puts.{length-put, put-behind}

module _ {A : Type 0} where
  pub length-listed : (g : ℕ → A) (i m : ℕ) → length (listed g i m) ≡ m
  unfolding listed
  length-listed g i zero = refl
  length-listed g i (suc m) = ap suc (length-listed g (suc i) m)

  -- a list and what goes on behind it
  pub listed-behind : (g : ℕ → A) (i m n : ℕ) → listed g i (m + n) ≡ listed g i m ++ listed g (i + m) n
  unfolding listed
  listed-behind g i zero n = let z : i + 0 ≡ i = omega arith in let w : 0 + n ≡ n = omega arith in rw (z, w)
  listed-behind g i (suc m) n =
      let z : suc i + m ≡ i + suc m = omega arith in
      let w : suc m + n ≡ suc (m + n) = omega arith in
      rw w (ap (g i ∷◌) (listed-behind g (suc i) m n ∙ ap (λ x. listed g (suc i) m ++ listed g x n) z))

  -- by functions that agree where they are asked
  pub listed-agree : (g h : ℕ → A) (i j m : ℕ) → ((x : ℕ) → x < m → g (i + x) ≡ h (j + x)) → listed g i m ≡ listed h j m
  unfolding listed
  listed-agree g h i j zero e = refl
  listed-agree g h i j (suc m) e =
      let a : g i ≡ h j = (let z : i + 0 ≡ i = omega arith in
      let w : j + 0 ≡ j = omega arith in ap g (sym z) ∙ e 0 (omega arith) ∙ ap h w) in
      ap₂ ◌∷◌ a (listed-agree g h (suc i) (suc j) m
      (λ x l. let z : suc i + x ≡ i + suc x = omega arith in
      let w : j + suc x ≡ suc j + x = omega arith in ap g z ∙ e (suc x) (omega (arith, l)) ∙ ap h w))

pub bytes-behind : (xs ys : List (List ℕ)) → bytes_of (xs ++ ys) ≡ bytes_of xs ++ bytes_of ys
unfolding bytes_of
bytes-behind [] ys = refl
bytes-behind (x ∷ xs) ys = ap (x ++◌) (bytes-behind xs ys) ∙ sym (append_assoc x (bytes_of xs) (bytes_of ys))

-- lines of which the first fits, or does not
pub fitting-first : (room : ℕ) (x : List ℕ) (xs : List (List ℕ)) → length x ≤ room
    → fitting room (x ∷ xs) ≡ x ∷ fitting (room - length x) xs
unfolding fitting
fitting-first room x xs h = rw (le-leb (length x) room h)

pub fitting-none : (room : ℕ) (x : List ℕ) (xs : List (List ℕ)) → room < length x → fitting room (x ∷ xs) ≡ []
unfolding fitting
fitting-none room x xs h = rw (lt-leb (length x) room h)

-- lines that all fit, and others behind them
pub fitting-all : (room : ℕ) (xs ys : List (List ℕ)) → length (fitting room xs) ≡ length xs
    → (fitting room xs ≡ xs) × (fitting room (xs ++ ys) ≡ xs ++ fitting (room - length (bytes_of xs)) ys)
    × (length (bytes_of xs) ≤ room)
unfolding fitting bytes_of
fitting-all room [] ys e = let z : room - 0 ≡ room = omega arith in (refl, rw z, omega arith)
fitting-all room (x ∷ xs) ys e = go (leb (length x) room) refl (fitting-all (room - length x) xs ys)
  where
    go : (b : Bool) → leb (length x) room ≡ b
        → (length (fitting (room - length x) xs) ≡ length xs
        → (fitting (room - length x) xs ≡ xs)
        × (fitting (room - length x) (xs ++ ys) ≡ xs ++ fitting (room - length x - length (bytes_of xs)) ys)
        × (length (bytes_of xs) ≤ room - length x))
        → (fitting room (x ∷ xs) ≡ x ∷ xs)
        × (fitting room (x ∷ (xs ++ ys)) ≡ x ∷ (xs ++ fitting (room - length (x ++ bytes_of xs)) ys))
        × (length (x ++ bytes_of xs) ≤ room)
    go true t r =
        let (p, q, h) = r (omega (arith, rw t at e)) in
        let l = leb-true (length x) room t in
        let z : room - length x - length (bytes_of xs)
        ≡ room - length (x ++ bytes_of xs) = omega (arith, length-append x (bytes_of xs)) in (
          rw t (ap (x ∷◌) p),
          rw t (ap (x ∷◌) (q ∙ ap (λ n. xs ++ fitting n ys) z)),
          omega (arith, length-append x (bytes_of xs), h, l),
        )
    go false t r = absurd (omega (arith, rw t at e))

-- lines that do not all fit, whatever is behind them
pub fitting-some : (room : ℕ) (xs ys : List (List ℕ)) → length (fitting room xs) < length xs
    → fitting room (xs ++ ys) ≡ fitting room xs
unfolding fitting
fitting-some room [] ys h = absurd (omega arith)
fitting-some room (x ∷ xs) ys h = go (leb (length x) room) refl (fitting-some (room - length x) xs ys)
  where
    go : (b : Bool) → leb (length x) room ≡ b
        → (length (fitting (room - length x) xs) < length xs
        → fitting (room - length x) (xs ++ ys) ≡ fitting (room - length x) xs)
        → fitting room (x ∷ (xs ++ ys)) ≡ fitting room (x ∷ xs)
    go true t r = rw t (ap (x ∷◌) (r (omega (arith, rw t at h))))
    go false t r = rw t

module _ (g : ℕ → List ℕ) (xs : List ℕ) (start i end : ℕ) where
  -- nothing is written yet
  pub filled_none : i ≤ end → start ≤ length xs → Filled g xs start i end xs start i
  unfolding listed bytes_of put_at
  filled_none h l =
      let z : i - i ≡ 0 = omega arith in
      record { written = rw z; place = rw z (omega arith); left = rw z; begun = omega arith; due = h; room = l }

  module _ (ys : List ℕ) (at j : ℕ) (f : Filled g xs start i end ys at j) where
    pub kept : length ys ≡ length xs
    kept = ap length f.written ∙ length-put xs start (bytes_of (listed g i (j - i)))

    -- one line more
    more-lines : (m : ℕ) → listed g i (j + m - i) ≡ listed g i (j - i) ++ listed g j m
    more-lines m =
        let z : j + m - i ≡ (j - i) + m = omega (arith, f.begun) in
        let w : i + (j - i) ≡ j = omega (arith, f.begun) in
        ap (listed g i) z ∙ listed-behind g i (j - i) m ∙ ap (λ x. listed g i (j - i) ++ listed g x m) w

    -- m lines more, which all fit
    pub filled_lines : (m : ℕ) → j + m ≤ end
        → fitting (length xs - at) (listed g j (end - j))
        ≡ listed g j m ++ fitting (length xs - (at + length (bytes_of (listed g j m))))
        (listed g (j + m) (end - (j + m)))
        → at + length (bytes_of (listed g j m)) ≤ length xs
        → Filled g xs start i end (put_at ys at (bytes_of (listed g j m))) (at + length (bytes_of (listed g j m))) (j + m)
    filled_lines m h e l =
        let b = bytes_of (listed g i (j - i)) in
        let d = bytes_of (listed g j m) in
        let z : bytes_of (listed g i (j + m - i)) ≡ b ++ d = ap bytes_of (more-lines m)
        ∙ bytes-behind (listed g i (j - i)) (listed g j m) in
        record {
          written =
              ap₂ (λ o n. put_at o n d) f.written f.place ∙ put-behind xs start b d ∙ ap (put_at xs start) (sym z);
          place = omega (arith, f.place, ap length z, length-append b d);
          left =
              f.left ∙ ap (listed g i (j - i) ++◌) e ∙ sym (append_assoc (listed g i (j - i)) (listed g j m) _)
              ∙ ap (◌++ fitting (length xs - (at + length d)) (listed g (j + m) (end - (j + m)))) (sym (more-lines m));
          begun = omega (arith, f.begun);
          due = h;
          room = l;
        }

    -- nothing more fits
    pub filled_full : fitting (length xs - at) (listed g j (end - j)) ≡ []
        → Full (fitting (length xs - start) (listed g i (end - i))) xs start i ys at j
    filled_full e =
        let block : fitting (length xs - start) (listed g i (end - i)) ≡ listed g i (j - i) = f.left
        ∙ ap (listed g i (j - i) ++◌) e ∙ append-nil (listed g i (j - i)) in
        record {
          written = f.written ∙ ap (λ b. put_at xs start (bytes_of b)) (sym block);
          place = f.place ∙ ap (λ b. start + length (bytes_of b)) (sym block);
          counted = omega (arith, f.begun, ap length block, length-listed g i (j - i));
        }

    -- the lines that are due next: one, and the others
    next-due : j < end → listed g j (end - j) ≡ g j ∷ listed g (j + 1) (end - (j + 1))
    unfolding listed
    next-due h =
        let z : end - j ≡ suc (end - (j + 1)) = omega (arith, h) in
        let w : suc j ≡ j + 1 = omega arith in
        ap (listed g j) z ∙ ap (λ m. g j ∷ listed g m (end - (j + 1))) w

    one_line : bytes_of (listed g j 1) ≡ g j
    unfolding listed bytes_of
    one_line = append-nil (g j)

    -- one line more, which fits
    pub filled_line : (line : List ℕ) → line ≡ g j → j < end → length line ≤ length ys - at
        → Filled g xs start i end (put_at ys at line) (at + length line) (j + 1)
    unfolding listed
    filled_line line e h l =
        let b : length (g j) ≤ length xs - at = omega (arith, l, ap length e, kept) in
        let d = ap length one_line in
        let z : length xs - at - length (g j) ≡ length xs - (at + length (bytes_of (listed g j 1))) = omega (arith, d) in
        let w : fitting (length xs - at) (listed g j (end - j))
        ≡ listed g j 1 ++ fitting (length xs - (at + length (bytes_of (listed g j 1))))
        (listed g (j + 1) (end - (j + 1)))
        = ap (fitting (length xs - at)) (next-due h) ∙ fitting-first (length xs - at) (g j) _ b
        ∙ ap (λ n. g j ∷ fitting n (listed g (j + 1) (end - (j + 1)))) z in
        rw (e, ← one_line) (filled_lines 1 (omega (arith, h)) w (omega (arith, d, b, f.room)))

    -- the next line does not fit, or none is due
    pub filled_stop : (line : List ℕ) → line ≡ g j → j < end → length ys - at < length line
        → Full (fitting (length xs - start) (listed g i (end - i))) xs start i ys at j
    filled_stop line e h l =
        filled_full (ap (fitting (length xs - at)) (next-due h)
        ∙ fitting-none (length xs - at) (g j) _ (omega (arith, l, ap length e, kept)))

    pub filled_end : j ≡ end → Full (fitting (length xs - start) (listed g i (end - i))) xs start i ys at j
    unfolding listed fitting
    filled_end e = filled_full (let z : end - j ≡ 0 = omega (arith, e) in rw z)

    -- m lines of a point, of which those that fit are written
    module _ (h : ℕ → List ℕ) (n m : ℕ) (same : (x : ℕ) → x < m → h (n + x) ≡ g (j + x)) (within : j + m ≤ end)
        (zs : List ℕ) (to n' : ℕ)
        (full : Full (fitting (length ys - at) (listed h n m)) ys at n zs to n') where
      block : fitting (length ys - at) (listed h n m) ≡ fitting (length xs - at) (listed g j m)
      block = ap₂ (λ r l. fitting (r - at) l) kept (listed-agree h g n j m same)

      due-behind : listed g j (end - j) ≡ listed g j m ++ listed g (j + m) (end - (j + m))
      due-behind =
          let z : end - j ≡ m + (end - (j + m)) = omega (arith, within) in
          ap (listed g j) z ∙ listed-behind g j m (end - (j + m))

      counted : n' ≡ n + length (fitting (length xs - at) (listed g j m))
      counted = full.counted ∙ ap (λ b. n + length b) block

      -- all of them
      pub filled_point : n' ≡ n + m → Filled g xs start i end zs to (j + m)
      filled_point e =
          let (p, q, l) = fitting-all (length xs - at) (listed g j m) (listed g (j + m) (end - (j + m)))
          (omega (arith, counted, e, length-listed g j m)) in
          let z : length xs - at - length (bytes_of (listed g j m))
          ≡ length xs - (at + length (bytes_of (listed g j m))) = omega arith in
          let b : fitting (length ys - at) (listed h n m) ≡ listed g j m = block ∙ p in
          rw (full.written ∙ ap (λ b. put_at ys at (bytes_of b)) b, full.place ∙ ap (λ b. at + length (bytes_of b)) b)
          (filled_lines m within
          (ap (fitting (length xs - at)) due-behind ∙ q
          ∙ ap (λ n. listed g j m ++ fitting n (listed g (j + m) (end - (j + m)))) z) (omega (arith, l, f.room)))

      -- not all of them
      pub full_point : n' < n + m
          → Full (fitting (length xs - start) (listed g i (end - i))) xs start i zs to (j + (n' - n))
      full_point e =
          let b = fitting (length xs - at) (listed g j m) in
          let a = listed g i (j - i) in
          let s : fitting (length xs - at) (listed g j (end - j)) ≡ b = ap (fitting (length xs - at)) due-behind
          ∙ fitting-some (length xs - at) (listed g j m) _ (omega (arith, counted, e, length-listed g j m)) in
          let w : fitting (length xs - start) (listed g i (end - i)) ≡ a ++ b = f.left ∙ ap (a ++◌) s in
          let v : bytes_of (fitting (length xs - start) (listed g i (end - i))) ≡ bytes_of a ++ bytes_of b = ap bytes_of w
          ∙ bytes-behind a b in
          record {
            written =
                full.written ∙ ap (λ x. put_at ys at (bytes_of x)) block
                ∙ ap₂ (λ o x. put_at o x (bytes_of b)) f.written f.place
                ∙ put-behind xs start (bytes_of a) (bytes_of b) ∙ ap (put_at xs start) (sym v);
            place =
                omega (
                  arith,
                  full.place,
                  ap (λ x. length (bytes_of x)) block,
                  f.place,
                  ap length v,
                  length-append (bytes_of a) (bytes_of b),
                );
            counted = omega (arith, counted, ap length w, length-append a b, length-listed g i (j - i), f.begun);
          }
