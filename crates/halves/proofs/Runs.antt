-- The laws of runs as they are written, for half runs and joint runs alike: reading, lengthening, stopping, and the
-- test that written steps go on from a state.
use Prim.Native.Nat.{ℕ, zero, suc, ◌+◌, ◌-◌, ◌*◌, ◌/◌, ◌%◌}
use mathlib.Core.Path.{◌≡◌, refl, sym, ◌∙◌, ap}
use mathlib.Core.Logic.{◌⊎◌, inl, inr}
use mathlib.Core.Bool.{Bool, true, false, cond, ◌&&◌, and_assoc}
use mathlib.Core.List.{List, [], ◌∷◌, ◌++◌, append-nil, append_assoc}
use native.Mathlib.Nat.{zero-sub, zero-mul, suc-mul}
use native.Mathlib.Omega.{arith}
use lib.ListN.{length, take, drop, length-append, length-drop, take-append-drop, get_or}
use lib.Seq.{drop-append-add, append_snoc, get_or-drop}
use lib.Dec.{eqb}
use borrow.Author.Tests.{eq-eqb, ne_eqb, eqb-true}
use Rattle.hml.proofs.Tests.{Decides, decides, both_true}
use Rattle.hml.specs.Lists.{◌∈◌, each}
use Rattle.hml.proofs.Lists.{length-each}
use Rattle.hml.specs.System.{System, move, idle, Run, start, ◌▸◌, first, last, steps, undo, stop, Allowed, moves, idles}
use Rattle.hml.specs.System.{RunOf, begins, goes}
use Rattle.tables.proofs.Chunks.{Chunks, chunks_whole, chunks_length}
use Rattle.halves.specs.Runs.{written, step_of, lengthened, go_on}

-- written steps that go on: the first decides, and leaves it to the others if it fits
module _ {S : Type 0} (fits : S → ℕ → S → Bool) (p : S) {x : Bool} where
  pub ended : {es : List (ℕ × S)} → es ≡ [] → go_on fits p es ≡ x → true ≡ x
  unfolding go_on
  ended e g = rw e at g

  module _ {a : ℕ} {q : S} {es rest : List (ℕ × S)} (e : es ≡ (a, q) ∷ rest) (g : go_on fits p es ≡ x) where
    pub stopped : fits p a q ≡ false → false ≡ x
    unfolding go_on
    stopped f = rw f at (rw e at g)

    pub passed : fits p a q ≡ true → go_on fits q rest ≡ x
    unfolding go_on
    passed f = rw f at (rw e at g)

module _ {S : Type 0} (M : System S) where
  -- no move has the label 255, which marks an idle
  abbrev pub NoIdleLabel : Type 0
  NoIdleLabel = (p : S) (a : ℕ) (q : S) → (a, q) ∈ M p → a ≡ 255 → ⊥

  -- the written step (a, q) is one that M has from p
  abbrev pub Fit : S → ℕ → S → Type 0
  Fit p a q = ((a ≡ 255) × (q ≡ p)) ⊎ ((a ≡ 255 → ⊥) × (a, q) ∈ M p)

module _ {S : Type 0} where
  -- lengthening by written steps, and then by others, is lengthening by both
  pub lengthened-append : (r : Run S) (xs ys : List (ℕ × S)) → lengthened r (xs ++ ys) ≡ lengthened (lengthened r xs) ys
  unfolding lengthened
  lengthened-append r [] ys = refl
  lengthened-append r (e ∷ xs) ys = lengthened-append (r ▸ step_of e.0 e.1) xs ys

  -- one more written step is one more step
  pub lengthened-more : (r : Run S) (es : List (ℕ × S)) (a : ℕ) (q : S)
      → lengthened r (es ++ (a, q) ∷ []) ≡ lengthened r es ▸ step_of a q
  unfolding lengthened
  lengthened-more r es a q = lengthened-append r es ((a, q) ∷ [])

  -- a written step ends in its target, an idle in the state that it keeps
  pub ends_in : (r : Run S) (a : ℕ) (q : S) → (a ≡ 255 → last r ≡ q) → last (r ▸ step_of a q) ≡ q
  unfolding step_of
  ends_in r a q k = go (eqb a 255) refl
    where
      go : (b : Bool) → eqb a 255 ≡ b → last (r ▸ cond b idle (move a q)) ≡ q
      go true e = k (eqb-true a 255 e)
      go false e = refl

  -- each written step is a step
  pub steps-lengthened : (r : Run S) (es : List (ℕ × S)) → steps (lengthened r es) ≡ steps r + length es
  unfolding lengthened
  steps-lengthened r [] = omega arith
  steps-lengthened r (e ∷ es) = omega (arith, steps-lengthened (r ▸ step_of e.0 e.1) es)

  -- a run that is lengthened starts where it started
  pub first-lengthened : (r : Run S) (es : List (ℕ × S)) → first (lengthened r es) ≡ first r
  unfolding lengthened
  first-lengthened r [] = refl
  first-lengthened r (e ∷ es) = first-lengthened (r ▸ step_of e.0 e.1) es

  -- a run is written with as many steps as it has
  pub length-written : (r : Run S) → length (written r) ≡ steps r
  unfolding written
  length-written (start p) = refl
  length-written (r ▸ move a q) = simp length-append (omega (arith, length-written r))
  length-written (r ▸ idle) = simp length-append (omega (arith, length-written r))

  -- one more step undone
  undo-suc : (n : ℕ) (r : Run S) → undo (suc n) r ≡ undo 1 (undo n r)
  undo-suc zero r = refl
  undo-suc (suc n) (start p) = refl
  undo-suc (suc n) (r ▸ s) = undo-suc n r

  -- undoing what a run was lengthened by
  pub undo-lengthened : (r : Run S) (es : List (ℕ × S)) → undo (length es) (lengthened r es) ≡ r
  unfolding lengthened
  undo-lengthened r [] = refl
  undo-lengthened r (e ∷ es) = rw (undo-suc, undo-lengthened (r ▸ step_of e.0 e.1) es)

  -- nothing is stopped where there is no step
  pub stop-start : (n : ℕ) (p : S) → stop n (start p) ≡ start p
  stop-start n p = rw zero-sub

  -- stopping the reading is the reading of the first written steps
  pub stop-lengthened : (n : ℕ) (p : S) (es : List (ℕ × S))
      → stop n (lengthened (start p) es) ≡ lengthened (start p) (take n es)
  stop-lengthened n p es =
      let k : steps (lengthened (start p) es) - n
      ≡ length (drop n es) = omega (arith, steps-lengthened (start p) es, length-drop n es) in
      rw k (ap (λ (l : List (ℕ × S)). undo (length (drop n es)) (lengthened (start p) l)) (sym (take-append-drop n es))
      ∙ ap (undo (length (drop n es))) (lengthened-append (start p) (take n es) (drop n es))
      ∙ undo-lengthened (lengthened (start p) (take n es)) (drop n es))

  -- the state in which written steps end: the target of the last one, or p where there is none
  unfoldable pub ends : S → List (ℕ × S) → S
  ends p [] = p
  ends p (e ∷ es) = ends e.1 es

  ends_more : (p : S) (es : List (ℕ × S)) (a : ℕ) (q : S) → ends p (es ++ (a, q) ∷ []) ≡ q
  unfolding ends
  ends_more p [] a q = refl
  ends_more p (e ∷ es) a q = ends_more e.1 es a q

  -- a written run ends where the run ends
  pub ends-written : (r : Run S) → ends (first r) (written r) ≡ last r
  unfolding ends written
  ends-written (start p) = refl
  ends-written (r ▸ move a q) = ends_more (first r) (written r) a q
  ends-written (r ▸ idle) = ends_more (first r) (written r) 255 (last r)

  -- written steps go on if the first of them do, and the others from where these end
  pub go_on-append : (fits : S → ℕ → S → Bool) (p : S) (xs ys : List (ℕ × S))
      → go_on fits p (xs ++ ys) ≡ (go_on fits p xs && go_on fits (ends p xs) ys)
  unfolding go_on ends
  go_on-append fits p [] ys = refl
  go_on-append fits p (e ∷ xs) ys =
      rw (go_on-append fits e.1 xs ys)
      (sym (and_assoc (fits p e.0 e.1) (go_on fits e.1 xs) (go_on fits (ends e.1 xs) ys)))

  -- the first of written steps that go on do so
  pub go_on-take : (fits : S → ℕ → S → Bool) (p : S) (n : ℕ) (es : List (ℕ × S)) → go_on fits p es ≡ true
      → go_on fits p (take n es) ≡ true
  go_on-take fits p n es g = (both_true (sym (go_on-append fits p (take n es) (drop n es)) ∙ rw take-append-drop g)).0

module _ {S : Type 0} (M : System S) where
  -- what a system's moves keep holds in the last state of a run if it holds in the first
  pub run_keeps : (In : S → Type 0) → ((p : S) (a : ℕ) (q : S) → In p → (a, q) ∈ M p → In q) → {r : Run S} → RunOf M r
      → In (first r) → In (last r)
  run_keeps In k begins i = i
  run_keeps In k (goes x (moves m)) i = k _ _ _ (run_keeps In k x i) m
  run_keeps In k (goes x idles) i = run_keeps In k x i

module _ {S : Type 0} (M : System S) (fits : S → ℕ → S → Bool)
    (d : (p : S) (a : ℕ) (q : S) → Decides (Fit M p a q) (fits p a q)) where
  -- a step that fits is read as a step that the system has, ends in its target, and is written again as it was
  fit_read : (r : Run S) (a : ℕ) (q : S) → Fit M (last r) a q
      → Allowed M (last r) (step_of a q) × (last (r ▸ step_of a q) ≡ q)
      × (written (r ▸ step_of a q) ≡ written r ++ (a, q) ∷ [])
  unfolding step_of written
  fit_read r a q (inl (e, f)) = rw (eq-eqb a 255 e, e, f) (idles, refl, refl)
  fit_read r a q (inr (n, i)) = rw (ne_eqb a 255 n) (moves i, refl, refl)

  -- written steps that go on from the end of a run of the system lengthen it to one, which is written with them and
  -- ends where they end
  pub go_on_on : (r : Run S) (es : List (ℕ × S)) → RunOf M r → go_on fits (last r) es ≡ true
      → RunOf M (lengthened r es) × (written (lengthened r es) ≡ written r ++ es)
      × (last (lengthened r es) ≡ ends (last r) es)
  unfolding lengthened go_on ends
  go_on_on r [] x g = (x, sym (append-nil (written r)), refl)
  go_on_on r (e ∷ es) x g =
      let (h, g') = both_true g in
      let (w, l, m) = fit_read r e.0 e.1 ((decides (d (last r) e.0 e.1)).0 h) in
      let (x', m', l') = go_on_on (r ▸ step_of e.0 e.1) es (goes x w) (rw l g') in
      (x', m' ∙ rw (m, append_assoc), l' ∙ rw l)

  -- written steps that go on from p are read as a run of the system, which is written as they were
  pub go_on-run : (p : S) (es : List (ℕ × S)) → go_on fits p es ≡ true
      → RunOf M (lengthened (start p) es) × (written (lengthened (start p) es) ≡ es)
  unfolding written
  go_on-run p es g = let t = go_on_on (start p) es begins g in (t.0, t.1)

  -- and that run ends where they end
  pub go_on-last : (p : S) (es : List (ℕ × S)) → go_on fits p es ≡ true → last (lengthened (start p) es) ≡ ends p es
  go_on-last p es g = (go_on_on (start p) es begins g).2

  -- one more step that fits
  run_more : (r : Run S) (a : ℕ) (q : S) → Fit M (last r) a q
      → (go_on fits (first r) (written r) ≡ true) × (lengthened (start (first r)) (written r) ≡ r)
      → (go_on fits (first r) (written r ++ (a, q) ∷ []) ≡ true)
      × (lengthened (start (first r)) (written r ++ (a, q) ∷ []) ≡ r ▸ step_of a q)
  unfolding go_on
  run_more r a q f (g, e) = (
    rw (go_on-append, g, ends-written, (decides (d (last r) a q)).1 f),
    lengthened-more (start (first r)) (written r) a q ∙ ap (◌▸ step_of a q) e,
  )

  module _ (free : NoIdleLabel M) where
    -- a run of a system without the label 255 is written in steps that go on, and is read from them again
    pub run-go_on : {r : Run S} → RunOf M r
        → (go_on fits (first r) (written r) ≡ true) × (lengthened (start (first r)) (written r) ≡ r)
    unfolding written go_on lengthened step_of
    run-go_on begins = (refl, refl)
    run-go_on (goes {r = r} x (moves {a = a} {p' = q} i)) =
        let n = free (last r) a q i in
        let t = run_more r a q (inr (n, i)) (run-go_on x) in
        (t.0, t.1 ∙ rw (ne_eqb a 255 n))
    run-go_on (goes {r = r} x idles) = run_more r 255 (last r) (inl (refl, refl)) (run-go_on x)

-- a byte of what is left after n bytes is a byte of the whole
pub dropped_at : (s : List ℕ) (n m i : ℕ) {l : List ℕ} → drop n s ≡ l → m ≡ n + i → get_or l i 0 ≡ get_or s m 0
dropped_at s n m i e h = rw (← e, h) (get_or-drop n s i 0)

-- a written step as bytes, with h for the bytes of a state: its label, then its target
abbrev pub step_bytes : {S : Type 0} → (S → List ℕ) → ℕ × S → List ℕ
step_bytes h e = e.0 ∷ h e.1

module _ {S : Type 0} {k : ℕ} (h : S → List ℕ) {f : List ℕ → List (ℕ × S)} (c : Chunks k (step_bytes h) f) where
  -- the last bytes are those of the state in which the written steps end
  pub last-bytes : (p : S) (es : List (ℕ × S)) → drop (length es * k) (h p ++ each (step_bytes h) es) ≡ h (ends p es)
  unfolding ends
  last-bytes p [] = rw (zero-mul, append-nil)
  last-bytes p (e ∷ es) =
      let s : suc (length es) * k ≡ length (h p ++ e.0 ∷ []) + length es * k = suc-mul (length es) k
      ∙ omega (arith, length-append (h p) (e.0 ∷ []), c.sized (0, p)) in
      rw (s, ← append_snoc (h p) e.0 (h e.1 ++ each (step_bytes h) es), drop-append-add, last-bytes e.1 es)

  module _ (M : System S) (fits : S → ℕ → S → Bool) (d : (p : S) (a : ℕ) (q : S) → Decides (Fit M p a q) (fits p a q))
      (p : S) (bs : List ℕ) where
    -- whole steps that go on from p are read as a run of the system, which is spelled with them, has as many steps, and
    -- ends in the state that they spell last
    pub read_accepted : length bs % k ≡ 0 → go_on fits p (f bs) ≡ true → let r = lengthened (start p) (f bs) in
        RunOf M r × (each (step_bytes h) (written r) ≡ bs) × (steps r ≡ length bs / k)
        × (drop (length bs) (h p ++ bs) ≡ h (last r))
    read_accepted whole g =
        let (x, w) = go_on-run M fits d p (f bs) g in
        let b = chunks_whole c bs whole in
        let n : length bs ≡ length (f bs) * k = ap length (sym b) ∙ length-each (step_bytes h) k c.sized (f bs) in (
          x,
          rw (w, b),
          steps-lengthened (start p) (f bs) ∙ omega (arith, chunks_length c bs),
          rw (go_on-last M fits d p (f bs) g, n) (rw b at (last-bytes p (f bs))),
        )
