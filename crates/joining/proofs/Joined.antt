-- Joining halves step by step: the label of each joint step, the run that the first steps give, and its bytes.
use Prim.Native.Nat.{ℕ, zero, suc, ◌+◌, ◌-◌, ◌*◌, ◌/◌, ◌%◌, ◌≤◌, ◌<◌}
use mathlib.Core.Path.{◌≡◌, refl, sym, ◌∙◌, ap}
use mathlib.Core.Bool.{Bool, true, false, cond, false≢true}
use mathlib.Core.List.{List, [], ◌∷◌, ◌++◌}
use native.Mathlib.Omega.{arith}
use lib.ListN.{length, get_or, take, drop, set, length-set}
use lib.Seq.{take_all, drop-set-lt, length-take-le}
use lib.Dec.{eqb}
use borrow.Author.Tests.{eqb-true}
use Rattle.hml.proofs.Tests.{apart, Decides, refutes, decided_iff, decided_alike, decided_same}
use Rattle.hml.specs.Lists.{guard, present}
use Rattle.hml.proofs.Lists.{each_append, length-each}
use Rattle.hml.specs.System.{Step, move, idle, Run, start, ◌▸◌, last, steps, Pairing}
use Rattle.hml.specs.Compose.{shakes, paired}
use Rattle.hml.proofs.Composition.{decided_shakes, last-join}
use Rattle.hml.specs.Joining.{join_step, extend, join}
use Rattle.hml.proofs.Joins.{join_sound, join-steps}
use Rattle.labels.specs.Labels.{pairing}
use Rattle.labels.specs.Labels.{partner_found}
use Rattle.labels.specs.Refusals.{in_front}
use Rattle.labels.specs.declared.label.Label.{Label}
use Rattle.halves.specs.Runs.{written, step_of}
use Rattle.halves.specs.Steps.{step_struct, step_read}
use Rattle.halves.specs.declared.step.Step as held
use Rattle.halves.proofs.Steps.{step_found, none_found}
use Rattle.halves.specs.Halves.{twos, half_of}
use Rattle.halves.proofs.Runs.{steps-lengthened, length-written, step_bytes}
use Rattle.halves.proofs.HalfRuns.{twos_chunks, half_more}
use Rattle.halves.proofs.HalfBuffers.{half_first}
use Rattle.tables.proofs.Chunks.{chunks_length}
use Rattle.machines.specs.Joints.{joint_bytes}
use Rattle.labels.proofs.Slices.{take_two, written_behind}
use Rattle.machines.proofs.JointRuns.{state_bytes}
use Rattle.machines.proofs.Buffers.{length-put}
use Rattle.machines.specs.Working.{put}
use Rattle.labels.proofs.Labels.{found_some, found_none}
use Rattle.labels.specs.declared.label.Labels.{Labels}
use Rattle.joining.specs.Joinings.{join_of, halves_match, run_bytes, join_bytes}
use Rattle.joining.specs.Working.{HalfBytes, shaken_label, joint_label, label_read}
use Rattle.std.specs.Prelude.{None, Option, Some}
use Rattle.std.specs.Option.{option_eq, is_some}
use Rattle.std.specs.Bool.{MatchBool}
use Rattle.std.specs.List.{range_with_len, AllWithin, HoldsAt}
use Rattle.std.proofs.lemmas.List.FromFn.{get_or-range_with_len, length-range_with_len}
use Rattle.std.proofs.Common.{add-one}

-- do two moves shake hands? The code compares the partner of the left label with the right one
abbrev is_partner : Option ℕ → Label → Bool
is_partner o b = option_eq (λ (l m : Label). eqb l.0 m.0) (partner_found o) (Some b)

decided_partner : (o : Option ℕ) (b : Label) → Decides (o ≡ Some b.0) (is_partner o b)
unfolding partner_found
decided_partner None b = refutes (λ e. apart cc)
decided_partner (Some n) b = decided_iff (λ e. ap Some e) (λ e. cc) (decided_same n b.0)

pub shaken-compared : (P : Pairing) (a b : Label) {o : Option Label} {t : Bool} → o ≡ partner_found (P.partner a.0)
    → t ≡ option_eq (λ (l m : Label). eqb l.0 m.0) o (Some b)
    → partner_found (guard t 0) ≡ partner_found (shaken_label P a.0 b.0)
unfolding shaken_label
shaken-compared P a b e f =
    rw (f, e, decided_alike (λ h. h) (λ h. h) (decided_partner (P.partner a.0) b) (decided_shakes P a.0 b.0))

-- step i of a half as it is held, and the label of joint step i
abbrev held_at : List ℕ → ℕ → held.Step
held_at a i = step_struct (step_of (get_or a (2 * i + 1) 0) (get_or a (2 * i + 2) 0))

abbrev pub label_here : Labels → List ℕ → List ℕ → ℕ → Option ℕ
label_here k a b i = joint_label (pairing k) (held_at a i) (held_at b i)

-- what a label tells that is found at i
module _ (k : Labels) (a b : List ℕ) (i : ℕ) where
  abbrev pub found_here : Option Label
  found_here = partner_found (label_read (pairing k) (step_read a i) (step_read b i))

  pub record Labelled (c : Label) : Type 0 where
    pub left : i < length a / 2
    pub right : i < length b / 2
    pub here : label_here k a b i ≡ Some c.0

  pub labelled-here : (c : Label) → Some c ≡ found_here → Labelled c
  unfolding label_read
  labelled-here c e =
      go (step_read a i) (step_read b i) refl refl
      (found_some (label_read (pairing k) (step_read a i) (step_read b i)) c e)
    where
      go : (s t : Option held.Step) → step_read a i ≡ s → step_read b i ≡ t → label_read (pairing k) s t ≡ Some c.0
          → Labelled c
      go (Some x) (Some y) f g e =
          let left = step_found a i x (sym f) in
          let right = step_found b i y (sym g) in
          record { left = left.within; right = right.within; here = rw (← left.here, ← right.here) e }
      go (Some x) None f g e = absurd (apart cc)
      go None t f g e = absurd (apart cc)

  -- what it tells that there is none where both halves have a step
  pub unlabelled_here : length a % 2 ≡ 1 → length b % 2 ≡ 1 → i < length a / 2 → i < length b / 2 → None ≡ found_here
      → label_here k a b i ≡ None
  unfolding label_read
  unlabelled_here o p h k' e =
      go (step_read a i) (step_read b i) refl refl
      (found_none (label_read (pairing k) (step_read a i) (step_read b i)) e)
    where
      go : (s t : Option held.Step) → step_read a i ≡ s → step_read b i ≡ t → label_read (pairing k) s t ≡ None
          → label_here k a b i ≡ None
      go (Some x) (Some y) f g e =
          rw (← (step_found a i x (sym f)).here, ← (step_found b i y (sym g)).here) e
      go s None f g e = absurd (omega (arith, h, k', none_found b i p (sym g)))
      go None t f g e = absurd (omega (arith, h, k', none_found a i o (sym f)))

-- is a label found at i?
abbrev pub found_is : Labels → List ℕ → List ℕ → Bool → ℕ → Type 0
found_is k a b t i = is_some (found_here k a b i) ≡ t

-- a half up to step i
abbrev pub up_to : List ℕ → ℕ → Run ℕ
up_to a i = half_of (take (2 * i + 1) a)

-- it with its next step
half_next : (a : List ℕ) (i : ℕ) → 2 * i + 2 < length a
    → up_to a (i + 1) ≡ up_to a i ▸ step_of (get_or a (2 * i + 1) 0) (get_or a (2 * i + 2) 0)
half_next a i h =
    let e : 2 * (i + 1) + 1 ≡ 2 * i + 1 + 2 = omega arith in
    let f : 2 * i + 2 ≡ 2 * i + 1 + 1 = omega arith in
    rw (e, f, take_two a (2 * i + 1) (omega arith))
    (half_more (take (2 * i + 1) a) (get_or a (2 * i + 1) 0) (get_or a (2 * i + 1 + 1) 0)
    (omega (arith, length-take-le (2 * i + 1) a (omega arith))))

-- the number of its steps
half_steps : (a : List ℕ) → length a % 2 ≡ 1 → steps (half_of a) ≡ length a / 2
unfolding half_of
half_steps [] o = absurd (omega (arith, o))
half_steps (p ∷ bs) o = steps-lengthened (start p) (twos bs) ∙ omega (arith, chunks_length twos_chunks bs, o)

up_to-steps : (a : List ℕ) (i : ℕ) → 2 * i + 1 ≤ length a → steps (up_to a i) ≡ i
up_to-steps a i h =
    let n = length-take-le (2 * i + 1) a h in half_steps (take (2 * i + 1) a) (omega (arith, n)) ∙ omega (arith, n)

-- the whole half
half_whole : (a : List ℕ) → length a % 2 ≡ 1 → up_to a (length a / 2) ≡ half_of a
half_whole a o = ap half_of (take_all (2 * (length a / 2) + 1) a (omega (arith, o)))

-- each step of a half run ends in the target that is written with it
half_ends : (a : List ℕ) → HalfBytes a → (i : ℕ) → 2 * i + 2 < length a
    → last (up_to a i ▸ step_of (get_or a (2 * i + 1) 0) (get_or a (2 * i + 2) 0)) ≡ get_or a (2 * i + 2) 0
half_ends a x i h =
    let e : 2 * (i + 1) ≡ 2 * i + 2 = omega arith in
    rw (← half_next a i h, ← e) (x.kept (i + 1) (omega arith))

-- a written label and its targets as a joint step
abbrev labelled : Option ℕ → ℕ × ℕ → Option (Step (ℕ × ℕ))
labelled None u = None
labelled (Some c) u = Some (step_of c u)

-- two written steps form the joint step of their label and targets, since an idle is written with the state that it
-- keeps
step_joined : (P : Pairing) (l r : Run ℕ) (a p b q : ℕ) → last (l ▸ step_of a p) ≡ p → last (r ▸ step_of b q) ≡ q
    → join_step P paired (last l) (last r) (step_of a p) (step_of b q)
    ≡ labelled (joint_label P (step_struct (step_of a p)) (step_struct (step_of b q))) (p, q)
unfolding step_of step_struct joint_label shaken_label
step_joined P l r a p b q h g = go (eqb a 255) (eqb b 255) refl refl h g
  where
    shaken : (t : Bool) → guard t (move 0 (p, q)) ≡ labelled (guard t 0) (p, q)
    shaken true = refl
    shaken false = refl

    go : (x y : Bool) → eqb a 255 ≡ x → eqb b 255 ≡ y
        → last (l ▸ cond x idle (move a p)) ≡ p → last (r ▸ cond y idle (move b q)) ≡ q
        → join_step P paired (last l) (last r) (cond x idle (move a p)) (cond y idle (move b q))
        ≡ labelled (joint_label P (step_struct (cond x idle (move a p))) (step_struct (cond y idle (move b q)))) (p, q)
    go true true e f h g = refl
    go true false e f h g = rw (f, h)
    go false true e f h g = rw (e, g)
    go false false e f h g = shaken (shakes P a b)

-- is there a run?
abbrev pub matched : Option (Run (ℕ × ℕ)) → Bool
matched o = present (λ j. true) o

-- a run that another step lengthens was there
matched_more : (P : Pairing) (o : Option (Run (ℕ × ℕ))) (u : Option (Step (ℕ × ℕ)))
    → matched (extend P paired o u) ≡ true → matched o ≡ true
matched_more P None u e = e
matched_more P (Some j) u e = refl

-- the joint run of the first i steps, if they match
abbrev pub joined_to : Labels → List ℕ → List ℕ → ℕ → Option (Run (ℕ × ℕ))
joined_to k a b i = join (pairing k) paired (up_to a i) (up_to b i)

module _ (k : Labels) (a b : List ℕ) (x : HalfBytes a) (y : HalfBytes b) where
  joined-start : joined_to k a b 0 ≡ Some (start (get_or a 0 0, get_or b 0 0))
  unfolding join
  joined-start = rw (half_first a (omega (arith, x.odd)), half_first b (omega (arith, y.odd)))

  -- the next joint step
  joined-next : (i : ℕ) → 2 * i + 2 < length a → 2 * i + 2 < length b
      → joined_to k a b (i + 1) ≡ extend (pairing k) paired (joined_to k a b i)
      (labelled (label_here k a b i) (get_or a (2 * i + 2) 0, get_or b (2 * i + 2) 0))
  unfolding join
  joined-next i h g = rw (
    half_next a i h,
    half_next b i g,
    step_joined (pairing k) (up_to a i) (up_to b i) (get_or a (2 * i + 1) 0) (get_or a (2 * i + 2) 0) (get_or b (2 * i + 1) 0)
        (get_or b (2 * i + 2) 0) (half_ends a x i h) (half_ends b y i g),
  )

  -- halves that match up to a step match up to each step before it
  matched_before : (n i : ℕ) → 2 * (i + n) + 1 ≤ length a → 2 * (i + n) + 1 ≤ length b
      → matched (joined_to k a b (i + n)) ≡ true → matched (joined_to k a b i) ≡ true
  matched_before zero i h g e = let z : i + 0 ≡ i = omega arith in rw z at e
  matched_before (suc n) i h g e =
      let s : i + suc n ≡ i + n + 1 = omega arith in
      let u = labelled (label_here k a b (i + n)) (get_or a (2 * (i + n) + 2) 0, get_or b (2 * (i + n) + 2) 0) in
      matched_before n i (omega arith) (omega arith)
      (matched_more (pairing k) (joined_to k a b (i + n)) u (rw (s, joined-next (i + n) (omega arith) (omega arith)) at
      e))

  -- halves that match are equally long
  equally_long : matched (join_of k a b) ≡ true → length a ≡ length b
  unfolding join_of
  equally_long m = go (join (pairing k) paired (half_of a) (half_of b)) refl m
    where
      go : (o : Option (Run (ℕ × ℕ))) → join (pairing k) paired (half_of a) (half_of b) ≡ o → matched o ≡ true
          → length a ≡ length b
      go None e m = absurd (false≢true m)
      go (Some j) e m =
          let (u, v) = join-steps (pairing k) paired (join_sound (pairing k) paired (half_of a) (half_of b) j e) in omega
          (arith, u, v, half_steps a x.odd, half_steps b y.odd, x.odd, y.odd)

  -- 16 for halves that are not
  pub match_uneven : (length a ≡ length b → ⊥) → false ≡ halves_match k a b
  unfolding halves_match
  match_uneven n = go (matched (join_of k a b)) refl
    where
      go : (t : Bool) → matched (join_of k a b) ≡ t → false ≡ t
      go true e = absurd (n (equally_long e))
      go false e = refl

  pub match_start : matched (joined_to k a b 0) ≡ true
  match_start = rw joined-start

  -- halves that are equally long
  module _ (long : length a ≡ length b) where
    joined-whole : joined_to k a b (length a / 2) ≡ join_of k a b
    unfolding join_of
    joined-whole = rw (half_whole a x.odd, ap (λ (n : ℕ). up_to b (n / 2)) long, half_whole b y.odd)

    -- all steps match
    pub match_whole : matched (joined_to k a b (length a / 2)) ≡ true → true ≡ halves_match k a b
    unfolding halves_match
    match_whole m = sym (rw joined-whole at m)

    module _ (i : ℕ) (h : i < length a / 2) where
      -- step i does not match
      pub match_stop : None ≡ found_here k a b i → false ≡ halves_match k a b
      unfolding halves_match
      match_stop f = go (matched (join_of k a b)) refl
        where
          stopped : (o : Option (Run (ℕ × ℕ))) → matched (extend (pairing k) paired o None) ≡ true → ⊥
          stopped None e = false≢true e
          stopped (Some j) e = false≢true e

          go : (t : Bool) → matched (join_of k a b) ≡ t → false ≡ t
          go false e = refl
          go true e =
              let n = length a / 2 - (i + 1) in
              let s : i + 1 + n ≡ length a / 2 = omega arith in
              let m = matched_before n (i + 1) (omega (arith, x.odd)) (omega (arith, x.odd)) (rw (s, joined-whole) e) in
              let l = unlabelled_here k a b i x.odd y.odd h (omega (arith, h, long)) f in
              absurd (stopped (joined_to k a b i) (rw (joined-next i (omega arith) (omega arith), l) at m))

      -- step i matches
      match_on : (o : Option Label) → o ≡ found_here k a b i → is_some o ≡ true → matched (joined_to k a b i) ≡ true
          → matched (joined_to k a b (i + 1)) ≡ true
      match_on None e f m = absurd (false≢true f)
      match_on (Some c) e f m =
          let u : Step (ℕ × ℕ) = step_of c.0 (get_or a (2 * i + 2) 0, get_or b (2 * i + 2) 0) in
          rw (joined-next i (omega (arith, h, x.odd)) (omega (arith, h, long, x.odd)), (labelled-here k a b i c e).here)
          (more (joined_to k a b i) u m)
        where
          more : (o : Option (Run (ℕ × ℕ))) (u : Step (ℕ × ℕ)) → matched o ≡ true
              → matched (extend (pairing k) paired o (Some u)) ≡ true
          more None u e = e
          more (Some j) u e = refl

    -- what a search over the steps tells: each has a label, or one has none
    abbrev numbers : List ℕ
    numbers = range_with_len 0 (length a / 2)

    number : (i : ℕ) → i < length a / 2 → get_or numbers i 0 ≡ i
    number i h = omega (arith, get_or-range_with_len 0 (length a / 2) i 0 h)

    pub match_searched : (r : Bool)
        → MatchBool r (AllWithin (found_is k a b true) numbers 0 (length numbers))
        ((i : ℕ) × (i < length numbers) × HoldsAt (found_is k a b false) numbers i)
        → r ≡ halves_match k a b
    match_searched true all = match_whole (up (length a / 2) (omega arith))
      where
        at : (i : ℕ) → i < length a / 2 → is_some (found_here k a b i) ≡ true
        at i h =
            rw (number i h) at
            (all i 0 (omega arith) (rw (length-range_with_len 0 (length a / 2)) h))

        up : (i : ℕ) → i ≤ length a / 2 → matched (joined_to k a b i) ≡ true
        up zero h = match_start
        up (suc i) h =
            rw (sym (add-one i))
            (match_on i (omega arith) (found_here k a b i) refl (at i (omega arith)) (up i (omega arith)))
    match_searched false (i, h, none) = match_stop i within (unfound (found_here k a b i) refl)
      where
        within : i < length a / 2
        within = rw (length-range_with_len 0 (length a / 2)) at h

        missing : found_is k a b false i
        missing = rw (number i within) at (none 0)

        unfound : (o : Option Label) → found_here k a b i ≡ o → None ≡ found_here k a b i
        unfound None e = sym e
        unfound (Some c) e = absurd (false≢true (sym (rw e at missing)))

-- the bytes of a joint run with one more step, which ends in the targets that are written with it
bytes-more : (j : Run (ℕ × ℕ)) (c p q : ℕ) → last (j ▸ step_of c (p, q)) ≡ (p, q)
    → joint_bytes (j ▸ step_of c (p, q)) ≡ joint_bytes j ++ c ∷ p ∷ q ∷ []
unfolding joint_bytes step_of written
bytes-more j c p q h = go (eqb c 255) refl h
  where
    go : (t : Bool) → eqb c 255 ≡ t → last (j ▸ cond t idle (move c (p, q))) ≡ (p, q)
        → joint_bytes (j ▸ cond t idle (move c (p, q))) ≡ joint_bytes j ++ c ∷ p ∷ q ∷ []
    go true e h = rw (h, each_append (step_bytes state_bytes) (written j) ((255, (p, q)) ∷ []), eqb-true c 255 e)
    go false e h = rw (each_append (step_bytes state_bytes) (written j) ((c, (p, q)) ∷ []))

-- two start states, and three bytes a step
bytes-length : (j : Run (ℕ × ℕ)) → length (joint_bytes j) ≡ 3 * steps j + 2
unfolding joint_bytes
bytes-length j =
    omega (
      arith,
      length-each (λ (e : ℕ × (ℕ × ℕ)). e.0 ∷ e.1.0 ∷ e.1.1 ∷ []) 3 (λ e. refl) (written j),
      length-written j,
    )

-- three bytes written behind the bytes b
put_three : (b xs : List ℕ) (n c p q : ℕ) → length b ≡ n → n + 3 ≤ length xs
    → put (b ++ drop n xs) n c p q ≡ (b ++ c ∷ p ∷ q ∷ []) ++ drop (n + 3) xs
put_three b xs n c p q e h =
    let second : n + 1 ≡ suc n = omega arith in
    let third : n + 2 ≡ suc (suc n) = omega arith in
    rw (second, third) (written_behind b (c ∷ p ∷ q ∷ []) xs n e h)

-- the output when the loop begins: the two start states
abbrev pub begun_by : List ℕ → List ℕ → List ℕ → List ℕ
begun_by a b out = set (set out 0 (get_or a 0 0)) 1 (get_or b 0 0)

-- the loop has written the joint run of the first i steps over what it began with
pub record Joining (k : Labels) (a b begun out : List ℕ) (i : ℕ) : Type 0 where
  pub kept : length out ≡ length begun
  pub same : out ≡ run_bytes (joined_to k a b i) ++ drop (3 * i + 2) begun

-- halves that match
module _ (k : Labels) (a b : List ℕ) (x : HalfBytes a) (y : HalfBytes b) (m : halves_match k a b ≡ true) where
  -- they are equally long
  pub match_long : length a ≡ length b
  unfolding halves_match
  match_long = equally_long k a b x y m

  -- the run that the first steps give: its size, and where it ends
  joined-found : (i : ℕ) → i ≤ length a / 2
      → (j : Run (ℕ × ℕ)) × (joined_to k a b i ≡ Some j) × (length (joint_bytes j) ≡ 3 * i + 2)
  unfolding halves_match
  joined-found i h =
      go (joined_to k a b i) refl
      (matched_before k a b x y n i (omega (arith, x.odd)) (omega (arith, x.odd, match_long))
      (rw (s, joined-whole k a b x y match_long) m))
    where
      n : ℕ
      n = length a / 2 - i

      s : i + n ≡ length a / 2
      s = omega arith

      go : (o : Option (Run (ℕ × ℕ))) → joined_to k a b i ≡ o → matched o ≡ true
          → (j : Run (ℕ × ℕ)) × (o ≡ Some j) × (length (joint_bytes j) ≡ 3 * i + 2)
      go None e t = absurd (false≢true t)
      go (Some j) e t =
          let (u, v) = join-steps (pairing k) paired (join_sound (pairing k) paired (up_to a i) (up_to b i) j e) in
          (j, refl, omega (arith, bytes-length j, u, up_to-steps a i (omega (arith, x.odd))))

  -- the whole run
  pub join-length : length (join_bytes k a b) ≡ 3 * (length a / 2) + 2
  unfolding join_bytes
  join-length =
      let (j, e, n) = joined-found (length a / 2) (omega arith) in rw (← joined-whole k a b x y match_long, e) n

  -- what the first steps have written: two states, and three bytes a step
  written-size : (i : ℕ) → i ≤ length a / 2 → length (run_bytes (joined_to k a b i)) ≡ 3 * i + 2
  written-size i h = let (j, e, n) = joined-found i h in rw e n

  -- the next step has a label, and adds it and both targets
  written_next : (i : ℕ) → i < length a / 2 → (c : ℕ) × (label_here k a b i ≡ Some c)
      × (run_bytes (joined_to k a b (i + 1)) ≡ run_bytes (joined_to k a b i) ++ c ∷ get_or a (2 * i + 2) 0
      ∷ get_or b (2 * i + 2) 0 ∷ [])
  written_next i h =
      let (j, e, n) = joined-found i (omega arith) in
      let (j', e', n') = joined-found (i + 1) (omega arith) in
      go (label_here k a b i) j j' e e'
      (joined-next k a b x y i (omega (arith, x.odd)) (omega (arith, x.odd, match_long)))
    where
      p : ℕ
      p = get_or a (2 * i + 2) 0

      q : ℕ
      q = get_or b (2 * i + 2) 0

      ends : (j' : Run (ℕ × ℕ)) → joined_to k a b (i + 1) ≡ Some j' → last j' ≡ (p, q)
      ends j' e =
          let s : 2 * (i + 1) ≡ 2 * i + 2 = omega arith in
          let t = last-join (pairing k) paired (join_sound (pairing k) paired (up_to a (i + 1)) (up_to b (i + 1)) j' e) in
          rw (x.kept (i + 1) (omega (arith, x.odd)), y.kept (i + 1) (omega (arith, x.odd, match_long)), s) at t

      go : (o : Option ℕ) (j j' : Run (ℕ × ℕ)) → joined_to k a b i ≡ Some j → joined_to k a b (i + 1) ≡ Some j'
          → joined_to k a b (i + 1) ≡ extend (pairing k) paired (joined_to k a b i) (labelled o (p, q))
          → (c : ℕ) × (o ≡ Some c) × (run_bytes (joined_to k a b (i + 1)) ≡ run_bytes (joined_to k a b i) ++ c ∷ p ∷ q ∷ [])
      go None j j' e e' f = absurd (let g = rw (e, e') at f in apart cc)
      go (Some c) j j' e e' f =
          let g : Some j' ≡ Some (j ▸ step_of c (p, q)) = rw (e, e') at f in
          let g' : j' ≡ j ▸ step_of c (p, q) = cc in
          (c, refl, rw (e, e', g') (bytes-more j c p q (rw (← g') (ends j' e'))))

  module _ (first : List ℕ) (room : length (join_bytes k a b) ≤ length first) where
    pub write_start : Joining k a b (begun_by a b first) (begun_by a b first) 0
    unfolding joint_bytes written
    write_start =
        record {
          kept = refl;
          same = rw (joined-start k a b x y)
              (starts first (omega (arith, join-length)));
        }
      where
        starts : (first : List ℕ) → 2 ≤ length first
            → begun_by a b first ≡ get_or a 0 0 ∷ get_or b 0 0 ∷ drop 2 (begun_by a b first)
        starts [] h = absurd (omega arith)
        starts (z ∷ []) h = absurd (omega arith)
        starts (z ∷ z' ∷ first) h = refl

    -- all steps are written, and what stood behind them is kept
    pub write_end : (out : List ℕ) → Joining k a b (begun_by a b first) out (length a / 2)
        → out ≡ in_front (join_bytes k a b) first
    unfolding in_front join_bytes
    write_end out w =
        let n = 3 * (length a / 2) + 2 in
        w.same ∙ rw (
          joined-whole k a b x y match_long,
          join-length,
          drop-set-lt n (set first 0 (get_or a 0 0)) 1 (get_or b 0 0) (omega arith),
          drop-set-lt n first 0 (get_or a 0 0) (omega arith),
        )

    module _ (out : List ℕ) (i : ℕ) (h : i < length a / 2) (w : Joining k a b (begun_by a b first) out i) where
      -- there is room for step i
      pub write_room : (2 * i + 2 < length a) × (2 * i + 2 < length b) × (3 * i + 4 < length out)
      write_room =
          let kept : length out ≡ length first = w.kept ∙ rw (length-set, length-set) in
          omega (arith, h, x.odd, match_long, join-length, kept, room)

      -- step i matches
      pub write_matched : None ≡ found_here k a b i → ⊥
      write_matched f = false≢true (match_stop k a b x y match_long i h f ∙ m)

      -- step i is written
      pub write_on : (c : Label) → Some c ≡ found_here k a b i → (out' : List ℕ)
          → out' ≡ put out (3 * i + 2) c.0 (get_or a (2 * i + 2) 0) (get_or b (2 * i + 2) 0)
          → Joining k a b (begun_by a b first) out' (i + 1)
      write_on c f out' o =
          let found = labelled-here k a b i c f in
          let (c', l, n) = written_next i h in
          let z : Some c' ≡ Some c.0 = sym l ∙ found.here in
          let z' : c' ≡ c.0 = cc in
          let s : 3 * (i + 1) + 2 ≡ 3 * i + 2 + 3 = omega arith in
          record {
            kept =
                ap length o ∙ length-put out (3 * i + 2) c.0 (get_or a (2 * i + 2) 0) (get_or b (2 * i + 2) 0) ∙ w.kept;
            same =
                o ∙ rw (w.same, s, n, z')
                (put_three (run_bytes (joined_to k a b i)) (begun_by a b first) (3 * i + 2) c.0 (get_or a (2 * i + 2) 0)
                (get_or b (2 * i + 2) 0) (written-size i (omega (arith, h)))
                (omega (arith, h, w.kept, write_room)));
          }
