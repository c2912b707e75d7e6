-- How much of some bytes is enough to judge them: one byte more than the longest casebook has. Reading goes record by
-- record and stops at the first fault, so of more bytes the first ones, as many as that, are refused for what all of
-- them are refused for.
use Prim.Native.Nat.{ℕ, zero, suc, ◌+◌, ◌-◌, ◌≤◌, ◌<◌}
use mathlib.Core.Path.{◌≡◌, refl, sym, ◌∙◌, ap}
use mathlib.Core.Logic.{◌⊎◌, ⊎_elim, inl, inr}
use mathlib.Core.Bool.{Bool, true, false, cond, not}
use mathlib.Core.List.{List, [], ◌∷◌}
use native.Mathlib.Omega.{arith}
use lib.ListN.{length, take, drop}
use lib.Seq.{length-take-le, take_all, take-take, get_or-take}
use lib.Dec.{ltb}
use borrow.Author.Tests.{lt-ltb, le-ltb, ltb-true, ltb-false}
use Rattle.labels.specs.Labels.{check_labels}
use Rattle.labels.specs.declared.refusal.Refusal.{Refusal}
use Rattle.labels.specs.declared.refusal.Refusal.TheVariants.{BytesAfter, Truncated, WrongKind, WrongLength}
use Rattle.tables.specs.Tables.{check_table}
use Rattle.machines.specs.Joints.{check_joint}
use Rattle.formulas.specs.Formulas.{question_limit, check_formula}
use Rattle.records.specs.Records.{word_at, fit_length, longest_record, may_stand, next_at, body_of, labels_of}
use Rattle.records.specs.declared.record.Cursor.{Cursor}
use Rattle.records.specs.declared.record.Record.{Record}
use Rattle.records.proofs.Records.{fit_some, fit_longest}
use Rattle.casebook.specs.Reading.{labels_kinds, left_kinds, right_kinds, run_kinds, question_kinds, longest_casebook}
use Rattle.casebook.specs.Reading.{after, if_sound, read_question, read_run, read_right, read_left, read_of}
use Rattle.casebook.specs.declared.read.Parts.{Parts}
use Rattle.labels.specs.Refusals.{Check}
use Rattle.std.specs.Prelude.{Err, Ok, Result}

-- a part that lies in the first n bytes is a part of them
part_early : (k m n : ℕ) (s : List ℕ) → k + m ≤ n → take m (drop k (take n s)) ≡ take m (drop k s)
part_early zero m n s h = take-take m n s (omega arith)
part_early (suc k) m zero s h = absurd (omega arith)
part_early (suc k) m (suc n) [] h = refl
part_early (suc k) m (suc n) (x ∷ s) h = part_early k m n s (omega arith)

-- two readings that are refused, for the same
abbrev pub Alike : Result Parts Refusal → Result Parts Refusal → Type 0
Alike x y = (z : Refusal) × (x ≡ Err z) × (y ≡ Err z)

-- what is refused alike is so behind any check of contents
sound_alike : (x : Check) {a b : Result Parts Refusal} → Alike a b → Alike (if_sound x a) (if_sound x b)
sound_alike (Ok _) w = w
sound_alike (Err z) w = (z, refl, refl)

-- a record that was found from a position on, of one of these kinds
record Near (at : ℕ) (kinds : List ℕ) (r : Record) (c : Cursor) : Type 0 where
  some : r.start < c.at
  whole : r.start + r.len ≤ c.at
  near : c.at ≤ at + longest_record kinds

-- the first n bytes of some
module _ (n : ℕ) (s : List ℕ) (long : n ≤ length s) where
  -- they are n
  front : length (take n s) ≡ n
  front = length-take-le n s long

  -- a word that lies in them
  word_early : (i : ℕ) → i + 2 ≤ n → word_at (take n s) i ≡ word_at s i
  word_early i h = rw (get_or-take n s i 0 (omega arith), get_or-take n s (i + 1) 0 (omega arith))

  -- the body of a record that lies in them
  body_early : (r : Record) → r.start + r.len ≤ n → body_of (take n s) r ≡ body_of s r
  unfolding body_of
  body_early r h = part_early r.start r.len n s h

  -- the labels of a record that begins in them
  labels_early : (r : Record) → r.start < n → labels_of (take n s) r ≡ labels_of s r
  unfolding labels_of
  labels_early r h = rw (get_or-take n s r.start 0 h)

  -- where a record of these kinds has room in them, stepping over it answers the same, and what is alike behind it is
  -- alike from it on
  after_alike : (at : ℕ) (kinds : List ℕ) → at + longest_record kinds ≤ n
      → (go go' : Record → Cursor → Result Parts Refusal)
      → ((r : Record) (c : Cursor) → Near at kinds r c → Alike (go r c) (go' r c))
      → Alike (after (next_at (take n s) at kinds) go) (after (next_at s at kinds) go')
  unfolding next_at
  after_alike at kinds room go go' on =
      rw (
        front,
        word_early at (omega arith),
        word_early (at + 2) (omega arith),
        le-ltb n (at + 4) (omega arith),
        le-ltb (length s) (at + 4) (omega arith),
      )
      (step (may_stand kinds kind) (fit_length kind w) refl refl)
    where
      kind : ℕ
      kind = word_at s (at + 2)

      w : ℕ
      w = word_at s at

      found : Result (Record × Cursor) Refusal
      found = Ok (record { kind = kind; start = at + 4; len = w - 2 }, record { at = at + 2 + w })

      step : (b d : Bool) → may_stand kinds kind ≡ b → fit_length kind w ≡ d
          → Alike (after (cond (not b) (Err WrongKind)
          (cond (not d) (Err WrongLength) (cond (ltb n (at + 2 + w)) (Err Truncated) found))) go)
          (after (cond (not b) (Err WrongKind)
          (cond (not d) (Err WrongLength) (cond (ltb (length s) (at + 2 + w)) (Err Truncated) found)))
          go')
      step false d p e = (WrongKind, refl, refl)
      step true false p e = (WrongLength, refl, refl)
      step true true p e =
          let m = fit_longest kinds kind w p e in
          let l = fit_some kind w e in
          rw (le-ltb n (at + 2 + w) (omega arith), le-ltb (length s) (at + 2 + w) (omega arith))
          (on _ _ (record { some = omega arith; whole = omega arith; near = omega arith }))

  -- from the question record on, the front and the whole are refused alike, if the record has room in the front and
  -- leaves a byte
  question_alike : (h l r j : Record) (at : ℕ) → h.start < n → at + longest_record question_kinds < n
      → Alike (read_question (take n s) h l r j at) (read_question s h l r j at)
  unfolding read_question
  question_alike h l r j at f room = after_alike at question_kinds (omega arith) _ _
      (λ q c d.
      rw (
        labels_early h f,
        body_early q (omega (arith, room, d.whole, d.near)),
        front,
        lt-ltb c.at n (omega (arith, room, d.near)),
        lt-ltb c.at (length s) (omega (arith, room, long, d.near)),
      )
      (sound_alike (check_formula (labels_of s h) question_limit (body_of s q)) (BytesAfter, refl, refl)))

  -- so it is from the run record on, if it and the question have room and leave a byte
  run_alike : (h l r : Record) (at : ℕ) → h.start < n → l.start + l.len ≤ n → r.start + r.len ≤ n
      → at + longest_record run_kinds + longest_record question_kinds < n
      → Alike (read_run (take n s) h l r at) (read_run s h l r at)
  unfolding read_run
  run_alike h l r at f a b room = after_alike at run_kinds (omega arith) _ _ (λ j c d.
      rw (labels_early h f, body_early l a, body_early r b, body_early j (omega (arith, room, d.whole, d.near)))
      (sound_alike (check_joint (labels_of s h) (body_of s l) (body_of s r) (body_of s j))
      (question_alike h l r j c.at f (omega (arith, room, d.near)))))

  -- from the right table's record on, if the last three have room and leave a byte
  right_alike : (h l : Record) (at : ℕ) → h.start < n → l.start + l.len ≤ n
      → at + longest_record right_kinds + longest_record run_kinds + longest_record question_kinds < n
      → Alike (read_right (take n s) h l at) (read_right s h l at)
  unfolding read_right
  right_alike h l at f a room = after_alike at right_kinds (omega arith) _ _ (λ r c d.
      let b : r.start + r.len ≤ n = omega (arith, room, d.whole, d.near) in
      rw (labels_early h f, body_early r b)
      (sound_alike (check_table (labels_of s h) (body_of s r))
      (run_alike h l r c.at f a b (omega (arith, room, d.near)))))

  -- and from the left table's record on, if the last four have room and leave a byte
  left_alike : (h : Record) (at : ℕ) → h.start < n
      → at + longest_record left_kinds + longest_record right_kinds + longest_record run_kinds
      + longest_record question_kinds < n
      → Alike (read_left (take n s) h at) (read_left s h at)
  unfolding read_left
  left_alike h at f room = after_alike at left_kinds (omega arith) _ _ (λ l c d.
      let a : l.start + l.len ≤ n = omega (arith, room, d.whole, d.near) in
      rw (labels_early h f, body_early l a)
      (sound_alike (check_table (labels_of s h) (body_of s l))
      (right_alike h l c.at f a (omega (arith, room, d.near)))))

  -- more bytes than five records can have are refused, for what their front is refused for
  all_alike : longest_casebook < n → Alike (read_of (take n s)) (read_of s)
  unfolding longest_casebook read_of
  all_alike room = after_alike 0 labels_kinds (omega arith) _ _ (λ h c d.
      let f : h.start < n = omega (arith, room, d.some, d.near) in
      rw (labels_early h f)
      (sound_alike (check_labels (labels_of s h)) (left_alike h c.at f (omega (arith, room, d.near)))))

-- bytes more than the longest casebook are enough to judge any: there are no more, or they are refused for what all are
-- refused for
module _ (n : ℕ) (enough : longest_casebook < n) (s : List ℕ) where
  pub judged_by_front : (take n s ≡ s) ⊎ Alike (read_of (take n s)) (read_of s)
  judged_by_front = go (ltb n (length s)) refl
    where
      go : (b : Bool) → ltb n (length s) ≡ b → (take n s ≡ s) ⊎ Alike (read_of (take n s)) (read_of s)
      go true e = inr (all_alike n s (omega (arith, ltb-true n (length s) e)) enough)
      go false e = inl (take_all n s (ltb-false n (length s) e))

  pub judged_early : read_of (take n s) ≡ read_of s
  judged_early = ⊎_elim (λ e. ap read_of e) (λ (z, a, b). a ∙ sym b) judged_by_front
