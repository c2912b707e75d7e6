-- Records written one after the other, each into the rest of the output that the one before left.
use Prim.Native.Nat.{ℕ, ◌+◌, ◌-◌, ◌/◌, ◌%◌, ◌≤◌, ◌<◌}
use mathlib.Core.Path.{◌≡◌, refl, sym, ◌∙◌, ap}
use mathlib.Core.List.{List, [], ◌∷◌, ◌++◌, append_assoc}
use native.Mathlib.Omega.{arith}
use lib.ListN.{length, take, drop, set, length-append, length-take, length-drop}
use lib.Seq.{take-length}
use borrow.Rule.Slice.PartMut.{put_mid}
use borrow.Author.Tests.{lt-ltb, le-ltb}
use Rattle.labels.proofs.Slices.{rest}
use Rattle.labels.proofs.Outputs.{front-none, front-after, put_four, front_length}
use Rattle.labels.specs.Refusals.{then_of, first_of, in_front, Check}
use Rattle.labels.specs.Labels.{check_labels}
use Rattle.labels.specs.declared.refusal.Refusal.{Refusal}
use Rattle.labels.specs.declared.refusal.Refusal.TheVariants.{OutputTooShort}
use Rattle.labels.proofs.Refusals.{then_sound}
use Rattle.labels.specs.declared.label.Labels.{Labels}
use Rattle.tables.specs.Tables.{check_table}
use Rattle.machines.specs.Joints.{check_joint, check_tables_and_joint}
use Rattle.machines.specs.Cases.{Case}
use Rattle.formulas.specs.Formulas.{question_limit, check_formula}
use Rattle.machines.specs.Cases.{case_with}
use Rattle.records.specs.Records.{labels_bytes, record_bytes}
use Rattle.records.proofs.RecordLaws.{record-length}
use Rattle.casebook.specs.Writing.{casebook_bytes, check_parts, check_write, write_of, written_of}
use Rattle.casebook.proofs.PartLengths.{table_fits, joint-fits, question-fits}
use Rattle.casebook.proofs.RoundTrip.{casebook_length, sound_parts}
use Rattle.std.specs.Prelude.{Err, Ok}

record-split : (kind : ℕ) (body : List ℕ) (a b c : ℕ) → a ≡ (2 + length body) % 256 → b ≡ (2 + length body) / 256
    → c ≡ kind → kind < 256
    → (a ∷ b ∷ c ∷ 0 ∷ []) ++ body ≡ record_bytes kind body
unfolding record_bytes
record-split kind body a b c p q r h =
    let x : c ≡ kind % 256 = omega (arith, r, h) in
    let y : 0 ≡ kind / 256 = omega (arith, h) in
    rw (p, q, x, y)

-- one record
pub record-put : (out body ys : List ℕ) (kind a b : ℕ) → 4 ≤ length out → length body < 65534 → kind < 256
    → a ≡ (length body + 2) % 256 → b ≡ (length body + 2) / 256 % 256
    → let zs = set (set (set (set out 0 a) 1 b) 2 kind) 3 0 in
    ys ≡ take (length body) body ++ drop (length body) (rest 4 zs)
    → put_mid 4 (length zs - 4) zs ys ≡ in_front (record_bytes kind body) out
unfolding in_front
record-put out body ys kind a b room short small p q e =
    front-after (a ∷ b ∷ kind ∷ 0 ∷ []) body out (set (set (set (set out 0 a) 1 b) 2 kind) 3 0) ys 4 refl
    (put_four out a b kind 0 room) (e ∙ rw (take-length body))
    ∙ ap (λ z. in_front z out) (record-split kind body a b kind (omega (arith, p)) (omega (arith, q)) refl small)

-- five records make a casebook
pub five_records : (k : Labels) (l r j q : List ℕ)
    → (((([] ++ record_bytes 1 (labels_bytes k)) ++ record_bytes 2 l) ++ record_bytes 3 r) ++ record_bytes 4 j)
    ++ record_bytes 5 q
    ≡ casebook_bytes (case_with k l r j q)
unfolding casebook_bytes
five_records k l r j q = rw (append_assoc, append_assoc, append_assoc)

-- a case from its parts, and the parts' checks as the code has them
module _ (k : Labels) (l r j q : List ℕ) where
  abbrev c : Case
  c = case_with k l r j q

  pub parts_checked : then_of (check_labels k) (then_of (check_tables_and_joint k l r j) (check_formula k question_limit q))
      ≡ check_parts c
  unfolding check_parts check_tables_and_joint first_of
  parts_checked =
      rw (then_sound (check_joint k l r j), then_sound (check_formula k question_limit q))
      (regroup (check_labels k) (check_table k l) (check_table k r) (check_joint k l r j) (check_formula k question_limit q))
    where
      regroup : (p t u v w : Check)
          → then_of p (then_of (then_of t (then_of u v)) w) ≡ then_of p (then_of t (then_of u (then_of v w)))
      regroup (Ok _) (Ok _) (Ok _) v w = refl
      regroup (Ok _) (Ok _) (Err x) v w = refl
      regroup (Ok _) (Err x) u v w = refl
      regroup (Err x) t u v w = refl

  pub write_refused : (x : Refusal) (out : List ℕ) → check_parts c ≡ Err x
      → (Err x ≡ write_of c (length out)) × (out ≡ written_of c out)
  unfolding write_of written_of check_write first_of
  write_refused x out e = rw e (refl, refl)

  module _ (sound : check_parts c ≡ Ok tt) (out : List ℕ) where
    pub write_short : length out < 21 + length l + length r + length j + length q
        → (Err OutputTooShort ≡ write_of c (length out)) × (out ≡ written_of c out)
    unfolding write_of written_of check_write first_of
    write_short h =
        rw (sound, lt-ltb (length out) (length (casebook_bytes c)) (omega (arith, casebook_length c)))
        (refl, refl)

    pub write_whole : (n : ℕ) (after : List ℕ) → n ≡ 21 + length l + length r + length j + length q → n ≤ length out
        → after ≡ in_front (casebook_bytes c) out
        → (Ok n ≡ write_of c (length out)) × (after ≡ written_of c out)
    unfolding write_of written_of check_write first_of
    write_whole n after e h a =
        rw (sound, le-ltb (length out) (length (casebook_bytes c)) (omega (arith, casebook_length c)))
        (ap Ok (omega (arith, e, casebook_length c)), a)

    pub parts_small : (length l ≤ 1537) × (length r ≤ 1537) × (length j ≤ 602) × (length q ≤ 128)
    parts_small =
        let p = sound_parts c sound in (
          (table_fits k l p.left).2,
          (table_fits k r p.right).2,
          (joint-fits k l r j p.run).1,
          (question-fits k q p.question).1,
        )

-- the output with a piece put back at a place
abbrev pub put : ℕ → List ℕ → List ℕ → List ℕ
put at zs ys = put_mid at (length zs - at) zs ys

-- all five records, each into the rest behind those before it
module _ (k : Labels) (l r j q out y1 y2 y3 y4 : List ℕ) (e1 : y1 ≡ in_front (record_bytes 1 (labels_bytes k))
    (rest 0 out))
    (e2 : y2 ≡ in_front (record_bytes 2 l) (rest 5 (put 0 out y1)))
    (e3 : y3 ≡ in_front (record_bytes 3 r) (rest (9 + length l) (put 5 (put 0 out y1) y2)))
    (e4 : y4 ≡ in_front (record_bytes 4 j)
    (rest (9 + length l + 4 + length r) (put (9 + length l) (put 5 (put 0 out y1) y2) y3))) where
  abbrev four : List ℕ
  four = put (9 + length l + 4 + length r) (put (9 + length l) (put 5 (put 0 out y1) y2) y3) y4

  abbrev front : List ℕ
  front = ((([] ++ record_bytes 1 (labels_bytes k)) ++ record_bytes 2 l) ++ record_bytes 3 r) ++ record_bytes 4 j

  four_length : length front ≡ 9 + length l + 4 + length r + 4 + length j
  four_length = simp (length-append, record-length) (omega arith)

  four_put : four ≡ in_front front out
  four_put =
      let f1 = front-after [] (record_bytes 1 (labels_bytes k)) out out y1 0 refl (front-none out) e1 in
      let f2 = front-after ([] ++ record_bytes 1 (labels_bytes k)) (record_bytes 2 l) out (put 0 out y1) y2 5
      (simp record-length)
      f1 e2 in
      let f3 = front-after (([] ++ record_bytes 1 (labels_bytes k)) ++ record_bytes 2 l) (record_bytes 3 r) out
      (put 5 (put 0 out y1) y2) y3 (9 + length l) (simp (length-append, record-length) (omega arith)) f2 e3 in
      front-after ((([] ++ record_bytes 1 (labels_bytes k)) ++ record_bytes 2 l) ++ record_bytes 3 r) (record_bytes 4 j) out
      (put (9 + length l) (put 5 (put 0 out y1) y2) y3) y4 (9 + length l + 4 + length r)
      (simp (length-append, record-length) (omega arith)) f3 e4

  -- the fifth has room
  pub fifth_room : 21 + length l + length r + length j + length q ≤ length out
      → 4 + length q ≤ length (rest (9 + length l + 4 + length r + 4 + length j) four)
  fifth_room h =
      let n = front_length front out four four_put (omega (arith, four_length)) in
      simp (length-take, length-drop) (omega (arith, n))

  pub all-put : (y5 : List ℕ) → y5 ≡ in_front (record_bytes 5 q) (rest (9 + length l + 4 + length r + 4 + length j) four)
      → put (9 + length l + 4 + length r + 4 + length j) four y5 ≡ in_front (casebook_bytes (case_with k l r j q)) out
  all-put y5 e5 =
      front-after front (record_bytes 5 q) out four y5 (9 + length l + 4 + length r + 4 + length j) (sym four_length)
      four_put e5
      ∙ ap (λ z. in_front z out) (five_records k l r j q)
