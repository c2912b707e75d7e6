-- The cases of writing a text: each refusal, which leaves the output as it is, and the text given.
use Prim.Native.Nat.{ℕ, ◌+◌, ◌≤◌, ◌<◌}
use mathlib.Core.Path.{◌≡◌, sym, ◌∙◌, ap}
use mathlib.Core.List.{List, ◌++◌}
use native.Mathlib.Omega.{arith}
use lib.ListN.{length, take, drop, replicate, length-replicate}
use lib.Seq.{sets-eq, take-length, take-append_seam}
use borrow.Author.Tests.{le-leb, lt-leb, le-ltb, lt-ltb}
use Rattle.labels.specs.Refusals.{first_of, in_front, Check}
use Rattle.labels.specs.declared.label.Labels.{Labels}
use Rattle.labels.specs.declared.refusal.Refusal.{Refusal}
use Rattle.labels.specs.declared.refusal.Refusal.TheVariants as refusal
use Rattle.digits.specs.Outputs.{put_at}
use Rattle.digits.proofs.Puts.{put-kept}
use Rattle.tables.specs.Tables.{states_of, check_table}
use Rattle.aldebaran_form.specs.Forms.{fifteen}
use Rattle.aldebaran_writing.specs.Writing.{text_of, check_text, write_of, text_output}
use Rattle.std.specs.Prelude.{Err, Ok}

-- the check of the table, as the code calls it
pub table_judged : (k : Labels) (t : List ℕ) (c d : Check) → k ≡ fifteen → c ≡ check_table k t → c ≡ d
    → check_table fifteen t ≡ d
table_judged k t c d p e f = ap (λ l. check_table l t) (sym p) ∙ sym e ∙ f

module _ (t : List ℕ) (first : ℕ) (out : List ℕ) where
  -- a refusal
  refused : (x : Refusal) → check_text t first (length out) ≡ Err x
      → (Err x ≡ write_of t first (length out)) × (out ≡ text_output t first out)
  unfolding write_of text_output
  refused x e = (rw e, rw e)

  -- 3, 5, 6 and 7
  pub refused_table : (x : Refusal) → check_table fifteen t ≡ Err x
      → (Err x ≡ write_of t first (length out)) × (out ≡ text_output t first out)
  unfolding check_text first_of
  refused_table x e = refused x (rw e)

  module _ (sound : check_table fifteen t ≡ Ok tt) where
    -- 20
    pub refused_first : states_of t ≤ first
        → (Err refusal.WrongHeader ≡ write_of t first (length out)) × (out ≡ text_output t first out)
    unfolding check_text first_of
    refused_first h = refused refusal.WrongHeader (rw (sound, le-leb (states_of t) first h))

    module _ (below : first < states_of t) where
      -- 18
      pub refused_room : length out < length (text_of t first)
          → (Err refusal.OutputTooShort ≡ write_of t first (length out)) × (out ≡ text_output t first out)
      unfolding check_text first_of
      refused_room h =
          refused refusal.OutputTooShort
          (rw (sound, lt-leb (states_of t) first below, lt-ltb (length out) (length (text_of t first)) h))

      -- the text
      pub text-given : (n : ℕ) (o : List ℕ) → n ≡ length (text_of t first) → n ≤ length out
          → o ≡ in_front (text_of t first) out
          → (Ok n ≡ write_of t first (length out)) × (o ≡ text_output t first out)
      unfolding write_of text_output check_text first_of
      text-given n o p h e =
          let room = le-ltb (length out) (length (text_of t first)) (omega (arith, p, h)) in (
            rw (sound, lt-leb (states_of t) first below, room) (ap Ok p),
            rw (sound, lt-leb (states_of t) first below, room) e,
          )

-- the buffer keeps its length
pub buffer_kept : (ys b : List ℕ) → ys ≡ put_at (replicate 7696 0) 0 b → length ys ≡ 7696
buffer_kept ys b e = put-kept (replicate 7696 0) ys 0 b e ∙ length-replicate {A = ℕ} 7696 0

-- a text that was written in front of a longer output, and copied from there
pub text_copied : (xs ys b out o : List ℕ) (n : ℕ) → length b ≤ length ys → n ≡ length b → ys ≡ put_at xs 0 b
    → o ≡ take (length (take n ys)) (take n ys) ++ drop (length (take n ys)) out → o ≡ in_front b out
unfolding put_at in_front
text_copied xs ys b out o n h p e f =
    let whole : ys ≡ b ++ drop (0 + length b) xs = e ∙ sets-eq b xs 0 (omega (arith, h, put-kept xs ys 0 b e)) in
    let front : take n ys ≡ b = ap (λ l. take n l) whole ∙ ap (λ m. take m (b ++ drop (0 + length b) xs)) p
    ∙ take-append_seam b (drop (0 + length b) xs) in
    f ∙ ap (λ l. take (length l) l ++ drop (length l) out) front ∙ ap (◌++ drop (length b) out) (take-length b)
