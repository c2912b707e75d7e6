-- The laws of the lines of a text: a text is its lines, each ended by a line feed.
use Prim.Native.Nat.{ℕ, ◌≤◌}
use mathlib.Core.Path.{◌≡◌, refl, ◌∙◌, ap}
use mathlib.Core.Bool.{Bool, true, false, cond}
use mathlib.Core.List.{List, [], ◌∷◌, ◌++◌, append_assoc}
use mathlib.Core.List.Memᴰ
use mathlib.Core.Logic.{⊎_elim}
use native.Mathlib.Omega.{arith}
use lib.ListN.{length}
use lib.Dec.{eqb}
use borrow.Author.Tests.{ne_eqb, eqb-true, eqb-false}
use Rattle.hml.specs.Lists.{◌∈◌, each}
use Rattle.aldebaran_form.proofs.Lacks.{Lacks, lacks_nil, lacks_cons, lacks_front, lacks_rest}
use Rattle.hml.proofs.Tests.{apart}
use Rattle.aldebaran_form.specs.Forms.{line_feed, ended}
use Rattle.aldebaran_form.specs.Lines.{next}
use Rattle.aldebaran.specs.Reading.{longer, lines_of}
use Rattle.std.specs.Prelude.{None, Option, Some}

-- each of the lines lacks a line feed
unfoldable pub Plain : List (List ℕ) → Type 0
Plain lines = (l : List ℕ) → l ∈ lines → Lacks line_feed l

pub plain_nil : Plain []
unfolding Plain
plain_nil l m = absurd (Memᴰ.not-nil m)

pub plain_cons : (l : List ℕ) (lines : List (List ℕ)) → Lacks line_feed l → Plain lines → Plain (l ∷ lines)
unfolding Plain
plain_cons l lines w v k m =
    ⊎_elim (λ (q : k ≡ l). rw q w) (λ (q : k ∈ lines). v k q) (Memᴰ.cases_cons m)

pub plain_front : (l : List ℕ) (lines : List (List ℕ)) → Plain (l ∷ lines) → Lacks line_feed l
unfolding Plain
plain_front l lines w = w l (Memᴰ.head refl)

pub plain_rest : (l : List ℕ) (lines : List (List ℕ)) → Plain (l ∷ lines) → Plain lines
unfolding Plain
plain_rest l lines w k m = w k (Memᴰ.tail m)

-- no line
pub lines-nil : lines_of [] ≡ Some []
unfolding lines_of
lines-nil = refl

-- a line that a line feed ends
pub lines_feed : (l rest : List ℕ) → Lacks line_feed l
    → lines_of (l ++ (line_feed ∷ rest)) ≡ next (lines_of rest) (λ ls. Some (l ∷ ls))
unfolding lines_of longer
lines_feed [] rest w = refl
lines_feed (b ∷ l) rest w =
    rw (ne_eqb b line_feed (lacks_front line_feed b l w), lines_feed l rest (lacks_rest line_feed b l w))
    (go (lines_of rest))
  where
    go : (o : Option (List (List ℕ)))
        → longer b (next o (λ ls. Some (l ∷ ls))) ≡ next o (λ ls. Some ((b ∷ l) ∷ ls))
    go None = refl
    go (Some ls) = refl

-- bytes that no line feed ends
pub lines_none : (l : List ℕ) → Lacks line_feed l → 1 ≤ length l → lines_of l ≡ None
unfolding lines_of longer
lines_none [] w h = absurd (omega arith)
lines_none (b ∷ []) w h = rw (ne_eqb b line_feed (lacks_front line_feed b [] w))
lines_none (b ∷ c ∷ l) w h =
    let r = lines_none (c ∷ l) (lacks_rest line_feed b (c ∷ l) w) (omega arith) in
    rw (ne_eqb b line_feed (lacks_front line_feed b (c ∷ l) w)) (ap (longer b) r)

-- the lines of a text that is written of lines
pub lines-written : (lines : List (List ℕ)) → Plain lines → lines_of (each ended lines) ≡ Some lines
unfolding ended
lines-written [] w = lines-nil
lines-written (l ∷ lines) w =
    rw append_assoc (lines_feed l (each ended lines) (plain_front l lines w))
    ∙ ap (λ o. next o (λ ls. Some (l ∷ ls))) (lines-written lines (plain_rest l lines w))

-- a text is written of its lines
unfoldable pub WrittenOf : List ℕ → List (List ℕ) → Type 0
WrittenOf text lines = (text ≡ each ended lines) × Plain lines

pub lines_read : (text : List ℕ) (lines : List (List ℕ)) → lines_of text ≡ Some lines → WrittenOf text lines
unfolding lines_of longer WrittenOf ended
lines_read [] lines e = let q : lines ≡ [] = cc in rw q (refl, plain_nil)
lines_read (b ∷ text) lines e = go (eqb b line_feed) refl (lines_of text) (λ ls. lines_read text ls) e
  where
    go : (x : Bool) → eqb b line_feed ≡ x → (o : Option (List (List ℕ)))
        → ((ls : List (List ℕ)) → o ≡ Some ls → WrittenOf text ls)
        → cond x (next o (λ ls. Some ([] ∷ ls))) (longer b o) ≡ Some lines → WrittenOf (b ∷ text) lines
    go true p None r f = absurd (apart cc)
    go true p (Some ls) r f =
        let q : lines ≡ [] ∷ ls = cc in
        let w = r ls refl in
        let k : b ≡ line_feed = eqb-true b line_feed p in
        rw q (cc w.0, plain_cons [] ls (lacks_nil line_feed) w.1)
    go false p None r f = absurd (apart cc)
    go false p (Some []) r f = absurd (apart cc)
    go false p (Some (l ∷ ls)) r f =
        let q : lines ≡ (b ∷ l) ∷ ls = cc in
        let w = r (l ∷ ls) refl in
        let v : Lacks line_feed (b ∷ l) = lacks_cons line_feed b l (eqb-false b line_feed p) (plain_front l ls w.1) in
        rw q (ap (b ∷◌) w.0, plain_cons (b ∷ l) ls v (plain_rest l ls w.1))
