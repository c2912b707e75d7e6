-- Laws of checks that follow one another.
use mathlib.Core.Path.{◌≡◌, refl, ◌∙◌, ap}
use mathlib.Core.Logic.{◌↔◌}
use mathlib.Core.Bool.{Bool, true, false, not}
use Rattle.hml.proofs.Tests.{apart, Decides, proves, refutes}
use Rattle.labels.specs.Refusals.{then_of, refused_if, Check}
use Rattle.labels.specs.declared.refusal.Refusal.{Refusal}
use Rattle.std.specs.Prelude.{Result, Err, Ok, IsErrAnd}
use Rattle.std.proofs.lemmas.Result.{err_from_is_err_and}

-- nothing is left to judge behind the last check
pub then_sound : (c : Check) → then_of c (Ok tt) ≡ c
then_sound (Ok _) = refl
then_sound (Err r) = refl

-- two checks are sound together exactly if each is
pub both_sound : (c d : Check) → then_of c d ≡ Ok tt → (c ≡ Ok tt) × (d ≡ Ok tt)
both_sound (Ok _) d e = (refl, e)
both_sound (Err r) d e = absurd (apart cc)

-- checks are grouped as one likes
pub then_assoc : (c d e : Check) → then_of (then_of c d) e ≡ then_of c (then_of d e)
then_assoc (Ok _) d e = refl
then_assoc (Err r) d e = refl

-- a test whose failing would have been refused, and one whose passing would
pub passed : (b : Bool) (r : Refusal) → refused_if (not b) r ≡ Ok tt → b ≡ true
passed true r e = refl
passed false r e = absurd (apart cc)

pub unrefused : (b : Bool) (r : Refusal) → refused_if b r ≡ Ok tt → b ≡ false
unrefused true r e = absurd (apart cc)
unrefused false r e = refl

-- A check judges a type: it is sound with a proof, or refuses with a refutation.
pub data Judges (A : Type 0) : Check → Type 0 where
  accepts : A → Judges A (Ok tt)
  rejects : {r : Refusal} → ¬ A → Judges A (Err r)

module _ {A : Type 0} where
  -- a check is sound exactly if what it judges holds
  pub judges : {c : Check} → Judges A c → (c ≡ Ok tt) ↔ A
  judges (accepts x) = (λ e. x, λ y. refl)
  judges (rejects k) = (λ e. absurd (apart cc), λ y. absurd (k y))

  -- a refusal for a fault that a test finds
  pub judged_fault : {b : Bool} (r : Refusal) → Decides A b → Judges (¬ A) (refused_if b r)
  judged_fault r (proves x) = rejects (λ k. k x)
  judged_fault r (refutes k) = accepts k

  -- a refusal where a test fails
  pub judged_unless : {b : Bool} (r : Refusal) → Decides A b → Judges A (refused_if (not b) r)
  judged_unless r (proves x) = accepts x
  judged_unless r (refutes k) = rejects k

module _ {A B : Type 0} where
  -- a check judges each of two equivalent types if it judges one
  pub judged_iff : {c : Check} → (A → B) → (B → A) → Judges A c → Judges B c
  judged_iff f g (accepts x) = accepts (f x)
  judged_iff f g (rejects k) = rejects (λ y. k (g y))

  -- a check of one part judges both where the other part is so
  beside : {d : Check} → A → Judges B d → Judges (A × B) d
  beside x (accepts y) = accepts (x, y)
  beside x (rejects k) = rejects (λ t. k t.1)

  -- one check, then another, which may rest on the first
  pub judged-next : {c d : Check} → Judges A c → (A → Judges B d) → Judges (A × B) (then_of c d)
  judged-next (accepts x) f = beside x (f x)
  judged-next (rejects k) f = rejects (λ t. k t.0)

  pub judged_then : {c d : Check} → Judges A c → Judges B d → Judges (A × B) (then_of c d)
  judged_then j h = judged-next j (λ x. h)

-- what `?` hands on is the refusal that it found
pub handed_on : {T E : Type 0} {r : Result T E} {e : E} → IsErrAnd r (λ x. x ≡ e) → r ≡ Err e
handed_on {r} h = let p = err_from_is_err_and r h in p.1 ∙ ap Err p.2

-- the same beside what is said of an output
pub handed_on_with : {T E B : Type 0} {r s : Result T E} {e : E} → IsErrAnd r (λ x. x ≡ e) → (Err e ≡ s) × B → (r ≡ s) × B
handed_on_with h t = (handed_on h ∙ t.0, t.1)

-- a check that refuses decides, whatever follows it
pub then_err : {c : Check} {r : Refusal} (d : Check) → c ≡ Err r → Err r ≡ then_of c d
then_err d e = rw e

-- behind a sound check the next one decides
pub then_ok : {c : Check} (d : Check) → c ≡ Ok tt → d ≡ then_of c d
then_ok d e = rw e
