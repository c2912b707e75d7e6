-- Labelled transition systems (definition 1) and their runs (the computations of definition 2, with idles); which
-- labels shake hands (`Pairing`). A machine of document 01 is such a system; so are two of them side by side.
use Rattle.std.specs.Prelude.{List, ◌≡◌, ℕ, zero, suc, ◌-◌, None, Option, Some}
use Rattle.hml.specs.Lists.{◌∈◌}

-- the moves that leave a state, in order: label and target
abbrev pub System : Type 0 → Type 0
System S = S → List (ℕ × S)

-- a move with its label and target, or an idle, which keeps the state
pub data Step (S : Type 0) : Type 0 where
  move : ℕ → S → Step S
  idle : Step S

-- a start state, then steps: the newest stands outermost
infixl 20 ◌▸◌
pub data Run (S : Type 0) : Type 0 where
  start : S → Run S
  ◌▸◌ : Run S → Step S → Run S

module _ {S : Type 0} where
  -- the state in which a run starts, and the one in which it ends
  abbrev pub first : Run S → S
  first (start p) = p
  first (r ▸ s) = first r

  abbrev pub last : Run S → S
  last (start p) = p
  last (r ▸ move a p) = p
  last (r ▸ idle) = last r

  -- the number of steps
  abbrev pub steps : Run S → ℕ
  steps (start p) = 0
  steps (r ▸ s) = suc (steps r)

  -- the run without its newest n steps, and the run of its first n steps
  abbrev pub undo : ℕ → Run S → Run S
  undo zero r = r
  undo (suc n) (start p) = start p
  undo (suc n) (r ▸ s) = undo n r

  abbrev pub stop : ℕ → Run S → Run S
  stop n r = undo (steps r - n) r

  -- a step that the system has from p: one of its moves, or an idle
  pub data Allowed (M : System S) (p : S) : Step S → Type 0 where
    moves : {a : ℕ} {p' : S} → (a, p') ∈ M p → Allowed M p (move a p')
    idles : Allowed M p idle

  -- a run that the system has
  pub data RunOf (M : System S) : Run S → Type 0 where
    begins : {p : S} → RunOf M (start p)
    goes : {r : Run S} {s : Step S} → RunOf M r → Allowed M (last r) s → RunOf M (r ▸ s)

-- which label shakes hands with which (the bar of source document 000): none does with the silent label 0, and partners
-- have each other. Nothing else is asked of it: a label may be its own partner, or have none
pub record Pairing : Type 0 where
  pub partner : ℕ → Option ℕ
  pub silent : partner 0 ≡ None
  pub returned : {a b : ℕ} → partner a ≡ Some b → partner b ≡ Some a
