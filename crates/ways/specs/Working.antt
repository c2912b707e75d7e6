-- How the code works: the ways of one step of a joint run from the moves that leave its two states, in the order in
-- which splittings are numbered: left alone, right alone, then handshakes by rising left label; a joint idle is the one
-- way of its step. These are the theory's options: `options-listed`, proofs/Options. No call's promise cites this file.
use Rattle.std.specs.Prelude.{ℕ, cond, ◌&&◌, List, [], ◌∷◌, ◌++◌, get_or, eqb, None, Option, Some}
use Rattle.hml.specs.Lists.{only, each, given}
use Rattle.hml.specs.System.{Pairing, move, idle}
use Rattle.hml.specs.System as theory
use Rattle.tables.specs.Tables.{among}
use Rattle.halves.specs.Steps.{step_struct}
use Rattle.machines.specs.Working.{answer_to}
use Rattle.machines.specs.declared.step.States.{States}
use Rattle.machines.specs.declared.step.JointStep.{JointStep}
use Rattle.ways.specs.declared.step.Way.{Way}

-- the steps of the halves of one way
abbrev pub Steps : Type 0
Steps = theory.Step ℕ × theory.Step ℕ

-- a way as the program holds it
unfoldable pub way_struct : Steps → Way
way_struct w = record { left = step_struct w.0; right = step_struct w.1 }

-- the way of a number; beyond the last both halves idle
abbrev pub chosen : List Steps → ℕ → Steps
chosen ways n = get_or ways n (idle, idle)

-- the left's move m and the right's answer to it, by one of the moves rs, in a handshake to the states v
module _ (P : Pairing) (rs : List (ℕ × ℕ)) (v : States) where
  abbrev pub answered_by : ℕ × ℕ → Option ℕ → List Steps
  answered_by m None = []
  answered_by m (Some b) = (move m.0 m.1, move b v.right) ∷ []

  abbrev pub shaken_by : ℕ × ℕ → List Steps
  shaken_by m = answered_by m (answer_to P rs v.left v.right m)

module _ (P : Pairing) (ls rs : List (ℕ × ℕ)) (s : JointStep) where
  -- the ways of a step, by the moves ls and rs of its states: handshakes
  unfoldable pub handshakes : List Steps
  handshakes = given (eqb s.label.0 0) (each (shaken_by P rs s.after) ls)

  -- the right alone, then handshakes
  unfoldable pub right_ways : List Steps
  right_ways =
      only (eqb s.after.left s.before.left && among rs s.label.0 s.after.right)
      (idle, move s.label.0 s.after.right) ++ handshakes

  -- a joint idle is one way; else the left alone, then the right alone, then handshakes
  unfoldable pub ways_here : List Steps
  ways_here = cond (eqb s.label.0 255) ((idle, idle) ∷ [])
      (only (eqb s.after.right s.before.right && among ls s.label.0 s.after.left)
      (move s.label.0 s.after.left, idle) ++ right_ways)
