-- Stuttering Hennessy-Milner logic with past: formulas, their size and nesting and labels (document 01's limits), their
-- meaning (definitions 3 and 4 of source document 000), and the same as a test. That the test decides the meaning is
-- `decided`, proofs/Agreement.
use Rattle.std.specs.Prelude.{◌≡◌, ◌⊎◌, Bool, true, false, ◌&&◌, ◌||◌, not as negate, ℕ, ◌+◌, max, leb}
use Rattle.hml.specs.Lists.{same, ◌∈◌, any}
use Rattle.hml.specs.System.{System, move, idle, Run, start, ◌▸◌, last}

pub data Formula : Type 0 where
  top bottom : Formula
  not : Formula → Formula
  and or : Formula → Formula → Formula
  fwd back : ℕ → Formula → Formula
  fwd_idle back_idle : Formula → Formula

-- the number of nodes
unfoldable pub size : Formula → ℕ
size top = 1
size bottom = 1
size (not φ) = 1 + size φ
size (and φ ψ) = 1 + size φ + size ψ
size (or φ ψ) = 1 + size φ + size ψ
size (fwd a φ) = 1 + size φ
size (back a φ) = 1 + size φ
size (fwd_idle φ) = 1 + size φ
size (back_idle φ) = 1 + size φ

-- how deep forward modalities nest, by a label or by idle, along one branch
unfoldable pub nesting : Formula → ℕ
nesting top = 0
nesting bottom = 0
nesting (not φ) = nesting φ
nesting (and φ ψ) = max (nesting φ) (nesting ψ)
nesting (or φ ψ) = max (nesting φ) (nesting ψ)
nesting (fwd a φ) = 1 + nesting φ
nesting (back a φ) = nesting φ
nesting (fwd_idle φ) = 1 + nesting φ
nesting (back_idle φ) = nesting φ

-- is no label above n?
unfoldable pub labelled : ℕ → Formula → Bool
labelled n top = true
labelled n bottom = true
labelled n (not φ) = labelled n φ
labelled n (and φ ψ) = labelled n φ && labelled n ψ
labelled n (or φ ψ) = labelled n φ && labelled n ψ
labelled n (fwd a φ) = leb a n && labelled n φ
labelled n (back a φ) = leb a n && labelled n φ
labelled n (fwd_idle φ) = labelled n φ
labelled n (back_idle φ) = labelled n φ

module _ {S : Type 0} (M : System S) where
  -- the meaning, clause by clause as definitions 3 and 4 have it; false and "or", shorthands there, are said directly.
  -- Promises cite the test below, and `decided` says that it decides this. A forward modality
  -- speaks of the runs one step longer, a back modality of the run without its last step
  unfoldable pub Sat : Formula → Run S → Type 0
  Sat top r = Unit {0}
  Sat bottom r = ⊥
  Sat (not φ) r = ¬ Sat φ r
  Sat (and φ ψ) r = Sat φ r × Sat ψ r
  Sat (or φ ψ) r = Sat φ r ⊎ Sat ψ r
  Sat (fwd a φ) r = (p : S) × (a, p) ∈ M (last r) × Sat φ (r ▸ move a p)
  Sat (back a φ) r = (r' : Run S) × (p : S) × (r ≡ r' ▸ move a p) × Sat φ r'
  Sat (fwd_idle φ) r = Sat φ (r ▸ idle)
  Sat (back_idle φ) r = (r' : Run S) × (r ≡ r' ▸ idle) × Sat φ r'

  -- the same as a test: what a program computes
  unfoldable pub holds : Formula → Run S → Bool
  holds top r = true
  holds bottom r = false
  holds (not φ) r = negate (holds φ r)
  holds (and φ ψ) r = holds φ r && holds ψ r
  holds (or φ ψ) r = holds φ r || holds ψ r
  holds (fwd a φ) r = any (λ m. same m.0 a && holds φ (r ▸ move m.0 m.1)) (M (last r))
  holds (back a φ) (start p) = false
  holds (back a φ) (r ▸ move b p) = same b a && holds φ r
  holds (back a φ) (r ▸ idle) = false
  holds (fwd_idle φ) r = holds φ (r ▸ idle)
  holds (back_idle φ) (start p) = false
  holds (back_idle φ) (r ▸ move b p) = false
  holds (back_idle φ) (r ▸ idle) = holds φ r
