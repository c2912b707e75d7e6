-- How far back a formula looks: what the sheet's window goes by. No promise of a call cites it.
use Rattle.std.specs.Prelude.{ℕ, ◌+◌, max}
use Rattle.hml.specs.Formula.{Formula, top, bottom, not, and, or, fwd, back, fwd_idle, back_idle}

-- how deep back modalities nest, by a label or by idle, along one branch
unfoldable pub backs : Formula → ℕ
backs top = 0
backs bottom = 0
backs (not φ) = backs φ
backs (and φ ψ) = max (backs φ) (backs ψ)
backs (or φ ψ) = max (backs φ) (backs ψ)
backs (fwd a φ) = backs φ
backs (back a φ) = 1 + backs φ
backs (fwd_idle φ) = backs φ
backs (back_idle φ) = 1 + backs φ
