-- A turn's bytes stand behind those in front, and were the input's next ones.
use Rattle.std.proofs.Common.{ℕ, List, ◌≡◌, ◌≤◌, ◌+◌, ◌++◌, length, take, drop, rules, sym, ap, ◌∙◌, subst, le_refl}
use Rattle.std.proofs.Common.{drop_at, length-take-le}
use Rattle.std.proofs.lemmas.Slice.{take-put_mid_below}
use Rattle.std.specs.Io.KnownBytes.{Consumes}
use Rattle.std.proofs.KnownBytes.{Consumes-trans}
use borrow.Rule.Slice.PartMut.{put_mid, post_of}
use lib.Seq.{take-add, take-append-le}
use Rattle.reading.proofs.read_full.Goals as goal

-- the first n bytes, and then r of those written behind them
behind : (n k r : ℕ) (xs ys : List ℕ) → n ≤ length xs → r ≤ length ys
    → take n xs ++ take r ys ≡ take (n + r) (put_mid n k xs ys)
behind n k r xs ys within fits =
    let zs = put_mid n k xs ys in
    let after = post_of n k xs in
    let rest = drop_at (take n xs) (ys ++ after) n (length-take-le n xs within) in
    sym (take-add n r zs ∙ ap (λ l. l ++ take r (drop n zs)) (take-put_mid_below n k xs ys n (le_refl n) within)
    ∙ ap (λ l. take n xs ++ l) (ap (take r) rest ∙ take-append-le r ys after fits))

pub loop-n-preserved : goal.loop-n-preserved
loop-n-preserved g c =
    let turn = behind _ _ _ c.loop-n.buffer c.read.new.buf c.loop-n.invariant.1 c.in_ok-read.ensures.bound.0 in (
      search rules,
      search rules,
      subst (Consumes _ _) turn (Consumes-trans _ _ _ _ _ c.loop-n.invariant.2 c.in_ok-read.ensures.bytes.0),
    )
