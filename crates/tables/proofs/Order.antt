-- The derived order of rows is the document's: by from, then label, then to.
use Prim.Native.Nat.{ℕ, ◌<◌}
use mathlib.Core.Path.{◌≡◌, refl, sym}
use mathlib.Core.Bool.{Bool, true, false, not, cond, ◌||◌, ◌&&◌}
use native.Mathlib.Omega.{arith}
use lib.Dec.{ltb, eqb}
use borrow.Author.Tests.{lt-ltb, le-ltb, eq-eqb, ne_eqb, ltb-true, ltb-false}
use Rattle.std.specs.Prelude.{Some}
use Rattle.std.specs.Ordering.{partial_le, is_some_and, is_le, partial_ordering_then}
use Rattle.std.specs.declared.cmp.Ordering.TheVariants.{Less, Equal, Greater}
use Rattle.tables.specs.contracts.row.RowPartialOrd.TheImpl.{partial_cmp-value}
use Rattle.tables.specs.Tables.{row_below}
use Rattle.tables.specs.Working.{triple_of}
use Rattle.tables.specs.declared.row.Row as declared-row

-- two numbers stand in one of three ways to each other, and the tests a < b, a ≡ b, b < a and b ≡ a say which
data Ranked : Bool → Bool → Bool → Bool → Type 0 where
  less : Ranked true false false false
  same : Ranked false true false true
  more : Ranked false false true false

ne : (a b : ℕ) → a < b → a ≡ b → ⊥
ne a b l e = omega (arith, l, e)

ranked : (a b : ℕ) → Ranked (ltb a b) (eqb a b) (ltb b a) (eqb b a)
ranked a b = go (ltb a b) (ltb b a) refl refl
  where
    go : (x y : Bool) → ltb a b ≡ x → ltb b a ≡ y → Ranked (ltb a b) (eqb a b) (ltb b a) (eqb b a)
    go true y h k =
        let l = ltb-true a b h in
        rw (lt-ltb a b l, le-ltb b a (omega arith), ne_eqb a b (ne a b l), ne_eqb b a (λ e. ne a b l (sym e))) less
    go false true h k =
        let l = ltb-true b a k in
        rw (lt-ltb b a l, le-ltb a b (omega arith), ne_eqb b a (ne b a l), ne_eqb a b (λ e. ne b a l (sym e))) more
    go false false h k =
        let l : a ≡ b = omega (arith, ltb-false a b h, ltb-false b a k) in
        rw (le-ltb a b (omega arith), le-ltb b a (omega arith), eq-eqb a b l, eq-eqb b a (sym l)) same

pub row_le : (x y : declared-row.Row)
    → partial_le (partial_cmp-value).it x y ≡ not (row_below (triple_of y) (triple_of x))
unfolding row_below
row_le x y = go (ranked x.from y.from) (ranked x.label.0 y.label.0) (ranked x.to y.to)
  where
    go : {a b c d e f g h i j k l : Bool} → Ranked a b c d → Ranked e f g h → Ranked i j k l
        → is_some_and is_le (partial_ordering_then (Some (cond a Less (cond b Equal Greater)))
        (partial_ordering_then (Some (cond e Less (cond f Equal Greater))) (Some (cond i Less (cond j Equal Greater)))))
        ≡ not (c || (d && (g || (h && k))))
    go less v w = refl
    go more v w = refl
    go same less w = refl
    go same more w = refl
    go same same less = refl
    go same same same = refl
    go same same more = refl
