-- Two systems side by side: the ways of a joint move (document 01, "A joint step .. is real exactly if one of these
-- ways exists"), the joint system, and what a way makes each half do. The fourth way, the joint idle, is an idle of the
-- joint system (`Allowed`, System). Document 01 counts all ways; source document 000 picks one by which side changed.
use Rattle.std.specs.Prelude.{Bool, List, ◌++◌, map, ℕ}
use Rattle.hml.specs.Lists.{same, only, each, present}
use Rattle.hml.specs.System.{System, Step, move, idle, Pairing}

module _ (P : Pairing) where
  -- do the two labels shake hands?
  unfoldable pub shakes : ℕ → ℕ → Bool
  shakes a b = present (same a) (P.partner b)

abbrev pub paired : {S T : Type 0} → S → T → S × T
paired p q = (p, q)

-- how a pair of systems moves: the left alone, the right alone, or both by a handshake
pub data Way (S T : Type 0) : Type 0 where
  left : ℕ → S → Way S T
  right : ℕ → T → Way S T
  both : ℕ → S → ℕ → T → Way S T

module _ {S T : Type 0} where
  -- label and target of the joint move made so from (p, q)
  abbrev pub joint : S → T → Way S T → ℕ × (S × T)
  joint p q (left a p') = (a, (p', q))
  joint p q (right b q') = (b, (p, q'))
  joint p q (both a p' b q') = (0, (p', q'))

  -- the steps of the halves that it names: a move, or an idle where it names none
  abbrev pub halves : Way S T → Step S × Step T
  halves (left a p) = (move a p, idle)
  halves (right b q) = (idle, move b q)
  halves (both a p b q) = (move a p, move b q)

module _ (P : Pairing) {S T : Type 0} (L : System S) (R : System T) where
  abbrev pub lefts : S → List (Way S T)
  lefts p = map (λ m. left m.0 m.1) (L p)

  abbrev pub rights : T → List (Way S T)
  rights q = map (λ n. right n.0 n.1) (R q)

  abbrev pub handshakes : S → T → List (Way S T)
  handshakes p q = each (λ m. each (λ n. only (shakes P m.0 n.0) (both m.0 m.1 n.0 n.1)) (R q)) (L p)

  -- all ways from (p, q), in the order left alone, right alone, handshakes by the left's move: rows rise, so among
  -- those of one joint step these are handshakes by rising left label
  unfoldable pub ways : S → T → List (Way S T)
  ways p q = lefts p ++ (rights q ++ handshakes p q)

  -- the joint system
  unfoldable pub beside : System (S × T)
  beside u = map (joint u.0 u.1) (ways u.0 u.1)
