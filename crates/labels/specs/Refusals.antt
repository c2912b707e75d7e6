-- The numbers of document 01, "Who can cause a refusal", and of document 02, and how checks follow one another.
use Rattle.std.specs.Prelude.{ℕ, Bool, true, false, List, [], ◌∷◌, ◌++◌, length, drop, Result, Ok, Err}
use Rattle.std.specs.Result.{result_and}
use Rattle.labels.specs.declared.refusal.Refusal.{Refusal}
use Rattle.labels.specs.declared.refusal.Refusal.TheVariants as refusal

-- the number of each refusal
abbrev pub number_of : Refusal → ℕ
number_of refusal.Truncated = 1
number_of refusal.WrongKind = 2
number_of refusal.WrongLength = 3
number_of refusal.TooManyPairs = 4
number_of refusal.OutOfRange = 5
number_of refusal.RowNotAbove = 6
number_of refusal.NinthRow = 7
number_of refusal.NotReal = 8
number_of refusal.NotATree = 9
number_of refusal.NestedTooDeep = 10
number_of refusal.BytesAfter = 11
number_of refusal.PointBeyond = 12
number_of refusal.TooManySplittings = 13
number_of refusal.NoSuchSplitting = 14
number_of refusal.NotARun = 15
number_of refusal.HalvesDoNotMatch = 16
number_of refusal.QuotientTooLarge = 17
number_of refusal.OutputTooShort = 18
number_of refusal.NotOfForm = 19
number_of refusal.WrongHeader = 20
number_of refusal.UnknownLabel = 21

-- what a check finds: nothing, or why what it judges is refused
abbrev pub Check : Type 0
Check = Result (Unit {0}) Refusal

-- a check that refuses decides; a sound one leaves it to the next
abbrev pub then_of : Check → Check → Check
then_of c next = result_and c next

-- refused for this reason if the fault is there
abbrev pub refused_if : Bool → Refusal → Check
refused_if true r = Err r
refused_if false r = Ok tt

-- the checks of a call, in the order in which they are judged: the first that refuses decides
unfoldable pub first_of : List Check → Check
first_of [] = Ok tt
first_of (c ∷ cs) = then_of c (first_of cs)

-- bytes in the place of the first ones of a list
unfoldable pub in_front : List ℕ → List ℕ → List ℕ
in_front b xs = b ++ drop (length b) xs

-- a lent output afterwards: "After an answer, lent bytes past it keep theirs"; after a refusal every byte keeps its
-- value
abbrev pub output_of : Check → List ℕ → List ℕ → List ℕ
output_of (Ok _) bytes out = in_front bytes out
output_of (Err r) bytes out = out

-- what a call answers, in document 01's terms: its number, 0 where nothing is refused, and its values, none where it is
pub record Answer : Type 0 where
  pub number : ℕ
  pub values : List ℕ

-- "A refusal is its number only"
abbrev pub refused_as : Refusal → Answer
refused_as r = record { number = number_of r; values = [] }

abbrev pub giving : List ℕ → Answer
giving ns = record { number = 0; values = ns }

-- a call that gives one value: the value, or why there is none
unfoldable pub value_answer : Result ℕ Refusal → Answer
value_answer (Ok n) = giving (n ∷ [])
value_answer (Err r) = refused_as r

-- a check: its number alone
unfoldable pub check_answer : Check → Answer
check_answer (Ok _) = giving []
check_answer (Err r) = refused_as r
