-- Quotients: document 01, "The quotient", and the numbers that a division gives: 4, the table's, 9, 10, 15, then 17 and
-- 18. What a quotient is, is the theory's to say: `quotient` in hml's Quotient has table 1 of source document 000 as
-- document 01 writes it out, and `spell` in Spell the bytes of a formula.
use Rattle.std.specs.Prelude.{ℕ, ◌*◌, List, [], ◌∷◌, length, ltb, Err, None, Ok, Option, Result, Some}
use Rattle.hml.specs.System.{Run}
use Rattle.hml.specs.Formula.{Formula, size}
use Rattle.hml.specs.Spell.{spell}
use Rattle.hml.specs.Quotient.{quotient}
use Rattle.labels.specs.Refusals.{refused_if, first_of, output_of, Answer, Check, value_answer}
use Rattle.labels.specs.Labels.{check_labels, pairing}
use Rattle.labels.specs.declared.refusal.Refusal.TheVariants.{QuotientTooLarge, OutputTooShort}
use Rattle.labels.specs.declared.label.Labels.{Labels}
use Rattle.tables.specs.Tables.{table_of, check_table}
use Rattle.halves.specs.Halves.{check_half}
use Rattle.formulas.specs.Formulas.{formula_of, question_limit, quotient_limit, check_formula}
use Rattle.labels.specs.declared.refusal.Refusal.{Refusal}

-- the tree of the quotient, by a run of a table, of the formula that the bytes spell
unfoldable pub tree_by : (Formula → Formula) → Option Formula → Option Formula
tree_by g None = None
tree_by g (Some φ) = Some (g φ)

unfoldable pub quotient_by : Labels → List ℕ → Run ℕ → List ℕ → Option Formula
quotient_by k t r f = tree_by (λ φ. quotient (pairing k) (table_of t) φ r) (formula_of f)

-- its nodes, and its bytes; where there is no formula there are none
unfoldable pub nodes_of : Option Formula → ℕ
nodes_of None = 0
nodes_of (Some φ) = size φ

unfoldable pub text_of : Option Formula → List ℕ
text_of None = []
text_of (Some φ) = spell φ []

-- 17: "the quotient's tree has over 4,096 nodes"
unfoldable pub check_size : Option Formula → Check
check_size tree = refused_if (ltb quotient_limit (nodes_of tree)) QuotientTooLarge

-- behind the checks of a call's parts, 17; then 18, with so many bytes lent: "otherwise only an output under two bytes
-- a node is refused"
unfoldable pub check_tree : Check → Option Formula → ℕ → Check
check_tree parts tree room =
    first_of (parts ∷ check_size tree ∷ refused_if (ltb room (2 * nodes_of tree)) OutputTooShort ∷ [])

-- the answer: how many bytes were written
abbrev pub written : Check → ℕ → Result ℕ Refusal
written (Ok _) n = Ok n
written (Err x) n = Err x

unfoldable pub answer_of : Check → Option Formula → ℕ → Result ℕ Refusal
answer_of parts tree room = written (check_tree parts tree room) (2 * nodes_of tree)

-- the number of a quotient, and its value: how many bytes were written
abbrev pub quotient_answer : Result ℕ Refusal → Answer
quotient_answer = value_answer

-- the lent output afterwards
unfoldable pub output_after : Check → Option Formula → List ℕ → List ℕ
output_after parts tree out = output_of (check_tree parts tree (length out)) (text_of tree) out

-- what a call judges that takes one table and one half of it: the parts' numbers in record order, then 15
unfoldable pub check_division : Labels → List ℕ → List ℕ → List ℕ → Check
check_division k t h f = first_of (check_labels k ∷ check_table k t ∷ check_formula k question_limit f ∷ check_half t h ∷ [])
