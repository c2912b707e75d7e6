-- Document 01's cases marked * ("Cases at the edges"), as one table with one theorem: a casebook in, and out come the
-- number of its splittings and the lines of its sheet, by the definitions that `write_lines` and `count` promise. A
-- line has the point, the splitting, the joint verdict, the quotient by the right half and the left half's verdict.
-- Document 01's other cases are run by the program crates/cases.
use mathlib.Core.Path.{◌≡◌, refl}
use mathlib.Core.List.{List, [], ◌∷◌, ◌++◌, map}
use Prim.Native.Nat.{ℕ, ◌*◌}
use lib.ListN.{length, get_or}
use Rattle.hml.specs.Lists.{only}
use Rattle.hml.specs.Formula.{size, nesting, labelled, holds}
use Rattle.hml.specs.Compose.{ways, shakes, beside}
use Rattle.hml.specs.Quotient.{quotient}
use Rattle.hml.specs.Spell.{spell, trees, parse}
use Rattle.hml.specs.Split.{splits}
use Rattle.hml.specs.Machine.{machine}
use Rattle.hml.specs.Labels.{highest, partner_of, partner_among, pairs}
use Rattle.labels.specs.Labels.{count, pairing, check_labels}
use Rattle.labels.specs.Refusals.{first_of}
use Rattle.tables.specs.Tables.{threes, rows_of, table_of, among, has_move, fit_table, fit_states, in_range, row_below}
use Rattle.tables.specs.Tables.{above_last, leaving, check_row, check_rows, check_table}
use Rattle.halves.specs.Runs.{written, step_of, lengthened, go_on}
use Rattle.halves.specs.Halves.{half_bytes, twos, half_of, step_fits, is_half_run, check_half}
use Rattle.halves.specs.Cuts.{beyond}
use Rattle.machines.specs.Joints.{joint_steps, joint_of, is_left_alone, is_right_alone, shakes_to, is_joint_idle, is_handshake}
use Rattle.machines.specs.Joints.{is_real, fit_joint, is_joint_run, check_joint}
use Rattle.formulas.specs.Formulas.{whole_of, formula_of, is_formula, nests_fit, check_formula}
use Rattle.records.specs.Records.{lengths_of, fit_length, may_stand, next_at, body_of, labels_of}
use Rattle.casebook.specs.Reading.{read_question, read_run, read_right, read_left, read_of, case_of}
use Rattle.verdict.specs.Verdicts.{joint_holds, half_holds, check_joint_call, check_half_call, answered}
use Rattle.verdict.specs.Verdicts.{joint_verdict, half_verdict}
use Rattle.splitting.specs.Splittings.{splittings_of, check_log, splitting_limit, check_count, left_half, right_half, count_of}
use Rattle.dividing.specs.Quotients.{tree_by, quotient_by, nodes_of, text_of, check_size, check_tree, answer_of}
use Rattle.quotient.specs.Calls.{tree_by_half, tree_by_number, check_by_number, by_number}
use Rattle.digits.specs.Digits.{digits_within, decimal, hex_digit, hexadecimal}
use Rattle.sheet_lines.specs.Sheets.{letter_of, ending_of, head_of, quotient_at, text_at, line_of, listed, lines_of}
use Rattle.sheet_lines.specs.Sheets.{counted_lines, case_lines, read_lines, sheet_of}
use Rattle.casebook.specs.declared.read.Parts.{Parts}
use Rattle.labels.specs.declared.refusal.Refusal.{Refusal}
use Rattle.std.specs.Prelude.{Err, Ok, Result}

-- a case: k, the two tables, the run and the question, as the casebook's records have them
pub record Case : Type 0 where
  pub head : List ℕ
  pub question : List ℕ
  -- what document 01 says: how many splittings there are, and some lines by their numbers
  pub splittings : ℕ
  pub lines : List (ℕ × List ℕ)

-- what the calls answer
pub record Answers : Type 0 where
  pub count : Result ℕ Refusal
  -- how many lines the sheet has: two points, and a line for each splitting
  pub size : ℕ
  pub lines : List (ℕ × List ℕ)

-- case A's first four records: `0300 0100 02`, `0900 0200 02 000101 000301`, `0900 0300 02 000201 000401`, `0700 0400
-- 0000 000101`
abbrev case_a : List ℕ
case_a =
    3 ∷ 0 ∷ 1 ∷ 0 ∷ 2 ∷ 9 ∷ 0 ∷ 2 ∷ 0 ∷ 2 ∷ 0 ∷ 1 ∷ 1 ∷ 0 ∷ 3 ∷ 1 ∷ 9 ∷ 0 ∷ 3 ∷ 0 ∷ 2 ∷ 0 ∷ 2 ∷ 1 ∷ 0 ∷ 4 ∷ 1 ∷ 7 ∷ 0 ∷
    4 ∷ 0 ∷ 0 ∷ 0 ∷ 0 ∷ 1 ∷ 1 ∷ []

-- "One state each, k 1, both with the single row 000100, one step 01 00 00"
abbrev loops : List ℕ
loops =
    3 ∷ 0 ∷ 1 ∷ 0 ∷ 1 ∷ 6 ∷ 0 ∷ 2 ∷ 0 ∷ 1 ∷ 0 ∷ 1 ∷ 0 ∷ 6 ∷ 0 ∷ 3 ∷ 0 ∷ 1 ∷ 0 ∷ 1 ∷ 0 ∷ 7 ∷ 0 ∷ 4 ∷ 0 ∷ 0 ∷ 0 ∷ 1 ∷ 0 ∷
    0 ∷ []

-- a question record of two nodes
abbrev asking : ℕ → ℕ → List ℕ
asking o a = 6 ∷ 0 ∷ 5 ∷ 0 ∷ o ∷ a ∷ 0 ∷ 0 ∷ []

pub cases : List Case
cases =
    -- "its four sheet lines, and two splittings": back by 0 over true
    record {
      head = case_a;
      question = asking 6 0;
      splittings = 2;
      lines =
          -- `0 0 F 0100 F`
          (0, 48 ∷ 32 ∷ 48 ∷ 32 ∷ 70 ∷ 32 ∷ 48 ∷ 49 ∷ 48 ∷ 48 ∷ 32 ∷ 70 ∷ 10 ∷ []) ∷
          -- `0 1 F 0100 F`
          (1, 48 ∷ 32 ∷ 49 ∷ 32 ∷ 70 ∷ 32 ∷ 48 ∷ 49 ∷ 48 ∷ 48 ∷ 32 ∷ 70 ∷ 10 ∷ []) ∷
          -- `1 0 T 06010000 T`
          (2, 49 ∷ 32 ∷ 48 ∷ 32 ∷ 84 ∷ 32 ∷ 48 ∷ 54 ∷ 48 ∷ 49 ∷ 48 ∷ 48 ∷ 48 ∷ 48 ∷ 32 ∷ 84 ∷ 10 ∷ []) ∷
          -- `1 1 T 06030000 T`
          (3, 49 ∷ 32 ∷ 49 ∷ 32 ∷ 84 ∷ 32 ∷ 48 ∷ 54 ∷ 48 ∷ 51 ∷ 48 ∷ 48 ∷ 48 ∷ 48 ∷ 32 ∷ 84 ∷ 10 ∷ []) ∷ [];
    }
    -- "point 1, back by 1 over true: joint F, quotient 0100 for splitting 0"
    ∷ record {
      head = case_a;
      question = asking 6 1;
      splittings = 2;
      lines =
          -- `1 0 F 0100 F`
          (2, 49 ∷ 32 ∷ 48 ∷ 32 ∷ 70 ∷ 32 ∷ 48 ∷ 49 ∷ 48 ∷ 48 ∷ 32 ∷ 70 ∷ 10 ∷ []) ∷ [];
    }
    -- "point 0, forward by 0 over true: T, 04000500000004000501000005030000"
    ∷ record {
      head = case_a;
      question = asking 5 0;
      splittings = 2;
      lines =
          -- `0 0 T 04000500000004000501000005030000 T`
          (
            0,
            48 ∷ 32 ∷ 48 ∷ 32 ∷ 84 ∷ 32 ∷ 48 ∷ 52 ∷ 48 ∷ 48 ∷ 48 ∷ 53 ∷ 48 ∷ 48 ∷ 48 ∷ 48 ∷ 48 ∷ 48 ∷ 48 ∷ 52 ∷ 48 ∷ 48
                ∷ 48 ∷ 53 ∷ 48 ∷ 49 ∷ 48 ∷ 48 ∷ 48 ∷ 48 ∷ 48 ∷ 53 ∷ 48 ∷ 51 ∷ 48 ∷ 48 ∷ 48 ∷ 48 ∷ 32 ∷ 84 ∷ 10 ∷ [],
          ) ∷ [];
    }
    -- "point 0, forward by 2 over true: T, 04000502000007000000"
    ∷ record {
      head = case_a;
      question = asking 5 2;
      splittings = 2;
      lines =
          -- `0 0 T 04000502000007000000 T`
          (
            0,
            48 ∷ 32 ∷ 48 ∷ 32 ∷ 84 ∷ 32 ∷ 48 ∷ 52 ∷ 48 ∷ 48 ∷ 48 ∷ 53 ∷ 48 ∷ 50 ∷ 48 ∷ 48 ∷ 48 ∷ 48 ∷ 48 ∷ 55 ∷ 48 ∷ 48
                ∷ 48 ∷ 48 ∷ 48 ∷ 48 ∷ 32 ∷ 84 ∷ 10 ∷ [],
          ) ∷ [];
    }
    -- "question back by 1 over true: two splittings; quotients 06010000 and 08000000"
    ∷ record {
      head = loops;
      question = asking 6 1;
      splittings = 2;
      lines =
          -- `1 0 T 06010000 T`
          (2, 49 ∷ 32 ∷ 48 ∷ 32 ∷ 84 ∷ 32 ∷ 48 ∷ 54 ∷ 48 ∷ 49 ∷ 48 ∷ 48 ∷ 48 ∷ 48 ∷ 32 ∷ 84 ∷ 10 ∷ []) ∷
          -- `1 1 T 08000000 T`
          (3, 49 ∷ 32 ∷ 49 ∷ 32 ∷ 84 ∷ 32 ∷ 48 ∷ 56 ∷ 48 ∷ 48 ∷ 48 ∷ 48 ∷ 48 ∷ 48 ∷ 32 ∷ 84 ∷ 10 ∷ []) ∷ [];
    }
    ∷ []

abbrev due : Case → Answers
due c = record { count = Ok c.splittings; size = 2 * c.splittings; lines = c.lines }

-- the count of a casebook's splittings
abbrev count_in : List ℕ → Result Parts Refusal → Result ℕ Refusal
count_in s (Ok p) =
    let c = case_of s p in
    count_of c.labels c.left c.right c.run
count_in s (Err x) = Err x

abbrev computed : Case → Answers
computed c =
    let book = c.head ++ c.question in
    record {
      count = count_in book (read_of book);
      size = length (sheet_of book);
      lines = map (λ (n : ℕ × List ℕ). (n.0, get_or (sheet_of book) n.0 [])) c.lines;
    }

pub published : map computed cases ≡ map due cases
unfolding cases read_of read_left read_right read_run read_question next_at may_stand lengths_of fit_length body_of
    labels_of
    count_of check_count check_log splitting_limit splittings_of first_of check_table fit_table fit_states check_rows check_row
    in_range row_below above_last leaving check_labels count highest check_joint fit_joint is_joint_run is_real is_left_alone
    is_right_alone
    is_handshake shakes_to is_joint_idle has_move among go_on joint_steps threes rows_of table_of machine only pairing pairs
    partner_among partner_of splits ways shakes joint_of lengthened step_of
    joint_verdict check_joint_call joint_holds holds beside formula_of whole_of parse trees check_formula is_formula nests_fit
    labelled nesting answered
    by_number check_by_number tree_by_number tree_by_half quotient_by tree_by quotient answer_of check_tree check_size nodes_of
    text_of size spell left_half right_half half_bytes written half_of twos
    half_verdict check_half_call half_holds check_half is_half_run step_fits beyond
    sheet_of read_lines case_of case_lines counted_lines lines_of listed line_of head_of ending_of quotient_at text_at letter_of
    decimal
    digits_within hexadecimal hex_digit
published = refl
