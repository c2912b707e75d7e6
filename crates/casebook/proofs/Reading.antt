-- The cases of reading a casebook, record by record, each from what the code knows at its return.
use Prim.Native.Nat.{ℕ, ◌≤◌, ◌<◌}
use mathlib.Core.Path.{◌≡◌, sym, ◌∙◌}
use mathlib.Core.List.{List}
use lib.ListN.{length}
use borrow.Author.Tests.{lt-ltb, le-ltb}
use Rattle.labels.specs.Refusals.{first_of, Check}
use Rattle.labels.specs.Labels.{check_labels}
use Rattle.labels.specs.declared.label.Labels.{Labels}
use Rattle.labels.specs.declared.refusal.Refusal.{Refusal}
use Rattle.labels.specs.declared.refusal.Refusal.TheVariants.{BytesAfter}
use Rattle.labels.proofs.Refusals.{then_sound}
use Rattle.tables.specs.Tables.{check_table}
use Rattle.machines.specs.Joints.{check_joint, check_tables_and_joint}
use Rattle.formulas.specs.Formulas.{question_limit, check_formula}
use Rattle.records.specs.Records.{next_at, body_of, labels_of}
use Rattle.records.specs.declared.record.Cursor.{Cursor}
use Rattle.records.specs.declared.record.Record.{Record}
use Rattle.casebook.specs.Reading.{labels_kinds, left_kinds, right_kinds, run_kinds, question_kinds}
use Rattle.casebook.specs.Reading.{read_question, read_run, read_right, read_left, read_of}
use Rattle.casebook.specs.declared.read.Parts.{Parts}
use Rattle.std.specs.Prelude.{Err, Ok, Result}

-- what a check under some labels said of a body, as the code has them
pub seen : (f : Labels → List ℕ → Check) {x x' : Labels} {b b' : List ℕ} {y z : Check} → x ≡ x' → b ≡ b' → y ≡ f x b
    → y ≡ z
    → f x' b' ≡ z
seen f o p q h = rw (← o, ← p, ← q) h

-- what the check of k said, as the code has the labels
pub labels_seen : {x x' : Labels} {y z : Check} → x ≡ x' → y ≡ check_labels x → y ≡ z → check_labels x' ≡ z
labels_seen o q h = rw (← o, ← q) h

module _ (s : List ℕ) where
  module _ (h : Record) (c : Cursor) (e : Ok (h, c) ≡ next_at s 0 labels_kinds) where
    pub labels_sound : check_labels (labels_of s h) ≡ Ok tt → {x : Result Parts Refusal}
        → x ≡ read_left s h c.at → x ≡ read_of s
    unfolding read_of
    labels_sound f g = rw (← e, f) g

    pub labels_refused : (y : Refusal) → check_labels (labels_of s h) ≡ Err y
        → Err y ≡ read_of s
    unfolding read_of
    labels_refused y f = rw (← e, f)

  pub first_refused : (y : Refusal) → Err y ≡ next_at s 0 labels_kinds → Err y ≡ read_of s
  unfolding read_of
  first_refused y e = rw (← e)

  module _ (h : Record) (at : ℕ) where
    module _ (l : Record) (c : Cursor) (e : Ok (l, c) ≡ next_at s at left_kinds) where
      pub left_sound : check_table (labels_of s h) (body_of s l) ≡ Ok tt → {x : Result Parts Refusal}
          → x ≡ read_right s h l c.at
          → x ≡ read_left s h at
      unfolding read_left
      left_sound f g = rw (← e, f) g

      pub left_refused : (y : Refusal) → check_table (labels_of s h) (body_of s l) ≡ Err y
          → Err y ≡ read_left s h at
      unfolding read_left
      left_refused y f = rw (← e, f)

    pub no_left : (y : Refusal) → Err y ≡ next_at s at left_kinds → Err y ≡ read_left s h at
    unfolding read_left
    no_left y e = rw (← e)

    module _ (l : Record) where
      module _ (r : Record) (c : Cursor) (e : Ok (r, c) ≡ next_at s at right_kinds) where
        pub right_sound : check_table (labels_of s h) (body_of s r) ≡ Ok tt → {x : Result Parts Refusal}
            → x ≡ read_run s h l r c.at
            → x ≡ read_right s h l at
        unfolding read_right
        right_sound f g = rw (← e, f) g

        pub right_refused : (y : Refusal) → check_table (labels_of s h) (body_of s r) ≡ Err y
            → Err y ≡ read_right s h l at
        unfolding read_right
        right_refused y f = rw (← e, f)

      pub no_right : (y : Refusal) → Err y ≡ next_at s at right_kinds → Err y ≡ read_right s h l at
      unfolding read_right
      no_right y e = rw (← e)

      module _ (r : Record) where
        module _ (j : Record) (c : Cursor) (e : Ok (j, c) ≡ next_at s at run_kinds) where
          pub run_sound : check_joint (labels_of s h) (body_of s l) (body_of s r) (body_of s j) ≡ Ok tt
              → {x : Result Parts Refusal}
              → x ≡ read_question s h l r j c.at → x ≡ read_run s h l r at
          unfolding read_run
          run_sound f g = rw (← e, f) g

          pub run_refused : (y : Refusal) → check_joint (labels_of s h) (body_of s l) (body_of s r) (body_of s j)
              ≡ Err y
              → Err y ≡ read_run s h l r at
          unfolding read_run
          run_refused y f = rw (← e, f)

        pub no_run : (y : Refusal) → Err y ≡ next_at s at run_kinds → Err y ≡ read_run s h l r at
        unfolding read_run
        no_run y e = rw (← e)

        module _ (j : Record) where
          module _ (q : Record) (c : Cursor) (e : Ok (q, c) ≡ next_at s at question_kinds) where
            pub question_refused : (y : Refusal) → check_formula (labels_of s h) question_limit (body_of s q)
                ≡ Err y
                → Err y ≡ read_question s h l r j at
            unfolding read_question
            question_refused y f = rw (← e, f)

            module _ (f : check_formula (labels_of s h) question_limit (body_of s q) ≡ Ok tt) where
              pub bytes_after : c.at < length s → Err BytesAfter ≡ read_question s h l r j at
              unfolding read_question
              bytes_after more = rw (← e, f, lt-ltb c.at (length s) more)

              pub whole : length s ≤ c.at
                  → Ok (record { labels = h; left = l; right = r; run = j; question = q })
                  ≡ read_question s h l r j at
              unfolding read_question
              whole all = rw (← e, f, le-ltb c.at (length s) all)

          pub no_question : (y : Refusal) → Err y ≡ next_at s at question_kinds
              → Err y ≡ read_question s h l r j at
          unfolding read_question
          no_question y e = rw (← e)

-- beside sound tables, the check of tables and run is that of the run
pub run_alone : (k : Labels) (l r j : List ℕ) → check_table k l ≡ Ok tt → check_table k r ≡ Ok tt
    → check_tables_and_joint k l r j ≡ check_joint k l r j
unfolding check_tables_and_joint first_of
run_alone k l r j a b = rw (a, b) (then_sound (check_joint k l r j))

pub run_seen : (s : List ℕ) (h l r j : Record) → check_table (labels_of s h) (body_of s l) ≡ Ok tt
    → check_table (labels_of s h) (body_of s r) ≡ Ok tt
    → {x : Labels} {a b d : List ℕ} {y z : Check} → x ≡ labels_of s h → a ≡ body_of s l → b ≡ body_of s r
    → d ≡ body_of s j
    → y ≡ check_tables_and_joint x a b d → y ≡ z
    → check_joint (labels_of s h) (body_of s l) (body_of s r) (body_of s j) ≡ z
run_seen s h l r j f g o p q w e i =
    sym (run_alone (labels_of s h) (body_of s l) (body_of s r) (body_of s j) f g) ∙ rw (← o, ← p, ← q, ← w, ← e) i
