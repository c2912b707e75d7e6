-- The idle first, then the moves alone behind it, then the parts in handshakes behind both.
use mathlib.Core.Path.{◌≡◌, refl, sym, ◌∙◌}
use mathlib.Core.List.{List, [], ◌∷◌}
use Prim.Native.Nat.{ℕ}
use native.Mathlib.Omega.{arith}
use Rattle.tables.specs.Tables.{rows_of, rows_from, bytes_of, table_of, Rising, SoundTable}
use Rattle.tables.specs.Working.{moves_in}
use Rattle.tables.proofs.Searching.{leaving-moves}
use Rattle.dividing.specs.Working.{alone_in}
use Rattle.labels.proofs.Outputs.{front_length}
use Rattle.labels.specs.declared.label.Labels.{Labels}
use Rattle.dividing.proofs.Pieces.{joined, one_piece, two_pieces, second_fits}
use Rattle.dividing.proofs.Listing.{idle-listed, label-listed, silent-listed, alone_room, listed-fits}
use Rattle.hml.proofs.Clauses.{to_value_out_after}
use Rattle.dividing.proofs.disjuncts.list_disjuncts.Goals as goal

-- the rows that were found have the moves of the state
rows_are : {k : Labels} {t : List ℕ} → SoundTable k t → (q : ℕ) (rows : List ℕ)
    → (Rising (rows_of t) → rows ≡ bytes_of (rows_from q (rows_of t))) → moves_in rows ≡ table_of t q
rows_are {t = t} s q rows e = leaving-moves t q rows (e s.rising)

pub returns-then-operator-eq7 : goal.returns-then-operator-eq7
returns-then-operator-eq7 c = to_value_out_after (one_piece _ _ _ _ 4 (idle-listed _ _ _ _ _ c.if-operator-eq7.true)
    refl
    c.put_disjunct.ensures)

pub list_alone-n-requires : goal.list_alone-n-requires
list_alone-n-requires c = second_fits _ _ _ _
    (joined (5 ∷ c.args.label.0 ∷ 255 ∷ c.args.state ∷ [])
    (alone_in c.args.label.0 (moves_in c.rows_leaving-rows.result.now)))
    (alone_room c.args.labels c.args.table.now c.args.operator c.args.label.0 c.args.state _
    (rows_are c.requires.sound_table _ _ c.rows_leaving-rows.ensures.exact) _ _ c.requires.sound_table
    c.requires.in_bounds) _ _ 4 refl refl
    c.put_disjunct-2.ensures

pub overflow_add-at : goal.overflow_add-at
overflow_add-at c = omega (
  arith,
  c.list_alone-n.ensures.value,
  second_fits _ _ _ _
      (joined (5 ∷ c.args.label.0 ∷ 255 ∷ c.args.state ∷ [])
      (alone_in c.args.label.0 (moves_in c.rows_leaving-rows.result.now)))
      (alone_room c.args.labels c.args.table.now c.args.operator c.args.label.0 c.args.state _
      (rows_are c.requires.sound_table _ _ c.rows_leaving-rows.ensures.exact) _ _ c.requires.sound_table
      c.requires.in_bounds) _ _ 4 refl refl
      c.put_disjunct-2.ensures,
)

pub returns-then-not-is_silent : goal.returns-then-not-is_silent
returns-then-not-is_silent c = to_value_out_after (one_piece _ _ _ _ _
    (label-listed c.args.labels c.args.table.now c.args.operator c.args.label.0 c.args.state _
    (rows_are c.requires.sound_table _ _ c.rows_leaving-rows.ensures.exact) c.if-operator-eq7.false
    (sym c.is_silent.ensures ∙ c.if-not-is_silent.true))
    (two_pieces _ _ _ _ _ _ 4 _
    (joined (5 ∷ c.args.label.0 ∷ 255 ∷ c.args.state ∷ [])
    (alone_in c.args.label.0 (moves_in c.rows_leaving-rows.result.now))) refl c.put_disjunct-2.ensures
    c.list_alone-n.ensures.value c.list_alone-n.ensures.out_after).0
    (two_pieces _ _ _ _ _ _ 4 _
    (joined (5 ∷ c.args.label.0 ∷ 255 ∷ c.args.state ∷ [])
    (alone_in c.args.label.0 (moves_in c.rows_leaving-rows.result.now))) refl c.put_disjunct-2.ensures
    c.list_alone-n.ensures.value c.list_alone-n.ensures.out_after).1)

pub slice_bounds-list_shaken-count : goal.slice_bounds-list_shaken-count
slice_bounds-list_shaken-count c = omega (
  arith,
  (two_pieces _ _ _ _ _ _ 4 _
      (joined (5 ∷ c.args.label.0 ∷ 255 ∷ c.args.state ∷ [])
      (alone_in c.args.label.0 (moves_in c.rows_leaving-rows.result.now))) refl c.put_disjunct-2.ensures
      c.list_alone-n.ensures.value c.list_alone-n.ensures.out_after).0,
  (alone_room c.args.labels c.args.table.now c.args.operator c.args.label.0 c.args.state _
      (rows_are c.requires.sound_table _ _ c.rows_leaving-rows.ensures.exact) _ _ c.requires.sound_table
      c.requires.in_bounds),
  front_length _ _ _
      (two_pieces _ _ _ _ _ _ 4 _
      (joined (5 ∷ c.args.label.0 ∷ 255 ∷ c.args.state ∷ [])
      (alone_in c.args.label.0 (moves_in c.rows_leaving-rows.result.now))) refl c.put_disjunct-2.ensures
      c.list_alone-n.ensures.value c.list_alone-n.ensures.out_after).1
      (alone_room c.args.labels c.args.table.now c.args.operator c.args.label.0 c.args.state _
      (rows_are c.requires.sound_table _ _ c.rows_leaving-rows.ensures.exact) _ _ c.requires.sound_table
      c.requires.in_bounds),
)

pub slice_bounds-list_shaken-start : goal.slice_bounds-list_shaken-start
slice_bounds-list_shaken-start c = omega (
  arith,
  (two_pieces _ _ _ _ _ _ 4 _
      (joined (5 ∷ c.args.label.0 ∷ 255 ∷ c.args.state ∷ [])
      (alone_in c.args.label.0 (moves_in c.rows_leaving-rows.result.now))) refl c.put_disjunct-2.ensures
      c.list_alone-n.ensures.value c.list_alone-n.ensures.out_after).0,
  (alone_room c.args.labels c.args.table.now c.args.operator c.args.label.0 c.args.state _
      (rows_are c.requires.sound_table _ _ c.rows_leaving-rows.ensures.exact) _ _ c.requires.sound_table
      c.requires.in_bounds),
  front_length _ _ _
      (two_pieces _ _ _ _ _ _ 4 _
      (joined (5 ∷ c.args.label.0 ∷ 255 ∷ c.args.state ∷ [])
      (alone_in c.args.label.0 (moves_in c.rows_leaving-rows.result.now))) refl c.put_disjunct-2.ensures
      c.list_alone-n.ensures.value c.list_alone-n.ensures.out_after).1
      (alone_room c.args.labels c.args.table.now c.args.operator c.args.label.0 c.args.state _
      (rows_are c.requires.sound_table _ _ c.rows_leaving-rows.ensures.exact) _ _ c.requires.sound_table
      c.requires.in_bounds),
)

pub list_shaken-m-requires : goal.list_shaken-m-requires
list_shaken-m-requires c = second_fits _ _ _ _
    (silent-listed c.args.labels c.args.table.now c.args.operator c.args.label.0 c.args.state _
    (rows_are c.requires.sound_table _ _ c.rows_leaving-rows.ensures.exact) c.if-operator-eq7.false
    (sym c.is_silent.ensures ∙ c.if-not-is_silent.false))
    (listed-fits c.args.labels c.args.table.now c.args.operator c.args.label.0 c.args.state _ _
    c.requires.sound_table c.requires.in_bounds) _ _ _ refl
    (two_pieces _ _ _ _ _ _ 4 _
    (joined (5 ∷ c.args.label.0 ∷ 255 ∷ c.args.state ∷ [])
    (alone_in c.args.label.0 (moves_in c.rows_leaving-rows.result.now))) refl c.put_disjunct-2.ensures
    c.list_alone-n.ensures.value c.list_alone-n.ensures.out_after).0
    (two_pieces _ _ _ _ _ _ 4 _
    (joined (5 ∷ c.args.label.0 ∷ 255 ∷ c.args.state ∷ [])
    (alone_in c.args.label.0 (moves_in c.rows_leaving-rows.result.now))) refl c.put_disjunct-2.ensures
    c.list_alone-n.ensures.value c.list_alone-n.ensures.out_after).1

pub overflow_add-result : goal.overflow_add-result
overflow_add-result c = omega (
  arith,
  (two_pieces _ _ _ _ _ _ 4 _
      (joined (5 ∷ c.args.label.0 ∷ 255 ∷ c.args.state ∷ [])
      (alone_in c.args.label.0 (moves_in c.rows_leaving-rows.result.now))) refl c.put_disjunct-2.ensures
      c.list_alone-n.ensures.value c.list_alone-n.ensures.out_after).0,
  (alone_room c.args.labels c.args.table.now c.args.operator c.args.label.0 c.args.state _
      (rows_are c.requires.sound_table _ _ c.rows_leaving-rows.ensures.exact) _ _ c.requires.sound_table
      c.requires.in_bounds),
  c.list_shaken-m.ensures.value,
  second_fits _ _ _ _
      (silent-listed c.args.labels c.args.table.now c.args.operator c.args.label.0
      c.args.state _ (rows_are c.requires.sound_table _ _ c.rows_leaving-rows.ensures.exact)
      c.if-operator-eq7.false (sym c.is_silent.ensures
      ∙ c.if-not-is_silent.false))
      (listed-fits c.args.labels c.args.table.now c.args.operator c.args.label.0 c.args.state
      _ _ c.requires.sound_table c.requires.in_bounds) _ _ _ refl
      (two_pieces _ _ _ _ _ _ 4 _
      (joined (5 ∷ c.args.label.0 ∷ 255 ∷ c.args.state ∷ [])
      (alone_in c.args.label.0 (moves_in c.rows_leaving-rows.result.now))) refl c.put_disjunct-2.ensures
      c.list_alone-n.ensures.value c.list_alone-n.ensures.out_after).0
      (two_pieces _ _ _ _ _ _ 4 _
      (joined (5 ∷ c.args.label.0 ∷ 255 ∷ c.args.state ∷ [])
      (alone_in c.args.label.0 (moves_in c.rows_leaving-rows.result.now))) refl c.put_disjunct-2.ensures
      c.list_alone-n.ensures.value c.list_alone-n.ensures.out_after).1,
)

pub returns : goal.returns
returns c = to_value_out_after (two_pieces _ _ _ _ _ _ _ _
    (silent-listed c.args.labels c.args.table.now c.args.operator c.args.label.0 c.args.state _
    (rows_are c.requires.sound_table _ _ c.rows_leaving-rows.ensures.exact) c.if-operator-eq7.false
    (sym c.is_silent.ensures ∙ c.if-not-is_silent.false))
    (two_pieces _ _ _ _ _ _ 4 _
    (joined (5 ∷ c.args.label.0 ∷ 255 ∷ c.args.state ∷ [])
    (alone_in c.args.label.0 (moves_in c.rows_leaving-rows.result.now))) refl c.put_disjunct-2.ensures
    c.list_alone-n.ensures.value c.list_alone-n.ensures.out_after).0
    (two_pieces _ _ _ _ _ _ 4 _
    (joined (5 ∷ c.args.label.0 ∷ 255 ∷ c.args.state ∷ [])
    (alone_in c.args.label.0 (moves_in c.rows_leaving-rows.result.now))) refl c.put_disjunct-2.ensures
    c.list_alone-n.ensures.value c.list_alone-n.ensures.out_after).1 c.list_shaken-m.ensures.value
    c.list_shaken-m.ensures.out_after)
