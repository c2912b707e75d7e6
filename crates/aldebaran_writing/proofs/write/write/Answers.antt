-- The checks, the text in a buffer of its own, its copy.
use mathlib.Core.Path.{sym, ◌∙◌}
use Rattle.labels.proofs.Refusals.{handed_on}
use native.Mathlib.Omega.{arith}
use lib.ListN.{length-take}
use lib.Seq.{length-take-le}
use Rattle.tables.proofs.SoundTables.{sound_table}
use Rattle.aldebaran_form.specs.Forms.{fifteen}
use Rattle.aldebaran_writing.proofs.TextLengths.{text_short}
use Rattle.aldebaran_writing.proofs.TextWriting.{table_judged, refused_table, refused_first, refused_room}
use Rattle.aldebaran_writing.proofs.TextWriting.{text-given}
use Rattle.aldebaran_writing.proofs.TextWriting.{buffer_kept, text_copied}
use Rattle.labels.proofs.Slices.{copied_whole}
use Rattle.hml.proofs.Clauses.{to_value_out_after}
use Rattle.aldebaran_writing.proofs.write.write.Goals as goal

pub returns-in_err-check_table : goal.returns-in_err-check_table
returns-in_err-check_table c =
    let n = refused_table c.args.table.now c.args.first c.args.out.now _
    (table_judged _ _ _ _ c.of_pairs.ensures c.check_table.ensures c.in_err-check_table.was) in
    record { value = handed_on c.from_residual.ensures.1 ∙ n.0; out_after = n.1 }

pub bounds-table-0 : goal.bounds-table-0
bounds-table-0 c = let sound = table_judged _ _ _ _ c.of_pairs.ensures c.check_table.ensures
    c.in_ok-check_table.was in
    omega (arith, (sound_table _ _ sound).fits)

pub returns-then-table-first : goal.returns-then-table-first
returns-then-table-first c = let sound = table_judged _ _ _ _ c.of_pairs.ensures c.check_table.ensures
    c.in_ok-check_table.was in
    to_value_out_after (refused_first c.args.table.now c.args.first _ sound (omega arith))

pub put_text-len-requires : goal.put_text-len-requires
put_text-len-requires c = let sound = table_judged _ _ _ _ c.of_pairs.ensures c.check_table.ensures
    c.in_ok-check_table.was in
    (sound_table fifteen _ sound, omega arith)

pub returns-then-out-len : goal.returns-then-out-len
returns-then-out-len c = let sound = table_judged _ _ _ _ c.of_pairs.ensures c.check_table.ensures
    c.in_ok-check_table.was in
    to_value_out_after (refused_room c.args.table.now c.args.first _ sound (omega arith)
    (omega (arith, c.put_text-len.ensures.value)))

pub slice_bounds-text-end : goal.slice_bounds-text-end
slice_bounds-text-end c = let sound = table_judged _ _ _ _ c.of_pairs.ensures c.check_table.ensures
    c.in_ok-check_table.was in
    let short = text_short c.args.table.now c.args.first sound (omega arith) in
    omega (arith, buffer_kept _ _ c.put_text-len.ensures.text_after, c.put_text-len.ensures.value, short)

pub slice_bounds-copy-end : goal.slice_bounds-copy-end
slice_bounds-copy-end c = let sound = table_judged _ _ _ _ c.of_pairs.ensures c.check_table.ensures
    c.in_ok-check_table.was in
    let short = text_short c.args.table.now c.args.first sound (omega arith) in
    let kept = buffer_kept _ _ c.put_text-len.ensures.text_after in
    sym (length-take-le _ _ (omega (arith, kept, c.put_text-len.ensures.value, short)))

pub returns : goal.returns
returns c = let sound = table_judged _ _ _ _ c.of_pairs.ensures c.check_table.ensures
    c.in_ok-check_table.was in
    let short = text_short c.args.table.now c.args.first sound (omega (arith, c.if-table-first.false)) in
    let kept = buffer_kept _ _ c.put_text-len.ensures.text_after in
    to_value_out_after (text-given c.args.table.now c.args.first _ sound (omega (arith, c.if-table-first.false)) _ _
    c.put_text-len.ensures.value
    (omega arith)
    (text_copied _ _ _ _ _ _ (omega (arith, short, kept)) c.put_text-len.ensures.value c.put_text-len.ensures.text_after
    (copied_whole _ _ _ _ (simp length-take (omega arith)) c.copy.ensures.count c.copy.ensures.copied)))
