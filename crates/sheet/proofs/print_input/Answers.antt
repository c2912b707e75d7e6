-- The front of an input has the sheet of all of it, since it is longer than any casebook.
use mathlib.Core.Path.{sym, ◌∙◌, ap}
use lib.ListN.{length}
use lib.Seq.{length-take-le}
use Rattle.sheet_lines.specs.Sheets.{sheet_of}
use Rattle.sheet_lines.proofs.EnoughInput.{sheet_early}
use Rattle.sheet.proofs.print_input.Goals as goal

pub slice_bounds-print_sheet-end : goal.slice_bounds-print_sheet-end
slice_bounds-print_sheet-end g c = sym (length-take-le _ _ c.requires.1)

pub returns : goal.returns
returns g c = λ s front taken.
    c.print_sheet.ensures taken
    ∙ ap (λ b. length (sheet_of b)) (sym front)
    ∙ ap length (sheet_early _ c.requires.0 s)
