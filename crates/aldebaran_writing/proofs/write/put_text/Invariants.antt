-- The header and the lines of the first i rows stand in the text.
use lib.ListN.{take}
use Rattle.tables.specs.Tables.{rows_of}
use Rattle.aldebaran_writing.proofs.TextLengths.{rows_text}
use Rattle.aldebaran_writing.proofs.TextPieces.{Stands}
use Rattle.aldebaran_writing.proofs.write.put_text.Given as goal

abbrev pub invariant-loop-i : goal.invariant-loop-i
invariant-loop-i l = Stands l.initial.text l.text l.initial.at l.at (rows_text (take l.i (rows_of l.table)))
