-- The sheet of any bytes in blocks, as the sheet program prints it: each block has the lines that fit into 3 MiB,
-- whole. No line is longer than 16,399 bytes, so there is one in each block until none is left (proofs/WholeSheet).
use Rattle.std.specs.Prelude.{ℕ, List, drop}
use Rattle.sheet_lines.specs.Sheets.{sheet_of, fitting}

-- room for a block
abbrev pub block_room : ℕ
block_room = 3145728

-- the lines of the block that begins with line `first`
unfoldable pub block_from : List ℕ → ℕ → List (List ℕ)
block_from s first = fitting block_room (drop first (sheet_of s))
