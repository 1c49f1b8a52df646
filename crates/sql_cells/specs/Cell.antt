-- Cells that are owned, as contracts see them.
use Rattle.std.specs.Prelude.{ℕ, List, Option, Some, None}
use Rattle.sql_cells.specs.declared.cell.Cell.{Cell}
use Rattle.sql_cells.specs.declared.cell.Cell.TheVariants.{Null, Value}

-- NULL, or the bytes
abbrev pub bytes_of : Cell → Option (List ℕ)
bytes_of Null = None
bytes_of (Value bytes) = Some bytes
