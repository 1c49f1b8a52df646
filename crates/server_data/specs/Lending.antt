-- A row lends its cells as a slice.
use Rattle.std.specs.Prelude.{List}
use Rattle.std.specs.Borrow.{Lends, MutBor, Fml, Array}
use Rattle.plain_data.specs.Lending.{written_over}
use Rattle.sql_cells.specs.declared.cell.Cell.{Cell}
use Rattle.sql_cells.specs.contracts.cell.Cell.{the_row as cell_row}
use Rattle.server_data.specs.contracts.rows.CellList.{the_row}

-- the row ends as what was last written through the slice
abbrev pub lends_cells : MutBor (List Cell) → MutBor (List Cell) → Fml
lends_cells s r = Lends the_row (Array cell_row 0) s r (written_over s.now)
