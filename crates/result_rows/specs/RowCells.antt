-- A row as a caller sees it.
use Rattle.std.specs.Prelude.{List}
use Rattle.plain_data.specs.Cell.{Cell}
use Rattle.wire_forms.specs.Row.{cells_or_none}
use Rattle.result_rows.specs.declared.row.Row.{Row}

-- the cells of a row
abbrev pub row_cells : Row → List Cell
row_cells row = cells_or_none row.columns row.payload.now
