use Rattle.std.proofs.Common.{◌≡◌, ◌++◌, true, drop}
use Rattle.dumper_cli.specs.Columns.{is_row_of}
use Rattle.dumper_cli.specs.DataFile.{led, literals}
use Rattle.result_rows.specs.RowCells.{row_cells}
use Rattle.dumper_cli.proofs.row_text.cells_into.Given as goal

abbrev pub invariant-loop-column : goal.invariant-loop-column
invariant-loop-column l = record {
  kept : is_row_of l.columns (row_cells l.row) ≡ is_row_of (drop l.column-index l.columns) l.cells;
  text : l.fits ≡ true → l.out.bytes ++ led l.lead (literals (drop l.column-index l.columns) l.cells) ≡ l.initial.out.bytes ++ led 40 (literals l.columns (row_cells l.row));
}
