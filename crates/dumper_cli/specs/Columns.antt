-- Columns of a table, as information_schema.COLUMNS tells them (MySQL 8.0 Reference Manual, 28.3.8).
use Rattle.std.specs.Prelude.{ℕ, ◌==◌, ◌&&◌, not, bytes_eq, if◌then◌else◌, Bool, true, false, List, [], ◌∷◌, length, Option, Some, None, option_map, codes}
use Rattle.std.specs.List.{list_any}
use Rattle.std.specs.Str.Lossy.{utf8_valid_len}
use Rattle.honest_server.specs.Answer.{says_generated}
use Rattle.honest_server.specs.Columns.{is_number_type}
use Rattle.plain_data.specs.Cell.{Cell}
use Rattle.sql_cells.specs.Literal.{has_literal}
use Rattle.sql_cells.specs.declared.cell_kind.CellKind.{CellKind}
use Rattle.sql_cells.specs.declared.cell_kind.CellKind.TheVariants.{Number, Text}
use Rattle.dumper_cli.specs.declared.column.Column.{Column}

-- types whose cells are written as text
abbrev pub text_types : List (List ℕ)
text_types = codes "char" ∷ codes "varchar" ∷ codes "tinytext" ∷ codes "text" ∷ codes "mediumtext"
    ∷ codes "longtext" ∷ codes "enum" ∷ codes "set" ∷ codes "date" ∷ codes "time" ∷ codes "datetime"
    ∷ codes "timestamp" ∷ []

-- the kind of literal that cells of such a column are written as; None for a type that can't be dumped
abbrev pub cell_kind_of : List ℕ → Option CellKind
cell_kind_of data_type =
    if is_number_type data_type then Some Number else
    (if list_any (bytes_eq data_type) text_types then Some Text else None)

-- the bytes are UTF-8
abbrev pub is_utf8 : List ℕ → Bool
is_utf8 bytes = utf8_valid_len bytes == length bytes

-- the column of these cells of COLUMN_NAME, DATA_TYPE, COLUMN_TYPE and EXTRA, where it can be dumped
abbrev pub described : Cell → Cell → Cell → Cell → Option Column
described (Some name) (Some data_type) (Some column_type) (Some extra) =
    if is_utf8 name && not (says_generated extra)
    then option_map (λ kind. record { name = name; kind = kind }) (cell_kind_of data_type) else None
described name data_type column_type extra = None

-- the column of a row that begins with these four
abbrev pub column_from : List Cell → Option Column
column_from (name ∷ data_type ∷ column_type ∷ extra ∷ more) =
    described name data_type column_type extra
column_from cells = None

-- a row of the table: as many cells as there are columns, each with a literal of its column's kind
abbrev pub is_row_of : List Column → List Cell → Bool
is_row_of [] [] = true
is_row_of [] (cell ∷ cells) = false
is_row_of (column ∷ columns) [] = false
is_row_of (column ∷ columns) (cell ∷ cells) =
    has_literal column.kind cell && is_row_of columns cells
