-- As which literals the cells of a column are written, by the column's type (MySQL 8.0 Reference Manual, 13 "Data Types").
use Rattle.std.specs.Prelude.{ℕ, if◌then◌else◌, Bool, List, [], ◌∷◌, map, codes, Option, Some, None, bytes_eq}
use Rattle.std.specs.List.{list_any}
use Rattle.honest_server.specs.Columns.{is_number_type, plain_columns}
use Rattle.honest_server.specs.WideKey.{all_of}
use Rattle.object_forms.specs.declared.shape.Column.{Column}
use Rattle.sql_cells.specs.declared.cell_kind.CellKind.{CellKind}
use Rattle.sql_cells.specs.declared.cell_kind.CellKind.TheVariants.{Number, Text, Hex, Converted}

-- types of texts, of sets of words, and of dates and times
abbrev pub types_of_text : List (List ℕ)
types_of_text = codes "char" ∷ codes "varchar" ∷ codes "tinytext" ∷ codes "text" ∷ codes "mediumtext"
    ∷ codes "longtext" ∷ codes "enum" ∷ codes "set" ∷ codes "date" ∷ codes "time" ∷ codes "datetime"
    ∷ codes "timestamp" ∷ []

-- types of bytes
abbrev pub types_of_bytes : List (List ℕ)
types_of_bytes = codes "binary" ∷ codes "varbinary" ∷ codes "tinyblob" ∷ codes "blob"
    ∷ codes "mediumblob" ∷ codes "longblob" ∷ []

-- how the cells of a column of this type are written, bytes in hexadecimal digits if they are to be; None for a type that isn't dumped
abbrev pub kind_of_type : Bool → List ℕ → Option CellKind
kind_of_type hex data_type =
    if is_number_type data_type then Some Number else
    (if list_any (bytes_eq data_type) types_of_text then Some Text else
    (if list_any (bytes_eq data_type) types_of_bytes then Some (if hex then Hex else Text) else
    (if bytes_eq data_type (codes "bit") then Some Hex else
    (if bytes_eq data_type (codes "json") then Some Converted else None))))

-- how the cells of a row of a table with these columns are written; None where a column that rows have cells of isn't dumped
abbrev pub kinds_of : Bool → List Column → Option (List CellKind)
kinds_of hex columns =
    all_of (map (λ column. kind_of_type hex column.data_type) (plain_columns columns))
