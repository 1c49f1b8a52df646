-- The columns of tables, and the numbers in their cells (MySQL 8.0 Reference Manual, 13.1 "Numeric Data Types", 5.6.9 "Using AUTO_INCREMENT").
use Rattle.std.specs.Prelude.{ℕ, ◌+◌, ◌*◌, ◌-◌, ◌^◌, ◌==◌, ◌&&◌, ◌||◌, not, if◌then◌else◌, Bool, true, false, List, [], ◌∷◌, take, take_while, fold, map, filter, slice_get, Option, Some, None, option_and_then, bytes_eq, codes, ℤ, pos, neg_ℤ, int_le, int_lt}
use Rattle.std.specs.List.{list_any}
use Rattle.plain_data.specs.Byte.{digits_value}
use Rattle.object_forms.specs.Shape.{is_integer}
use Rattle.object_forms.specs.declared.shape.Column.{Column}
use Rattle.server_data.specs.Fold.{is_plain_column, plain_count}
use Rattle.sql_cells.specs.Cell.{bytes_of}
use Rattle.sql_cells.specs.Literal.{has_literal}
use Rattle.sql_cells.specs.Number.{is_digits, is_number}
use Rattle.sql_cells.specs.declared.cell.Cell.{Cell}
use Rattle.sql_cells.specs.declared.cell.Cell.TheVariants.{Null, Value}
use Rattle.sql_cells.specs.declared.cell_kind.CellKind.TheVariants.{Number}

-- types whose cells are numbers without an exponent: the integers, DECIMAL and YEAR; FLOAT, DOUBLE and BIT are none of them
abbrev pub number_types : List (List ℕ)
number_types =
    codes "tinyint" ∷ codes "smallint" ∷ codes "mediumint" ∷ codes "int" ∷ codes "bigint"
    ∷ codes "decimal" ∷ codes "year" ∷ []

-- the type is one of these
abbrev pub is_number_type : List ℕ → Bool
is_number_type data_type = list_any (bytes_eq data_type) number_types

-- a cell of a number column is NULL or a number
abbrev pub has_number : Column → Cell → Bool
has_number column cell = not (is_number_type column.data_type) || has_literal Number (bytes_of cell)

-- a column of JSON texts
abbrev pub is_json : Column → Bool
is_json column = bytes_eq column.data_type (codes "json")

-- the cell is NULL
abbrev pub is_null : Cell → Bool
is_null Null = true
is_null (Value bytes) = false

-- a JSON text that the server prints, or NULL; any cell of another column
abbrev pub is_printed : (List ℕ → Bool) → Column → Cell → Bool
is_printed prints column Null = true
is_printed prints column (Value bytes) = not (is_json column) || prints bytes

-- as many cells as columns, each as its column has them
abbrev pub are_numbers : List Column → List Cell → Bool
are_numbers [] [] = true
are_numbers [] (cell ∷ cells) = false
are_numbers (column ∷ columns) [] = false
are_numbers (column ∷ columns) (cell ∷ cells) = has_number column cell && are_numbers columns cells

-- each cell of a row is one that the server prints in its column
abbrev pub are_printed : (List ℕ → Bool) → List Column → List Cell → Bool
are_printed prints [] cells = true
are_printed prints (column ∷ columns) [] = true
are_printed prints (column ∷ columns) (cell ∷ cells) =
    is_printed prints column cell && are_printed prints columns cells

-- the columns that rows have cells of
abbrev pub plain_columns : List Column → List Column
plain_columns columns = filter is_plain_column columns

-- the names of the columns that rows have cells of, in their order
abbrev pub plain_names : List Column → List (List ℕ)
plain_names columns = map (λ column. column.name) (plain_columns columns)

-- the cell of a row in the column of this index
abbrev pub cell_at : List Column → ℕ → List Cell → Option Cell
cell_at columns index row = slice_get row (plain_count (take index columns))

-- the integer that bytes spell: digits, and a minus before them where it is negative
abbrev pub integer_of : List ℕ → Option ℤ
integer_of [] = None
integer_of (byte ∷ bytes) =
    if byte == 45 then (if is_digits bytes then Some (neg_ℤ (pos (digits_value bytes))) else None)
    else
    (if is_digits (byte ∷ bytes) then Some (pos (digits_value (byte ∷ bytes))) else None)

-- the integer of a row in the column of this index
abbrev pub integer_at : List Column → ℕ → List Cell → Option ℤ
integer_at columns index row =
    option_and_then integer_of (option_and_then bytes_of (cell_at columns index row))

-- the integer before the point of a number
abbrev pub whole_of : List ℕ → Option ℤ
whole_of bytes =
    if is_number bytes then integer_of (take_while (λ byte. not (byte == 46)) bytes) else None

-- the same of a row in the column of this index
abbrev pub whole_at : List Column → ℕ → List Cell → Option ℤ
whole_at columns index row =
    option_and_then whole_of (option_and_then bytes_of (cell_at columns index row))

-- how many bits an integer type has
abbrev pub bits_of : List ℕ → ℕ
bits_of data_type =
    if bytes_eq data_type (codes "tinyint") then 8 else
    (if bytes_eq data_type (codes "smallint") then 16 else
    (if bytes_eq data_type (codes "mediumint") then 24 else
    (if bytes_eq data_type (codes "int") then 32 else 64)))

-- the least integer of a column of an integer type: 0 where it is unsigned
abbrev pub least_of : Column → ℤ
least_of column =
    if column.unsigned then pos 0 else neg_ℤ (pos (2 ^ (bits_of column.data_type - 1)))

-- the greatest integer of a column of an integer type, signed or unsigned as the column is
abbrev pub greatest_of : Column → ℕ
greatest_of column =
    if column.unsigned then 2 ^ bits_of column.data_type - 1
    else 2 ^ (bits_of column.data_type - 1) - 1

-- an integer of the column's type
abbrev pub is_in_type : Column → ℤ → Bool
is_in_type column number =
    int_le (least_of column) number && int_le number (pos (greatest_of column))

-- An integer is under a counter where it is below it, or where it is the greatest of its integer type and the counter stands there.
abbrev pub is_under : Column → ℕ → ℤ → Bool
is_under column next number =
    int_lt number (pos next) ||
    (is_integer column.data_type &&
    (next == greatest_of column && (int_le number (pos next) && int_le (pos next) number)))
