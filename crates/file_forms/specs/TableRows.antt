-- The data file that is written for rows of a table.
use Rattle.std.specs.Prelude.{map, ◌&&◌, Bool, true, false, option_map, ℕ, ◌+◌, ◌-◌, nat_le, if◌then◌else◌, List, [], ◌∷◌, ◌++◌, length, take, fold, codes}
use Rattle.std.specs.List.{join_with_byte}
use Rattle.file_forms.specs.DataFile.{data_front}
use Rattle.plain_data.specs.Cell.{Cell}
use Rattle.honest_server.specs.Insert.{Insertion, SpelledCell}
use Rattle.sql_cells.specs.Cell.{bytes_of}
use Rattle.sql_cells.specs.Literal.{has_literal, literal}
use Rattle.sql_cells.specs.declared.cell.Cell.{Cell as SqlCell}
use Rattle.sql_cells.specs.Name.{quoted_name}
use Rattle.sql_cells.specs.declared.cell_kind.CellKind.{CellKind}
use Rattle.statement_forms.specs.Text.{names}

-- the literals of a row's cells, of these kinds
abbrev pub literals_of : List CellKind → List Cell → List (List ℕ)
literals_of [] cells = []
literals_of (kind ∷ kinds) [] = []
literals_of (kind ∷ kinds) (cell ∷ cells) = literal kind cell ∷ literals_of kinds cells

-- a row: its literals between parentheses, with commas between them
abbrev pub written_row : List CellKind → List Cell → List ℕ
written_row kinds cells = codes "(" ++ join_with_byte 44 (literals_of kinds cells) ++ codes ")"

-- the rows as they are written, each by the kinds of its columns
abbrev pub texts_of_rows : List CellKind → List (List SqlCell) → List (List ℕ)
texts_of_rows kinds rows = map (λ row. written_row kinds (map bytes_of row)) rows

-- what an INSERT begins with: the table and the columns
abbrev pub insert_front : List ℕ → List (List ℕ) → List ℕ
insert_front table columns =
    codes "INSERT INTO " ++ quoted_name table ++ codes " (" ++ names columns ++ codes ") VALUES\n"

-- a file so far: its bytes, and how many of them its last statement has
pub record DataText : Type 0 where
  pub bytes : List ℕ
  pub size : ℕ

-- a file of one row: the lines that set the session, and a statement
abbrev pub with_first_row : List ℕ → List ℕ → DataText
with_first_row head row = record { bytes = data_front ++ head ++ row; size = length (head ++ row) }

-- a row goes into the last statement where that then has at most so many bytes, and else begins the next one
abbrev pub with_further_row : List ℕ → ℕ → DataText → List ℕ → DataText
with_further_row head most text row =
    if nat_le (text.size + 2 + length row) most
    then record { bytes = text.bytes ++ codes ",\n" ++ row; size = text.size + 2 + length row }
    else record { bytes = text.bytes ++ codes ";\n" ++ head ++ row; size = length (head ++ row) }

-- a file of these rows, but for the end of its last statement
abbrev pub written_rows : List ℕ → ℕ → List ℕ → List (List ℕ) → DataText
written_rows head most row rows = fold (with_further_row head most) (with_first_row head row) rows

-- the file of these rows; without rows there is none
abbrev pub data_text : List ℕ → ℕ → List (List ℕ) → List ℕ
data_text head most [] = []
data_text head most (row ∷ rows) = (written_rows head most row rows).bytes ++ codes ";\n"

-- the bytes of a file so far that come before its last statement
abbrev pub before_last : DataText → List ℕ
before_last text = take (length text.bytes - text.size) text.bytes

-- The same rows as a file spells them.

-- the row has a cell for each kind, which has a literal of that kind
abbrev pub is_row_of_kinds : List CellKind → List SqlCell → Bool
is_row_of_kinds [] [] = true
is_row_of_kinds [] (cell ∷ cells) = false
is_row_of_kinds (kind ∷ kinds) [] = false
is_row_of_kinds (kind ∷ kinds) (cell ∷ cells) =
    has_literal kind (bytes_of cell) && is_row_of_kinds kinds cells

-- a cell, spelled as a literal of this kind; NULL is of none
abbrev pub spelled_cell : CellKind → SqlCell → SpelledCell
spelled_cell kind cell = record { cell = cell; kind = option_map (λ _. kind) (bytes_of cell) }

-- the cells of a row, spelled by the kinds of their columns
abbrev pub spelled_row : List CellKind → List SqlCell → List SpelledCell
spelled_row [] cells = []
spelled_row (kind ∷ kinds) [] = []
spelled_row (kind ∷ kinds) (cell ∷ cells) = spelled_cell kind cell ∷ spelled_row kinds cells

-- what the file of these rows says
abbrev pub insertion_of : List (List ℕ) → List CellKind → List (List SqlCell) → Insertion
insertion_of columns kinds rows =
    record { columns = columns; rows = map (spelled_row kinds) rows }
