-- The data file of a table's rows.
use Rattle.std.specs.Prelude.{ℕ, ◌+◌, nat_le, if◌then◌else◌, List, [], ◌∷◌, ◌++◌, length, fold, map, codes}
use Rattle.link_traits.specs.Contents.{File}
use Rattle.plain_data.specs.Cell.{Cell}
use Rattle.sql_cells.specs.Literal.{literal}
use Rattle.sql_cells.specs.Name.{quoted_name}
use Rattle.dumper_cli.specs.declared.column.Column.{Column}
use Rattle.dumper_cli.specs.declared.data_file.TheConstants.{PREAMBLE, STATEMENT_SIZE}

-- pieces one after the other: the first after this byte, and each later one after a comma
abbrev pub led : ℕ → List (List ℕ) → List ℕ
led byte [] = []
led byte (piece ∷ pieces) = byte ∷ piece ++ led 44 pieces

-- the names of columns between backquotes
abbrev pub quoted_names : List Column → List (List ℕ)
quoted_names columns = map (λ column. quoted_name column.name) columns

-- the literals of a row's cells
abbrev pub literals : List Column → List Cell → List (List ℕ)
literals [] cells = []
literals (column ∷ columns) [] = []
literals (column ∷ columns) (cell ∷ cells) = literal column.kind cell ∷ literals columns cells

-- a row: its literals with commas, between parentheses
abbrev pub row_text : List Column → List Cell → List ℕ
row_text columns cells = led 40 (literals columns cells) ++ 41 ∷ []

-- what an INSERT begins with: the table and the columns
abbrev pub insert_head : List ℕ → List Column → List ℕ
insert_head table columns =
    codes "INSERT INTO " ++ quoted_name table ++ (32 ∷ []) ++ led 40 (quoted_names columns)
    ++ codes ") VALUES\n"

-- a file so far: its bytes, and how many of them its last statement has
pub record FileText : Type 0 where
  pub bytes : List ℕ
  pub size : ℕ

-- a file of one row: the lines that set the session, and a statement
abbrev pub first_row : List ℕ → List ℕ → FileText
first_row head row = record { bytes = PREAMBLE.now ++ head ++ row; size = length (head ++ row) }

-- a row goes into the last statement where that then has at most so many bytes, and else begins the next one
abbrev pub text_with_row : List ℕ → FileText → List ℕ → FileText
text_with_row head text row =
    if nat_le (text.size + 2 + length row) STATEMENT_SIZE
    then record { bytes = text.bytes ++ codes ",\n" ++ row; size = text.size + 2 + length row }
    else record { bytes = text.bytes ++ codes ";\n" ++ head ++ row; size = length (head ++ row) }

-- a file of these rows, but for the end of its last statement
abbrev pub rows_text : List ℕ → List ℕ → List (List ℕ) → FileText
rows_text head row rows = fold (text_with_row head) (first_row head row) rows

-- the data file's name: the schema, the table, and the number
abbrev pub file_name : List ℕ → List ℕ → List ℕ
file_name schema table = schema ++ (46 ∷ []) ++ table ++ codes ".00000.sql"

-- the files of these rows: one data file, and none where there is no row
abbrev pub files_of : List ℕ → List ℕ → List (List ℕ) → List File
files_of name head [] = []
files_of name head (row ∷ rows) =
    record { name = name; bytes = (rows_text head row rows).bytes ++ codes ";\n" } ∷ []

-- the files of a table with these columns and rows
abbrev pub table_files : List ℕ → List ℕ → List Column → List (List Cell) → List File
table_files schema table columns rows =
    files_of (file_name schema table) (insert_head table columns) (map (row_text columns) rows)
