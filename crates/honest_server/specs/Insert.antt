-- What an INSERT spells, and what it does (MySQL 8.0 Reference Manual, 15.2.7 "INSERT Statement", 27.3 "Using Triggers", 5.6.9 "Using AUTO_INCREMENT").
use Rattle.std.specs.Prelude.{ℕ, ◌≡◌, ◌&&◌, ◌||◌, not, if◌then◌else◌, Bool, true, false, List, [], ◌∷◌, ◌++◌, map, All, slice_get, Option, Some, None, bytes_eq, codes, ℤ}
use Rattle.std.specs.List.{list_any, list_all}
use Rattle.object_forms.specs.Shape.{TableCounter, counter}
use Rattle.object_forms.specs.declared.kind.Kind.TheVariants.{Table, Trigger}
use Rattle.object_forms.specs.declared.shape.Column.{Column}
use Rattle.server_data.specs.Equal.{kind_eq}
use Rattle.server_data.specs.Fold.{table_of_trigger, rows_of}
use Rattle.server_data.specs.History.{Interleaves}
use Rattle.server_data.specs.declared.data.Change.{Change}
use Rattle.server_data.specs.declared.data.Change.TheVariants.{Put}
use Rattle.server_data.specs.declared.data.Database.{Database}
use Rattle.server_data.specs.declared.data.Need.{Need}
use Rattle.server_data.specs.declared.data.Object.{Object}
use Rattle.sql_cells.specs.Cell.{bytes_of}
use Rattle.sql_cells.specs.Name.{quoted_name}
use Rattle.sql_cells.specs.Spelling.{Spells, literal_kind}
use Rattle.sql_cells.specs.declared.cell.Cell.{Cell}
use Rattle.sql_cells.specs.declared.cell_kind.CellKind.{CellKind}
use Rattle.sql_cells.specs.declared.cell_kind.CellKind.TheVariants.{Number, Text, Hex, Converted}
use Rattle.statement_forms.specs.Text.{names}
use Rattle.honest_server.specs.Answer.{object_at}
use Rattle.honest_server.specs.Catalogue.{AreOfRows}
use Rattle.honest_server.specs.Columns.{are_numbers, is_json, is_null, is_printed, plain_columns, plain_names, whole_at, is_under}
use Rattle.honest_server.specs.State.{Server}
use Rattle.honest_server.specs.WellFormed.{HasKeysWhere}

-- a cell as an INSERT spells it, and as which kind of literal; NULL is of none
pub record SpelledCell : Type 0 where
  pub cell : Cell
  pub kind : Option CellKind

-- what an INSERT says: the names of its columns, and its rows
pub record Insertion : Type 0 where
  pub columns : List (List ℕ)
  pub rows : List (List SpelledCell)

-- the cells of a row, however they were spelled
abbrev pub plain_cells : List SpelledCell → List Cell
plain_cells row = map (λ spelled. spelled.cell) row

-- the bytes are a literal of this kind, which spells this cell
pub record SpellsCell (bytes : List ℕ) (spelled : SpelledCell) : Type 0 where
  pub spells : Spells bytes (bytes_of spelled.cell)
  pub kind : spelled.kind ≡ literal_kind bytes

-- literals with commas between them spell these cells
pub data SpellsCells : List ℕ → List SpelledCell → Type 0 where
  last_cell : {bytes : List ℕ} {cell : SpelledCell} → SpellsCell bytes cell →
      SpellsCells bytes (cell ∷ [])
  next_cell : {bytes rest whole : List ℕ} {cell : SpelledCell} {cells : List SpelledCell} →
      SpellsCell bytes cell → SpellsCells rest cells → whole ≡ bytes ++ codes "," ++ rest →
      SpellsCells whole (cell ∷ cells)

-- such literals between parentheses, with a comma and a line feed between them, spell these rows
pub data SpellsRows : List ℕ → List (List SpelledCell) → Type 0 where
  last_row : {cells whole : List ℕ} {row : List SpelledCell} → SpellsCells cells row →
      whole ≡ codes "(" ++ cells ++ codes ")" → SpellsRows whole (row ∷ [])
  next_row : {cells rest whole : List ℕ} {row : List SpelledCell} {rows : List (List SpelledCell)} →
      SpellsCells cells row → SpellsRows rest rows →
      whole ≡ codes "(" ++ cells ++ codes "),\n" ++ rest → SpellsRows whole (row ∷ rows)

-- an INSERT into this table says this
pub record SpellsInsert (text table : List ℕ) (says : Insertion) : Type 0 where
  pub body : List ℕ
  pub text_is : text ≡ codes "INSERT INTO " ++ quoted_name table ++ codes " (" ++ names says.columns
      ++ codes ") VALUES\n" ++ body
  pub spells : SpellsRows body says.rows

-- the object is a trigger on this table
abbrev pub is_on_table : List ℕ → List ℕ → Object → Bool
is_on_table schema table object =
    kind_eq object.kind Trigger &&
    (bytes_eq (table_of_trigger object.needs).schema schema && bytes_eq
    (table_of_trigger object.needs).name table)

-- the table has a trigger
abbrev pub has_trigger : Database → List ℕ → List ℕ → Bool
has_trigger database schema table = list_any (is_on_table schema table) database.objects

-- the number in the AUTO_INCREMENT column is under the counter; where the cell is no number, it isn't
abbrev pub is_under_where : Column → ℕ → Option ℤ → Bool
is_under_where column next None = false
is_under_where column next (Some number) = is_under column next number

-- the AUTO_INCREMENT column is there, and the row's number in it is under the counter
abbrev pub is_under_counter : List Column → TableCounter → Option Column → List Cell → Bool
is_under_counter columns counter None row = false
is_under_counter columns counter (Some column) row =
    is_under_where column counter.next (whole_at columns counter.column row)

-- each row's number in the AUTO_INCREMENT column is under the counter, where the table has one
abbrev pub are_under : List Column → Option TableCounter → List (List Cell) → Bool
are_under columns None rows = true
are_under columns (Some counter) rows =
    list_all (is_under_counter columns counter (slice_get columns counter.column)) rows

-- a table without a trigger takes rows that are under its counter as they are
abbrev pub is_plain_insert : Database → Object → List (List Cell) → Bool
is_plain_insert database object rows =
    not (has_trigger database object.schema object.name) && are_under object.columns
    (counter object.text) rows

-- the changes that put these rows into the table, one for each row, in their order
abbrev pub puts_of : Object → List (List Cell) → List Change
puts_of object rows = map (λ row. Put object.schema object.name row) rows

-- these changes stand among all, in their order
abbrev pub StandAmong : List Change → List Change → Type 0
StandAmong some all = (more : List Change) × Interleaves (some ∷ more ∷ []) all

-- the literal is a JSON text's
abbrev pub is_converted : Option CellKind → Bool
is_converted None = false
is_converted (Some Number) = false
is_converted (Some Text) = false
is_converted (Some Hex) = false
is_converted (Some Converted) = true

-- a cell of a JSON column is NULL, or is spelled as a JSON text that the server prints; no cell of another column is spelled so
abbrev pub is_spelled_for : (List ℕ → Bool) → Column → SpelledCell → Bool
is_spelled_for prints column spelled =
    if is_json column then is_null spelled.cell ||
    (is_converted spelled.kind && is_printed prints column spelled.cell)
    else not (is_converted spelled.kind)

-- the row has a cell for each column, spelled as the column takes it: JSON texts by CONVERT and no others
abbrev pub are_spelled_for : (List ℕ → Bool) → List Column → List SpelledCell → Bool
are_spelled_for prints [] [] = true
are_spelled_for prints [] (cell ∷ cells) = false
are_spelled_for prints (column ∷ columns) [] = false
are_spelled_for prints (column ∷ columns) (cell ∷ cells) =
    is_spelled_for prints column cell && are_spelled_for prints columns cells

-- What an INSERT into a table changes in a database. Whether it fits is judged of the rows that it spells. Beside these rows, further changes
-- of rows and rises of counters may be made, but not by a plain INSERT.
pub record Inserts (server : Server) (database : Database) (table : Need) (says : Insertion)
    (changes : List Change) : Type 0 where
  pub object : Object
  pub is_there : object_at database Table table.schema table.name ≡ Some object
  pub all_columns : says.columns ≡ plain_names object.columns
  pub rows : List (List Cell)
  pub rows_are : rows ≡ map plain_cells says.rows
  pub numbers : All (λ row. are_numbers (plain_columns object.columns) row ≡ true) rows
  pub spelled : All (λ row. are_spelled_for server.prints (plain_columns object.columns) row ≡ true)
      says.rows
  pub keys : HasKeysWhere object.columns object.key
      (rows_of database table.schema table.name ++ rows)
  pub puts : StandAmong (puts_of object rows) changes
  pub plain : is_plain_insert database object rows ≡ true → changes ≡ puts_of object rows
  pub new : Database
  pub of_rows : AreOfRows database changes new
