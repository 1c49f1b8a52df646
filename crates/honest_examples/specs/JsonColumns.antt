-- A table with a column of JSON, and how INSERTs spell its cells.
use Rattle.std.specs.Prelude.{ℕ, List, [], ◌∷◌, ◌++◌, Some, None, codes, false}
use Rattle.object_forms.specs.declared.kind.Kind.TheVariants.{Table}
use Rattle.object_forms.specs.declared.shape.Column.{Column}
use Rattle.server_data.specs.declared.data.Change.{Change}
use Rattle.server_data.specs.declared.data.Change.TheVariants.{Make, Put}
use Rattle.server_data.specs.declared.data.Database.{Database}
use Rattle.server_data.specs.declared.data.Object.{Object}
use Rattle.server_data.specs.declared.data.Transaction.{Transaction}
use Rattle.sql_cells.specs.declared.cell.Cell.{Cell}
use Rattle.sql_cells.specs.declared.cell.Cell.TheVariants.{Null, Value}
use Rattle.statement_forms.specs.declared.command.Command.TheVariants.{Insert}
use Rattle.statement_forms.specs.declared.statement.Statement.{Statement}
use Rattle.statement_forms.specs.declared.statement.Statement.TheVariants.{Command as SomeCommand}
use Rattle.honest_server.specs.Serve.{done}
use Rattle.honest_server.specs.State.{State, with_own}
use Rattle.honest_server.specs.WellFormed.{IsSound}
use Rattle.honest_examples.specs.Effects.{IsRefused, IsServed, insert, link, with_three, worked}
use Rattle.honest_examples.specs.Worked.{id, printed, schema, schema_alone, server, table_with, unmarked}

-- the name of the table
abbrev pub table : List ℕ
table = codes "j"

-- the text that makes it: a key, and a column of JSON
abbrev pub table_text : List ℕ
table_text = codes
    "CREATE TABLE `j` (`id` int NOT NULL, `d` json, PRIMARY KEY (`id`)) ENGINE=InnoDB"

-- the column of JSON
abbrev pub document : Column
document = record {
  name = codes "d";
  data_type = codes "json";
  unsigned = false;
  generated = false;
}

-- the table, as it stands in a database
abbrev pub the_table : Object
the_table = record {
  kind = Table;
  schema = schema;
  name = table;
  text = table_text;
  settings = None;
  columns = id ∷ document ∷ [];
  key = Some 0;
  rank = 0;
  needs = [];
}

-- a text of the same value that the server prints otherwise
abbrev pub unprinted : List ℕ
unprinted = codes "[1,2]"

-- the row of the key 1 with this cell in the column of JSON
abbrev pub row : Cell → List Cell
row cell = Value (codes "1") ∷ cell ∷ []

-- such a row is put into the table
abbrev pub puts : Cell → List Change
puts cell = Put schema table (row cell) ∷ []

-- a history in which the schema is made, and then the table
abbrev pub empty : List Transaction
empty = schema_alone ++ unmarked (Make the_table ∷ []) ∷ []

-- then a row with this cell is put into it
abbrev pub holding : Cell → List Transaction
holding cell = empty ++ unmarked (puts cell) ∷ []

-- the schema and the table, with these rows
abbrev pub with_rows : List (List Cell) → Database
with_rows = table_with the_table

-- a link in a session, which has seen the empty table
abbrev pub json_link : State
json_link = link empty (Some schema)

-- an INSERT of one row of the key 1, whose cell is spelled so
abbrev pub insert_cell : List ℕ → Statement
insert_cell spelled =
    SomeCommand (Insert (codes "INSERT INTO `j` (`id`,`d`) VALUES\n(1," ++ spelled ++ codes ")"))

-- A cell of a column of JSON is spelled as a text of utf8mb4 that the server prints, or as NULL.
pub record AJsonCellIsSpelledAsItIsPrinted : Type 0 where
  pub allowed : IsServed json_link (insert_cell (codes "CONVERT('[1, 2]' USING utf8mb4)")) done
      (with_own json_link (unmarked (puts (Value printed))))
  pub null : IsServed json_link (insert_cell (codes "NULL")) done
      (with_own json_link (unmarked (puts Null)))
  pub as_text : IsRefused json_link (insert_cell (codes "'[1, 2]'"))
  pub not_printed : IsRefused json_link (insert_cell (codes "CONVERT('[1,2]' USING utf8mb4)"))

-- no cell of another column is spelled so
pub record NoOtherCellIsSpelledAsJson : Type 0 where
  pub allowed : IsServed worked (insert (codes "(3,'c')")) done (with_three worked)
  pub refused : IsRefused worked (insert (codes "(3,CONVERT('c' USING utf8mb4))"))

-- and a history with a JSON text that the server prints otherwise isn't sound
pub record JsonTextsAreAsTheyArePrinted : Type 0 where
  pub allowed : IsSound server (holding (Value printed))
  pub null : IsSound server (holding Null)
  pub refused : IsSound server (holding (Value unprinted)) → ⊥
