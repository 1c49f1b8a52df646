-- The schema, the table, its rows and the history that the examples speak of.
use Rattle.std.specs.Prelude.{ℕ, true, false, List, [], ◌∷◌, ◌++◌, Some, None, codes, map, bytes_eq}
use Rattle.wire_forms.specs.declared.ends.Ends.TheVariants.{Eof}
use Rattle.object_forms.specs.declared.kind.Kind.TheVariants.{Schema, Table}
use Rattle.object_forms.specs.declared.shape.Column.{Column}
use Rattle.server_data.specs.declared.data.Change.{Change}
use Rattle.server_data.specs.declared.data.Change.TheVariants.{Make, Put}
use Rattle.server_data.specs.declared.data.Database.{Database}
use Rattle.server_data.specs.declared.data.Object.{Object}
use Rattle.server_data.specs.declared.data.Position.{Position}
use Rattle.server_data.specs.declared.data.TableRows.{TableRows}
use Rattle.server_data.specs.declared.data.Transaction.{Transaction}
use Rattle.sql_cells.specs.declared.cell.Cell.{Cell}
use Rattle.sql_cells.specs.declared.cell.Cell.TheVariants.{Null, Value}
use Rattle.honest_server.specs.State.{Server}

-- the only JSON text that the worked server prints
abbrev pub printed : List ℕ
printed = codes "[1, 2]"

-- a willing server of a quiet site, of a version before 8.2, whose result sets end by EOF packets
abbrev pub server : Server
server = record {
  quiet = true;
  willing = true;
  plugin = [];
  newer = false;
  ends = Eof;
  old_status = false;
  prints = bytes_eq printed;
}

-- the name of the schema
abbrev pub schema : List ℕ
schema = codes "s"

-- the name of its table
abbrev pub table : List ℕ
table = codes "t"

-- the text that makes the schema
abbrev pub schema_text : List ℕ
schema_text = codes "CREATE DATABASE `s`"

-- the text that makes the table
abbrev pub table_text : List ℕ
table_text = codes
    "CREATE TABLE `t` (`id` int NOT NULL, `a` varchar(9), PRIMARY KEY (`id`)) ENGINE=InnoDB"

-- the column of the key, an INT
abbrev pub id : Column
id = record { name = codes "id"; data_type = codes "int"; unsigned = false; generated = false }

-- the other column, a VARCHAR
abbrev pub a : Column
a = record { name = codes "a"; data_type = codes "varchar"; unsigned = false; generated = false }

-- the schema, as it stands in a database
abbrev pub the_schema : Object
the_schema = record {
  kind = Schema;
  schema = schema;
  name = schema;
  text = schema_text;
  settings = None;
  columns = [];
  key = None;
  rank = 0;
  needs = [];
}

-- the table, as it stands in a database
abbrev pub the_table : Object
the_table = record {
  kind = Table;
  schema = schema;
  name = table;
  text = table_text;
  settings = None;
  columns = id ∷ a ∷ [];
  key = Some 0;
  rank = 0;
  needs = [];
}

-- a row of the table: the key, as it is spelled, and the other cell
abbrev pub row : List ℕ → Cell → List Cell
row key cell = Value key ∷ cell ∷ []

-- the row (1,'a')
abbrev pub one : List Cell
one = row (codes "1") (Value (codes "a"))

-- the row (2,NULL)
abbrev pub two : List Cell
two = row (codes "2") Null

-- the row (3,'c')
abbrev pub three : List Cell
three = row (codes "3") (Value (codes "c"))

-- the row (1,'b'), which has the key of another
abbrev pub one_again : List Cell
one_again = row (codes "1") (Value (codes "b"))

-- a transaction after which no position is known
abbrev pub unmarked : List Change → Transaction
unmarked changes = record { changes = changes; mark = None }

-- a transaction after which this position is known
abbrev pub marked : Position → List Change → Transaction
marked position changes = record { changes = changes; mark = Some position }

-- a row is put into the table
abbrev pub put : List Cell → Change
put cells = Put schema table cells

-- a position of the binary log, without a GTID set
abbrev pub position : Position
position = record { file = codes "b.1"; offset = 157; gtid = [] }

-- a history in which the schema is made, and nothing else
abbrev pub schema_alone : List Transaction
schema_alone = unmarked (Make the_schema ∷ []) ∷ []

-- a history in which the schema is made, and then the table
abbrev pub no_rows : List Transaction
no_rows = schema_alone ++ unmarked (Make the_table ∷ []) ∷ []

-- the worked history: then the first two rows are put into the table, and the position after them is known
abbrev pub history : List Transaction
history = no_rows ++ marked position (put one ∷ put two ∷ []) ∷ []

-- a table with this row alone
abbrev pub row_of_table : Object → List Cell → TableRows
row_of_table object cells =
    record { table = record { schema = object.schema; name = object.name }; rows = cells ∷ [] }

-- the schema and a table, with these rows
abbrev pub table_with : Object → List (List Cell) → Database
table_with object rows =
    record { objects = the_schema ∷ object ∷ []; rows = map (row_of_table object) rows }

-- the schema and the worked table, with these rows
abbrev pub with_rows : List (List Cell) → Database
with_rows = table_with the_table

-- the database after the history
abbrev pub database : Database
database = with_rows (one ∷ two ∷ [])
