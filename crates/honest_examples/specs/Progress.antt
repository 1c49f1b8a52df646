-- The progress of a load, which it keeps in a schema of its own.
use Rattle.std.specs.Prelude.{ℕ, false, List, [], ◌∷◌, None, codes}
use Rattle.object_forms.specs.declared.kind.Kind.TheVariants.{Schema, Table}
use Rattle.server_data.specs.declared.data.Change.TheVariants.{Make, Put}
use Rattle.server_data.specs.declared.data.Database.{Database}
use Rattle.server_data.specs.declared.data.Object.{Object}
use Rattle.server_data.specs.declared.data.Transaction.{Transaction}
use Rattle.sql_cells.specs.declared.cell.Cell.TheVariants.{Value}
use Rattle.statement_forms.specs.Text.{command_text}
use Rattle.statement_forms.specs.declared.command.Command.TheVariants.{CreateProgress, CreateProgressFiles, InsertProgressFile}
use Rattle.statement_forms.specs.declared.query.Query.TheVariants.{ProgressFiles}
use Rattle.statement_forms.specs.declared.statement.Statement.TheVariants.{Command as SomeCommand}
use Rattle.honest_server.specs.Answer.{Answers, progress_schema}
use Rattle.honest_server.specs.Serve.{done}
use Rattle.honest_server.specs.State.{with_own}
use Rattle.honest_examples.specs.Effects.{IsRefused, IsServed, link}
use Rattle.honest_examples.specs.Worked.{unmarked}

-- the schema of the progress, as it stands in a database
abbrev pub the_schema : Object
the_schema = record {
  kind = Schema;
  schema = progress_schema;
  name = progress_schema;
  text = command_text CreateProgress;
  settings = None;
  columns = [];
  key = None;
  rank =
      0;
  needs = [];
}

-- the table of the files that were loaded, as it stands in a database
abbrev pub the_files : Object
the_files = record {
  kind = Table;
  schema = progress_schema;
  name = codes "files";
  text = command_text CreateProgressFiles;
  settings = None;
  columns = record {
    name = codes "name";
    data_type = codes "varbinary";
    unsigned = false;
    generated = false;
  } ∷ [];
  key = None;
  rank = 0;
  needs = [];
}

-- the name of a file
abbrev pub file : List ℕ
file = codes "s.t.00000.sql"

-- the schema is made
abbrev pub makes_schema : Transaction
makes_schema = unmarked (Make the_schema ∷ [])

-- the table of the files is made
abbrev pub makes_files : Transaction
makes_files = unmarked (Make the_files ∷ [])

-- the file is put into that table
abbrev pub puts_file : Transaction
puts_file = unmarked (Put progress_schema (codes "files") (Value file ∷ []) ∷ [])

-- the schema and the table, with the file
abbrev pub file_database : Database
file_database = record {
  objects = the_schema ∷ the_files ∷ [];
  rows = record {
    table = record { schema = progress_schema; name = codes "files" };
    rows = (Value file ∷ []) ∷ [];
  } ∷ [];
}

-- Schema and table are made without a current schema, files are put and told, and none is put where the table isn't there.
pub record TheProgressIsKept : Type 0 where
  pub schema : IsServed (link [] None) (SomeCommand CreateProgress) done
      (with_own (link [] None) makes_schema)
  pub table : IsServed (link (makes_schema ∷ []) None) (SomeCommand CreateProgressFiles) done
      (with_own (link (makes_schema ∷ []) None) makes_files)
  pub put : IsServed (link (makes_schema ∷ makes_files ∷ []) None)
      (SomeCommand (InsertProgressFile file)) done
      (with_own (link (makes_schema ∷ makes_files ∷ []) None) puts_file)
  pub told : Answers file_database ProgressFiles ((Value file ∷ []) ∷ [])
  pub refused : IsRefused (link (makes_schema ∷ []) None) (SomeCommand (InsertProgressFile file))
