-- A procedure and a view, and the settings that they are made under.
use Rattle.std.specs.Prelude.{ℕ, false, List, [], ◌∷◌, ◌++◌, Some, None, codes}
use Rattle.object_forms.specs.declared.kind.Kind.TheVariants.{Function, Procedure, View}
use Rattle.server_data.specs.declared.data.Change.TheVariants.{Make}
use Rattle.server_data.specs.declared.data.Database.{Database}
use Rattle.server_data.specs.declared.data.Object.{Object}
use Rattle.server_data.specs.declared.data.Settings.{Settings}
use Rattle.server_data.specs.declared.data.Transaction.{Transaction}
use Rattle.sql_cells.specs.declared.cell.Cell.{Cell}
use Rattle.sql_cells.specs.declared.cell.Cell.TheVariants.{Null, Value}
use Rattle.statement_forms.specs.declared.command.Command.TheVariants.{CharacterSetClient, CollationConnection, Create, SqlMode, Use}
use Rattle.statement_forms.specs.declared.query.Query.TheVariants.{CreateProcedure, Routines}
use Rattle.statement_forms.specs.declared.statement.Statement.TheVariants.{Command as SomeCommand, Query as SomeQuery}
use Rattle.honest_server.specs.Answer.{Answers}
use Rattle.honest_server.specs.Moves.{plainly}
use Rattle.honest_server.specs.Serve.{Serves, done, rows}
use Rattle.honest_server.specs.State.{State, no_settings, with_own}
use Rattle.honest_examples.specs.Effects.{IsServed, link}
use Rattle.honest_examples.specs.Worked.{schema, schema_alone, server, the_schema, unmarked}

-- the text that makes the procedure
abbrev pub procedure_text : List ℕ
procedure_text = codes "CREATE PROCEDURE `p`() SELECT 1"

-- the text that makes the view
abbrev pub view_text : List ℕ
view_text = codes "CREATE VIEW `v` AS SELECT 1"

-- the settings of the session in which they are made
abbrev pub settings : Settings
settings = record {
  sql_mode = codes "ANSI";
  client = codes "utf8mb4";
  collation = codes "utf8mb4_bin";
  zone = [];
}

-- the procedure that is made under these settings
abbrev pub the_procedure : Object
the_procedure =
    record {
      kind = Procedure;
      schema = schema;
      name = codes "p";
      text = procedure_text;
      settings = Some settings;
      columns = [];
      key = None;
      rank = 0;
      needs = [];
    }

-- the view that is made under them, whose mode is empty
abbrev pub the_view : Object
the_view = record {
  kind = View;
  schema = schema;
  name = codes "v";
  text = view_text;
  settings = Some (record settings { sql_mode = [] });
  columns = [];
  key = None;
  rank =
      0;
  needs = [];
}

-- a link with these settings, after the schema alone
abbrev pub with_settings : Settings → State
with_settings made = record (link schema_alone (Some schema)) { settings = made }

-- the object is made there
abbrev pub making_state : Object → State
making_state object = with_own (with_settings settings) (unmarked (Make object ∷ []))

-- Settings are those of the objects that are made next. USE clears them.
pub record SettingsAreOfTheNextObject : Type 0 where
  pub mode : IsServed (with_settings no_settings) (SomeCommand (SqlMode (codes "ANSI"))) done
      (with_settings (record no_settings { sql_mode = codes "ANSI" }))
  pub client : IsServed (with_settings (record settings { client = [] }))
      (SomeCommand (CharacterSetClient (codes "utf8mb4"))) done (with_settings settings)
  pub collation : IsServed (with_settings (record settings { collation = [] }))
      (SomeCommand (CollationConnection (codes "utf8mb4_bin"))) done (with_settings settings)
  pub of_procedure : IsServed (with_settings settings) (SomeCommand (Create procedure_text)) done
      (making_state the_procedure)
  pub of_view : IsServed (with_settings settings) (SomeCommand (Create view_text)) done
      (making_state the_view)
  pub cleared : IsServed (with_settings settings) (SomeCommand (Use schema)) done
      (with_settings no_settings)
  pub refused : Serves plainly (with_settings settings) (SomeCommand (Create procedure_text)) done
      (making_state (record the_procedure { settings = Some no_settings })) → ⊥

-- a history in which the schema is made, and then the procedure
abbrev pub with_procedure : List Transaction
with_procedure = schema_alone ++ unmarked (Make the_procedure ∷ []) ∷ []

-- a link in a session with a willing server, after the procedure was made
abbrev pub reading : State
reading = link with_procedure (Some schema)

-- such a link to a server that answers ERR as it likes
abbrev pub unwilling : State
unwilling = record reading {
  terms =
      record reading.terms { server = record server { willing = false } };
}

-- the row that SHOW CREATE PROCEDURE shows, with this mode and this text
abbrev pub shown : List ℕ → Cell → List (List Cell)
shown mode text =
    (Value (codes "p") ∷ Value mode ∷ text ∷ Value (codes "utf8mb4") ∷ Value (codes "utf8mb4_bin")
    ∷ []) ∷ []

-- The text is shown with the settings. Only a server that isn't willing may withhold it.
pub record ARoutineIsShownWithItsSettings : Type 0 where
  pub allowed : IsServed reading (SomeQuery (CreateProcedure schema (codes "p")))
      (rows (shown (codes "ANSI") (Value procedure_text))) reading
  pub withheld : Serves plainly unwilling (SomeQuery (CreateProcedure schema (codes "p")))
      (rows (shown (codes "ANSI") Null)) unwilling
  pub kept : (new : State) →
      Serves plainly reading (SomeQuery (CreateProcedure schema (codes "p")))
      (rows (shown (codes "ANSI") Null)) new → ⊥
  pub refused : (new : State) →
      Serves plainly reading (SomeQuery (CreateProcedure schema (codes "p")))
      (rows (shown [] (Value procedure_text))) new → ⊥

-- a function with the same settings
abbrev pub the_function : Object
the_function =
    record the_procedure {
      kind = Function;
      name = codes "f";
      text = codes "CREATE FUNCTION `f`() RETURNS int RETURN 1";
    }

-- the schema with the procedure, the function and the view
abbrev pub with_all : Database
with_all = record { objects = the_schema ∷ the_procedure ∷ the_function ∷ the_view ∷ []; rows = [] }

-- the row of the procedure in ROUTINES
abbrev pub procedure : List Cell
procedure = Value (codes "p") ∷ Value (codes "PROCEDURE") ∷ []

-- the row of the function in ROUTINES
abbrev pub function : List Cell
function = Value (codes "f") ∷ Value (codes "FUNCTION") ∷ []

-- procedures and functions are listed, in any order, and nothing else is
pub record RoutinesAreListed : Type 0 where
  pub allowed : Answers with_all (Routines schema) (function ∷ procedure ∷ [])
  pub refused : Answers with_all (Routines schema) (function ∷ []) → ⊥
