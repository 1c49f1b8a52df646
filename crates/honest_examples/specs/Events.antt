-- An event, and the settings and the time zone that it is made under.
use Rattle.std.specs.Prelude.{ℕ, ◌≡◌, ◌↔◌, false, List, [], ◌∷◌, ◌++◌, Some, None, codes}
use Rattle.object_forms.specs.declared.kind.Kind.TheVariants.{Event, Schema}
use Rattle.server_data.specs.Fold.{db}
use Rattle.server_data.specs.declared.data.Change.TheVariants.{Drop, Make}
use Rattle.server_data.specs.declared.data.Database.{Database}
use Rattle.server_data.specs.declared.data.Object.{Object}
use Rattle.server_data.specs.declared.data.Settings.{Settings}
use Rattle.server_data.specs.declared.data.Transaction.{Transaction}
use Rattle.sql_cells.specs.declared.cell.Cell.{Cell}
use Rattle.sql_cells.specs.declared.cell.Cell.TheVariants.{Null, Value}
use Rattle.statement_forms.specs.Statement.{IsReadAs, IsTextOf}
use Rattle.statement_forms.specs.declared.command.Command.TheVariants.{Create, TimeZone, TimeZoneUtc, Use}
use Rattle.statement_forms.specs.declared.query.Query.TheVariants.{CreateEvent, Events}
use Rattle.statement_forms.specs.declared.statement.Statement.TheVariants.{Command as SomeCommand, Query as SomeQuery}
use Rattle.honest_server.specs.Answer.{Answers}
use Rattle.honest_server.specs.Effect.{Effect}
use Rattle.honest_server.specs.Moves.{plainly}
use Rattle.honest_server.specs.Serve.{Serves, done, rows}
use Rattle.honest_server.specs.State.{State, no_settings, with_own}
use Rattle.honest_server.specs.WellFormed.{IsWellFormed}
use Rattle.honest_examples.specs.Answered.{no_table_err}
use Rattle.honest_examples.specs.Effects.{IsServed, link}
use Rattle.honest_examples.specs.Routines.{procedure_text, the_procedure, with_settings}
use Rattle.honest_examples.specs.Worked.{schema, schema_alone, server, the_schema, unmarked}

-- the text that makes the event
abbrev pub event_text : List ℕ
event_text = codes "CREATE EVENT `e` ON SCHEDULE EVERY 1 DAY DO SELECT 1"

-- the name of the event
abbrev pub event : List ℕ
event = codes "e"

-- the settings of a session in which no time zone was set
abbrev pub settings : Settings
settings = record {
  sql_mode = codes "ANSI";
  client = codes "utf8mb4";
  collation = codes "utf8mb4_bin";
  zone = [];
}

-- the same settings with this time zone
abbrev pub in_zone : List ℕ → Settings
in_zone zone = record settings { zone = zone }

-- the time zone SYSTEM, which is the server's own
abbrev pub system : List ℕ
system = codes "SYSTEM"

-- the event that is made under these settings
abbrev pub made_under : Settings → Object
made_under made =
    record {
      kind = Event;
      schema = schema;
      name = event;
      text = event_text;
      settings = Some made;
      columns = [];
      key = None;
      rank = 0;
      needs = [];
    }

-- the event that is made in the server's own time zone
abbrev pub the_event : Object
the_event = made_under (in_zone system)

-- the object is made on a link with the same settings
abbrev pub making_state : Object → State
making_state object = with_own (with_settings (in_zone system)) (unmarked (Make object ∷ []))

-- An event is made under the time zone that was set last, and no other object has one. USE clears it.
pub record AnEventIsMadeInATimeZone : Type 0 where
  pub set : IsServed (with_settings settings) (SomeCommand (TimeZone system)) done
      (with_settings (in_zone system))
  pub allowed : IsServed (with_settings (in_zone system)) (SomeCommand (Create event_text)) done
      (making_state the_event)
  pub of_procedure : IsServed (with_settings (in_zone system))
      (SomeCommand (Create procedure_text)) done (making_state the_procedure)
  pub cleared : IsServed (with_settings (in_zone system)) (SomeCommand (Use schema)) done
      (with_settings no_settings)
  pub refused : Serves plainly (with_settings (in_zone system))
      (SomeCommand (Create event_text)) done (making_state (made_under settings)) → ⊥

-- the text that sets the time zone of UTC
abbrev pub utc : List ℕ
utc = codes "SET TIME_ZONE='+00:00'"

-- One text is that of two statements. It is read as the later, and the two have one effect.
pub record TheTextOfUtcIsOfTwoStatements : Type 0 where
  pub first : IsTextOf (SomeCommand TimeZoneUtc) utc
  pub second : IsTextOf (SomeCommand (TimeZone (codes "+00:00"))) utc
  pub allowed : IsReadAs utc (SomeCommand (TimeZone (codes "+00:00")))
  pub refused : IsReadAs utc (SomeCommand TimeZoneUtc) → ⊥
  pub one_effect : (state new : State) → Effect state TimeZoneUtc new
      ↔ Effect state (TimeZone (codes "+00:00")) new

-- the schema with the event and a procedure
abbrev pub with_event : Database
with_event = record { objects = the_schema ∷ the_procedure ∷ the_event ∷ []; rows = [] }

-- the events of a schema are told by name, and nothing else is
pub record EventsAreListed : Type 0 where
  pub allowed : Answers with_event (Events schema) ((Value event ∷ []) ∷ [])
  pub elsewhere : Answers with_event (Events no_table_err) []
  pub refused : Answers with_event (Events schema) [] → ⊥

-- a history in which the schema is made, and then the event
abbrev pub after_event : List Transaction
after_event = schema_alone ++ unmarked (Make the_event ∷ []) ∷ []

-- a link in a session with a willing server, after the event was made
abbrev pub reading : State
reading = link after_event (Some schema)

-- such a link to a server that answers ERR as it likes
abbrev pub unwilling : State
unwilling = record reading {
  terms =
      record reading.terms { server = record server { willing = false } };
}

-- the row that SHOW CREATE EVENT shows, with this zone and this text
abbrev pub shown : List ℕ → Cell → List (List Cell)
shown zone text =
    (Value event ∷ Value (codes "ANSI") ∷ Value zone ∷ text ∷ Value (codes "utf8mb4")
    ∷ Value (codes "utf8mb4_bin") ∷ []) ∷ []

-- The text is shown with the settings and the time zone. Only a server that isn't willing may withhold it.
pub record AnEventIsShownWithItsTimeZone : Type 0 where
  pub allowed : IsServed reading (SomeQuery (CreateEvent schema event))
      (rows (shown system (Value event_text))) reading
  pub withheld : Serves plainly unwilling (SomeQuery (CreateEvent schema event))
      (rows (shown system Null)) unwilling
  pub kept : (new : State) →
      Serves plainly reading (SomeQuery (CreateEvent schema event)) (rows (shown system Null)) new →
      ⊥
  pub refused : (new : State) →
      Serves plainly reading (SomeQuery (CreateEvent schema event))
      (rows (shown [] (Value event_text))) new → ⊥

-- an event is dropped where it is there, and its schema can't be while it is
pub record AnEventIsDropped : Type 0 where
  pub allowed : db (after_event ++ unmarked (Drop Event schema event ∷ []) ∷ []) ≡ db schema_alone
  pub again : db (schema_alone ++ unmarked (Drop Event schema event ∷ []) ∷ []) ≡ None
  pub refused : db (after_event ++ unmarked (Drop Schema schema schema ∷ []) ∷ []) ≡ None

-- a procedure with a time zone isn't well-formed, and an event with one is
pub record OnlyAnEventHasATimeZone : Type 0 where
  pub allowed : IsWellFormed (record { objects = the_schema ∷ the_event ∷ []; rows = [] })
  pub refused : IsWellFormed
      (record {
        objects = the_schema ∷ record the_procedure { settings = Some (in_zone system) }
            ∷ [];
        rows = [];
      }) → ⊥
