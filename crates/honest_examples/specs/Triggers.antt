-- A trigger on the worked table.
use Rattle.std.specs.Prelude.{ℕ, List, [], ◌∷◌, ◌++◌, Some, None, codes}
use Rattle.object_forms.specs.declared.kind.Kind.TheVariants.{Trigger}
use Rattle.server_data.specs.declared.data.Change.TheVariants.{Make}
use Rattle.server_data.specs.declared.data.Database.{Database}
use Rattle.server_data.specs.declared.data.Object.{Object}
use Rattle.server_data.specs.declared.data.Transaction.{Transaction}
use Rattle.sql_cells.specs.declared.cell.Cell.TheVariants.{Value}
use Rattle.statement_forms.specs.declared.command.Command.TheVariants.{Create}
use Rattle.statement_forms.specs.declared.query.Query.TheVariants.{Triggers}
use Rattle.statement_forms.specs.declared.statement.Statement.TheVariants.{Command as SomeCommand}
use Rattle.honest_server.specs.Answer.{Answers}
use Rattle.honest_server.specs.Moves.{plainly}
use Rattle.honest_server.specs.Serve.{Serves, done}
use Rattle.honest_server.specs.State.{State, no_settings, with_own}
use Rattle.honest_examples.specs.Effects.{IsRefused, IsServed, insert, link}
use Rattle.honest_examples.specs.Worked.{no_rows, one, put, schema, schema_alone, table, the_schema, the_table, three, unmarked}

-- the name of the trigger
abbrev pub trigger : List ℕ
trigger = codes "g"

-- the text that makes it
abbrev pub trigger_text : List ℕ
trigger_text = codes "CREATE TRIGGER `g` BEFORE INSERT ON `t` FOR EACH ROW SET @a=1"

-- it stands first on its table, and was made without settings
abbrev pub the_trigger : Object
the_trigger =
    record {
      kind = Trigger;
      schema = schema;
      name = trigger;
      text = trigger_text;
      settings = Some no_settings;
      columns = [];
      key = None;
      rank = 1;
      needs =
          record { schema = schema; name = table } ∷ [];
    }

-- a history in which the schema, the table and then the trigger are made
abbrev pub with_trigger : List Transaction
with_trigger = no_rows ++ unmarked (Make the_trigger ∷ []) ∷ []

-- the schema, the table without rows, and the trigger
abbrev pub triggered : Database
triggered = record { objects = the_schema ∷ the_table ∷ the_trigger ∷ []; rows = [] }

-- a trigger is made on a table that is there
pub record ATriggerIsMadeOnItsTable : Type 0 where
  pub allowed : IsServed (link no_rows (Some schema)) (SomeCommand (Create trigger_text)) done
      (with_own (link no_rows (Some schema)) (unmarked (Make the_trigger ∷ [])))
  pub refused : IsRefused (link schema_alone (Some schema)) (SomeCommand (Create trigger_text))

-- and is told with its table and its rank
pub record ATriggerIsTold : Type 0 where
  pub allowed : Answers triggered (Triggers schema)
      ((Value trigger ∷ Value table ∷ Value (codes "1") ∷ []) ∷ [])
  pub refused : Answers triggered (Triggers schema) [] → ⊥

-- the row (3,'c') is put and then the row (1,'a')
abbrev pub two_inserts : State → State
two_inserts state = with_own state (unmarked (put three ∷ put one ∷ []))

-- where the table has a trigger, an INSERT of one row may put another one too, and not where it has none
pub record ATriggerMayPutMore : Type 0 where
  pub allowed : Serves plainly (link with_trigger (Some schema)) (insert (codes "(3,'c')")) done
      (two_inserts (link with_trigger (Some schema)))
  pub refused : Serves plainly (link no_rows (Some schema)) (insert (codes "(3,'c')")) done
      (two_inserts (link no_rows (Some schema))) → ⊥
