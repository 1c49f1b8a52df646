-- Laws of the statements that texts are read as, of which the functions of src/laws.rt are the proofs.
use Rattle.std.specs.Prelude.{ℕ, ◌≡◌, ◌↔◌, List}
use Rattle.honest_server.specs.Effect.{Effect, EndsTransaction}
use Rattle.honest_server.specs.Moves.{Way}
use Rattle.honest_server.specs.Serve.{QueryServed, Reply, Serves}
use Rattle.honest_server.specs.State.{State}
use Rattle.sql_cells.specs.declared.cell.Cell.{Cell}
use Rattle.statement_forms.specs.Form.{command_form, query_form}
use Rattle.statement_forms.specs.Statement.{CommandHasText, QueryHasText, InRange, IsReadAs, IsTextOf}
use Rattle.statement_forms.specs.Text.{command_text, query_text}
use Rattle.statement_forms.specs.declared.command.Command.{Command}
use Rattle.statement_forms.specs.declared.query.Query.{Query}
use Rattle.statement_forms.specs.declared.statement.Statement.{Statement}
use Rattle.statement_forms.specs.declared.statement.Statement.TheVariants.{Command as SomeCommand, Query as SomeQuery}
use Rattle.statement_laws.specs.Readings.{read_command, read_query, read_statement}

-- two statements that one text is read as are the same
abbrev pub ATextIsReadAsOneStatement : Type 0
ATextIsReadAsOneStatement =
    (text : List ℕ) (one other : Statement) → IsReadAs text one → IsReadAs text other → one ≡ other

-- the text of a command is read as a command
abbrev pub ACommandIsRead : Type 0
ACommandIsRead =
    (command : Command) → CommandHasText command →
    IsReadAs (command_text command) (SomeCommand (read_command command))

-- the text of a query is read as a query
abbrev pub AQueryIsRead : Type 0
AQueryIsRead =
    (query : Query) → QueryHasText query → InRange query →
    IsReadAs (query_text query) (SomeQuery (read_query query))

-- the text of a command is read as nothing else, and is no text of a query
pub record ACommandIsReadAsNothingElse : Type 0 where
  pub one : (command : Command) (statement : Statement) → CommandHasText command →
      IsReadAs (command_text command) statement → statement ≡ SomeCommand (read_command command)
  pub no_query : (command : Command) (query : Query) → CommandHasText command →
      QueryHasText query → InRange query → command_text command ≡ query_text query → ⊥
  pub same : (text : List ℕ) (command : Command) → IsReadAs text (SomeCommand command) →
      read_command command ≡ command

-- the text of a query is read as nothing else
pub record AQueryIsReadAsNothingElse : Type 0 where
  pub one : (query : Query) (statement : Statement) → QueryHasText query → InRange query →
      IsReadAs (query_text query) statement → statement ≡ SomeQuery (read_query query)
  pub same : (text : List ℕ) (query : Query) → IsReadAs text (SomeQuery query) →
      read_query query ≡ query

-- the text of a statement is read as one, and as nothing else
pub record AStatementIsRead : Type 0 where
  pub read : (text : List ℕ) (statement : Statement) → IsTextOf statement text →
      IsReadAs text (read_statement statement)
  pub one : (text : List ℕ) (statement other : Statement) → IsTextOf statement text →
      IsReadAs text other → other ≡ read_statement statement

-- what is read has the form of what was sent
pub record TheFormIsKept : Type 0 where
  pub commands : (command : Command) → command_form (read_command command) ≡ command_form command
  pub queries : (query : Query) → query_form (read_query query) ≡ query_form query

-- an honest server does and answers the same at what is read as at what was sent
pub record TheEffectIsKept : Type 0 where
  pub effect : (state : State) (command : Command) (new : State) →
      Effect state (read_command command) new ↔ Effect state command new
  pub ends : (command : Command) →
      EndsTransaction (read_command command) ↔ EndsTransaction command
  pub served : (state : State) (query : Query) (found : List (List Cell)) →
      QueryServed state (read_query query) found ↔ QueryServed state query found

-- what an honest server may reply to what is read, and the state after it, are those of what was sent
abbrev pub TheReplyIsKept : Type 0
TheReplyIsKept =
    (way : Way) (state : State) (statement : Statement) (reply : Reply) (new : State) →
    Serves way state (read_statement statement) reply new ↔ Serves way state statement reply new
