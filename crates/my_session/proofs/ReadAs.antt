-- What is served in place of what was sent, where a text is that of two statements, comes to the same.
use Rattle.std.proofs.Common.{◌≡◌, ◌∙◌, [], ap, Some}
use Rattle.honest_server.specs.Moves.{Way, plainly, beside}
use Rattle.honest_server.specs.Serve.{Reply, refused, Serves}
use Rattle.honest_server.specs.State.{State, Given}
use Rattle.statement_forms.specs.Form.{command_form, form_of, query_form}
use Rattle.statement_forms.specs.Statement.{CommandHasText, InRange, IsReadAs, QueryHasText}
use Rattle.statement_forms.specs.Text.{command_text, query_text}
use Rattle.statement_forms.specs.declared.command.Command.{Command}
use Rattle.statement_forms.specs.declared.form.Form.{Form}
use Rattle.statement_forms.specs.declared.query.Query.{Query}
use Rattle.statement_forms.specs.declared.statement.Statement.{Statement}
use Rattle.statement_forms.specs.declared.statement.Statement.TheVariants.{Command as SomeCommand, Query as SomeQuery}
use Rattle.statement_laws.proofs.CommandReads.{command_is_read}
use Rattle.statement_laws.proofs.Kept.{effects_kept, form_of_command, form_of_query}
use Rattle.statement_laws.proofs.QueryReads.{query_is_read}
use Rattle.statement_laws.proofs.Replies.{replies_kept}
use Rattle.statement_laws.specs.Readings.{read_command, read_query, read_statement}
use Rattle.my_session.specs.Served.{CommitsOnlyBy, FailsStatement, GivesRefusal, IsLeft, untouched, handled, committed}
use Rattle.my_session.specs.declared.fault.SessionFault.{SessionFault}
use Rattle.my_session.specs.declared.fault.SessionFault.TheVariants.{Link, Refused, Garbled, NotProtocol10, PluginUnsupported, TooLong, StreamTooLong, OutOfMemory}

pub command_reading : (command : Command) → CommandHasText command → IsReadAs (command_text command) (SomeCommand (read_command command))
command_reading = command_is_read

pub command_keeps_form : (command : Command) → command_form (read_command command) ≡ command_form command
command_keeps_form = form_of_command

pub query_reading : (query : Query) → QueryHasText query → InRange query → IsReadAs (query_text query) (SomeQuery (read_query query))
query_reading = query_is_read

pub query_keeps_form : (query : Query) → query_form (read_query query) ≡ query_form query
query_keeps_form = form_of_query

pub serves_kept : (way : Way) (state : State) (statement : Statement) (reply : Reply) (new : State) → Serves way state (read_statement statement) reply new → Serves way state statement reply new
serves_kept way state statement reply new serves = (replies_kept way state statement reply new).0 serves

form_kept : (statement : Statement) → form_of (read_statement statement) ≡ form_of statement
form_kept (SomeCommand command) = form_of_command command
form_kept (SomeQuery query) = form_of_query query

commits_kept : (way : Way) (state : State) (statement : Statement) (new : State) → CommitsOnlyBy way state (read_statement statement) new → CommitsOnlyBy way state statement new
commits_kept plainly state (SomeCommand command) new only = record {
  ends = (effects_kept.ends command).0 only.ends;
  more = only.more;
  sees = only.sees;
  ended = only.ended;
}
commits_kept plainly state (SomeQuery query) new never = absurd never
commits_kept (beside holder) state statement new never = absurd never

pub left_kept : (way : Way) (state : State) (statement : Statement) (new : State) → IsLeft way state (read_statement statement) new → IsLeft way state statement new
left_kept way state statement new (untouched same) = untouched same
left_kept way state statement new (handled reply serves) = handled reply (serves_kept way state statement reply new serves)
left_kept way state statement new (committed only) = committed (commits_kept way state statement new only)

pub refusal_kept : (way : Way) (state : State) (statement : Statement) (err : Given) (new : State) → GivesRefusal way state (read_statement statement) err new → GivesRefusal way state statement err new
refusal_kept way state statement err new gives = record {
  form_is = gives.form_is ∙ ap (λ (f : Form). Some f) (form_kept statement);
  before = gives.before;
  serves = serves_kept way state statement (refused [] err.refusal) new gives.serves;
}

pub failure_kept : (way : Way) (state : State) (statement : Statement) (fault : SessionFault) (new : State) → FailsStatement way state (read_statement statement) fault new → FailsStatement way state statement fault new
failure_kept way state statement Link new left = left_kept way state statement new left
failure_kept way state statement (Refused form refusal) new gives = refusal_kept way state statement _ new gives
failure_kept way state statement (Garbled place) new never = absurd never
failure_kept way state statement (NotProtocol10 version) new never = absurd never
failure_kept way state statement (PluginUnsupported name) new never = absurd never
failure_kept way state statement (TooLong size) new left = left_kept way state statement new left
failure_kept way state statement StreamTooLong new left = left_kept way state statement new left
failure_kept way state statement OutOfMemory new left = left_kept way state statement new left
