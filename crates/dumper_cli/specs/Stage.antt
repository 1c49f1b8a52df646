-- How a dump goes, stage by stage.
use Rattle.std.specs.Prelude.{ℕ, List, [], ◌∷◌, ◌++◌, map, Bool, true, false, Option, Some, None, Result, Ok, Err}
use Rattle.wire_forms.specs.Greeting.{greeting_of}
use Rattle.wire_forms.specs.Response.{response}
use Rattle.wire_forms.specs.Switch.{switch_of}
use Rattle.wire_forms.specs.declared.ends.Ends.{Ends}
use Rattle.wire_forms.specs.declared.login_fault.LoginFault.{LoginFault}
use Rattle.wire_forms.specs.declared.greeting.Greeting.{Greeting}
use Rattle.wire_forms.specs.declared.switch.Switch.{Switch}
use Rattle.my_session.specs.Awaited.{Awaited, greeting, decision, done, count, further}
use Rattle.my_session.specs.Login.{password_answer, switch_answer}
use Rattle.honest_server.specs.Exchange.{query_payload}
use Rattle.my_session.specs.Statements.{command_payload}
use Rattle.wire_forms.specs.Reading.{Reading, Further, definition, row, end, refused, garbled, columns_counted, further_of, reading_after}
use Rattle.wire_forms.specs.Reply.{reply_of}
use Rattle.wire_forms.specs.declared.reply.Reply.{Reply}
use Rattle.wire_forms.specs.declared.reply.Reply.TheVariants.{Done, Refused, Columns}
use Rattle.plain_data.specs.Cell.{Cell}
use Rattle.statement_forms.specs.Text.{query_text}
use Rattle.statement_forms.specs.declared.command.Command.TheVariants.{SetUp, NamesBinary}
use Rattle.statement_forms.specs.declared.form.Form.TheVariants.{Connect, Set, Select}
use Rattle.statement_forms.specs.declared.query.Query.TheVariants.{Columns as ColumnsQuery, Rows}
use Rattle.dumper_cli.specs.Columns.{column_from, is_row_of}
use Rattle.dumper_cli.specs.Words.{Asked}
use Rattle.dumper_cli.specs.declared.column.Column.{Column}

-- where a dump is: what it awaits or sends next, with what it knows by then: the scramble to answer, how result sets end, the columns, and the rows that came
pub data Stage : Type 0 where
  awaits_greeting : Stage
  sends_response : List ℕ → Ends → Stage
  awaits_decision : Ends → Stage
  sends_switch_answer : List ℕ → Ends → Stage
  awaits_acceptance : Ends → Stage
  sends_set_up : Ends → Stage
  awaits_set_up : Ends → Stage
  sends_names : Ends → Stage
  awaits_names : Ends → Stage
  asks_columns : Ends → Stage
  awaits_column_count : Ends → Stage
  awaits_columns : Reading → List Column → Stage
  asks_rows : Ends → List Column → Stage
  awaits_row_count : Ends → List Column → Stage
  awaits_rows : Reading → List Column → List (List Cell) → Stage
  is_over : List Column → List (List Cell) → Stage

-- what is done at a stage: a command is sent, or a further payload of the same exchange, and the dump is at the next stage; a message is awaited; nothing more
pub data Doing : Type 0 where
  commanding : List ℕ → Stage → Doing
  answering : List ℕ → Stage → Doing
  awaiting : Awaited → Doing
  nothing : Doing

-- the names of the columns, in their order
abbrev pub column_names : List Column → List (List ℕ)
column_names columns = map (λ column. column.name) columns

-- what a dump does at each stage of its course, from the greeting to the end of the rows
abbrev pub doing : Asked → Stage → Doing
doing asked awaits_greeting = awaiting greeting
doing asked (sends_response scramble ends) =
    answering (response asked.user (password_answer asked.password scramble) ends)
    (awaits_decision ends)
doing asked (awaits_decision ends) = awaiting decision
doing asked (sends_switch_answer scramble ends) =
    answering (switch_answer (password_answer asked.password scramble)) (awaits_acceptance ends)
doing asked (awaits_acceptance ends) = awaiting (done Connect)
doing asked (sends_set_up ends) = commanding (command_payload SetUp) (awaits_set_up ends)
doing asked (awaits_set_up ends) = awaiting (done Set)
doing asked (sends_names ends) = commanding (command_payload NamesBinary) (awaits_names ends)
doing asked (awaits_names ends) = awaiting (done Set)
doing asked (asks_columns ends) =
    commanding (query_payload (query_text (ColumnsQuery asked.schema asked.table)))
    (awaits_column_count ends)
doing asked (awaits_column_count ends) = awaiting (count Select)
doing asked (awaits_columns reading columns) = awaiting (further Select reading)
doing asked (asks_rows ends columns) =
    commanding (query_payload (query_text (Rows (column_names columns) asked.schema asked.table)))
    (awaits_row_count ends columns)
doing asked (awaits_row_count ends columns) = awaiting (count Select)
doing asked (awaits_rows reading columns rows) = awaiting (further Select reading)
doing asked (is_over columns rows) = nothing

-- after the greeting the response to its scramble is sent
abbrev pub after_greeting : Result Greeting LoginFault → Option Stage
after_greeting (Ok found) = Some (sends_response found.scramble found.ends)
after_greeting (Err fault) = None

-- after a request for another plugin its scramble is answered; None where that isn't one that a session answers
abbrev pub after_switch : Ends → Result Switch LoginFault → Option Stage
after_switch ends (Ok found) = Some (sends_switch_answer found.scramble ends)
after_switch ends (Err fault) = None

-- after the reply to the response: an OK leads to the set-up statement, anything else but an ERR has to ask for another plugin
abbrev pub after_decision : Ends → List ℕ → Option Reply → Option Stage
after_decision ends message (Some Done) = Some (sends_set_up ends)
after_decision ends message (Some (Refused refusal)) = None
after_decision ends message (Some (Columns columns)) = after_switch ends (switch_of message)
after_decision ends message None = after_switch ends (switch_of message)

-- after an OK the dump is at this stage; no other reply leads on
abbrev pub after_ok : Stage → Option Reply → Option Stage
after_ok next (Some Done) = Some next
after_ok next (Some (Refused refusal)) = None
after_ok next (Some (Columns columns)) = None
after_ok next None = None

-- after the number of columns of a result set the dump is at this stage of it; no other reply leads on
abbrev pub after_count : Ends → (Reading → Stage) → Option Reply → Option Stage
after_count ends next (Some Done) = None
after_count ends next (Some (Refused refusal)) = None
after_count ends next (Some (Columns columns)) = Some (next (columns_counted ends columns))
after_count ends next None = None

-- the dump goes on with this column after the others; None where the row tells no column that can be dumped
abbrev pub with_column : (List Column → Stage) → List Column → Option Column → Option Stage
with_column next columns (Some column) = Some (next (columns ++ column ∷ []))
with_column next columns None = None

-- a table has columns
abbrev pub with_columns : Ends → List Column → Option Stage
with_columns ends [] = None
with_columns ends (column ∷ columns) = Some (asks_rows ends (column ∷ columns))

-- after a message of the result set about the columns: a definition, a row that tells a column, or the end
abbrev pub after_columns : Reading → List Column → Further → Option Stage
after_columns reading columns definition =
    Some (awaits_columns (reading_after reading definition) columns)
after_columns reading columns (row cells) =
    with_column (awaits_columns reading) columns (column_from cells)
after_columns reading columns end = with_columns reading.ends columns
after_columns reading columns (refused refusal) = None
after_columns reading columns garbled = None

-- the stage, where the row has the cells that its columns ask for
abbrev pub stage_if : Bool → Stage → Option Stage
stage_if true stage = Some stage
stage_if false stage = None

-- after a message of the result set of the rows: a definition, a row, or the end, at which the dump is over
abbrev pub after_rows : Reading → List Column → List (List Cell) → Further → Option Stage
after_rows reading columns rows definition =
    Some (awaits_rows (reading_after reading definition) columns rows)
after_rows reading columns rows (row cells) =
    stage_if (is_row_of columns cells) (awaits_rows reading columns (rows ++ cells ∷ []))
after_rows reading columns rows end = Some (is_over columns rows)
after_rows reading columns rows (refused refusal) = None
after_rows reading columns rows garbled = None

-- where the dump is after a message that a session goes on at; None where the dump doesn't: a column that can't be dumped, a table without columns, a row of other cells
abbrev pub stage_after : Stage → List ℕ → Option Stage
stage_after awaits_greeting message = after_greeting (greeting_of message)
stage_after (sends_response scramble ends) message = None
stage_after (awaits_decision ends) message = after_decision ends message (reply_of message)
stage_after (sends_switch_answer scramble ends) message = None
stage_after (awaits_acceptance ends) message = after_ok (sends_set_up ends) (reply_of message)
stage_after (sends_set_up ends) message = None
stage_after (awaits_set_up ends) message = after_ok (sends_names ends) (reply_of message)
stage_after (sends_names ends) message = None
stage_after (awaits_names ends) message = after_ok (asks_columns ends) (reply_of message)
stage_after (asks_columns ends) message = None
stage_after (awaits_column_count ends) message =
    after_count ends (λ reading. awaits_columns reading []) (reply_of message)
stage_after (awaits_columns reading columns) message =
    after_columns reading columns (further_of reading message)
stage_after (asks_rows ends columns) message = None
stage_after (awaits_row_count ends columns) message =
    after_count ends (λ reading. awaits_rows reading columns []) (reply_of message)
stage_after (awaits_rows reading columns rows) message =
    after_rows reading columns rows (further_of reading message)
stage_after (is_over columns rows) message = None
