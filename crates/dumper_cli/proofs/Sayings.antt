-- What was said by the end of the rows.
use Rattle.std.proofs.Common.{◌≡◌, ℕ, List, [], ◌∷◌, ◌++◌, Option, Some, None, Result, Ok, Err, refl, sym, ◌∙◌, ap, subst, append_assoc, inl, inr, Bool, true, false}
use Rattle.wire_forms.specs.Greeting.{greeting_of}
use Rattle.wire_forms.specs.Response.{response}
use Rattle.wire_forms.specs.declared.ends.Ends.{Ends}
use Rattle.wire_forms.specs.Switch.{switch_of}
use Rattle.wire_forms.specs.declared.login_fault.LoginFault.{LoginFault}
use Rattle.wire_forms.specs.declared.greeting.Greeting.{Greeting}
use Rattle.wire_forms.specs.declared.switch.Switch.{Switch}
use Rattle.wire_forms.specs.Packet.{packets}
use Rattle.my_session.specs.Login.{password_answer, switch_answer}
use Rattle.honest_server.specs.Exchange.{query_payload}
use Rattle.my_session.specs.Statements.{command_payload}
use Rattle.my_session.specs.Wire.{Wire}
use Rattle.wire_forms.specs.Reading.{Reading, Further, definition, row, end, refused, garbled, columns_counted, reading_after, further_of}
use Rattle.wire_forms.specs.Reply.{reply_of}
use Rattle.wire_forms.specs.declared.reply.Reply.{Reply}
use Rattle.wire_forms.specs.declared.reply.Reply.TheVariants.{Done, Refused, Columns as ColumnsReply}
use Rattle.plain_data.specs.Cell.{Cell}
use Rattle.statement_forms.specs.Text.{query_text}
use Rattle.statement_forms.specs.declared.command.Command.TheVariants.{SetUp, NamesBinary}
use Rattle.statement_forms.specs.declared.query.Query.TheVariants.{Columns as ColumnsQuery, Rows}
use Rattle.dumper_cli.specs.Columns.{column_from, is_row_of}
use Rattle.dumper_cli.specs.Course.{Comes, at_start, commanded, answered, heard, AreOfLogin, AreAll, AllIsSaid}
use Rattle.dumper_cli.specs.Stage.{Stage, awaits_greeting, sends_response, awaits_decision, sends_switch_answer, awaits_acceptance, sends_set_up, awaits_set_up, sends_names, awaits_names, asks_columns, awaits_column_count, awaits_columns, asks_rows, awaits_row_count, awaits_rows, is_over, commanding, answering, doing, stage_after, after_greeting, after_switch, after_decision, after_ok, after_count, with_column, with_columns, after_columns, stage_if, after_rows, column_names}
use Rattle.dumper_cli.specs.Words.{Asked}
use Rattle.dumper_cli.specs.declared.column.Column.{Column}

-- the login, and these messages after it
record IsAfterLogin (asked : Asked) (more sent : List (List ℕ)) : Type 0 where
  login : List (List ℕ)
  of_login : AreOfLogin asked login
  sent_is : sent ≡ login ++ more

-- only the response
record IsResponse (asked : Asked) (sent : List (List ℕ)) : Type 0 where
  id : ℕ
  scramble : List ℕ
  ends : Ends
  sent_is : sent ≡ packets id (response asked.user (password_answer asked.password scramble) ends) ∷ []

set_up_sent : List (List ℕ)
set_up_sent = packets 0 (command_payload SetUp) ∷ []

names_sent : List (List ℕ)
names_sent = packets 0 (command_payload SetUp) ∷ packets 0 (command_payload NamesBinary) ∷ []

columns_sent : Asked → List (List ℕ)
columns_sent asked = packets 0 (command_payload SetUp) ∷ packets 0 (command_payload NamesBinary) ∷ packets 0 (query_payload (query_text (ColumnsQuery asked.schema asked.table))) ∷ []

-- what was said where a dump comes to a stage
abbrev SaidAt : Asked → Stage → List (List ℕ) → Type 0
SaidAt asked awaits_greeting sent = sent ≡ []
SaidAt asked (sends_response scramble ends) sent = sent ≡ []
SaidAt asked (awaits_decision ends) sent = IsResponse asked sent
SaidAt asked (sends_switch_answer scramble ends) sent = IsResponse asked sent
SaidAt asked (awaits_acceptance ends) sent = AreOfLogin asked sent
SaidAt asked (sends_set_up ends) sent = AreOfLogin asked sent
SaidAt asked (awaits_set_up ends) sent = IsAfterLogin asked set_up_sent sent
SaidAt asked (sends_names ends) sent = IsAfterLogin asked set_up_sent sent
SaidAt asked (awaits_names ends) sent = IsAfterLogin asked names_sent sent
SaidAt asked (asks_columns ends) sent = IsAfterLogin asked names_sent sent
SaidAt asked (awaits_column_count ends) sent = IsAfterLogin asked (columns_sent asked) sent
SaidAt asked (awaits_columns reading columns) sent = IsAfterLogin asked (columns_sent asked) sent
SaidAt asked (asks_rows ends columns) sent = IsAfterLogin asked (columns_sent asked) sent
SaidAt asked (awaits_row_count ends columns) sent = AreAll asked columns sent
SaidAt asked (awaits_rows reading columns rows) sent = AreAll asked columns sent
SaidAt asked (is_over columns rows) sent = AreAll asked columns sent

same_command : (payload other : List ℕ) (next also : Stage) → commanding payload next ≡ commanding other also → (other ≡ payload) × (also ≡ next)
same_command payload other next also e = (cc, cc)

same_answer : (payload other : List ℕ) (next also : Stage) → answering payload next ≡ answering other also → (other ≡ payload) × (also ≡ next)
same_answer payload other next also e = (cc, cc)

after_more : (asked : Asked) (more : List (List ℕ)) (message : List ℕ) (sent : List (List ℕ)) → IsAfterLogin asked more sent → IsAfterLogin asked (more ++ message ∷ []) (sent ++ message ∷ [])
after_more asked more message sent so = record { login = so.login; of_login = so.of_login; sent_is = ap (λ (l : List (List ℕ)). l ++ message ∷ []) so.sent_is ∙ append_assoc so.login more (message ∷ []) }

-- a command more
command_said : (asked : Asked) (stage next : Stage) (payload : List ℕ) (sent : List (List ℕ)) → doing asked stage ≡ commanding payload next → SaidAt asked stage sent → SaidAt asked next (sent ++ packets 0 payload ∷ [])
unfolding set_up_sent names_sent columns_sent
command_said asked (sends_set_up ends) next payload sent is so =
    let same = same_command (command_payload SetUp) payload (awaits_set_up ends) next is in
    subst (λ (s : Stage). SaidAt asked s (sent ++ packets 0 payload ∷ [])) (sym same.1) (subst (λ (p : List ℕ). IsAfterLogin asked set_up_sent (sent ++ packets 0 p ∷ [])) (sym same.0) record { login = sent; of_login = so; sent_is = refl })
command_said asked (sends_names ends) next payload sent is so =
    let same = same_command (command_payload NamesBinary) payload (awaits_names ends) next is in
    subst (λ (s : Stage). SaidAt asked s (sent ++ packets 0 payload ∷ [])) (sym same.1) (subst (λ (p : List ℕ). IsAfterLogin asked names_sent (sent ++ packets 0 p ∷ [])) (sym same.0) (after_more asked set_up_sent (packets 0 (command_payload NamesBinary)) sent so))
command_said asked (asks_columns ends) next payload sent is so =
    let same = same_command (query_payload (query_text (ColumnsQuery asked.schema asked.table))) payload (awaits_column_count ends) next is in
    subst (λ (s : Stage). SaidAt asked s (sent ++ packets 0 payload ∷ [])) (sym same.1) (subst (λ (p : List ℕ). IsAfterLogin asked (columns_sent asked) (sent ++ packets 0 p ∷ [])) (sym same.0) (after_more asked names_sent (packets 0 (query_payload (query_text (ColumnsQuery asked.schema asked.table)))) sent so))
command_said asked (asks_rows ends columns) next payload sent is so =
    let same = same_command (query_payload (query_text (Rows (column_names columns) asked.schema asked.table))) payload (awaits_row_count ends columns) next is in
    let more = after_more asked (columns_sent asked) (packets 0 (query_payload (query_text (Rows (column_names columns) asked.schema asked.table)))) sent so in
    subst (λ (s : Stage). SaidAt asked s (sent ++ packets 0 payload ∷ [])) (sym same.1) (subst (λ (p : List ℕ). AreAll asked columns (sent ++ packets 0 p ∷ [])) (sym same.0) record { login = more.login; of_login = more.of_login; messages_are = more.sent_is })
command_said asked stage next payload sent is so = absurd (cc)

-- a further payload more
answer_said : (asked : Asked) (stage next : Stage) (payload : List ℕ) (id : ℕ) (sent : List (List ℕ)) → doing asked stage ≡ answering payload next → SaidAt asked stage sent → SaidAt asked next (sent ++ packets id payload ∷ [])
answer_said asked (sends_response scramble ends) next payload id sent is so =
    let same = same_answer (response asked.user (password_answer asked.password scramble) ends) payload (awaits_decision ends) next is in
    subst (λ (s : Stage). SaidAt asked s (sent ++ packets id payload ∷ [])) (sym same.1) (subst (λ (p : List ℕ). IsResponse asked (sent ++ packets id p ∷ [])) (sym same.0) record { id = id; scramble = scramble; ends = ends; sent_is = ap (λ (l : List (List ℕ)). l ++ packets id (response asked.user (password_answer asked.password scramble) ends) ∷ []) so })
answer_said asked (sends_switch_answer scramble ends) next payload id sent is so =
    let same = same_answer (switch_answer (password_answer asked.password scramble)) payload (awaits_acceptance ends) next is in
    subst (λ (s : Stage). SaidAt asked s (sent ++ packets id payload ∷ [])) (sym same.1) (subst (λ (p : List ℕ). AreOfLogin asked (sent ++ packets id p ∷ [])) (sym same.0) (inr (so.id, so.scramble, so.ends, id, scramble, ap (λ (l : List (List ℕ)). l ++ packets id (switch_answer (password_answer asked.password scramble)) ∷ []) so.sent_is)))
answer_said asked stage next payload id sent is so = absurd (cc)

-- ---- where a dump is after a message

some_same : (stage next : Stage) → Some stage ≡ Some next → next ≡ stage
some_same stage next e = cc

module _ (asked : Asked) (next : Stage) (sent : List (List ℕ)) where
  -- said at a stage, and so at the next, which is that
  moved : (stage : Stage) → Some stage ≡ Some next → SaidAt asked stage sent → SaidAt asked next sent
  moved stage is so = subst (λ (s : Stage). SaidAt asked s sent) (sym (some_same stage next is)) so

  greeted : (found : Result Greeting LoginFault) → after_greeting found ≡ Some next → sent ≡ [] → SaidAt asked next sent
  greeted (Ok found) is so = moved (sends_response found.scramble found.ends) is so
  greeted (Err fault) is so = absurd (cc)

  switched : (ends : Ends) (found : Result Switch LoginFault) → after_switch ends found ≡ Some next → IsResponse asked sent → SaidAt asked next sent
  switched ends (Ok found) is so = moved (sends_switch_answer found.scramble ends) is so
  switched ends (Err fault) is so = absurd (cc)

  decided : (ends : Ends) (message : List ℕ) (reply : Option Reply) → after_decision ends message reply ≡ Some next → IsResponse asked sent → SaidAt asked next sent
  decided ends message (Some Done) is so = moved (sends_set_up ends) is (inl (so.id, so.scramble, so.ends, so.sent_is))
  decided ends message (Some (Refused refusal)) is so = absurd (cc)
  decided ends message (Some (ColumnsReply columns)) is so = switched ends (switch_of message) is so
  decided ends message None is so = switched ends (switch_of message) is so

  accepted : (stage : Stage) (reply : Option Reply) → after_ok stage reply ≡ Some next → SaidAt asked stage sent → SaidAt asked next sent
  accepted stage (Some Done) is so = moved stage is so
  accepted stage (Some (Refused refusal)) is so = absurd (cc)
  accepted stage (Some (ColumnsReply columns)) is so = absurd (cc)
  accepted stage None is so = absurd (cc)

  numbered : (ends : Ends) (stage : Reading → Stage) (reply : Option Reply) → after_count ends stage reply ≡ Some next → ((reading : Reading) → SaidAt asked (stage reading) sent) → SaidAt asked next sent
  numbered ends stage (Some Done) is so = absurd (cc)
  numbered ends stage (Some (Refused refusal)) is so = absurd (cc)
  numbered ends stage (Some (ColumnsReply columns)) is so = moved (stage (columns_counted ends columns)) is (so (columns_counted ends columns))
  numbered ends stage None is so = absurd (cc)

  told : (reading : Reading) (columns : List Column) (column : Option Column) → with_column (awaits_columns reading) columns column ≡ Some next → IsAfterLogin asked (columns_sent asked) sent → SaidAt asked next sent
  told reading columns (Some column) is so = moved (awaits_columns reading (columns ++ column ∷ [])) is so
  told reading columns None is so = absurd (cc)

  all_told : (ends : Ends) (columns : List Column) → with_columns ends columns ≡ Some next → IsAfterLogin asked (columns_sent asked) sent → SaidAt asked next sent
  all_told ends [] is so = absurd (cc)
  all_told ends (column ∷ columns) is so = moved (asks_rows ends (column ∷ columns)) is so

  column_came : (reading : Reading) (columns : List Column) (further : Further) → after_columns reading columns further ≡ Some next → IsAfterLogin asked (columns_sent asked) sent → SaidAt asked next sent
  column_came reading columns definition is so = moved (awaits_columns (reading_after reading definition) columns) is so
  column_came reading columns (row cells) is so = told reading columns (column_from cells) is so
  column_came reading columns end is so = all_told reading.ends columns is so
  column_came reading columns (refused refusal) is so = absurd (cc)
  column_came reading columns garbled is so = absurd (cc)

  fitting : (fits : Bool) (stage : Stage) → stage_if fits stage ≡ Some next → SaidAt asked stage sent → SaidAt asked next sent
  fitting true stage is so = moved stage is so
  fitting false stage is so = absurd (cc)

  row_came : (reading : Reading) (columns : List Column) (rows : List (List Cell)) (further : Further) → after_rows reading columns rows further ≡ Some next → AreAll asked columns sent → SaidAt asked next sent
  row_came reading columns rows definition is so = moved (awaits_rows (reading_after reading definition) columns rows) is so
  row_came reading columns rows (row cells) is so = fitting (is_row_of columns cells) (awaits_rows reading columns (rows ++ cells ∷ [])) is so
  row_came reading columns rows end is so = moved (is_over columns rows) is so
  row_came reading columns rows (refused refusal) is so = absurd (cc)
  row_came reading columns rows garbled is so = absurd (cc)

  heard_said : (stage : Stage) (message : List ℕ) → stage_after stage message ≡ Some next → SaidAt asked stage sent → SaidAt asked next sent
  heard_said awaits_greeting message is so = greeted (greeting_of message) is so
  heard_said (awaits_decision ends) message is so = decided ends message (reply_of message) is so
  heard_said (awaits_acceptance ends) message is so = accepted (sends_set_up ends) (reply_of message) is so
  heard_said (awaits_set_up ends) message is so = accepted (sends_names ends) (reply_of message) is so
  heard_said (awaits_names ends) message is so = accepted (asks_columns ends) (reply_of message) is so
  heard_said (awaits_column_count ends) message is so = numbered ends (λ reading. awaits_columns reading []) (reply_of message) is (λ reading. so)
  heard_said (awaits_columns reading columns) message is so = column_came reading columns (further_of reading message) is so
  heard_said (awaits_row_count ends columns) message is so = numbered ends (λ reading. awaits_rows reading columns []) (reply_of message) is (λ reading. so)
  heard_said (awaits_rows reading columns rows) message is so = row_came reading columns rows (further_of reading message) is so
  heard_said stage message is so = absurd (cc)

said_at : (asked : Asked) (start : Wire) (stage : Stage) (wire : Wire) → start.sent ≡ [] → Comes asked start stage wire → SaidAt asked stage wire.sent
said_at asked start stage wire none at_start = none
said_at asked start stage wire none (commanded {stage = before} {wire = old} {payload = payload} comes is short) = command_said asked before stage payload old.sent is (said_at asked start before old none comes)
said_at asked start stage wire none (answered {stage = before} {wire = old} {payload = payload} comes is short) = answer_said asked before stage payload old.id old.sent is (said_at asked start before old none comes)
said_at asked start stage wire none (heard {stage = before} {wire = old} {message = message} comes is hears goes_on turns) =
    subst (λ (l : List (List ℕ)). SaidAt asked stage l) (sym hears.sent) (heard_said asked stage old.sent before message turns (said_at asked start before old none comes))

pub all_is_said : AllIsSaid
all_is_said asked columns rows start wire none comes = said_at asked start (is_over columns rows) wire none comes
