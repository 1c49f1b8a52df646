-- The bytes of replies, and what messages are answered by.
use Rattle.std.specs.Prelude.{ℕ, ◌≡◌, List, [], ◌∷◌, ◌++◌, Some, None, codes}
use Rattle.wire_forms.specs.Packet.{packets}
use Rattle.wire_forms.specs.KeptText.{kept_text}
use Rattle.wire_forms.specs.Reply.{reply_of}
use Rattle.wire_forms.specs.ResultSet.{IsResultSet}
use Rattle.plain_data.specs.Cell.{Cell as SentCell}
use Rattle.wire_forms.specs.declared.ends.Ends.TheVariants.{Ok}
use Rattle.wire_forms.specs.declared.refusal.Refusal.{Refusal}
use Rattle.wire_forms.specs.declared.reply.Reply.TheVariants.{Done}
use Rattle.sql_cells.specs.declared.cell.Cell.{Cell}
use Rattle.sql_cells.specs.declared.cell.Cell.TheVariants.{Value}
use Rattle.statement_forms.specs.declared.command.Command.TheVariants.{Commit}
use Rattle.statement_forms.specs.declared.query.Query.TheVariants.{Schemas}
use Rattle.statement_forms.specs.declared.statement.Statement.TheVariants.{Command as SomeCommand, Query as SomeQuery}
use Rattle.honest_server.specs.Exchange.{Exchanges}
use Rattle.honest_server.specs.Moves.{plainly}
use Rattle.honest_server.specs.Serve.{Reply, done, rows, refused}
use Rattle.honest_server.specs.Spelled.{SpellsReply}
use Rattle.honest_server.specs.State.{Server, State, closed_state, greeted, with_error}
use Rattle.honest_examples.specs.Effects.{worked}
use Rattle.honest_examples.specs.Worked.{schema, server}

-- an OK: no rows are affected, no id was inserted, autocommit is on, and there are no warnings
abbrev pub ok : List ℕ
ok = 0 ∷ 0 ∷ 0 ∷ 2 ∷ 0 ∷ 0 ∷ 0 ∷ []

-- an ERR of the code 1105
abbrev pub err : List ℕ
err = 255 ∷ 81 ∷ 4 ∷ 35 ∷ codes "HY000no"

-- what this ERR says
abbrev pub refusal : Refusal
refusal = record { code = 1105; state = codes "HY000"; message = kept_text (codes "no") }

-- the definition of the only column of a result set, SCHEMA_NAME
abbrev pub definition : List ℕ
definition = 3 ∷ codes "def"
    ++ (0 ∷ 0 ∷ 0 ∷ 11 ∷ codes "SCHEMA_NAME"
    ++ (0 ∷ 12 ∷ 45 ∷ 0 ∷ 0 ∷ 1 ∷ 0 ∷ 0 ∷ 253 ∷ 1 ∷ 0 ∷ 0 ∷ 0 ∷ 0 ∷ []))

-- an EOF packet without warnings
abbrev pub eof_packet : List ℕ
eof_packet = 254 ∷ 0 ∷ 0 ∷ 2 ∷ 0 ∷ []

-- a result set of one column and one row: the number of columns, its definition, an EOF, the row (s), and what ends it
abbrev pub set_before : List ℕ → List (List ℕ)
set_before last = (1 ∷ []) ∷ definition ∷ eof_packet ∷ (1 ∷ codes "s") ∷ last ∷ []

-- one row of one cell
abbrev pub only : List ℕ → List (List Cell)
only name = (Value name ∷ []) ∷ []

-- a command is answered by one message, which is no result set
pub record ACommandIsAnsweredByOneMessage : Type 0 where
  pub allowed : SpellsReply server (SomeCommand Commit) done (ok ∷ [])
  pub err_allowed : SpellsReply server (SomeCommand Commit) (refused [] refusal) (err ∷ [])
  pub err_is_no_ok : SpellsReply server (SomeCommand Commit) done (err ∷ []) → ⊥
  pub refused : (of : Server) (reply : Reply) (columns : ℕ) (found : List (List SentCell))
      (messages : List (List ℕ)) → IsResultSet of.ends columns found messages →
      SpellsReply of (SomeCommand Commit) reply messages → ⊥

-- a query is answered by the messages of its rows, after which an ERR may stand in place of the end
pub record AQueryIsAnsweredByItsRows : Type 0 where
  pub allowed : SpellsReply server (SomeQuery Schemas) (rows (only schema)) (set_before eof_packet)
  pub broken_off : SpellsReply server (SomeQuery Schemas) (refused (only schema) refusal)
      (set_before err)
  pub other_rows : SpellsReply server (SomeQuery Schemas) (rows (only (codes "ss")))
      (set_before eof_packet) → ⊥
  pub refused : (found : List (List Cell)) →
      SpellsReply server (SomeQuery Schemas) (rows found) (ok ∷ []) → ⊥

-- a server whose result sets end by an OK with the header fe
abbrev pub ending_by_ok : Server
ending_by_ok = record server { ends = Ok }

-- an OK with the header fe, without a text
abbrev pub ending_ok_packet : List ℕ
ending_ok_packet = 254 ∷ 0 ∷ 0 ∷ 2 ∷ 0 ∷ 0 ∷ 0 ∷ []

-- such an OK with a text after it; without one it has eight bytes, and is an EOF too
abbrev pub long_ok : List ℕ
long_ok = ending_ok_packet ++ codes "ok"

-- the same result set without an EOF after the definition
abbrev pub short_set : List ℕ → List (List ℕ)
short_set last = (1 ∷ []) ∷ definition ∷ (1 ∷ codes "s") ∷ last ∷ []

-- there no EOF stands in a result set, and where EOF packets end them, no such OK does
pub record AnOkEndsAResultSet : Type 0 where
  pub allowed : SpellsReply ending_by_ok (SomeQuery Schemas) (rows (only schema))
      (short_set ending_ok_packet)
  pub broken_off : SpellsReply ending_by_ok (SomeQuery Schemas) (refused (only schema) refusal)
      (short_set err)
  pub eof_at_the_end : (found : List (List Cell)) →
      SpellsReply ending_by_ok (SomeQuery Schemas) (rows found) (short_set eof_packet) → ⊥
  pub eof_between : (found : List (List Cell)) →
      SpellsReply ending_by_ok (SomeQuery Schemas) (rows found) (set_before ending_ok_packet) → ⊥
  pub ok_under_eof : (found : List (List Cell)) →
      SpellsReply server (SomeQuery Schemas) (rows found) (set_before long_ok) → ⊥

-- COM_QUERY COMMIT as one packet of the id 0
abbrev pub commit : List ℕ
commit = 7 ∷ 0 ∷ 0 ∷ 0 ∷ 3 ∷ codes "COMMIT"

-- the bytes are one message that is an OK, from this id on
pub record AreOk (id : ℕ) (bytes : List ℕ) : Type 0 where
  pub message : List ℕ
  pub says : reply_of message ≡ Some Done
  pub bytes_are : bytes ≡ packets id message

-- a COMMIT without an open transaction is answered by an OK whose id is 1, by nothing else, and changes nothing
pub record ACommitIsAnsweredByAnOk : Type 0 where
  pub allowed : Exchanges plainly worked commit (7 ∷ 0 ∷ 0 ∷ 1 ∷ ok) worked
  pub nothing_else : (reply : List ℕ) (new : State) → Exchanges plainly worked commit reply new →
      AreOk 1 reply × (new ≡ worked)
  pub refused : (new : State) → Exchanges plainly worked commit (7 ∷ 0 ∷ 0 ∷ 0 ∷ ok) new → ⊥

-- COM_QUIT ends the session without an answer
pub record AQuitIsntAnswered : Type 0 where
  pub allowed : Exchanges plainly worked (1 ∷ 0 ∷ 0 ∷ 0 ∷ 1 ∷ []) [] (closed_state worked)
  pub refused : (new : State) →
      Exchanges plainly worked (1 ∷ 0 ∷ 0 ∷ 0 ∷ 1 ∷ []) (7 ∷ 0 ∷ 0 ∷ 1 ∷ ok) new → ⊥

-- the link is greeted, and no session is open yet
abbrev pub logging_in : State
logging_in = record worked { phase = greeted }

-- whatever the client's response, the login may be taken
pub record ALoginIsTaken : Type 0 where
  pub allowed : Exchanges plainly logging_in (1 ∷ 0 ∷ 0 ∷ 1 ∷ 0 ∷ []) (7 ∷ 0 ∷ 0 ∷ 2 ∷ ok) worked
  pub silent : (new : State) → Exchanges plainly logging_in (1 ∷ 0 ∷ 0 ∷ 1 ∷ 0 ∷ []) [] new → ⊥

-- COM_PING, a command that is no statement
abbrev pub ping : List ℕ
ping = 1 ∷ 0 ∷ 0 ∷ 0 ∷ 14 ∷ []

-- is answered by ERR, and changes nothing
pub record AnUnknownCommandIsAnsweredByAnErr : Type 0 where
  pub allowed : Exchanges plainly worked ping (11 ∷ 0 ∷ 0 ∷ 1 ∷ err)
      (with_error worked None refusal)
  pub refused : (new : State) → Exchanges plainly worked ping (7 ∷ 0 ∷ 0 ∷ 1 ∷ ok) new → ⊥
