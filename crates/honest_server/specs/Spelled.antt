-- The messages that spell a reply (MySQL source documentation, COM_QUERY Response, ProtocolText::Resultset). How long they may be is a premise of our own.
use Rattle.std.specs.Prelude.{ℕ, ◌≡◌, ◌≤◌, ◌+◌, ◌*◌, ◌⊎◌, Bool, true, List, [], ◌∷◌, ◌++◌, length, map, replicate, sum_by, Some, All}
use Rattle.wire_forms.specs.Reading.{definition, row, refused as refused_turn, awaited_count, columns_counted}
use Rattle.wire_forms.specs.Reply.{reply_of}
use Rattle.wire_forms.specs.ResultSet.{IsResultSet, turns_of}
use Rattle.plain_data.specs.Cell.{Cell as SentCell}
use Rattle.wire_forms.specs.declared.refusal.Refusal.{Refusal}
use Rattle.wire_forms.specs.declared.reply.Reply.TheVariants.{Done, Refused, Columns}
use Rattle.sql_cells.specs.Cell.{bytes_of}
use Rattle.sql_cells.specs.declared.cell.Cell.{Cell}
use Rattle.sql_cells.specs.declared.cell.Cell.TheVariants.{Null, Value}
use Rattle.statement_forms.specs.Text.{query_text}
use Rattle.statement_forms.specs.declared.query.Query.{Query}
use Rattle.statement_forms.specs.declared.query.Query.TheVariants.{MasterStatus, BinaryLogStatus, Schemas, Tables, Columns as ColumnsQuery, PrimaryKey, Triggers, Routines, ViewNeeds, Events, CreateDatabase, CreateTable, CreateView, CreateProcedure, CreateFunction, CreateTrigger, CreateEvent, Key, KeyAbove, Rows, RowsByKey, RowsAbove, RowsUpTo, RowsBetween, WideKey, WideKeyAbove, RowsByWideKey, RowsAboveWide, RowsUpToWide, RowsBetweenWide, ProgressDump, ProgressFiles}
use Rattle.statement_forms.specs.declared.statement.Statement.{Statement}
use Rattle.statement_forms.specs.declared.statement.Statement.TheVariants.{Command as SomeCommand, Query as SomeQuery}
use Rattle.honest_server.specs.Answer.{without_line_feeds}
use Rattle.honest_server.specs.Serve.{Reply, done, rows, refused}
use Rattle.honest_server.specs.State.{Server}

-- what a willing server adds of its own to a message has at most so many bytes
abbrev pub own_limit : ℕ
own_limit = 16777216

-- the message has no more bytes than a willing server may add of its own
abbrev pub IsLean : List ℕ → Type 0
IsLean message = length message ≤ own_limit

-- how many bytes a cell has; NULL has none
abbrev pub cell_size : Cell → ℕ
cell_size Null = 0
cell_size (Value bytes) = length bytes

-- how many bytes the cells of a row have together
abbrev pub row_size : List Cell → ℕ
row_size cells = sum_by cell_size cells

-- how many bytes the file and the GTID set have in the row of a position, without line feeds
abbrev pub file_and_gtid : List Cell → ℕ
file_and_gtid (Value file ∷ offset ∷ third ∷ fourth ∷ Value gtid ∷ more) =
    length file + length (without_line_feeds gtid)
file_and_gtid cells = 0

-- how many bytes the text has in a row of SHOW CREATE DATABASE or SHOW CREATE TABLE
abbrev pub shown_text_size : List Cell → ℕ
shown_text_size (first ∷ text ∷ more) = cell_size text
shown_text_size cells = 0

-- how many bytes the text, the client character set and the collation have together in a row of SHOW CREATE VIEW
abbrev pub view_size : List Cell → ℕ
view_size (first ∷ text ∷ client ∷ collation ∷ more) =
    cell_size text + cell_size client + cell_size collation
view_size cells = 0

-- the same of the mode, the text, the client character set and the collation of a procedure, a function or a trigger
abbrev pub routine_size : List Cell → ℕ
routine_size (first ∷ mode ∷ text ∷ client ∷ collation ∷ more) =
    cell_size mode + cell_size text + cell_size client + cell_size collation
routine_size cells = 0

-- the same of the mode, the time zone, the text, the client character set and the collation in a row of SHOW CREATE EVENT
abbrev pub event_size : List Cell → ℕ
event_size (first ∷ mode ∷ zone ∷ text ∷ client ∷ collation ∷ more) =
    cell_size mode + cell_size zone + cell_size text + cell_size client + cell_size collation
event_size cells = 0

-- how many bytes the name and the DATA_TYPE have together in a row of COLUMNS
abbrev pub column_size : List Cell → ℕ
column_size (name ∷ data_type ∷ more) = cell_size name + cell_size data_type
column_size cells = 0

-- how many bytes of a row are taken from the database or from a mark
abbrev pub taken_size : Query → List Cell → ℕ
taken_size MasterStatus cells = file_and_gtid cells
taken_size BinaryLogStatus cells = file_and_gtid cells
taken_size Schemas cells = row_size cells
taken_size (Tables schema) cells = row_size cells
taken_size (ColumnsQuery schema table) cells = column_size cells
taken_size (PrimaryKey schema table) cells = row_size cells
taken_size (Triggers schema) cells = row_size cells
taken_size (Routines schema) cells = row_size cells
taken_size (ViewNeeds schema) cells = row_size cells
taken_size (Events schema) cells = row_size cells
taken_size (CreateDatabase schema) cells = shown_text_size cells
taken_size (CreateTable schema name) cells = shown_text_size cells
taken_size (CreateView schema name) cells = view_size cells
taken_size (CreateProcedure schema name) cells = routine_size cells
taken_size (CreateFunction schema name) cells = routine_size cells
taken_size (CreateTrigger schema name) cells = routine_size cells
taken_size (CreateEvent schema name) cells = event_size cells
taken_size (Key key schema table skipped) cells = row_size cells
taken_size (KeyAbove key schema table above skipped) cells = row_size cells
taken_size (Rows columns schema table) cells = row_size cells
taken_size (RowsByKey columns schema table key) cells = row_size cells
taken_size (RowsAbove columns schema table key above) cells = row_size cells
taken_size (RowsUpTo columns schema table key up_to) cells = row_size cells
taken_size (RowsBetween columns schema table key above up_to) cells = row_size cells
taken_size (WideKey keys schema table skipped) cells = row_size cells
taken_size (WideKeyAbove keys schema table above skipped) cells = row_size cells
taken_size (RowsByWideKey columns schema table keys) cells = row_size cells
taken_size (RowsAboveWide columns schema table keys above) cells = row_size cells
taken_size (RowsUpToWide columns schema table keys up_to) cells = row_size cells
taken_size (RowsBetweenWide columns schema table keys above up_to) cells = row_size cells
taken_size ProgressDump cells = row_size cells
taken_size ProgressFiles cells = row_size cells

-- each row's message is lean but for what is taken from the database
abbrev pub AreLeanRows : Query → List (List ℕ) → List (List Cell) → Type 0
AreLeanRows query [] [] = Unit {0}
AreLeanRows query [] (cells ∷ found) = ⊥
AreLeanRows query (message ∷ messages) [] = ⊥
AreLeanRows query (message ∷ messages) (cells ∷ found) =
    (length message ≤ own_limit + taken_size query cells) × AreLeanRows query messages found

-- a message in front of the rows is lean but for the names that the query asks for, each of which it may say five times
abbrev pub IsLeanFront : Query → List ℕ → Type 0
IsLeanFront query message = length message ≤ own_limit + 5 * length (query_text query)

-- the messages are those in front of the rows, which are the number of columns, their definitions and perhaps an EOF, those of the rows, and the last
pub record IsLeanSet (query : Query) (found : List (List Cell))
    (messages : List (List ℕ)) : Type 0 where
  pub front : List (List ℕ)
  pub row_messages : List (List ℕ)
  pub last : List ℕ
  pub messages_are : messages ≡ front ++ row_messages ++ last ∷ []
  pub front_lean : All (IsLeanFront query) front
  pub rows_lean : AreLeanRows query row_messages found
  pub last_lean : IsLean last

-- the rows as they are sent: NULL, or the bytes of the cell
abbrev pub sent_rows : List (List Cell) → List (List SentCell)
sent_rows found = map (map bytes_of) found

-- whole rows
pub record SpellsRowsOf (server : Server) (query : Query) (found : List (List Cell))
    (messages : List (List ℕ)) : Type 0 where
  pub columns : ℕ
  pub is_set : IsResultSet server.ends columns (sent_rows found) messages
  pub lean : server.willing ≡ true → IsLeanSet query found messages

-- one message, which is an ERR
pub record SpellsErr (server : Server) (refusal : Refusal) (messages : List (List ℕ)) : Type 0 where
  pub message : List ℕ
  pub messages_are : messages ≡ message ∷ []
  pub says : reply_of message ≡ Some (Refused refusal)
  pub lean : server.willing ≡ true → IsLean message

-- an ERR after some rows of a query
pub record BreaksOff (server : Server) (query : Query) (found : List (List Cell))
    (refusal : Refusal) (messages : List (List ℕ)) : Type 0 where
  pub columns : ℕ
  pub first : List ℕ
  pub others : List (List ℕ)
  pub messages_are : messages ≡ first ∷ others
  pub counts : reply_of first ≡ Some (Columns columns)
  pub turns : turns_of (columns_counted server.ends columns) others
      ≡ replicate (awaited_count server.ends columns) definition
      ++ (map row (sent_rows found) ++ refused_turn refusal ∷ [])
  pub lean : server.willing ≡ true → IsLeanSet query found messages

-- one message, which is an OK
pub record SpellsDone (server : Server) (messages : List (List ℕ)) : Type 0 where
  pub message : List ℕ
  pub messages_are : messages ≡ message ∷ []
  pub says : reply_of message ≡ Some Done
  pub lean : server.willing ≡ true → IsLean message

-- an ERR alone, or after the front of a result set
abbrev pub SpellsRefusal : Server → Query → List (List Cell) → Refusal → List (List ℕ) → Type 0
SpellsRefusal server query found refusal messages =
    ((found ≡ []) × SpellsErr server refusal messages)
    ⊎ BreaksOff server query found refusal messages

-- these messages of a server spell the reply to a statement
abbrev pub SpellsReply : Server → Statement → Reply → List (List ℕ) → Type 0
SpellsReply server (SomeCommand command) done messages = SpellsDone server messages
SpellsReply server (SomeCommand command) (rows found) messages = ⊥
SpellsReply server (SomeCommand command) (refused found refusal) messages =
    SpellsErr server refusal messages
SpellsReply server (SomeQuery query) done messages = ⊥
SpellsReply server (SomeQuery query) (rows found) messages =
    SpellsRowsOf server query found messages
SpellsReply server (SomeQuery query) (refused found refusal) messages =
    SpellsRefusal server query found refusal messages
