-- Which statements have a text, and which statement a text is.
use Rattle.std.specs.Prelude.{◌≡◌, ℕ, ◌<◌, ◌≤◌, ◌^◌, ◌⊎◌, ⊤, ℤ, nat_le, ◌&&◌, ◌||◌, Bool, true, List, length}
use Rattle.std.specs.List.{All, list_all}
use Rattle.grammar.specs.Language.{Language}
use Rattle.object_forms.specs.Head.{HasHead}
use Rattle.statement_forms.specs.Insert.{AnyInsert}
use Rattle.statement_forms.specs.Number.{IsI128}
use Rattle.statement_forms.specs.Text.{command_text, query_text}
use Rattle.statement_forms.specs.declared.command.Command.{Command}
use Rattle.statement_forms.specs.declared.command.Command.TheVariants.{SetUp, NamesUtf8mb4, NamesBinary, ForeignKeyChecksOff, TimeZoneUtc, BinaryLogOff, SqlMode, CharacterSetClient, CollationConnection, RepeatableRead, TimeZone, LockInstance, FlushTables, UnlockTables, UnlockInstance, StartSnapshot, Start, Commit, Rollback, Use, Create, CreateProgress, CreateProgressFiles, CreateProgressDump, Insert, InsertProgressFile, InsertProgressDump}
use Rattle.statement_forms.specs.declared.query.Query.{Query}
use Rattle.statement_forms.specs.declared.query.Query.TheVariants.{MasterStatus, BinaryLogStatus, Schemas, Tables, Columns, PrimaryKey, Triggers, Routines, ViewNeeds, Events, CreateDatabase, CreateTable, CreateView, CreateProcedure, CreateFunction, CreateTrigger, CreateEvent, Key, KeyAbove, Rows, RowsByKey, RowsAbove, RowsUpTo, RowsBetween, WideKey, WideKeyAbove, RowsByWideKey, RowsAboveWide, RowsUpToWide, RowsBetweenWide, ProgressDump, ProgressFiles}
use Rattle.statement_forms.specs.declared.statement.Statement.{Statement}
use Rattle.statement_forms.specs.declared.statement.Statement.TheVariants.{Command as SomeCommand, Query as SomeQuery}

-- a hexadecimal digit, its letter in lower case
abbrev pub is_lower_digit : ℕ → Bool
is_lower_digit byte = (nat_le 48 byte && nat_le byte 57) || (nat_le 97 byte && nat_le byte 102)

-- 40 lower-case hexadecimal digits
abbrev pub IsDigest : List ℕ → Type 0
IsDigest bytes = (length bytes ≡ 40) × (list_all is_lower_digit bytes ≡ true)

-- the statement has a text: a whole text is an object's or an INSERT, and a digest is one
abbrev pub CommandHasText : Command → Type 0
CommandHasText SetUp = ⊤
CommandHasText NamesUtf8mb4 = ⊤
CommandHasText NamesBinary = ⊤
CommandHasText ForeignKeyChecksOff = ⊤
CommandHasText TimeZoneUtc = ⊤
CommandHasText BinaryLogOff = ⊤
CommandHasText (SqlMode value) = ⊤
CommandHasText (CharacterSetClient value) = ⊤
CommandHasText (CollationConnection value) = ⊤
CommandHasText RepeatableRead = ⊤
CommandHasText (TimeZone value) = ⊤
CommandHasText LockInstance = ⊤
CommandHasText FlushTables = ⊤
CommandHasText UnlockTables = ⊤
CommandHasText UnlockInstance = ⊤
CommandHasText StartSnapshot = ⊤
CommandHasText Start = ⊤
CommandHasText Commit = ⊤
CommandHasText Rollback = ⊤
CommandHasText (Use schema) = ⊤
CommandHasText (Create text) = HasHead text
CommandHasText CreateProgress = ⊤
CommandHasText CreateProgressFiles = ⊤
CommandHasText CreateProgressDump = ⊤
CommandHasText (Insert text) = AnyInsert text
CommandHasText (InsertProgressFile name) = ⊤
CommandHasText (InsertProgressDump digest) = IsDigest digest

-- a key of two to four columns
abbrev pub IsWide : List (List ℕ) → Type 0
IsWide keys = (2 ≤ length keys) × (length keys ≤ 4)

-- such a key, and a bound of as many numbers
abbrev pub IsBounded : List (List ℕ) → List ℤ → Type 0
IsBounded keys bound = IsWide keys × (length bound ≡ length keys)

-- the query has a text: rows have a column, and a key of several columns has two to four and as many bounds
abbrev pub QueryHasText : Query → Type 0
QueryHasText MasterStatus = ⊤
QueryHasText BinaryLogStatus = ⊤
QueryHasText Schemas = ⊤
QueryHasText (Tables schema) = ⊤
QueryHasText (Columns schema table) = ⊤
QueryHasText (PrimaryKey schema table) = ⊤
QueryHasText (Triggers schema) = ⊤
QueryHasText (Routines schema) = ⊤
QueryHasText (ViewNeeds schema) = ⊤
QueryHasText (Events schema) = ⊤
QueryHasText (CreateDatabase schema) = ⊤
QueryHasText (CreateTable schema name) = ⊤
QueryHasText (CreateView schema name) = ⊤
QueryHasText (CreateProcedure schema name) = ⊤
QueryHasText (CreateFunction schema name) = ⊤
QueryHasText (CreateTrigger schema name) = ⊤
QueryHasText (CreateEvent schema name) = ⊤
QueryHasText (Key key schema table skipped) = ⊤
QueryHasText (KeyAbove key schema table above skipped) = ⊤
QueryHasText (Rows columns schema table) = 0 < length columns
QueryHasText (RowsByKey columns schema table key) = 0 < length columns
QueryHasText (RowsAbove columns schema table key above) = 0 < length columns
QueryHasText (RowsUpTo columns schema table key up_to) = 0 < length columns
QueryHasText (RowsBetween columns schema table key above up_to) = 0 < length columns
QueryHasText (WideKey keys schema table skipped) = IsWide keys
QueryHasText (WideKeyAbove keys schema table above skipped) = IsBounded keys above
QueryHasText (RowsByWideKey columns schema table keys) = (0 < length columns) × IsWide keys
QueryHasText (RowsAboveWide columns schema table keys above) =
    (0 < length columns) × IsBounded keys above
QueryHasText (RowsUpToWide columns schema table keys up_to) =
    (0 < length columns) × IsBounded keys up_to
QueryHasText (RowsBetweenWide columns schema table keys above up_to) =
    (0 < length columns) × IsBounded keys above × IsBounded keys up_to
QueryHasText ProgressDump = ⊤
QueryHasText ProgressFiles = ⊤

-- the numbers of a query fit their types
abbrev pub InRange : Query → Type 0
InRange MasterStatus = ⊤
InRange BinaryLogStatus = ⊤
InRange Schemas = ⊤
InRange (Tables schema) = ⊤
InRange (Columns schema table) = ⊤
InRange (PrimaryKey schema table) = ⊤
InRange (Triggers schema) = ⊤
InRange (Routines schema) = ⊤
InRange (ViewNeeds schema) = ⊤
InRange (Events schema) = ⊤
InRange (CreateDatabase schema) = ⊤
InRange (CreateTable schema name) = ⊤
InRange (CreateView schema name) = ⊤
InRange (CreateProcedure schema name) = ⊤
InRange (CreateFunction schema name) = ⊤
InRange (CreateTrigger schema name) = ⊤
InRange (CreateEvent schema name) = ⊤
InRange (Key key schema table skipped) = skipped < 2 ^ 64
InRange (KeyAbove key schema table above skipped) = IsI128 above × (skipped < 2 ^ 64)
InRange (Rows columns schema table) = ⊤
InRange (RowsByKey columns schema table key) = ⊤
InRange (RowsAbove columns schema table key above) = IsI128 above
InRange (RowsUpTo columns schema table key up_to) = IsI128 up_to
InRange (RowsBetween columns schema table key above up_to) = IsI128 above × IsI128 up_to
InRange (WideKey keys schema table skipped) = skipped < 2 ^ 64
InRange (WideKeyAbove keys schema table above skipped) = All IsI128 above × (skipped < 2 ^ 64)
InRange (RowsByWideKey columns schema table keys) = ⊤
InRange (RowsAboveWide columns schema table keys above) = All IsI128 above
InRange (RowsUpToWide columns schema table keys up_to) = All IsI128 up_to
InRange (RowsBetweenWide columns schema table keys above up_to) =
    All IsI128 above × All IsI128 up_to
InRange ProgressDump = ⊤
InRange ProgressFiles = ⊤

-- The order of the statements: where one text is that of two, it is read as the later one.
abbrev pub command_row : Command → ℕ
command_row SetUp = 0
command_row NamesUtf8mb4 = 1
command_row NamesBinary = 2
command_row ForeignKeyChecksOff = 3
command_row TimeZoneUtc = 4
command_row BinaryLogOff = 5
command_row (SqlMode value) = 6
command_row (CharacterSetClient value) = 7
command_row (CollationConnection value) = 8
command_row RepeatableRead = 9
command_row (TimeZone value) = 10
command_row LockInstance = 11
command_row FlushTables = 12
command_row UnlockTables = 13
command_row UnlockInstance = 14
command_row StartSnapshot = 15
command_row Start = 16
command_row Commit = 17
command_row Rollback = 18
command_row (Use schema) = 19
command_row (Create text) = 20
command_row CreateProgress = 21
command_row CreateProgressFiles = 22
command_row CreateProgressDump = 23
command_row (Insert text) = 24
command_row (InsertProgressFile name) = 25
command_row (InsertProgressDump digest) = 26

-- the row of a query in the order of the statements, after all commands
abbrev pub query_row : Query → ℕ
query_row MasterStatus = 27
query_row BinaryLogStatus = 28
query_row Schemas = 29
query_row (Tables schema) = 30
query_row (Columns schema table) = 31
query_row (PrimaryKey schema table) = 32
query_row (Triggers schema) = 33
query_row (Routines schema) = 34
query_row (ViewNeeds schema) = 35
query_row (Events schema) = 36
query_row (CreateDatabase schema) = 37
query_row (CreateTable schema name) = 38
query_row (CreateView schema name) = 39
query_row (CreateProcedure schema name) = 40
query_row (CreateFunction schema name) = 41
query_row (CreateTrigger schema name) = 42
query_row (CreateEvent schema name) = 43
query_row (Key key schema table skipped) = 44
query_row (KeyAbove key schema table above skipped) = 45
query_row (Rows columns schema table) = 46
query_row (RowsByKey columns schema table key) = 47
query_row (RowsAbove columns schema table key above) = 48
query_row (RowsUpTo columns schema table key up_to) = 49
query_row (RowsBetween columns schema table key above up_to) = 50
query_row (WideKey keys schema table skipped) = 51
query_row (WideKeyAbove keys schema table above skipped) = 52
query_row (RowsByWideKey columns schema table keys) = 53
query_row (RowsAboveWide columns schema table keys above) = 54
query_row (RowsUpToWide columns schema table keys up_to) = 55
query_row (RowsBetweenWide columns schema table keys above up_to) = 56
query_row ProgressDump = 57
query_row ProgressFiles = 58

-- the row of a statement in that order
abbrev pub list_row : Statement → ℕ
list_row (SomeCommand command) = command_row command
list_row (SomeQuery query) = query_row query

-- this is the text of the statement
abbrev pub IsTextOf : Statement → List ℕ → Type 0
IsTextOf (SomeCommand command) text = CommandHasText command × (text ≡ command_text command)
IsTextOf (SomeQuery query) text = QueryHasText query × InRange query × (text ≡ query_text query)

-- the texts of all statements
unfoldable pub Statements : Language
Statements text = (statement : Statement) × IsTextOf statement text

-- The text is that of the statement, and every other statement of that text stands in an earlier row.
pub record IsReadAs (text : List ℕ) (statement : Statement) : Type 0 where
  pub text_of : IsTextOf statement text
  pub latest : (other : Statement) → IsTextOf other text → (list_row other < list_row statement)
      ⊎ (other ≡ statement)
