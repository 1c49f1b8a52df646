-- The statement that the text of a command or a query is read as.
use Rattle.std.specs.Prelude.{ℕ, ◌&&◌, if◌then◌else◌, Bool, false, List, [], ◌∷◌, codes, bytes_eq}
use Rattle.honest_server.specs.Answer.{progress_schema}
use Rattle.statement_forms.specs.Text.{command_text}
use Rattle.statement_forms.specs.declared.command.Command.{Command}
use Rattle.statement_forms.specs.declared.command.Command.TheVariants.{SetUp, NamesUtf8mb4, NamesBinary, ForeignKeyChecksOff, TimeZoneUtc, BinaryLogOff, SqlMode, CharacterSetClient, CollationConnection, RepeatableRead, TimeZone, LockInstance, FlushTables, UnlockTables, UnlockInstance, StartSnapshot, Start, Commit, Rollback, Use, Create, CreateProgress, CreateProgressFiles, CreateProgressDump, Insert, InsertProgressFile, InsertProgressDump}
use Rattle.statement_forms.specs.declared.query.Query.{Query}
use Rattle.statement_forms.specs.declared.query.Query.TheVariants.{MasterStatus, BinaryLogStatus, Schemas, Tables, Columns, PrimaryKey, Triggers, Routines, ViewNeeds, Events, CreateDatabase, CreateTable, CreateView, CreateProcedure, CreateFunction, CreateTrigger, CreateEvent, Key, KeyAbove, Rows, RowsByKey, RowsAbove, RowsUpTo, RowsBetween, WideKey, WideKeyAbove, RowsByWideKey, RowsAboveWide, RowsUpToWide, RowsBetweenWide, ProgressDump, ProgressFiles}
use Rattle.statement_forms.specs.declared.statement.Statement.{Statement}
use Rattle.statement_forms.specs.declared.statement.Statement.TheVariants.{Command as SomeCommand, Query as SomeQuery}

-- the command that an object's text is read as: one that makes a load's progress, where it is the text of one
abbrev pub read_create : List ℕ → Command
read_create text =
    if bytes_eq text (command_text CreateProgress) then CreateProgress
    else (if bytes_eq text (command_text CreateProgressFiles) then CreateProgressFiles
    else (if bytes_eq text (command_text CreateProgressDump) then CreateProgressDump
    else Create text))

-- the command that a command's text is read as
abbrev pub read_command : Command → Command
read_command SetUp = SetUp
read_command NamesUtf8mb4 = NamesUtf8mb4
read_command NamesBinary = NamesBinary
read_command ForeignKeyChecksOff = ForeignKeyChecksOff
read_command TimeZoneUtc = TimeZone (codes "+00:00")
read_command BinaryLogOff = BinaryLogOff
read_command (SqlMode value) = SqlMode value
read_command (CharacterSetClient value) = CharacterSetClient value
read_command (CollationConnection value) = CollationConnection value
read_command RepeatableRead = RepeatableRead
read_command (TimeZone value) = TimeZone value
read_command LockInstance = LockInstance
read_command FlushTables = FlushTables
read_command UnlockTables = UnlockTables
read_command UnlockInstance = UnlockInstance
read_command StartSnapshot = StartSnapshot
read_command Start = Start
read_command Commit = Commit
read_command Rollback = Rollback
read_command (Use schema) = Use schema
read_command (Create text) = read_create text
read_command CreateProgress = CreateProgress
read_command CreateProgressFiles = CreateProgressFiles
read_command CreateProgressDump = CreateProgressDump
read_command (Insert text) = Insert text
read_command (InsertProgressFile name) = InsertProgressFile name
read_command (InsertProgressDump digest) = InsertProgressDump digest

-- the list has this name and no other
abbrev pub is_only_name : List ℕ → List (List ℕ) → Bool
is_only_name name [] = false
is_only_name name (one ∷ []) = bytes_eq one name
is_only_name name (one ∷ other ∷ others) = false

-- the rows of this column alone are asked for, of this table of a load's progress
abbrev pub asks_progress : List ℕ → List ℕ → List (List ℕ) → List ℕ → List ℕ → Bool
asks_progress column name columns schema table =
    is_only_name column columns && (bytes_eq schema progress_schema && bytes_eq table name)

-- the query that a query for all rows is read as: one for a load's progress, where it has the text of one
abbrev pub read_all_rows : List (List ℕ) → List ℕ → List ℕ → Query
read_all_rows columns schema table =
    if asks_progress (codes "digest") (codes "dump") columns schema table then ProgressDump
    else (if asks_progress (codes "name") (codes "files") columns schema table then ProgressFiles
    else Rows columns schema table)

-- the query that a query's text is read as
abbrev pub read_query : Query → Query
read_query MasterStatus = MasterStatus
read_query BinaryLogStatus = BinaryLogStatus
read_query Schemas = Schemas
read_query (Tables schema) = Tables schema
read_query (Columns schema table) = Columns schema table
read_query (PrimaryKey schema table) = PrimaryKey schema table
read_query (Triggers schema) = Triggers schema
read_query (Routines schema) = Routines schema
read_query (ViewNeeds schema) = ViewNeeds schema
read_query (Events schema) = Events schema
read_query (CreateDatabase schema) = CreateDatabase schema
read_query (CreateTable schema name) = CreateTable schema name
read_query (CreateView schema name) = CreateView schema name
read_query (CreateProcedure schema name) = CreateProcedure schema name
read_query (CreateFunction schema name) = CreateFunction schema name
read_query (CreateTrigger schema name) = CreateTrigger schema name
read_query (CreateEvent schema name) = CreateEvent schema name
read_query (Key key schema table skipped) = Key key schema table skipped
read_query (KeyAbove key schema table above skipped) = KeyAbove key schema table above skipped
read_query (Rows columns schema table) = read_all_rows columns schema table
read_query (RowsByKey columns schema table key) = RowsByKey columns schema table key
read_query (RowsAbove columns schema table key above) = RowsAbove columns schema table key above
read_query (RowsUpTo columns schema table key up_to) = RowsUpTo columns schema table key up_to
read_query (RowsBetween columns schema table key above up_to) =
    RowsBetween columns schema table key above up_to
read_query (WideKey keys schema table skipped) = WideKey keys schema table skipped
read_query (WideKeyAbove keys schema table above skipped) =
    WideKeyAbove keys schema table above skipped
read_query (RowsByWideKey columns schema table keys) = RowsByWideKey columns schema table keys
read_query (RowsAboveWide columns schema table keys above) =
    RowsAboveWide columns schema table keys above
read_query (RowsUpToWide columns schema table keys up_to) =
    RowsUpToWide columns schema table keys up_to
read_query (RowsBetweenWide columns schema table keys above up_to) =
    RowsBetweenWide columns schema table keys above up_to
read_query ProgressDump = ProgressDump
read_query ProgressFiles = ProgressFiles

-- the statement that a statement's text is read as
abbrev pub read_statement : Statement → Statement
read_statement (SomeCommand command) = SomeCommand (read_command command)
read_statement (SomeQuery query) = SomeQuery (read_query query)
