-- The forms of statements, by which reports name them.
use Rattle.std.specs.Prelude.{ℕ, List, codes}
use Rattle.statement_forms.specs.declared.command.Command.{Command}
use Rattle.statement_forms.specs.declared.command.Command.TheVariants.{SetUp, NamesUtf8mb4, NamesBinary, ForeignKeyChecksOff, TimeZoneUtc, BinaryLogOff, SqlMode, CharacterSetClient, CollationConnection, RepeatableRead, TimeZone, LockInstance, FlushTables, UnlockTables, UnlockInstance, StartSnapshot, Start, Commit, Rollback, Use, Create, CreateProgress, CreateProgressFiles, CreateProgressDump, Insert, InsertProgressFile, InsertProgressDump}
use Rattle.statement_forms.specs.declared.form.Form.{Form}
use Rattle.statement_forms.specs.declared.form.Form.TheVariants.{Set, LockInstance as LockInstanceForm, Flush, UnlockTables as UnlockTablesForm, UnlockInstance as UnlockInstanceForm, Start as StartForm, Commit as CommitForm, Rollback as RollbackForm, Use as UseForm, Create as CreateForm, Insert as InsertForm, ShowMasterStatus, ShowBinaryLogStatus, Select, ShowCreate, Connect}
use Rattle.statement_forms.specs.declared.query.Query.{Query}
use Rattle.statement_forms.specs.declared.query.Query.TheVariants.{MasterStatus, BinaryLogStatus, Schemas, Tables, Columns, PrimaryKey, Triggers, Routines, ViewNeeds, Events, CreateDatabase, CreateTable, CreateView, CreateProcedure, CreateFunction, CreateTrigger, CreateEvent, Key, KeyAbove, Rows, RowsByKey, RowsAbove, RowsUpTo, RowsBetween, WideKey, WideKeyAbove, RowsByWideKey, RowsAboveWide, RowsUpToWide, RowsBetweenWide, ProgressDump, ProgressFiles}
use Rattle.statement_forms.specs.declared.statement.Statement.{Statement}
use Rattle.statement_forms.specs.declared.statement.Statement.TheVariants.{Command as SomeCommand, Query as SomeQuery}

-- the word of a form
abbrev pub form_word : Form → List ℕ
form_word Set = codes "SET"
form_word LockInstanceForm = codes "LOCK INSTANCE"
form_word Flush = codes "FLUSH"
form_word UnlockTablesForm = codes "UNLOCK TABLES"
form_word UnlockInstanceForm = codes "UNLOCK INSTANCE"
form_word StartForm = codes "START"
form_word CommitForm = codes "COMMIT"
form_word RollbackForm = codes "ROLLBACK"
form_word UseForm = codes "USE"
form_word CreateForm = codes "CREATE"
form_word InsertForm = codes "INSERT"
form_word ShowMasterStatus = codes "SHOW MASTER STATUS"
form_word ShowBinaryLogStatus = codes "SHOW BINARY LOG STATUS"
form_word Select = codes "SELECT"
form_word ShowCreate = codes "SHOW CREATE"
form_word Connect = codes "CONNECT"

-- the form of a command
abbrev pub command_form : Command → Form
command_form SetUp = Set
command_form NamesUtf8mb4 = Set
command_form NamesBinary = Set
command_form ForeignKeyChecksOff = Set
command_form TimeZoneUtc = Set
command_form BinaryLogOff = Set
command_form (SqlMode value) = Set
command_form (CharacterSetClient value) = Set
command_form (CollationConnection value) = Set
command_form RepeatableRead = Set
command_form (TimeZone value) = Set
command_form LockInstance = LockInstanceForm
command_form FlushTables = Flush
command_form UnlockTables = UnlockTablesForm
command_form UnlockInstance = UnlockInstanceForm
command_form StartSnapshot = StartForm
command_form Start = StartForm
command_form Commit = CommitForm
command_form Rollback = RollbackForm
command_form (Use schema) = UseForm
command_form (Create text) = CreateForm
command_form CreateProgress = CreateForm
command_form CreateProgressFiles = CreateForm
command_form CreateProgressDump = CreateForm
command_form (Insert text) = InsertForm
command_form (InsertProgressFile name) = InsertForm
command_form (InsertProgressDump digest) = InsertForm

-- the form of a query
abbrev pub query_form : Query → Form
query_form MasterStatus = ShowMasterStatus
query_form BinaryLogStatus = ShowBinaryLogStatus
query_form Schemas = Select
query_form (Tables schema) = Select
query_form (Columns schema table) = Select
query_form (PrimaryKey schema table) = Select
query_form (Triggers schema) = Select
query_form (Routines schema) = Select
query_form (ViewNeeds schema) = Select
query_form (Events schema) = Select
query_form (CreateDatabase schema) = ShowCreate
query_form (CreateTable schema name) = ShowCreate
query_form (CreateView schema name) = ShowCreate
query_form (CreateProcedure schema name) = ShowCreate
query_form (CreateFunction schema name) = ShowCreate
query_form (CreateTrigger schema name) = ShowCreate
query_form (CreateEvent schema name) = ShowCreate
query_form (Key key schema table skipped) = Select
query_form (KeyAbove key schema table above skipped) = Select
query_form (Rows columns schema table) = Select
query_form (RowsByKey columns schema table key) = Select
query_form (RowsAbove columns schema table key above) = Select
query_form (RowsUpTo columns schema table key up_to) = Select
query_form (RowsBetween columns schema table key above up_to) = Select
query_form (WideKey keys schema table skipped) = Select
query_form (WideKeyAbove keys schema table above skipped) = Select
query_form (RowsByWideKey columns schema table keys) = Select
query_form (RowsAboveWide columns schema table keys above) = Select
query_form (RowsUpToWide columns schema table keys up_to) = Select
query_form (RowsBetweenWide columns schema table keys above up_to) = Select
query_form ProgressDump = Select
query_form ProgressFiles = Select

-- the form of a statement; no statement has the form CONNECT
abbrev pub form_of : Statement → Form
form_of (SomeCommand command) = command_form command
form_of (SomeQuery query) = query_form query
