-- The kinds of statements, and the row of each.
use Rattle.std.specs.Prelude.{ℕ}
use Rattle.statement_reading.specs.declared.reading.settings.SettingKind.{SettingKind}
use Rattle.statement_reading.specs.declared.reading.settings.SettingKind.TheVariants.{SetUp, NamesUtf8mb4, NamesBinary, ForeignKeyChecksOff, TimeZoneUtc, BinaryLogOff, SqlMode, CharacterSetClient, CollationConnection, RepeatableRead, TimeZone}
use Rattle.statement_reading.specs.declared.reading.transactions.TransactionKind.{TransactionKind}
use Rattle.statement_reading.specs.declared.reading.transactions.TransactionKind.TheVariants.{LockInstance, FlushTables, UnlockTables, UnlockInstance, StartSnapshot, Start, Commit, Rollback}
use Rattle.statement_reading.specs.declared.reading.loads.LoadKind.{LoadKind}
use Rattle.statement_reading.specs.declared.reading.loads.LoadKind.TheVariants.{Use, Create, CreateProgress, CreateProgressFiles, CreateProgressDump, Insert, InsertProgressFile, InsertProgressDump}
use Rattle.statement_reading.specs.declared.reading.catalogue.CatalogueKind.{CatalogueKind}
use Rattle.statement_reading.specs.declared.reading.catalogue.CatalogueKind.TheVariants.{MasterStatus, BinaryLogStatus, Schemas, Tables, Columns, PrimaryKey}
use Rattle.statement_reading.specs.declared.reading.stored.StoredKind.{StoredKind}
use Rattle.statement_reading.specs.declared.reading.stored.StoredKind.TheVariants.{Triggers, Routines, ViewNeeds, Events}
use Rattle.statement_reading.specs.declared.reading.show_create.ShowCreateKind.{ShowCreateKind}
use Rattle.statement_reading.specs.declared.reading.show_create.ShowCreateKind.TheVariants.{CreateDatabase, CreateTable, CreateView, CreateProcedure, CreateFunction, CreateTrigger, CreateEvent}
use Rattle.statement_reading.specs.declared.reading.row_queries.RowQueryKind.{RowQueryKind}
use Rattle.statement_reading.specs.declared.reading.row_queries.RowQueryKind.TheVariants.{Key, KeyAbove, Rows, RowsByKey, RowsAbove, RowsUpTo, RowsBetween, WideKey, WideKeyAbove, RowsByWideKey, RowsAboveWide, RowsUpToWide, RowsBetweenWide}
use Rattle.statement_reading.specs.declared.reading.progress.ProgressKind.{ProgressKind}
use Rattle.statement_reading.specs.declared.reading.progress.ProgressKind.TheVariants.{ProgressDump, ProgressFiles}
use Rattle.statement_reading.specs.declared.read.StatementKind.{StatementKind}
use Rattle.statement_reading.specs.declared.read.StatementKind.TheVariants.{Setting, Transaction, Load, Catalogue, Stored, ShowCreate, RowQuery, Progress}

-- the row in which the settings of a kind stand
abbrev pub setting_kind_row : SettingKind → ℕ
setting_kind_row SetUp = 0
setting_kind_row NamesUtf8mb4 = 1
setting_kind_row NamesBinary = 2
setting_kind_row ForeignKeyChecksOff = 3
setting_kind_row TimeZoneUtc = 4
setting_kind_row BinaryLogOff = 5
setting_kind_row SqlMode = 6
setting_kind_row CharacterSetClient = 7
setting_kind_row CollationConnection = 8
setting_kind_row RepeatableRead = 9
setting_kind_row TimeZone = 10

-- the row in which the locks and transactions of a kind stand
abbrev pub transaction_kind_row : TransactionKind → ℕ
transaction_kind_row LockInstance = 11
transaction_kind_row FlushTables = 12
transaction_kind_row UnlockTables = 13
transaction_kind_row UnlockInstance = 14
transaction_kind_row StartSnapshot = 15
transaction_kind_row Start = 16
transaction_kind_row Commit = 17
transaction_kind_row Rollback = 18

-- the row in which the a load's commands of a kind stand
abbrev pub load_kind_row : LoadKind → ℕ
load_kind_row Use = 19
load_kind_row Create = 20
load_kind_row CreateProgress = 21
load_kind_row CreateProgressFiles = 22
load_kind_row CreateProgressDump = 23
load_kind_row Insert = 24
load_kind_row InsertProgressFile = 25
load_kind_row InsertProgressDump = 26

-- the row in which the queries for the server, schemas and tables of a kind stand
abbrev pub catalogue_kind_row : CatalogueKind → ℕ
catalogue_kind_row MasterStatus = 27
catalogue_kind_row BinaryLogStatus = 28
catalogue_kind_row Schemas = 29
catalogue_kind_row Tables = 30
catalogue_kind_row Columns = 31
catalogue_kind_row PrimaryKey = 32

-- the row in which the queries for stored objects of a kind stand
abbrev pub stored_kind_row : StoredKind → ℕ
stored_kind_row Triggers = 33
stored_kind_row Routines = 34
stored_kind_row ViewNeeds = 35
stored_kind_row Events = 36

-- the row in which the queries for the texts of objects of a kind stand
abbrev pub show_create_kind_row : ShowCreateKind → ℕ
show_create_kind_row CreateDatabase = 37
show_create_kind_row CreateTable = 38
show_create_kind_row CreateView = 39
show_create_kind_row CreateProcedure = 40
show_create_kind_row CreateFunction = 41
show_create_kind_row CreateTrigger = 42
show_create_kind_row CreateEvent = 43

-- the row in which the queries for keys and rows of a kind stand
abbrev pub row_query_kind_row : RowQueryKind → ℕ
row_query_kind_row Key = 44
row_query_kind_row KeyAbove = 45
row_query_kind_row Rows = 46
row_query_kind_row RowsByKey = 47
row_query_kind_row RowsAbove = 48
row_query_kind_row RowsUpTo = 49
row_query_kind_row RowsBetween = 50
row_query_kind_row WideKey = 51
row_query_kind_row WideKeyAbove = 52
row_query_kind_row RowsByWideKey = 53
row_query_kind_row RowsAboveWide = 54
row_query_kind_row RowsUpToWide = 55
row_query_kind_row RowsBetweenWide = 56

-- the row in which the queries for the progress of a kind stand
abbrev pub progress_kind_row : ProgressKind → ℕ
progress_kind_row ProgressDump = 57
progress_kind_row ProgressFiles = 58

-- the row in which the statements of a kind stand
abbrev pub kind_row : StatementKind → ℕ
kind_row (Setting kind) = setting_kind_row kind
kind_row (Transaction kind) = transaction_kind_row kind
kind_row (Load kind) = load_kind_row kind
kind_row (Catalogue kind) = catalogue_kind_row kind
kind_row (Stored kind) = stored_kind_row kind
kind_row (ShowCreate kind) = show_create_kind_row kind
kind_row (RowQuery kind) = row_query_kind_row kind
kind_row (Progress kind) = progress_kind_row kind
