-- A statement by its row and its values.
use Rattle.std.proofs.Common.{◌≡◌, ℕ, ◌<◌, arith, List, [], ◌∷◌, get_or, refl, ℤ, pos}
use Rattle.statement_forms.specs.Statement.{list_row}
use Rattle.statement_forms.specs.declared.command.Command.TheVariants.{SetUp, NamesUtf8mb4, NamesBinary, ForeignKeyChecksOff, TimeZoneUtc, BinaryLogOff, SqlMode, CharacterSetClient, CollationConnection, RepeatableRead, TimeZone, LockInstance, FlushTables, UnlockTables, UnlockInstance, StartSnapshot, Start, Commit, Rollback, Use, Create, CreateProgress, CreateProgressFiles, CreateProgressDump, Insert, InsertProgressFile, InsertProgressDump}
use Rattle.statement_forms.specs.declared.query.Query.TheVariants.{MasterStatus, BinaryLogStatus, Schemas, Tables, Columns, PrimaryKey, Triggers, Routines, ViewNeeds, Events, CreateDatabase, CreateTable, CreateView, CreateProcedure, CreateFunction, CreateTrigger, CreateEvent, Key, KeyAbove, Rows, RowsByKey, RowsAbove, RowsUpTo, RowsBetween, WideKey, WideKeyAbove, RowsByWideKey, RowsAboveWide, RowsUpToWide, RowsBetweenWide, ProgressDump, ProgressFiles}
use Rattle.statement_forms.specs.declared.statement.Statement.{Statement}
use Rattle.statement_forms.specs.declared.statement.Statement.TheVariants.{Command as SomeCommand, Query as SomeQuery}

-- the values of the variable parts: up to three names or texts, names, up to two bounds, a count, and keys with up to two bounds of theirs
pub record Values : Type 0 where
  pub a : List ℕ
  pub b : List ℕ
  pub c : List ℕ
  pub columns : List (List ℕ)
  pub y : ℤ
  pub z : ℤ
  pub n : ℕ
  pub keys : List (List ℕ)
  pub above : List ℤ
  pub up_to : List ℤ

abbrev none : Values
none = record { a = []; b = []; c = []; columns = []; y = pos 0; z = pos 0; n = 0; keys = []; above = []; up_to = [] }

-- the values of a statement
abbrev pub values_of : Statement → Values
values_of (SomeCommand SetUp) = none
values_of (SomeCommand NamesUtf8mb4) = none
values_of (SomeCommand NamesBinary) = none
values_of (SomeCommand ForeignKeyChecksOff) = none
values_of (SomeCommand TimeZoneUtc) = none
values_of (SomeCommand BinaryLogOff) = none
values_of (SomeCommand (SqlMode a)) = record none { a = a }
values_of (SomeCommand (CharacterSetClient a)) = record none { a = a }
values_of (SomeCommand (CollationConnection a)) = record none { a = a }
values_of (SomeCommand RepeatableRead) = none
values_of (SomeCommand (TimeZone a)) = record none { a = a }
values_of (SomeCommand LockInstance) = none
values_of (SomeCommand FlushTables) = none
values_of (SomeCommand UnlockTables) = none
values_of (SomeCommand UnlockInstance) = none
values_of (SomeCommand StartSnapshot) = none
values_of (SomeCommand Start) = none
values_of (SomeCommand Commit) = none
values_of (SomeCommand Rollback) = none
values_of (SomeCommand (Use a)) = record none { a = a }
values_of (SomeCommand (Create a)) = record none { a = a }
values_of (SomeCommand CreateProgress) = none
values_of (SomeCommand CreateProgressFiles) = none
values_of (SomeCommand CreateProgressDump) = none
values_of (SomeCommand (Insert a)) = record none { a = a }
values_of (SomeCommand (InsertProgressFile a)) = record none { a = a }
values_of (SomeCommand (InsertProgressDump a)) = record none { a = a }
values_of (SomeQuery MasterStatus) = none
values_of (SomeQuery BinaryLogStatus) = none
values_of (SomeQuery Schemas) = none
values_of (SomeQuery (Tables a)) = record none { a = a }
values_of (SomeQuery (Columns a b)) = record none { a = a; b = b }
values_of (SomeQuery (PrimaryKey a b)) = record none { a = a; b = b }
values_of (SomeQuery (Triggers a)) = record none { a = a }
values_of (SomeQuery (Routines a)) = record none { a = a }
values_of (SomeQuery (ViewNeeds a)) = record none { a = a }
values_of (SomeQuery (Events a)) = record none { a = a }
values_of (SomeQuery (CreateDatabase a)) = record none { a = a }
values_of (SomeQuery (CreateTable a b)) = record none { a = a; b = b }
values_of (SomeQuery (CreateView a b)) = record none { a = a; b = b }
values_of (SomeQuery (CreateProcedure a b)) = record none { a = a; b = b }
values_of (SomeQuery (CreateFunction a b)) = record none { a = a; b = b }
values_of (SomeQuery (CreateTrigger a b)) = record none { a = a; b = b }
values_of (SomeQuery (CreateEvent a b)) = record none { a = a; b = b }
values_of (SomeQuery (Key a b c n)) = record none { a = a; b = b; c = c; n = n }
values_of (SomeQuery (KeyAbove a b c y n)) = record none { a = a; b = b; c = c; y = y; n = n }
values_of (SomeQuery (Rows columns a b)) = record none { columns = columns; a = a; b = b }
values_of (SomeQuery (RowsByKey columns a b c)) = record none { columns = columns; a = a; b = b; c = c }
values_of (SomeQuery (RowsAbove columns a b c y)) = record none { columns = columns; a = a; b = b; c = c; y = y }
values_of (SomeQuery (RowsUpTo columns a b c y)) = record none { columns = columns; a = a; b = b; c = c; y = y }
values_of (SomeQuery (RowsBetween columns a b c y z)) = record none { columns = columns; a = a; b = b; c = c; y = y; z = z }
values_of (SomeQuery (WideKey keys a b n)) = record none { keys = keys; a = a; b = b; n = n }
values_of (SomeQuery (WideKeyAbove keys a b above n)) = record none { keys = keys; a = a; b = b; above = above; n = n }
values_of (SomeQuery (RowsByWideKey columns a b keys)) = record none { columns = columns; a = a; b = b; keys = keys }
values_of (SomeQuery (RowsAboveWide columns a b keys above)) = record none { columns = columns; a = a; b = b; keys = keys; above = above }
values_of (SomeQuery (RowsUpToWide columns a b keys up_to)) = record none { columns = columns; a = a; b = b; keys = keys; up_to = up_to }
values_of (SomeQuery (RowsBetweenWide columns a b keys above up_to)) = record none { columns = columns; a = a; b = b; keys = keys; above = above; up_to = up_to }
values_of (SomeQuery ProgressDump) = none
values_of (SomeQuery ProgressFiles) = none

-- for each row, the statement of some values
abbrev builders : List (Values → Statement)
builders = (λ v. SomeCommand SetUp) ∷ (λ v. SomeCommand NamesUtf8mb4) ∷ (λ v. SomeCommand NamesBinary) ∷ (λ v. SomeCommand ForeignKeyChecksOff) ∷ (λ v. SomeCommand TimeZoneUtc) ∷ (λ v. SomeCommand BinaryLogOff) ∷ (λ v. SomeCommand (SqlMode v.a)) ∷ (λ v. SomeCommand (CharacterSetClient v.a)) ∷ (λ v. SomeCommand (CollationConnection v.a)) ∷ (λ v. SomeCommand RepeatableRead) ∷ (λ v. SomeCommand (TimeZone v.a)) ∷ (λ v. SomeCommand LockInstance) ∷ (λ v. SomeCommand FlushTables) ∷ (λ v. SomeCommand UnlockTables) ∷ (λ v. SomeCommand UnlockInstance) ∷ (λ v. SomeCommand StartSnapshot) ∷ (λ v. SomeCommand Start) ∷ (λ v. SomeCommand Commit) ∷ (λ v. SomeCommand Rollback) ∷ (λ v. SomeCommand (Use v.a)) ∷ (λ v. SomeCommand (Create v.a)) ∷ (λ v. SomeCommand CreateProgress) ∷ (λ v. SomeCommand CreateProgressFiles) ∷ (λ v. SomeCommand CreateProgressDump) ∷ (λ v. SomeCommand (Insert v.a)) ∷ (λ v. SomeCommand (InsertProgressFile v.a)) ∷ (λ v. SomeCommand (InsertProgressDump v.a)) ∷ (λ v. SomeQuery MasterStatus) ∷ (λ v. SomeQuery BinaryLogStatus) ∷ (λ v. SomeQuery Schemas) ∷ (λ v. SomeQuery (Tables v.a)) ∷ (λ v. SomeQuery (Columns v.a v.b)) ∷ (λ v. SomeQuery (PrimaryKey v.a v.b)) ∷ (λ v. SomeQuery (Triggers v.a)) ∷ (λ v. SomeQuery (Routines v.a)) ∷ (λ v. SomeQuery (ViewNeeds v.a)) ∷ (λ v. SomeQuery (Events v.a)) ∷ (λ v. SomeQuery (CreateDatabase v.a)) ∷ (λ v. SomeQuery (CreateTable v.a v.b)) ∷ (λ v. SomeQuery (CreateView v.a v.b)) ∷ (λ v. SomeQuery (CreateProcedure v.a v.b)) ∷ (λ v. SomeQuery (CreateFunction v.a v.b)) ∷ (λ v. SomeQuery (CreateTrigger v.a v.b)) ∷ (λ v. SomeQuery (CreateEvent v.a v.b)) ∷ (λ v. SomeQuery (Key v.a v.b v.c v.n)) ∷ (λ v. SomeQuery (KeyAbove v.a v.b v.c v.y v.n)) ∷ (λ v. SomeQuery (Rows v.columns v.a v.b)) ∷ (λ v. SomeQuery (RowsByKey v.columns v.a v.b v.c)) ∷ (λ v. SomeQuery (RowsAbove v.columns v.a v.b v.c v.y)) ∷ (λ v. SomeQuery (RowsUpTo v.columns v.a v.b v.c v.y)) ∷ (λ v. SomeQuery (RowsBetween v.columns v.a v.b v.c v.y v.z)) ∷ (λ v. SomeQuery (WideKey v.keys v.a v.b v.n)) ∷ (λ v. SomeQuery (WideKeyAbove v.keys v.a v.b v.above v.n)) ∷ (λ v. SomeQuery (RowsByWideKey v.columns v.a v.b v.keys)) ∷ (λ v. SomeQuery (RowsAboveWide v.columns v.a v.b v.keys v.above)) ∷ (λ v. SomeQuery (RowsUpToWide v.columns v.a v.b v.keys v.up_to)) ∷ (λ v. SomeQuery (RowsBetweenWide v.columns v.a v.b v.keys v.above v.up_to)) ∷ (λ v. SomeQuery ProgressDump) ∷ (λ v. SomeQuery ProgressFiles) ∷ []

abbrev pub statement_at : ℕ → Values → Statement
statement_at row values = get_or builders row (λ v. SomeCommand SetUp) values

-- A statement is that of its values in its row.
pub rebuilt : (s : Statement) → statement_at (list_row s) (values_of s) ≡ s
rebuilt (SomeCommand SetUp) = refl
rebuilt (SomeCommand NamesUtf8mb4) = refl
rebuilt (SomeCommand NamesBinary) = refl
rebuilt (SomeCommand ForeignKeyChecksOff) = refl
rebuilt (SomeCommand TimeZoneUtc) = refl
rebuilt (SomeCommand BinaryLogOff) = refl
rebuilt (SomeCommand (SqlMode a)) = refl
rebuilt (SomeCommand (CharacterSetClient a)) = refl
rebuilt (SomeCommand (CollationConnection a)) = refl
rebuilt (SomeCommand RepeatableRead) = refl
rebuilt (SomeCommand (TimeZone a)) = refl
rebuilt (SomeCommand LockInstance) = refl
rebuilt (SomeCommand FlushTables) = refl
rebuilt (SomeCommand UnlockTables) = refl
rebuilt (SomeCommand UnlockInstance) = refl
rebuilt (SomeCommand StartSnapshot) = refl
rebuilt (SomeCommand Start) = refl
rebuilt (SomeCommand Commit) = refl
rebuilt (SomeCommand Rollback) = refl
rebuilt (SomeCommand (Use a)) = refl
rebuilt (SomeCommand (Create a)) = refl
rebuilt (SomeCommand CreateProgress) = refl
rebuilt (SomeCommand CreateProgressFiles) = refl
rebuilt (SomeCommand CreateProgressDump) = refl
rebuilt (SomeCommand (Insert a)) = refl
rebuilt (SomeCommand (InsertProgressFile a)) = refl
rebuilt (SomeCommand (InsertProgressDump a)) = refl
rebuilt (SomeQuery MasterStatus) = refl
rebuilt (SomeQuery BinaryLogStatus) = refl
rebuilt (SomeQuery Schemas) = refl
rebuilt (SomeQuery (Tables a)) = refl
rebuilt (SomeQuery (Columns a b)) = refl
rebuilt (SomeQuery (PrimaryKey a b)) = refl
rebuilt (SomeQuery (Triggers a)) = refl
rebuilt (SomeQuery (Routines a)) = refl
rebuilt (SomeQuery (ViewNeeds a)) = refl
rebuilt (SomeQuery (Events a)) = refl
rebuilt (SomeQuery (CreateDatabase a)) = refl
rebuilt (SomeQuery (CreateTable a b)) = refl
rebuilt (SomeQuery (CreateView a b)) = refl
rebuilt (SomeQuery (CreateProcedure a b)) = refl
rebuilt (SomeQuery (CreateFunction a b)) = refl
rebuilt (SomeQuery (CreateTrigger a b)) = refl
rebuilt (SomeQuery (CreateEvent a b)) = refl
rebuilt (SomeQuery (Key a b c n)) = refl
rebuilt (SomeQuery (KeyAbove a b c y n)) = refl
rebuilt (SomeQuery (Rows columns a b)) = refl
rebuilt (SomeQuery (RowsByKey columns a b c)) = refl
rebuilt (SomeQuery (RowsAbove columns a b c y)) = refl
rebuilt (SomeQuery (RowsUpTo columns a b c y)) = refl
rebuilt (SomeQuery (RowsBetween columns a b c y z)) = refl
rebuilt (SomeQuery (WideKey keys a b n)) = refl
rebuilt (SomeQuery (WideKeyAbove keys a b above n)) = refl
rebuilt (SomeQuery (RowsByWideKey columns a b keys)) = refl
rebuilt (SomeQuery (RowsAboveWide columns a b keys above)) = refl
rebuilt (SomeQuery (RowsUpToWide columns a b keys up_to)) = refl
rebuilt (SomeQuery (RowsBetweenWide columns a b keys above up_to)) = refl
rebuilt (SomeQuery ProgressDump) = refl
rebuilt (SomeQuery ProgressFiles) = refl

-- There are 59 rows.
pub below_59 : (s : Statement) → list_row s < 59
below_59 (SomeCommand SetUp) = omega arith
below_59 (SomeCommand NamesUtf8mb4) = omega arith
below_59 (SomeCommand NamesBinary) = omega arith
below_59 (SomeCommand ForeignKeyChecksOff) = omega arith
below_59 (SomeCommand TimeZoneUtc) = omega arith
below_59 (SomeCommand BinaryLogOff) = omega arith
below_59 (SomeCommand (SqlMode a)) = omega arith
below_59 (SomeCommand (CharacterSetClient a)) = omega arith
below_59 (SomeCommand (CollationConnection a)) = omega arith
below_59 (SomeCommand RepeatableRead) = omega arith
below_59 (SomeCommand (TimeZone a)) = omega arith
below_59 (SomeCommand LockInstance) = omega arith
below_59 (SomeCommand FlushTables) = omega arith
below_59 (SomeCommand UnlockTables) = omega arith
below_59 (SomeCommand UnlockInstance) = omega arith
below_59 (SomeCommand StartSnapshot) = omega arith
below_59 (SomeCommand Start) = omega arith
below_59 (SomeCommand Commit) = omega arith
below_59 (SomeCommand Rollback) = omega arith
below_59 (SomeCommand (Use a)) = omega arith
below_59 (SomeCommand (Create a)) = omega arith
below_59 (SomeCommand CreateProgress) = omega arith
below_59 (SomeCommand CreateProgressFiles) = omega arith
below_59 (SomeCommand CreateProgressDump) = omega arith
below_59 (SomeCommand (Insert a)) = omega arith
below_59 (SomeCommand (InsertProgressFile a)) = omega arith
below_59 (SomeCommand (InsertProgressDump a)) = omega arith
below_59 (SomeQuery MasterStatus) = omega arith
below_59 (SomeQuery BinaryLogStatus) = omega arith
below_59 (SomeQuery Schemas) = omega arith
below_59 (SomeQuery (Tables a)) = omega arith
below_59 (SomeQuery (Columns a b)) = omega arith
below_59 (SomeQuery (PrimaryKey a b)) = omega arith
below_59 (SomeQuery (Triggers a)) = omega arith
below_59 (SomeQuery (Routines a)) = omega arith
below_59 (SomeQuery (ViewNeeds a)) = omega arith
below_59 (SomeQuery (Events a)) = omega arith
below_59 (SomeQuery (CreateDatabase a)) = omega arith
below_59 (SomeQuery (CreateTable a b)) = omega arith
below_59 (SomeQuery (CreateView a b)) = omega arith
below_59 (SomeQuery (CreateProcedure a b)) = omega arith
below_59 (SomeQuery (CreateFunction a b)) = omega arith
below_59 (SomeQuery (CreateTrigger a b)) = omega arith
below_59 (SomeQuery (CreateEvent a b)) = omega arith
below_59 (SomeQuery (Key a b c n)) = omega arith
below_59 (SomeQuery (KeyAbove a b c y n)) = omega arith
below_59 (SomeQuery (Rows columns a b)) = omega arith
below_59 (SomeQuery (RowsByKey columns a b c)) = omega arith
below_59 (SomeQuery (RowsAbove columns a b c y)) = omega arith
below_59 (SomeQuery (RowsUpTo columns a b c y)) = omega arith
below_59 (SomeQuery (RowsBetween columns a b c y z)) = omega arith
below_59 (SomeQuery (WideKey keys a b n)) = omega arith
below_59 (SomeQuery (WideKeyAbove keys a b above n)) = omega arith
below_59 (SomeQuery (RowsByWideKey columns a b keys)) = omega arith
below_59 (SomeQuery (RowsAboveWide columns a b keys above)) = omega arith
below_59 (SomeQuery (RowsUpToWide columns a b keys up_to)) = omega arith
below_59 (SomeQuery (RowsBetweenWide columns a b keys above up_to)) = omega arith
below_59 (SomeQuery ProgressDump) = omega arith
below_59 (SomeQuery ProgressFiles) = omega arith
