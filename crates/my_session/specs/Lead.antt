-- The schema in which a query is asked.
use Rattle.std.specs.Prelude.{ℕ, List, Option, Some, None}
use Rattle.statement_forms.specs.declared.query.Query.{Query}
use Rattle.statement_forms.specs.declared.query.Query.TheVariants.{MasterStatus, BinaryLogStatus, Schemas, Tables, Columns, PrimaryKey, Triggers, Routines, ViewNeeds, Events, CreateDatabase, CreateTable, CreateView, CreateProcedure, CreateFunction, CreateTrigger, CreateEvent, Key, KeyAbove, Rows, RowsByKey, RowsAbove, RowsUpTo, RowsBetween, WideKey, WideKeyAbove, RowsByWideKey, RowsAboveWide, RowsUpToWide, RowsBetweenWide, ProgressDump, ProgressFiles}

-- SHOW CREATE of what stands in a schema is asked in that schema, and every other query in any
abbrev pub lead_of : Query → Option (List ℕ)
lead_of MasterStatus = None
lead_of BinaryLogStatus = None
lead_of Schemas = None
lead_of (Tables schema) = None
lead_of (Columns schema table) = None
lead_of (PrimaryKey schema table) = None
lead_of (Triggers schema) = None
lead_of (Routines schema) = None
lead_of (ViewNeeds schema) = None
lead_of (Events schema) = None
lead_of (CreateDatabase schema) = None
lead_of (CreateTable schema name) = Some schema
lead_of (CreateView schema name) = Some schema
lead_of (CreateProcedure schema name) = Some schema
lead_of (CreateFunction schema name) = Some schema
lead_of (CreateTrigger schema name) = Some schema
lead_of (CreateEvent schema name) = Some schema
lead_of (Key key schema table skipped) = None
lead_of (KeyAbove key schema table above skipped) = None
lead_of (Rows columns schema table) = None
lead_of (RowsByKey columns schema table key) = None
lead_of (RowsAbove columns schema table key above) = None
lead_of (RowsUpTo columns schema table key up_to) = None
lead_of (RowsBetween columns schema table key above up_to) = None
lead_of (WideKey keys schema table skipped) = None
lead_of (WideKeyAbove keys schema table above skipped) = None
lead_of (RowsByWideKey columns schema table keys) = None
lead_of (RowsAboveWide columns schema table keys above) = None
lead_of (RowsUpToWide columns schema table keys up_to) = None
lead_of (RowsBetweenWide columns schema table keys above up_to) = None
lead_of ProgressDump = None
lead_of ProgressFiles = None
