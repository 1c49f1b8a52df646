-- The rows of the statements whose forms several have.
use Rattle.std.proofs.Common.{◌≡◌, ℕ, List, [], ◌++◌, refl, sym, ◌∙◌, append-nil, codes}
use Rattle.object_forms.specs.Head.{HasHead}
use Rattle.sql_cells.specs.Literal.{text_literal}
use Rattle.sql_cells.specs.Name.{quoted_name}
use Rattle.statement_forms.specs.Insert.{AnyInsert}
use Rattle.statement_forms.specs.Statement.{IsTextOf, IsDigest, list_row}
use Rattle.statement_forms.specs.Text.{dotted, command_text, query_text}
use Rattle.statement_forms.specs.declared.command.Command.TheVariants.{SetUp, NamesUtf8mb4, NamesBinary, ForeignKeyChecksOff, TimeZoneUtc, BinaryLogOff, SqlMode, CharacterSetClient, CollationConnection, RepeatableRead, TimeZone, LockInstance, FlushTables, UnlockTables, UnlockInstance, StartSnapshot, Start, Commit, Rollback, Use, Create, CreateProgress, CreateProgressFiles, CreateProgressDump, Insert, InsertProgressFile, InsertProgressDump}
use Rattle.statement_forms.specs.declared.query.Query.TheVariants.{MasterStatus, BinaryLogStatus, Schemas, Tables, Columns, PrimaryKey, Triggers, Routines, ViewNeeds, Events, CreateDatabase, CreateTable, CreateView, CreateProcedure, CreateFunction, CreateTrigger, CreateEvent, ProgressDump, ProgressFiles}
use Rattle.statement_reading.specs.declared.reading.values.Path.{Path}
use Rattle.statement_forms.specs.declared.statement.Statement.{Statement}
use Rattle.statement_forms.specs.declared.statement.Statement.TheVariants.{Command as SomeCommand, Query as SomeQuery}
use Rattle.statement_reading.proofs.RowValues.{values_of}
use Rattle.statement_reading.proofs.Rows.{Row, made_of}
use Rattle.statement_reading.proofs.TextValues.{digest_spelled}

fixed_row : (n : ℕ) (s : Statement) (w : List ℕ) → ((u : Statement) → list_row u ≡ n → u ≡ s) → list_row s ≡ n → ((t : List ℕ) → IsTextOf s t → t ≡ w) → ((t : List ℕ) → t ≡ w → IsTextOf s t) → Row n (λ (nothing : Unit {0}). s) (λ nothing t. t ≡ w)
fixed_row n s w all row to from = record { all = λ u e. (tt, all u e); row = λ nothing. row; to = λ nothing t h. to t h; from = λ nothing t h. from t h }

pub set_up_row : Row 0 (λ (nothing : Unit {0}). SomeCommand SetUp) (λ nothing t. t ≡ codes "SET SESSION autocommit=1,sql_mode='NO_AUTO_VALUE_ON_ZERO',time_zone='+00:00',wait_timeout=2147483,sql_quote_show_create=1,foreign_key_checks=0")
unfolding command_text
set_up_row = fixed_row 0 (SomeCommand SetUp) (codes "SET SESSION autocommit=1,sql_mode='NO_AUTO_VALUE_ON_ZERO',time_zone='+00:00',wait_timeout=2147483,sql_quote_show_create=1,foreign_key_checks=0") (λ u e. made_of 0 u e) refl (λ t h. h.1) (λ t is. (tt, is))

pub names_utf8mb4_row : Row 1 (λ (nothing : Unit {0}). SomeCommand NamesUtf8mb4) (λ nothing t. t ≡ codes "SET NAMES utf8mb4")
unfolding command_text
names_utf8mb4_row = fixed_row 1 (SomeCommand NamesUtf8mb4) (codes "SET NAMES utf8mb4") (λ u e. made_of 1 u e) refl (λ t h. h.1) (λ t is. (tt, is))

pub names_binary_row : Row 2 (λ (nothing : Unit {0}). SomeCommand NamesBinary) (λ nothing t. t ≡ codes "SET NAMES binary")
unfolding command_text
names_binary_row = fixed_row 2 (SomeCommand NamesBinary) (codes "SET NAMES binary") (λ u e. made_of 2 u e) refl (λ t h. h.1) (λ t is. (tt, is))

pub foreign_key_checks_off_row : Row 3 (λ (nothing : Unit {0}). SomeCommand ForeignKeyChecksOff) (λ nothing t. t ≡ codes "SET FOREIGN_KEY_CHECKS=0")
unfolding command_text
foreign_key_checks_off_row = fixed_row 3 (SomeCommand ForeignKeyChecksOff) (codes "SET FOREIGN_KEY_CHECKS=0") (λ u e. made_of 3 u e) refl (λ t h. h.1) (λ t is. (tt, is))

pub time_zone_utc_row : Row 4 (λ (nothing : Unit {0}). SomeCommand TimeZoneUtc) (λ nothing t. t ≡ codes "SET TIME_ZONE='+00:00'")
unfolding command_text
time_zone_utc_row = fixed_row 4 (SomeCommand TimeZoneUtc) (codes "SET TIME_ZONE='+00:00'") (λ u e. made_of 4 u e) refl (λ t h. h.1) (λ t is. (tt, is))

pub binary_log_off_row : Row 5 (λ (nothing : Unit {0}). SomeCommand BinaryLogOff) (λ nothing t. t ≡ codes "SET SESSION sql_log_bin=0")
unfolding command_text
binary_log_off_row = fixed_row 5 (SomeCommand BinaryLogOff) (codes "SET SESSION sql_log_bin=0") (λ u e. made_of 5 u e) refl (λ t h. h.1) (λ t is. (tt, is))

pub sql_mode_row : Row 6 (λ (v : List ℕ). SomeCommand (SqlMode v)) (λ v t. t ≡ codes "SET SESSION sql_mode=" ++ text_literal v ++ [])
unfolding command_text
sql_mode_row = record {
  all = λ s e. ((values_of s).a, made_of 6 s e);
  row = λ v. refl;
  to = λ v t h. h.1 ∙ sym (append-nil (codes "SET SESSION sql_mode=" ++ text_literal v));
  from = λ v t h. (tt, (h ∙ append-nil (codes "SET SESSION sql_mode=" ++ text_literal v)));
}

pub character_set_client_row : Row 7 (λ (v : List ℕ). SomeCommand (CharacterSetClient v)) (λ v t. t ≡ codes "SET SESSION character_set_client=" ++ text_literal v ++ [])
unfolding command_text
character_set_client_row = record {
  all = λ s e. ((values_of s).a, made_of 7 s e);
  row = λ v. refl;
  to = λ v t h. h.1 ∙ sym (append-nil (codes "SET SESSION character_set_client=" ++ text_literal v));
  from = λ v t h. (tt, (h ∙ append-nil (codes "SET SESSION character_set_client=" ++ text_literal v)));
}

pub collation_connection_row : Row 8 (λ (v : List ℕ). SomeCommand (CollationConnection v)) (λ v t. t ≡ codes "SET SESSION collation_connection=" ++ text_literal v ++ [])
unfolding command_text
collation_connection_row = record {
  all = λ s e. ((values_of s).a, made_of 8 s e);
  row = λ v. refl;
  to = λ v t h. h.1 ∙ sym (append-nil (codes "SET SESSION collation_connection=" ++ text_literal v));
  from = λ v t h. (tt, (h ∙ append-nil (codes "SET SESSION collation_connection=" ++ text_literal v)));
}

pub repeatable_read_row : Row 9 (λ (nothing : Unit {0}). SomeCommand RepeatableRead) (λ nothing t. t ≡ codes "SET SESSION TRANSACTION ISOLATION LEVEL REPEATABLE READ")
unfolding command_text
repeatable_read_row = fixed_row 9 (SomeCommand RepeatableRead) (codes "SET SESSION TRANSACTION ISOLATION LEVEL REPEATABLE READ") (λ u e. made_of 9 u e) refl (λ t h. h.1) (λ t is. (tt, is))

pub time_zone_row : Row 10 (λ (v : List ℕ). SomeCommand (TimeZone v)) (λ v t. t ≡ codes "SET TIME_ZONE=" ++ text_literal v ++ [])
unfolding command_text
time_zone_row = record {
  all = λ s e. ((values_of s).a, made_of 10 s e);
  row = λ v. refl;
  to = λ v t h. h.1 ∙ sym (append-nil (codes "SET TIME_ZONE=" ++ text_literal v));
  from = λ v t h. (tt, (h ∙ append-nil (codes "SET TIME_ZONE=" ++ text_literal v)));
}

pub lock_instance_row : Row 11 (λ (nothing : Unit {0}). SomeCommand LockInstance) (λ nothing t. t ≡ codes "LOCK INSTANCE FOR BACKUP")
unfolding command_text
lock_instance_row = fixed_row 11 (SomeCommand LockInstance) (codes "LOCK INSTANCE FOR BACKUP") (λ u e. made_of 11 u e) refl (λ t h. h.1) (λ t is. (tt, is))

pub flush_tables_row : Row 12 (λ (nothing : Unit {0}). SomeCommand FlushTables) (λ nothing t. t ≡ codes "FLUSH TABLES WITH READ LOCK")
unfolding command_text
flush_tables_row = fixed_row 12 (SomeCommand FlushTables) (codes "FLUSH TABLES WITH READ LOCK") (λ u e. made_of 12 u e) refl (λ t h. h.1) (λ t is. (tt, is))

pub unlock_tables_row : Row 13 (λ (nothing : Unit {0}). SomeCommand UnlockTables) (λ nothing t. t ≡ codes "UNLOCK TABLES")
unfolding command_text
unlock_tables_row = fixed_row 13 (SomeCommand UnlockTables) (codes "UNLOCK TABLES") (λ u e. made_of 13 u e) refl (λ t h. h.1) (λ t is. (tt, is))

pub unlock_instance_row : Row 14 (λ (nothing : Unit {0}). SomeCommand UnlockInstance) (λ nothing t. t ≡ codes "UNLOCK INSTANCE")
unfolding command_text
unlock_instance_row = fixed_row 14 (SomeCommand UnlockInstance) (codes "UNLOCK INSTANCE") (λ u e. made_of 14 u e) refl (λ t h. h.1) (λ t is. (tt, is))

pub start_snapshot_row : Row 15 (λ (nothing : Unit {0}). SomeCommand StartSnapshot) (λ nothing t. t ≡ codes "START TRANSACTION WITH CONSISTENT SNAPSHOT")
unfolding command_text
start_snapshot_row = fixed_row 15 (SomeCommand StartSnapshot) (codes "START TRANSACTION WITH CONSISTENT SNAPSHOT") (λ u e. made_of 15 u e) refl (λ t h. h.1) (λ t is. (tt, is))

pub start_row : Row 16 (λ (nothing : Unit {0}). SomeCommand Start) (λ nothing t. t ≡ codes "START TRANSACTION")
unfolding command_text
start_row = fixed_row 16 (SomeCommand Start) (codes "START TRANSACTION") (λ u e. made_of 16 u e) refl (λ t h. h.1) (λ t is. (tt, is))

pub commit_row : Row 17 (λ (nothing : Unit {0}). SomeCommand Commit) (λ nothing t. t ≡ codes "COMMIT")
unfolding command_text
commit_row = fixed_row 17 (SomeCommand Commit) (codes "COMMIT") (λ u e. made_of 17 u e) refl (λ t h. h.1) (λ t is. (tt, is))

pub rollback_row : Row 18 (λ (nothing : Unit {0}). SomeCommand Rollback) (λ nothing t. t ≡ codes "ROLLBACK")
unfolding command_text
rollback_row = fixed_row 18 (SomeCommand Rollback) (codes "ROLLBACK") (λ u e. made_of 18 u e) refl (λ t h. h.1) (λ t is. (tt, is))

pub use_row : Row 19 (λ (v : List ℕ). SomeCommand (Use v)) (λ v t. t ≡ codes "USE " ++ quoted_name v)
unfolding command_text
use_row = record {
  all = λ s e. ((values_of s).a, made_of 19 s e);
  row = λ v. refl;
  to = λ v t h. h.1;
  from = λ v t h. (tt, h);
}

pub create_row : Row 20 (λ (v : List ℕ). SomeCommand (Create v)) (λ v t. HasHead v × (t ≡ v))
unfolding command_text
create_row = record {
  all = λ s e. ((values_of s).a, made_of 20 s e);
  row = λ v. refl;
  to = λ v t h. h;
  from = λ v t h. h;
}

pub create_progress_row : Row 21 (λ (nothing : Unit {0}). SomeCommand CreateProgress) (λ nothing t. t ≡ codes "CREATE DATABASE `myloader_progress`")
unfolding command_text
create_progress_row = fixed_row 21 (SomeCommand CreateProgress) (codes "CREATE DATABASE `myloader_progress`") (λ u e. made_of 21 u e) refl (λ t h. h.1) (λ t is. (tt, is))

pub create_progress_files_row : Row 22 (λ (nothing : Unit {0}). SomeCommand CreateProgressFiles) (λ nothing t. t ≡ codes "CREATE TABLE `myloader_progress`.`files` (`name` varbinary(255) NOT NULL, PRIMARY KEY (`name`)) ENGINE=InnoDB")
unfolding command_text
create_progress_files_row = fixed_row 22 (SomeCommand CreateProgressFiles) (codes "CREATE TABLE `myloader_progress`.`files` (`name` varbinary(255) NOT NULL, PRIMARY KEY (`name`)) ENGINE=InnoDB") (λ u e. made_of 22 u e) refl (λ t h. h.1) (λ t is. (tt, is))

pub create_progress_dump_row : Row 23 (λ (nothing : Unit {0}). SomeCommand CreateProgressDump) (λ nothing t. t ≡ codes "CREATE TABLE `myloader_progress`.`dump` (`digest` char(40) NOT NULL) ENGINE=InnoDB")
unfolding command_text
create_progress_dump_row = fixed_row 23 (SomeCommand CreateProgressDump) (codes "CREATE TABLE `myloader_progress`.`dump` (`digest` char(40) NOT NULL) ENGINE=InnoDB") (λ u e. made_of 23 u e) refl (λ t h. h.1) (λ t is. (tt, is))

pub insert_row : Row 24 (λ (v : List ℕ). SomeCommand (Insert v)) (λ v t. AnyInsert v × (t ≡ v))
unfolding command_text
insert_row = record {
  all = λ s e. ((values_of s).a, made_of 24 s e);
  row = λ v. refl;
  to = λ v t h. h;
  from = λ v t h. h;
}

pub insert_progress_file_row : Row 25 (λ (v : List ℕ). SomeCommand (InsertProgressFile v)) (λ v t. t ≡ codes "INSERT INTO `myloader_progress`.`files` (`name`) VALUES (" ++ text_literal v ++ codes ")")
unfolding command_text
insert_progress_file_row = record {
  all = λ s e. ((values_of s).a, made_of 25 s e);
  row = λ v. refl;
  to = λ v t h. h.1;
  from = λ v t h. (tt, (h));
}

pub insert_progress_dump_row : Row 26 (λ (v : List ℕ). SomeCommand (InsertProgressDump v)) (λ v t. IsDigest v × (t ≡ codes "INSERT INTO `myloader_progress`.`dump` (`digest`) VALUES ('" ++ v ++ codes "')"))
unfolding command_text
insert_progress_dump_row = record {
  all = λ s e. ((values_of s).a, made_of 26 s e);
  row = λ v. refl;
  to = λ v t h. (h.0, h.1 ∙ digest_spelled (codes "INSERT INTO `myloader_progress`.`dump` (`digest`) VALUES (") v (codes ")") h.0);
  from = λ v t h. (h.0, h.1 ∙ sym (digest_spelled (codes "INSERT INTO `myloader_progress`.`dump` (`digest`) VALUES (") v (codes ")") h.0));
}

pub master_status_row : Row 27 (λ (nothing : Unit {0}). SomeQuery MasterStatus) (λ nothing t. t ≡ codes "SHOW MASTER STATUS")
unfolding query_text
master_status_row = fixed_row 27 (SomeQuery MasterStatus) (codes "SHOW MASTER STATUS") (λ u e. made_of 27 u e) refl (λ t h. h.2) (λ t is. (tt, tt, is))

pub binary_log_status_row : Row 28 (λ (nothing : Unit {0}). SomeQuery BinaryLogStatus) (λ nothing t. t ≡ codes "SHOW BINARY LOG STATUS")
unfolding query_text
binary_log_status_row = fixed_row 28 (SomeQuery BinaryLogStatus) (codes "SHOW BINARY LOG STATUS") (λ u e. made_of 28 u e) refl (λ t h. h.2) (λ t is. (tt, tt, is))

pub schemas_row : Row 29 (λ (nothing : Unit {0}). SomeQuery Schemas) (λ nothing t. t ≡ codes "SELECT SCHEMA_NAME FROM information_schema.SCHEMATA")
unfolding query_text
schemas_row = fixed_row 29 (SomeQuery Schemas) (codes "SELECT SCHEMA_NAME FROM information_schema.SCHEMATA") (λ u e. made_of 29 u e) refl (λ t h. h.2) (λ t is. (tt, tt, is))

pub tables_row : Row 30 (λ (v : List ℕ). SomeQuery (Tables v)) (λ v t. t ≡ codes "SELECT TABLE_NAME,TABLE_TYPE,ENGINE FROM information_schema.TABLES WHERE TABLE_SCHEMA=" ++ text_literal v ++ [])
unfolding query_text
tables_row = record {
  all = λ s e. ((values_of s).a, made_of 30 s e);
  row = λ v. refl;
  to = λ v t h. h.2 ∙ sym (append-nil (codes "SELECT TABLE_NAME,TABLE_TYPE,ENGINE FROM information_schema.TABLES WHERE TABLE_SCHEMA=" ++ text_literal v));
  from = λ v t h. (tt, tt, (h ∙ append-nil (codes "SELECT TABLE_NAME,TABLE_TYPE,ENGINE FROM information_schema.TABLES WHERE TABLE_SCHEMA=" ++ text_literal v)));
}

pub columns_row : Row 31 (λ (v : Path). SomeQuery (Columns v.schema v.name)) (λ v t. t ≡ codes "SELECT COLUMN_NAME,DATA_TYPE,COLUMN_TYPE,EXTRA FROM information_schema.COLUMNS WHERE TABLE_SCHEMA=" ++ text_literal v.schema ++ codes " AND TABLE_NAME=" ++ text_literal v.name ++ codes " ORDER BY ORDINAL_POSITION")
unfolding query_text
columns_row = record {
  all = λ s e. (record { schema = (values_of s).a; name = (values_of s).b }, made_of 31 s e);
  row = λ v. refl;
  to = λ v t h. h.2;
  from = λ v t h. (tt, tt, h);
}

pub primary_key_row : Row 32 (λ (v : Path). SomeQuery (PrimaryKey v.schema v.name)) (λ v t. t ≡ codes "SELECT COLUMN_NAME FROM information_schema.STATISTICS WHERE TABLE_SCHEMA=" ++ text_literal v.schema ++ codes " AND TABLE_NAME=" ++ text_literal v.name ++ codes " AND INDEX_NAME='PRIMARY' ORDER BY SEQ_IN_INDEX")
unfolding query_text
primary_key_row = record {
  all = λ s e. (record { schema = (values_of s).a; name = (values_of s).b }, made_of 32 s e);
  row = λ v. refl;
  to = λ v t h. h.2;
  from = λ v t h. (tt, tt, h);
}

pub triggers_row : Row 33 (λ (v : List ℕ). SomeQuery (Triggers v)) (λ v t. t ≡ codes "SELECT TRIGGER_NAME,EVENT_OBJECT_TABLE,ACTION_ORDER FROM information_schema.TRIGGERS WHERE TRIGGER_SCHEMA=" ++ text_literal v ++ [])
unfolding query_text
triggers_row = record {
  all = λ s e. ((values_of s).a, made_of 33 s e);
  row = λ v. refl;
  to = λ v t h. h.2 ∙ sym (append-nil (codes "SELECT TRIGGER_NAME,EVENT_OBJECT_TABLE,ACTION_ORDER FROM information_schema.TRIGGERS WHERE TRIGGER_SCHEMA=" ++ text_literal v));
  from = λ v t h. (tt, tt, (h ∙ append-nil (codes "SELECT TRIGGER_NAME,EVENT_OBJECT_TABLE,ACTION_ORDER FROM information_schema.TRIGGERS WHERE TRIGGER_SCHEMA=" ++ text_literal v)));
}

pub routines_row : Row 34 (λ (v : List ℕ). SomeQuery (Routines v)) (λ v t. t ≡ codes "SELECT ROUTINE_NAME,ROUTINE_TYPE FROM information_schema.ROUTINES WHERE ROUTINE_SCHEMA=" ++ text_literal v ++ [])
unfolding query_text
routines_row = record {
  all = λ s e. ((values_of s).a, made_of 34 s e);
  row = λ v. refl;
  to = λ v t h. h.2 ∙ sym (append-nil (codes "SELECT ROUTINE_NAME,ROUTINE_TYPE FROM information_schema.ROUTINES WHERE ROUTINE_SCHEMA=" ++ text_literal v));
  from = λ v t h. (tt, tt, (h ∙ append-nil (codes "SELECT ROUTINE_NAME,ROUTINE_TYPE FROM information_schema.ROUTINES WHERE ROUTINE_SCHEMA=" ++ text_literal v)));
}

pub view_needs_row : Row 35 (λ (v : List ℕ). SomeQuery (ViewNeeds v)) (λ v t. t ≡ codes "SELECT VIEW_NAME,TABLE_SCHEMA,TABLE_NAME FROM information_schema.VIEW_TABLE_USAGE WHERE VIEW_SCHEMA=" ++ text_literal v ++ [])
unfolding query_text
view_needs_row = record {
  all = λ s e. ((values_of s).a, made_of 35 s e);
  row = λ v. refl;
  to = λ v t h. h.2 ∙ sym (append-nil (codes "SELECT VIEW_NAME,TABLE_SCHEMA,TABLE_NAME FROM information_schema.VIEW_TABLE_USAGE WHERE VIEW_SCHEMA=" ++ text_literal v));
  from = λ v t h. (tt, tt, (h ∙ append-nil (codes "SELECT VIEW_NAME,TABLE_SCHEMA,TABLE_NAME FROM information_schema.VIEW_TABLE_USAGE WHERE VIEW_SCHEMA=" ++ text_literal v)));
}

pub events_row : Row 36 (λ (v : List ℕ). SomeQuery (Events v)) (λ v t. t ≡ codes "SELECT EVENT_NAME FROM information_schema.EVENTS WHERE EVENT_SCHEMA=" ++ text_literal v ++ [])
unfolding query_text
events_row = record {
  all = λ s e. ((values_of s).a, made_of 36 s e);
  row = λ v. refl;
  to = λ v t h. h.2 ∙ sym (append-nil (codes "SELECT EVENT_NAME FROM information_schema.EVENTS WHERE EVENT_SCHEMA=" ++ text_literal v));
  from = λ v t h. (tt, tt, (h ∙ append-nil (codes "SELECT EVENT_NAME FROM information_schema.EVENTS WHERE EVENT_SCHEMA=" ++ text_literal v)));
}

pub create_database_row : Row 37 (λ (v : List ℕ). SomeQuery (CreateDatabase v)) (λ v t. t ≡ codes "SHOW CREATE DATABASE " ++ quoted_name v)
unfolding query_text
create_database_row = record {
  all = λ s e. ((values_of s).a, made_of 37 s e);
  row = λ v. refl;
  to = λ v t h. h.2;
  from = λ v t h. (tt, tt, h);
}

pub create_table_row : Row 38 (λ (v : Path). SomeQuery (CreateTable v.schema v.name)) (λ v t. t ≡ codes "SHOW CREATE TABLE " ++ dotted v.schema v.name)
unfolding query_text
create_table_row = record {
  all = λ s e. (record { schema = (values_of s).a; name = (values_of s).b }, made_of 38 s e);
  row = λ v. refl;
  to = λ v t h. h.2;
  from = λ v t h. (tt, tt, h);
}

pub create_view_row : Row 39 (λ (v : Path). SomeQuery (CreateView v.schema v.name)) (λ v t. t ≡ codes "SHOW CREATE VIEW " ++ dotted v.schema v.name)
unfolding query_text
create_view_row = record {
  all = λ s e. (record { schema = (values_of s).a; name = (values_of s).b }, made_of 39 s e);
  row = λ v. refl;
  to = λ v t h. h.2;
  from = λ v t h. (tt, tt, h);
}

pub create_procedure_row : Row 40 (λ (v : Path). SomeQuery (CreateProcedure v.schema v.name)) (λ v t. t ≡ codes "SHOW CREATE PROCEDURE " ++ dotted v.schema v.name)
unfolding query_text
create_procedure_row = record {
  all = λ s e. (record { schema = (values_of s).a; name = (values_of s).b }, made_of 40 s e);
  row = λ v. refl;
  to = λ v t h. h.2;
  from = λ v t h. (tt, tt, h);
}

pub create_function_row : Row 41 (λ (v : Path). SomeQuery (CreateFunction v.schema v.name)) (λ v t. t ≡ codes "SHOW CREATE FUNCTION " ++ dotted v.schema v.name)
unfolding query_text
create_function_row = record {
  all = λ s e. (record { schema = (values_of s).a; name = (values_of s).b }, made_of 41 s e);
  row = λ v. refl;
  to = λ v t h. h.2;
  from = λ v t h. (tt, tt, h);
}

pub create_trigger_row : Row 42 (λ (v : Path). SomeQuery (CreateTrigger v.schema v.name)) (λ v t. t ≡ codes "SHOW CREATE TRIGGER " ++ dotted v.schema v.name)
unfolding query_text
create_trigger_row = record {
  all = λ s e. (record { schema = (values_of s).a; name = (values_of s).b }, made_of 42 s e);
  row = λ v. refl;
  to = λ v t h. h.2;
  from = λ v t h. (tt, tt, h);
}

pub create_event_row : Row 43 (λ (v : Path). SomeQuery (CreateEvent v.schema v.name)) (λ v t. t ≡ codes "SHOW CREATE EVENT " ++ dotted v.schema v.name)
unfolding query_text
create_event_row = record {
  all = λ s e. (record { schema = (values_of s).a; name = (values_of s).b }, made_of 43 s e);
  row = λ v. refl;
  to = λ v t h. h.2;
  from = λ v t h. (tt, tt, h);
}

pub progress_dump_row : Row 57 (λ (nothing : Unit {0}). SomeQuery ProgressDump) (λ nothing t. t ≡ codes "SELECT `digest` FROM `myloader_progress`.`dump`")
unfolding query_text
progress_dump_row = fixed_row 57 (SomeQuery ProgressDump) (codes "SELECT `digest` FROM `myloader_progress`.`dump`") (λ u e. made_of 57 u e) refl (λ t h. h.2) (λ t is. (tt, tt, is))

pub progress_files_row : Row 58 (λ (nothing : Unit {0}). SomeQuery ProgressFiles) (λ nothing t. t ≡ codes "SELECT `name` FROM `myloader_progress`.`files`")
unfolding query_text
progress_files_row = fixed_row 58 (SomeQuery ProgressFiles) (codes "SELECT `name` FROM `myloader_progress`.`files`") (λ u e. made_of 58 u e) refl (λ t h. h.2) (λ t is. (tt, tt, is))
