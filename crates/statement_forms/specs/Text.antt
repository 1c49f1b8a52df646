-- The texts of statements (MySQL 8.0 Reference Manual, 15.3 "Transactional and Locking Statements", 15.7.6 "SET Statements", 15.7.7 "SHOW Statements", 15.2.13 "SELECT", 28.3 "INFORMATION_SCHEMA General Tables").
use Rattle.std.specs.Prelude.{ℕ, List, ◌++◌, map, codes, decimal, ℤ}
use Rattle.std.specs.Fmt.{signed_decimal}
use Rattle.std.specs.List.{join_with_byte}
use Rattle.sql_cells.specs.Literal.{text_literal}
use Rattle.sql_cells.specs.Name.{quoted_name}
use Rattle.statement_forms.specs.declared.command.Command.{Command}
use Rattle.statement_forms.specs.declared.command.Command.TheVariants.{SetUp, NamesUtf8mb4, NamesBinary, ForeignKeyChecksOff, TimeZoneUtc, BinaryLogOff, SqlMode, CharacterSetClient, CollationConnection, RepeatableRead, TimeZone, LockInstance, FlushTables, UnlockTables, UnlockInstance, StartSnapshot, Start, Commit, Rollback, Use, Create, CreateProgress, CreateProgressFiles, CreateProgressDump, Insert, InsertProgressFile, InsertProgressDump}
use Rattle.statement_forms.specs.declared.query.Query.{Query}
use Rattle.statement_forms.specs.declared.query.Query.TheVariants.{MasterStatus, BinaryLogStatus, Schemas, Tables, Columns, PrimaryKey, Triggers, Routines, ViewNeeds, Events, CreateDatabase, CreateTable, CreateView, CreateProcedure, CreateFunction, CreateTrigger, CreateEvent, Key, KeyAbove, Rows, RowsByKey, RowsAbove, RowsUpTo, RowsBetween, WideKey, WideKeyAbove, RowsByWideKey, RowsAboveWide, RowsUpToWide, RowsBetweenWide, ProgressDump, ProgressFiles}

-- a schema, a dot and a name, each between backquotes
abbrev pub dotted : List ℕ → List ℕ → List ℕ
dotted schema name = quoted_name schema ++ codes "." ++ quoted_name name

-- names between backquotes, with commas between them
abbrev pub names : List (List ℕ) → List ℕ
names parts = join_with_byte 44 (map quoted_name parts)

-- the text that is sent for a command
unfoldable pub command_text : Command → List ℕ
command_text SetUp = codes "SET SESSION autocommit=1,sql_mode='NO_AUTO_VALUE_ON_ZERO',time_zone='+00:00',wait_timeout=2147483,sql_quote_show_create=1,foreign_key_checks=0"
command_text NamesUtf8mb4 = codes "SET NAMES utf8mb4"
command_text NamesBinary = codes "SET NAMES binary"
command_text ForeignKeyChecksOff = codes "SET FOREIGN_KEY_CHECKS=0"
command_text TimeZoneUtc = codes "SET TIME_ZONE='+00:00'"
command_text BinaryLogOff = codes "SET SESSION sql_log_bin=0"
command_text (SqlMode value) = codes "SET SESSION sql_mode=" ++ text_literal value
command_text (CharacterSetClient value) =
    codes "SET SESSION character_set_client=" ++ text_literal value
command_text (CollationConnection value) =
    codes "SET SESSION collation_connection=" ++ text_literal value
command_text RepeatableRead = codes "SET SESSION TRANSACTION ISOLATION LEVEL REPEATABLE READ"
command_text (TimeZone value) = codes "SET TIME_ZONE=" ++ text_literal value
command_text LockInstance = codes "LOCK INSTANCE FOR BACKUP"
command_text FlushTables = codes "FLUSH TABLES WITH READ LOCK"
command_text UnlockTables = codes "UNLOCK TABLES"
command_text UnlockInstance = codes "UNLOCK INSTANCE"
command_text StartSnapshot = codes "START TRANSACTION WITH CONSISTENT SNAPSHOT"
command_text Start = codes "START TRANSACTION"
command_text Commit = codes "COMMIT"
command_text Rollback = codes "ROLLBACK"
command_text (Use schema) = codes "USE " ++ quoted_name schema
command_text (Create text) = text
command_text CreateProgress = codes "CREATE DATABASE `myloader_progress`"
command_text CreateProgressFiles = codes "CREATE TABLE `myloader_progress`.`files` (`name` varbinary(255) NOT NULL, PRIMARY KEY (`name`)) ENGINE=InnoDB"
command_text CreateProgressDump =
    codes "CREATE TABLE `myloader_progress`.`dump` (`digest` char(40) NOT NULL) ENGINE=InnoDB"
command_text (Insert text) = text
command_text (InsertProgressFile name) =
    codes "INSERT INTO `myloader_progress`.`files` (`name`) VALUES (" ++ text_literal name
    ++ codes ")"
command_text (InsertProgressDump digest) =
    codes "INSERT INTO `myloader_progress`.`dump` (`digest`) VALUES (" ++ text_literal digest
    ++ codes ")"

-- what a query for rows begins with: the columns and the table
abbrev pub rows_from : List (List ℕ) → List ℕ → List ℕ → List ℕ
rows_from columns schema table =
    codes "SELECT " ++ names columns ++ codes " FROM " ++ dotted schema table

-- in the order of a key of one column
abbrev pub by_key : List ℕ → List ℕ
by_key key = codes " ORDER BY " ++ quoted_name key

-- what a query for a key begins with
abbrev pub key_from : List ℕ → List ℕ → List ℕ → List ℕ
key_from key schema table =
    codes "SELECT " ++ quoted_name key ++ codes " FROM " ++ dotted schema table

-- the next key after so many
abbrev pub one_after : ℕ → List ℕ
one_after skipped = codes " LIMIT " ++ decimal skipped ++ codes ",1"

-- the condition that a key of one column is above a bound
abbrev pub key_above : List ℕ → ℤ → List ℕ
key_above key bound = codes " WHERE " ++ quoted_name key ++ codes " > " ++ signed_decimal bound

-- the order of a key of several columns
abbrev pub by_keys : List (List ℕ) → List ℕ
by_keys keys = codes " ORDER BY " ++ names keys

-- the columns of a key in parentheses
abbrev pub name_row : List (List ℕ) → List ℕ
name_row keys = codes "(" ++ names keys ++ codes ")"

-- numbers with commas between them
abbrev pub numbers : List ℤ → List ℕ
numbers row = join_with_byte 44 (map signed_decimal row)

-- numbers in parentheses
abbrev pub number_row : List ℤ → List ℕ
number_row row = codes "(" ++ numbers row ++ codes ")"

-- the key of several columns is above a bound
abbrev pub wide_above : List (List ℕ) → List ℤ → List ℕ
wide_above keys bound = name_row keys ++ codes " > " ++ number_row bound

-- the key of several columns is at most a bound
abbrev pub wide_up_to : List (List ℕ) → List ℤ → List ℕ
wide_up_to keys bound = name_row keys ++ codes " <= " ++ number_row bound

-- the text that is sent for a query
unfoldable pub query_text : Query → List ℕ
query_text MasterStatus = codes "SHOW MASTER STATUS"
query_text BinaryLogStatus = codes "SHOW BINARY LOG STATUS"
query_text Schemas = codes "SELECT SCHEMA_NAME FROM information_schema.SCHEMATA"
query_text (Tables schema) =
    codes "SELECT TABLE_NAME,TABLE_TYPE,ENGINE FROM information_schema.TABLES WHERE TABLE_SCHEMA="
    ++ text_literal schema
query_text (Columns schema table) = codes "SELECT COLUMN_NAME,DATA_TYPE,COLUMN_TYPE,EXTRA FROM information_schema.COLUMNS WHERE TABLE_SCHEMA=" ++ text_literal schema ++ codes " AND TABLE_NAME=" ++ text_literal table ++ codes " ORDER BY ORDINAL_POSITION"
query_text (PrimaryKey schema table) =
    codes "SELECT COLUMN_NAME FROM information_schema.STATISTICS WHERE TABLE_SCHEMA="
    ++ text_literal schema ++ codes " AND TABLE_NAME=" ++ text_literal table
    ++ codes " AND INDEX_NAME='PRIMARY' ORDER BY SEQ_IN_INDEX"
query_text (Triggers schema) = codes "SELECT TRIGGER_NAME,EVENT_OBJECT_TABLE,ACTION_ORDER FROM information_schema.TRIGGERS WHERE TRIGGER_SCHEMA=" ++ text_literal schema
query_text (Routines schema) =
    codes "SELECT ROUTINE_NAME,ROUTINE_TYPE FROM information_schema.ROUTINES WHERE ROUTINE_SCHEMA="
    ++ text_literal schema
query_text (ViewNeeds schema) = codes "SELECT VIEW_NAME,TABLE_SCHEMA,TABLE_NAME FROM information_schema.VIEW_TABLE_USAGE WHERE VIEW_SCHEMA=" ++ text_literal schema
query_text (Events schema) =
    codes "SELECT EVENT_NAME FROM information_schema.EVENTS WHERE EVENT_SCHEMA="
    ++ text_literal schema
query_text (CreateDatabase schema) = codes "SHOW CREATE DATABASE " ++ quoted_name schema
query_text (CreateTable schema name) = codes "SHOW CREATE TABLE " ++ dotted schema name
query_text (CreateView schema name) = codes "SHOW CREATE VIEW " ++ dotted schema name
query_text (CreateProcedure schema name) = codes "SHOW CREATE PROCEDURE " ++ dotted schema name
query_text (CreateFunction schema name) = codes "SHOW CREATE FUNCTION " ++ dotted schema name
query_text (CreateTrigger schema name) = codes "SHOW CREATE TRIGGER " ++ dotted schema name
query_text (CreateEvent schema name) = codes "SHOW CREATE EVENT " ++ dotted schema name
query_text (Key key schema table skipped) =
    key_from key schema table ++ by_key key ++ one_after skipped
query_text (KeyAbove key schema table above skipped) =
    key_from key schema table ++ key_above key above ++ by_key key ++ one_after skipped
query_text (Rows columns schema table) = rows_from columns schema table
query_text (RowsByKey columns schema table key) = rows_from columns schema table ++ by_key key
query_text (RowsAbove columns schema table key above) =
    rows_from columns schema table ++ key_above key above ++ by_key key
query_text (RowsUpTo columns schema table key up_to) =
    rows_from columns schema table ++ codes " WHERE " ++ quoted_name key ++ codes " <= "
    ++ signed_decimal up_to ++ by_key key
query_text (RowsBetween columns schema table key above up_to) =
    rows_from columns schema table ++ key_above key above ++ codes " AND " ++ quoted_name key
    ++ codes " <= " ++ signed_decimal up_to ++ by_key key
query_text (WideKey keys schema table skipped) =
    rows_from keys schema table ++ by_keys keys ++ one_after skipped
query_text (WideKeyAbove keys schema table above skipped) =
    rows_from keys schema table ++ codes " WHERE " ++ wide_above keys above ++ by_keys keys
    ++ one_after skipped
query_text (RowsByWideKey columns schema table keys) =
    rows_from columns schema table ++ by_keys keys
query_text (RowsAboveWide columns schema table keys above) =
    rows_from columns schema table ++ codes " WHERE " ++ wide_above keys above ++ by_keys keys
query_text (RowsUpToWide columns schema table keys up_to) =
    rows_from columns schema table ++ codes " WHERE " ++ wide_up_to keys up_to ++ by_keys keys
query_text (RowsBetweenWide columns schema table keys above up_to) =
    rows_from columns schema table ++ codes " WHERE " ++ wide_above keys above ++ codes " AND "
    ++ wide_up_to keys up_to ++ by_keys keys
query_text ProgressDump = codes "SELECT `digest` FROM `myloader_progress`.`dump`"
query_text ProgressFiles = codes "SELECT `name` FROM `myloader_progress`.`files`"
