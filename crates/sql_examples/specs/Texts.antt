-- Worked texts of statements, one of each (MySQL 8.0 Reference Manual, 15.3 "Transactional and Locking Statements", 15.7.6 "SET Statements", 15.7.7 "SHOW Statements", 15.2.13 "SELECT").
use Rattle.std.specs.Prelude.{ℕ, ◌≡◌, ◌++◌, List, [], ◌∷◌, codes, pos, negsuc}
use Rattle.statement_forms.specs.Text.{command_text, query_text}
use Rattle.statement_forms.specs.declared.command.Command.TheVariants.{SetUp, NamesUtf8mb4, NamesBinary, ForeignKeyChecksOff, TimeZoneUtc, BinaryLogOff, SqlMode, CharacterSetClient, CollationConnection, RepeatableRead, TimeZone, LockInstance, FlushTables, UnlockTables, UnlockInstance, StartSnapshot, Start, Commit, Rollback, Use, Create, CreateProgress, CreateProgressFiles, CreateProgressDump, Insert, InsertProgressFile, InsertProgressDump}
use Rattle.statement_forms.specs.declared.query.Query.TheVariants.{MasterStatus, BinaryLogStatus, Schemas, Tables, Columns, PrimaryKey, Triggers, Routines, ViewNeeds, Events, CreateDatabase, CreateTable, CreateView, CreateProcedure, CreateFunction, CreateTrigger, CreateEvent, Key, KeyAbove, Rows, RowsByKey, RowsAbove, RowsUpTo, RowsBetween, WideKey, WideKeyAbove, RowsByWideKey, RowsAboveWide, RowsUpToWide, RowsBetweenWide, ProgressDump, ProgressFiles}

-- the texts of all commands
pub record CommandTexts : Type 0 where
  pub set_up : command_text SetUp ≡ codes "SET SESSION autocommit=1,sql_mode='NO_AUTO_VALUE_ON_ZERO',time_zone='+00:00',wait_timeout=2147483,sql_quote_show_create=1,foreign_key_checks=0"
  pub names_utf8mb4 : command_text NamesUtf8mb4 ≡ codes "SET NAMES utf8mb4"
  pub names_binary : command_text NamesBinary ≡ codes "SET NAMES binary"
  pub foreign_key_checks_off : command_text ForeignKeyChecksOff ≡ codes "SET FOREIGN_KEY_CHECKS=0"
  pub time_zone_utc : command_text TimeZoneUtc ≡ codes "SET TIME_ZONE='+00:00'"
  pub binary_log_off : command_text BinaryLogOff ≡ codes "SET SESSION sql_log_bin=0"
  pub sql_mode : command_text (SqlMode (codes "ANSI_QUOTES,'" ++ 92 ∷ []))
      ≡ codes "SET SESSION sql_mode='ANSI_QUOTES," ++ 92 ∷ [] ++ codes "'" ++ 92 ∷ 92 ∷ []
      ++ codes "'"
  pub character_set_client : command_text (CharacterSetClient (codes "utf8mb4"))
      ≡ codes "SET SESSION character_set_client='utf8mb4'"
  pub collation_connection : command_text (CollationConnection (codes "utf8mb4_bin"))
      ≡ codes "SET SESSION collation_connection='utf8mb4_bin'"
  pub repeatable_read : command_text RepeatableRead
      ≡ codes "SET SESSION TRANSACTION ISOLATION LEVEL REPEATABLE READ"
  pub time_zone : command_text (TimeZone (codes "+02:00")) ≡ codes "SET TIME_ZONE='+02:00'"
  pub lock_instance : command_text LockInstance ≡ codes "LOCK INSTANCE FOR BACKUP"
  pub flush_tables : command_text FlushTables ≡ codes "FLUSH TABLES WITH READ LOCK"
  pub unlock_tables : command_text UnlockTables ≡ codes "UNLOCK TABLES"
  pub unlock_instance : command_text UnlockInstance ≡ codes "UNLOCK INSTANCE"
  pub start_snapshot : command_text StartSnapshot
      ≡ codes "START TRANSACTION WITH CONSISTENT SNAPSHOT"
  pub start : command_text Start ≡ codes "START TRANSACTION"
  pub commit : command_text Commit ≡ codes "COMMIT"
  pub rollback : command_text Rollback ≡ codes "ROLLBACK"
  pub use_schema : command_text (Use (codes "a`b")) ≡ codes "USE `a``b`"
  pub create : command_text (Create (codes "CREATE DATABASE `shop`"))
      ≡ codes "CREATE DATABASE `shop`"
  pub create_progress : command_text CreateProgress ≡ codes "CREATE DATABASE `myloader_progress`"
  pub create_progress_files : command_text CreateProgressFiles ≡ codes "CREATE TABLE `myloader_progress`.`files` (`name` varbinary(255) NOT NULL, PRIMARY KEY (`name`)) ENGINE=InnoDB"
  pub create_progress_dump : command_text CreateProgressDump
      ≡ codes "CREATE TABLE `myloader_progress`.`dump` (`digest` char(40) NOT NULL) ENGINE=InnoDB"
  pub insert_whole : command_text (Insert (codes "INSERT INTO `t` (`a`) VALUES (1)"))
      ≡ codes "INSERT INTO `t` (`a`) VALUES (1)"
  pub insert_progress_file : command_text (InsertProgressFile (codes "it's.00001.sql"))
      ≡ codes "INSERT INTO `myloader_progress`.`files` (`name`) VALUES ('it" ++ 92 ∷ []
      ++ codes "'s.00001.sql')"
  pub insert_progress_dump : command_text (InsertProgressDump (codes "da39a3ee5e6b4b0d3255bfef95601890afd80709")) ≡ codes "INSERT INTO `myloader_progress`.`dump` (`digest`) VALUES ('da39a3ee5e6b4b0d3255bfef95601890afd80709')"

-- two columns, one with a backquote in its name
abbrev pub two_columns : List (List ℕ)
two_columns = codes "id" ∷ codes "a`b" ∷ []

-- the three columns of a key
abbrev pub three_columns : List (List ℕ)
three_columns = codes "a" ∷ codes "b" ∷ codes "c" ∷ []

-- the texts of all queries
pub record QueryTexts : Type 0 where
  pub master_status : query_text MasterStatus ≡ codes "SHOW MASTER STATUS"
  pub binary_log_status : query_text BinaryLogStatus ≡ codes "SHOW BINARY LOG STATUS"
  pub schemas : query_text Schemas ≡ codes "SELECT SCHEMA_NAME FROM information_schema.SCHEMATA"
  pub tables : query_text (Tables (codes "it's")) ≡ codes "SELECT TABLE_NAME,TABLE_TYPE,ENGINE FROM information_schema.TABLES WHERE TABLE_SCHEMA='it" ++ 92 ∷ [] ++ codes "'s'"
  pub columns : query_text (Columns (codes "a`b") (codes "c" ++ 92 ∷ [] ++ codes "d")) ≡ codes "SELECT COLUMN_NAME,DATA_TYPE,COLUMN_TYPE,EXTRA FROM information_schema.COLUMNS WHERE TABLE_SCHEMA='a`b' AND TABLE_NAME='c" ++ 92 ∷ 92 ∷ [] ++ codes "d' ORDER BY ORDINAL_POSITION"
  pub primary_key : query_text (PrimaryKey (codes "s") (34 ∷ [] ++ codes "t" ++ 34 ∷ [])) ≡ codes "SELECT COLUMN_NAME FROM information_schema.STATISTICS WHERE TABLE_SCHEMA='s' AND TABLE_NAME='" ++ 92 ∷ 34 ∷ [] ++ codes "t" ++ 92 ∷ 34 ∷ [] ++ codes "' AND INDEX_NAME='PRIMARY' ORDER BY SEQ_IN_INDEX"
  pub triggers : query_text (Triggers (codes "s")) ≡ codes "SELECT TRIGGER_NAME,EVENT_OBJECT_TABLE,ACTION_ORDER FROM information_schema.TRIGGERS WHERE TRIGGER_SCHEMA='s'"
  pub routines : query_text (Routines (codes "s")) ≡ codes "SELECT ROUTINE_NAME,ROUTINE_TYPE FROM information_schema.ROUTINES WHERE ROUTINE_SCHEMA='s'"
  pub view_needs : query_text (ViewNeeds (codes "s")) ≡ codes "SELECT VIEW_NAME,TABLE_SCHEMA,TABLE_NAME FROM information_schema.VIEW_TABLE_USAGE WHERE VIEW_SCHEMA='s'"
  pub events : query_text (Events (codes "it's"))
      ≡ codes "SELECT EVENT_NAME FROM information_schema.EVENTS WHERE EVENT_SCHEMA='it" ++ 92 ∷ []
      ++ codes "'s'"
  pub create_database : query_text (CreateDatabase (codes "a`b"))
      ≡ codes "SHOW CREATE DATABASE `a``b`"
  pub create_table : query_text (CreateTable (codes "s") (codes "t"))
      ≡ codes "SHOW CREATE TABLE `s`.`t`"
  pub create_view : query_text (CreateView (codes "s") (codes "v"))
      ≡ codes "SHOW CREATE VIEW `s`.`v`"
  pub create_procedure : query_text (CreateProcedure (codes "s") (codes "p"))
      ≡ codes "SHOW CREATE PROCEDURE `s`.`p`"
  pub create_function : query_text (CreateFunction (codes "s") (codes "f"))
      ≡ codes "SHOW CREATE FUNCTION `s`.`f`"
  pub create_trigger : query_text (CreateTrigger (codes "s") (codes "a`b"))
      ≡ codes "SHOW CREATE TRIGGER `s`.`a``b`"
  pub create_event : query_text (CreateEvent (codes "s") (codes "a`b"))
      ≡ codes "SHOW CREATE EVENT `s`.`a``b`"
  pub key : query_text (Key (codes "id") (codes "s") (codes "t") 18446744073709551615)
      ≡ codes "SELECT `id` FROM `s`.`t` ORDER BY `id` LIMIT 18446744073709551615,1"
  pub key_above : query_text (KeyAbove (codes "id") (codes "s") (codes "t") (negsuc 0) 0)
      ≡ codes "SELECT `id` FROM `s`.`t` WHERE `id` > -1 ORDER BY `id` LIMIT 0,1"
  pub rows : query_text (Rows two_columns (codes "s") (codes "t"))
      ≡ codes "SELECT `id`,`a``b` FROM `s`.`t`"
  pub rows_by_key : query_text (RowsByKey two_columns (codes "s") (codes "t") (codes "id"))
      ≡ codes "SELECT `id`,`a``b` FROM `s`.`t` ORDER BY `id`"
  pub rows_above : query_text (RowsAbove two_columns (codes "s") (codes "t") (codes "id") (negsuc 170141183460469231731687303715884105727)) ≡ codes "SELECT `id`,`a``b` FROM `s`.`t` WHERE `id` > -170141183460469231731687303715884105728 ORDER BY `id`"
  pub rows_up_to : query_text (RowsUpTo two_columns (codes "s") (codes "t") (codes "id") (pos 170141183460469231731687303715884105727)) ≡ codes "SELECT `id`,`a``b` FROM `s`.`t` WHERE `id` <= 170141183460469231731687303715884105727 ORDER BY `id`"
  pub rows_between : query_text
      (RowsBetween two_columns (codes "s") (codes "t") (codes "id") (pos 0) (pos 7))
      ≡ codes "SELECT `id`,`a``b` FROM `s`.`t` WHERE `id` > 0 AND `id` <= 7 ORDER BY `id`"
  pub wide_key : query_text (WideKey two_columns (codes "s") (codes "t") 7)
      ≡ codes "SELECT `id`,`a``b` FROM `s`.`t` ORDER BY `id`,`a``b` LIMIT 7,1"
  pub wide_key_above : query_text (WideKeyAbove two_columns (codes "s") (codes "t") (negsuc 0 ∷ pos 0 ∷ []) 0) ≡ codes "SELECT `id`,`a``b` FROM `s`.`t` WHERE (`id`,`a``b`) > (-1,0) ORDER BY `id`,`a``b` LIMIT 0,1"
  pub rows_by_wide_key : query_text
      (RowsByWideKey two_columns (codes "s") (codes "t") three_columns)
      ≡ codes "SELECT `id`,`a``b` FROM `s`.`t` ORDER BY `a`,`b`,`c`"
  pub rows_above_wide : query_text
      (RowsAboveWide two_columns (codes "s") (codes "t") three_columns
      (pos 1 ∷ negsuc 1 ∷ pos 3 ∷ []))
      ≡ codes "SELECT `id`,`a``b` FROM `s`.`t` WHERE (`a`,`b`,`c`) > (1,-2,3) ORDER BY `a`,`b`,`c`"
  pub rows_up_to_wide : query_text
      (RowsUpToWide two_columns (codes "s") (codes "t") three_columns
      (pos 1 ∷ negsuc 1 ∷ pos 3 ∷ []))
      ≡ codes "SELECT `id`,`a``b` FROM `s`.`t` WHERE (`a`,`b`,`c`) <= (1,-2,3) ORDER BY `a`,`b`,`c`"
  pub rows_between_wide : query_text (RowsBetweenWide two_columns (codes "s") (codes "t") two_columns (pos 1 ∷ pos 2 ∷ []) (pos 3 ∷ pos 4 ∷ [])) ≡ codes "SELECT `id`,`a``b` FROM `s`.`t` WHERE (`id`,`a``b`) > (1,2) AND (`id`,`a``b`) <= (3,4) ORDER BY `id`,`a``b`"
  pub progress_dump : query_text ProgressDump
      ≡ codes "SELECT `digest` FROM `myloader_progress`.`dump`"
  pub progress_files : query_text ProgressFiles
      ≡ codes "SELECT `name` FROM `myloader_progress`.`files`"
