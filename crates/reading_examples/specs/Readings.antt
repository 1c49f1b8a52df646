-- Worked readings of commands and queries.
use Rattle.std.specs.Prelude.{ℕ, ◌≡◌, ◌++◌, List, [], ◌∷◌, codes}
use Rattle.statement_forms.specs.Statement.{IsReadAs}
use Rattle.statement_forms.specs.declared.command.Command.TheVariants.{TimeZoneUtc, TimeZone, Commit, Use, Create, CreateProgress, CreateProgressFiles, CreateProgressDump}
use Rattle.statement_forms.specs.declared.query.Query.TheVariants.{Rows, RowsByKey, ProgressDump, ProgressFiles}
use Rattle.statement_forms.specs.declared.statement.Statement.TheVariants.{Command as SomeCommand, Query as SomeQuery}
use Rattle.statement_laws.specs.Readings.{read_command, read_query}

-- the readings of commands: two of one text, texts of a load's progress, and others near to them
pub record CommandReadings : Type 0 where
  pub zone_utc : read_command TimeZoneUtc ≡ TimeZone (codes "+00:00")
  pub zone : read_command (TimeZone (codes "+00:00")) ≡ TimeZone (codes "+00:00")
  pub commit : read_command Commit ≡ Commit
  pub use_schema : read_command (Use (codes "a`b")) ≡ Use (codes "a`b")
  pub progress : read_command (Create (codes "CREATE DATABASE `myloader_progress`"))
      ≡ CreateProgress
  pub progress_files : read_command (Create
      (codes "CREATE TABLE `myloader_progress`.`files` (`name` varbinary(255) NOT NULL,"
      ++ codes " PRIMARY KEY (`name`)) ENGINE=InnoDB"))
      ≡ CreateProgressFiles
  pub progress_dump : read_command (Create
      (codes "CREATE TABLE `myloader_progress`.`dump` (`digest` char(40) NOT NULL)"
      ++ codes " ENGINE=InnoDB"))
      ≡ CreateProgressDump
  pub lower_case : read_command (Create (codes "create database `myloader_progress`"))
      ≡ Create (codes "create database `myloader_progress`")
  pub other_schema : read_command (Create (codes "CREATE DATABASE `myloader`"))
      ≡ Create (codes "CREATE DATABASE `myloader`")
  pub sent : IsReadAs (codes "SET TIME_ZONE='+00:00'")
      (SomeCommand (TimeZone (codes "+00:00")))

-- the readings of queries for all rows: those of a load's progress, and others near to them
pub record QueryReadings : Type 0 where
  pub dump : read_query (Rows (codes "digest" ∷ []) (codes "myloader_progress") (codes "dump"))
      ≡ ProgressDump
  pub files : read_query (Rows (codes "name" ∷ []) (codes "myloader_progress") (codes "files"))
      ≡ ProgressFiles
  pub other_column : read_query (Rows (codes "name" ∷ []) (codes "myloader_progress") (codes "dump"))
      ≡ Rows (codes "name" ∷ []) (codes "myloader_progress") (codes "dump")
  pub other_schema : read_query (Rows (codes "digest" ∷ []) (codes "shop") (codes "dump"))
      ≡ Rows (codes "digest" ∷ []) (codes "shop") (codes "dump")
  pub two_columns : (schema table : List ℕ) →
      read_query (Rows (codes "digest" ∷ codes "id" ∷ []) schema table)
      ≡ Rows (codes "digest" ∷ codes "id" ∷ []) schema table
  pub by_key : (columns : List (List ℕ)) (schema table key : List ℕ) →
      read_query (RowsByKey columns schema table key) ≡ RowsByKey columns schema table key
  pub sent : IsReadAs (codes "SELECT `name` FROM `myloader_progress`.`files`")
      (SomeQuery ProgressFiles)
  pub near : IsReadAs (codes "SELECT `name` FROM `myloader_progress`.`dump`")
      (SomeQuery (Rows (codes "name" ∷ []) (codes "myloader_progress") (codes "dump")))
