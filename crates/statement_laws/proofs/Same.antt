-- Statements of one row with one text are the same.
use Rattle.std.proofs.Common.{◌≡◌, ℕ, List, [], codes, refl, sym, ◌∙◌, ap, subst}
use Rattle.grammar.specs.Language.{Language}
use Rattle.statement_forms.specs.Statement.{IsTextOf, list_row}
use Rattle.statement_forms.specs.declared.command.Command.TheVariants.{SetUp, NamesUtf8mb4, NamesBinary, ForeignKeyChecksOff, TimeZoneUtc, BinaryLogOff, SqlMode, CharacterSetClient, CollationConnection, RepeatableRead, TimeZone, LockInstance, FlushTables, UnlockTables, UnlockInstance, StartSnapshot, Start, Commit, Rollback, Use, Create, CreateProgress, CreateProgressFiles, CreateProgressDump, Insert, InsertProgressFile, InsertProgressDump}
use Rattle.statement_forms.specs.declared.query.Query.TheVariants.{MasterStatus, BinaryLogStatus, Schemas, Tables, Columns, PrimaryKey, Triggers, Routines, ViewNeeds, Events, CreateDatabase, CreateTable, CreateView, CreateProcedure, CreateFunction, CreateTrigger, CreateEvent, Key, KeyAbove, Rows, RowsByKey, RowsAbove, RowsUpTo, RowsBetween, WideKey, WideKeyAbove, RowsByWideKey, RowsAboveWide, RowsUpToWide, RowsBetweenWide, ProgressDump, ProgressFiles}
use Rattle.statement_forms.specs.declared.statement.Statement.{Statement}
use Rattle.statement_forms.specs.declared.statement.Statement.TheVariants.{Command as SomeCommand, Query as SomeQuery}
use Rattle.statement_reading.specs.Slots.{Place}
use Rattle.statement_reading.proofs.Forms.{Form}
use Rattle.statement_reading.proofs.FormTexts.{text_form_is, texts_form_is, digest_form_is, name_form_is, path_form_is}
use Rattle.statement_reading.proofs.KindRows.{sql_mode_row, character_set_client_row, collation_connection_row, time_zone_row, use_row, create_row, insert_row, insert_progress_file_row, insert_progress_dump_row, tables_row, columns_row, primary_key_row, triggers_row, routines_row, view_needs_row, events_row, create_database_row, create_table_row, create_view_row, create_procedure_row, create_function_row, create_trigger_row, create_event_row}
use Rattle.statement_reading.proofs.QueryForms.{key_form, key_row, key_above_form, key_above_row, rows_form, rows_row, rows_by_key_form, rows_by_key_row, rows_above_form, rows_above_row, rows_up_to_form, rows_up_to_row, rows_between_form, rows_between_row}
use Rattle.statement_reading.proofs.WideForms.{wide_key_form, wide_key_row, wide_key_above_form, wide_key_above_row, rows_by_wide_key_form, rows_by_wide_key_row, rows_above_wide_form, rows_above_wide_row, rows_up_to_wide_form, rows_up_to_wide_row, rows_between_wide_form, rows_between_wide_row}
use Rattle.statement_reading.proofs.Rows.{Row, made_of}
use Rattle.statement_reading.proofs.Shapes.{one_parts}

-- The values of a form with one text are the same.
one_value : {V : Type 0} {slots : List Place} {F : V → Language} {Good : V → Type 0} {texts : V → List (List ℕ)} → Form slots F Good texts → (u v : V) (text : List ℕ) → F u text → F v text → u ≡ v
one_value {V} {slots} {F} {Good} {texts} form u v text one two =
    form.single u v (form.good u text one) (form.good v text two)
    (one_parts slots [] (texts u) (texts v) text form.clear (form.to u text one) (form.to v text two))

-- The same for the statements of a row.
one_of : {V : Type 0} {n : ℕ} {make : V → Statement} {F : V → Language} → Row n make F → ((u v : V) (text : List ℕ) → F u text → F v text → u ≡ v) → (s other : Statement) (text : List ℕ) → list_row s ≡ n → list_row other ≡ n → IsTextOf s text → IsTextOf other text → other ≡ s
one_of {V} {n} {make} {F} row one s other text in_row also_in is also =
    let (v, s_is) = row.all s in_row in
    let (u, other_is) = row.all other also_in in
    other_is
    ∙ ap make (one u v text (row.to u text (subst (λ (k : Statement). IsTextOf k text) other_is also)) (row.to v text (subst (λ (k : Statement). IsTextOf k text) s_is is)))
    ∙ sym s_is

-- Two statements of one row with one text are the same.
pub one_in_row : (s other : Statement) (text : List ℕ) → IsTextOf s text → IsTextOf other text → list_row other ≡ list_row s → other ≡ s
one_in_row (SomeCommand SetUp) other text is also row = made_of 0 other row
one_in_row (SomeCommand NamesUtf8mb4) other text is also row = made_of 1 other row
one_in_row (SomeCommand NamesBinary) other text is also row = made_of 2 other row
one_in_row (SomeCommand ForeignKeyChecksOff) other text is also row = made_of 3 other row
one_in_row (SomeCommand TimeZoneUtc) other text is also row = made_of 4 other row
one_in_row (SomeCommand BinaryLogOff) other text is also row = made_of 5 other row
one_in_row (SomeCommand (SqlMode value)) other text is also row = one_of sql_mode_row (one_value (text_form_is (codes "SET SESSION sql_mode=") [])) (SomeCommand (SqlMode value)) other text refl row is also
one_in_row (SomeCommand (CharacterSetClient value)) other text is also row = one_of character_set_client_row (one_value (text_form_is (codes "SET SESSION character_set_client=") [])) (SomeCommand (CharacterSetClient value)) other text refl row is also
one_in_row (SomeCommand (CollationConnection value)) other text is also row = one_of collation_connection_row (one_value (text_form_is (codes "SET SESSION collation_connection=") [])) (SomeCommand (CollationConnection value)) other text refl row is also
one_in_row (SomeCommand RepeatableRead) other text is also row = made_of 9 other row
one_in_row (SomeCommand (TimeZone value)) other text is also row = one_of time_zone_row (one_value (text_form_is (codes "SET TIME_ZONE=") [])) (SomeCommand (TimeZone value)) other text refl row is also
one_in_row (SomeCommand LockInstance) other text is also row = made_of 11 other row
one_in_row (SomeCommand FlushTables) other text is also row = made_of 12 other row
one_in_row (SomeCommand UnlockTables) other text is also row = made_of 13 other row
one_in_row (SomeCommand UnlockInstance) other text is also row = made_of 14 other row
one_in_row (SomeCommand StartSnapshot) other text is also row = made_of 15 other row
one_in_row (SomeCommand Start) other text is also row = made_of 16 other row
one_in_row (SomeCommand Commit) other text is also row = made_of 17 other row
one_in_row (SomeCommand Rollback) other text is also row = made_of 18 other row
one_in_row (SomeCommand (Use schema)) other text is also row = one_of use_row (one_value (name_form_is (codes "USE "))) (SomeCommand (Use schema)) other text refl row is also
one_in_row (SomeCommand (Create whole)) other text is also row = one_of create_row (λ u v text one two. sym one.1 ∙ two.1) (SomeCommand (Create whole)) other text refl row is also
one_in_row (SomeCommand CreateProgress) other text is also row = made_of 21 other row
one_in_row (SomeCommand CreateProgressFiles) other text is also row = made_of 22 other row
one_in_row (SomeCommand CreateProgressDump) other text is also row = made_of 23 other row
one_in_row (SomeCommand (Insert whole)) other text is also row = one_of insert_row (λ u v text one two. sym one.1 ∙ two.1) (SomeCommand (Insert whole)) other text refl row is also
one_in_row (SomeCommand (InsertProgressFile name)) other text is also row = one_of insert_progress_file_row (one_value (text_form_is (codes "INSERT INTO `myloader_progress`.`files` (`name`) VALUES (") (codes ")"))) (SomeCommand (InsertProgressFile name)) other text refl row is also
one_in_row (SomeCommand (InsertProgressDump digest)) other text is also row = one_of insert_progress_dump_row (one_value (digest_form_is (codes "INSERT INTO `myloader_progress`.`dump` (`digest`) VALUES ('") (codes "')"))) (SomeCommand (InsertProgressDump digest)) other text refl row is also
one_in_row (SomeQuery MasterStatus) other text is also row = made_of 27 other row
one_in_row (SomeQuery BinaryLogStatus) other text is also row = made_of 28 other row
one_in_row (SomeQuery Schemas) other text is also row = made_of 29 other row
one_in_row (SomeQuery (Tables schema)) other text is also row = one_of tables_row (one_value (text_form_is (codes "SELECT TABLE_NAME,TABLE_TYPE,ENGINE FROM information_schema.TABLES WHERE TABLE_SCHEMA=") [])) (SomeQuery (Tables schema)) other text refl row is also
one_in_row (SomeQuery (Columns schema table)) other text is also row = one_of columns_row (one_value (texts_form_is (codes "SELECT COLUMN_NAME,DATA_TYPE,COLUMN_TYPE,EXTRA FROM information_schema.COLUMNS WHERE TABLE_SCHEMA=") (codes " AND TABLE_NAME=") (codes " ORDER BY ORDINAL_POSITION"))) (SomeQuery (Columns schema table)) other text refl row is also
one_in_row (SomeQuery (PrimaryKey schema table)) other text is also row = one_of primary_key_row (one_value (texts_form_is (codes "SELECT COLUMN_NAME FROM information_schema.STATISTICS WHERE TABLE_SCHEMA=") (codes " AND TABLE_NAME=") (codes " AND INDEX_NAME='PRIMARY' ORDER BY SEQ_IN_INDEX"))) (SomeQuery (PrimaryKey schema table)) other text refl row is also
one_in_row (SomeQuery (Triggers schema)) other text is also row = one_of triggers_row (one_value (text_form_is (codes "SELECT TRIGGER_NAME,EVENT_OBJECT_TABLE,ACTION_ORDER FROM information_schema.TRIGGERS WHERE TRIGGER_SCHEMA=") [])) (SomeQuery (Triggers schema)) other text refl row is also
one_in_row (SomeQuery (Routines schema)) other text is also row = one_of routines_row (one_value (text_form_is (codes "SELECT ROUTINE_NAME,ROUTINE_TYPE FROM information_schema.ROUTINES WHERE ROUTINE_SCHEMA=") [])) (SomeQuery (Routines schema)) other text refl row is also
one_in_row (SomeQuery (ViewNeeds schema)) other text is also row = one_of view_needs_row (one_value (text_form_is (codes "SELECT VIEW_NAME,TABLE_SCHEMA,TABLE_NAME FROM information_schema.VIEW_TABLE_USAGE WHERE VIEW_SCHEMA=") [])) (SomeQuery (ViewNeeds schema)) other text refl row is also
one_in_row (SomeQuery (Events schema)) other text is also row = one_of events_row (one_value (text_form_is (codes "SELECT EVENT_NAME FROM information_schema.EVENTS WHERE EVENT_SCHEMA=") [])) (SomeQuery (Events schema)) other text refl row is also
one_in_row (SomeQuery (CreateDatabase schema)) other text is also row = one_of create_database_row (one_value (name_form_is (codes "SHOW CREATE DATABASE "))) (SomeQuery (CreateDatabase schema)) other text refl row is also
one_in_row (SomeQuery (CreateTable schema name)) other text is also row = one_of create_table_row (one_value (path_form_is (codes "SHOW CREATE TABLE "))) (SomeQuery (CreateTable schema name)) other text refl row is also
one_in_row (SomeQuery (CreateView schema name)) other text is also row = one_of create_view_row (one_value (path_form_is (codes "SHOW CREATE VIEW "))) (SomeQuery (CreateView schema name)) other text refl row is also
one_in_row (SomeQuery (CreateProcedure schema name)) other text is also row = one_of create_procedure_row (one_value (path_form_is (codes "SHOW CREATE PROCEDURE "))) (SomeQuery (CreateProcedure schema name)) other text refl row is also
one_in_row (SomeQuery (CreateFunction schema name)) other text is also row = one_of create_function_row (one_value (path_form_is (codes "SHOW CREATE FUNCTION "))) (SomeQuery (CreateFunction schema name)) other text refl row is also
one_in_row (SomeQuery (CreateTrigger schema name)) other text is also row = one_of create_trigger_row (one_value (path_form_is (codes "SHOW CREATE TRIGGER "))) (SomeQuery (CreateTrigger schema name)) other text refl row is also
one_in_row (SomeQuery (CreateEvent schema name)) other text is also row = one_of create_event_row (one_value (path_form_is (codes "SHOW CREATE EVENT "))) (SomeQuery (CreateEvent schema name)) other text refl row is also
one_in_row (SomeQuery (Key key schema table skipped)) other text is also row = one_of key_row (one_value key_form) (SomeQuery (Key key schema table skipped)) other text refl row is also
one_in_row (SomeQuery (KeyAbove key schema table above skipped)) other text is also row = one_of key_above_row (one_value key_above_form) (SomeQuery (KeyAbove key schema table above skipped)) other text refl row is also
one_in_row (SomeQuery (Rows columns schema table)) other text is also row = one_of rows_row (one_value rows_form) (SomeQuery (Rows columns schema table)) other text refl row is also
one_in_row (SomeQuery (RowsByKey columns schema table key)) other text is also row = one_of rows_by_key_row (one_value rows_by_key_form) (SomeQuery (RowsByKey columns schema table key)) other text refl row is also
one_in_row (SomeQuery (RowsAbove columns schema table key above)) other text is also row = one_of rows_above_row (one_value rows_above_form) (SomeQuery (RowsAbove columns schema table key above)) other text refl row is also
one_in_row (SomeQuery (RowsUpTo columns schema table key up_to)) other text is also row = one_of rows_up_to_row (one_value rows_up_to_form) (SomeQuery (RowsUpTo columns schema table key up_to)) other text refl row is also
one_in_row (SomeQuery (RowsBetween columns schema table key above up_to)) other text is also row = one_of rows_between_row (one_value rows_between_form) (SomeQuery (RowsBetween columns schema table key above up_to)) other text refl row is also
one_in_row (SomeQuery (WideKey keys schema table skipped)) other text is also row = one_of wide_key_row (one_value wide_key_form) (SomeQuery (WideKey keys schema table skipped)) other text refl row is also
one_in_row (SomeQuery (WideKeyAbove keys schema table above skipped)) other text is also row = one_of wide_key_above_row (one_value wide_key_above_form) (SomeQuery (WideKeyAbove keys schema table above skipped)) other text refl row is also
one_in_row (SomeQuery (RowsByWideKey columns schema table keys)) other text is also row = one_of rows_by_wide_key_row (one_value rows_by_wide_key_form) (SomeQuery (RowsByWideKey columns schema table keys)) other text refl row is also
one_in_row (SomeQuery (RowsAboveWide columns schema table keys above)) other text is also row = one_of rows_above_wide_row (one_value rows_above_wide_form) (SomeQuery (RowsAboveWide columns schema table keys above)) other text refl row is also
one_in_row (SomeQuery (RowsUpToWide columns schema table keys up_to)) other text is also row = one_of rows_up_to_wide_row (one_value rows_up_to_wide_form) (SomeQuery (RowsUpToWide columns schema table keys up_to)) other text refl row is also
one_in_row (SomeQuery (RowsBetweenWide columns schema table keys above up_to)) other text is also row = one_of rows_between_wide_row (one_value rows_between_wide_form) (SomeQuery (RowsBetweenWide columns schema table keys above up_to)) other text refl row is also
one_in_row (SomeQuery ProgressDump) other text is also row = made_of 57 other row
one_in_row (SomeQuery ProgressFiles) other text is also row = made_of 58 other row
