-- Each text computes.
use Rattle.std.specs.Fmt.{digits}
use Rattle.std.specs.Prelude.{refl}
use Rattle.statement_forms.specs.Text.{command_text, query_text}
use Rattle.sql_examples.specs.Texts.{CommandTexts, QueryTexts}

pub commands : CommandTexts
unfolding command_text
commands = record { set_up = refl; names_utf8mb4 = refl; names_binary = refl; foreign_key_checks_off = refl; time_zone_utc = refl; binary_log_off = refl; sql_mode = refl; character_set_client = refl; collation_connection = refl; repeatable_read = refl; time_zone = refl; lock_instance = refl; flush_tables = refl; unlock_tables = refl; unlock_instance = refl; start_snapshot = refl; start = refl; commit = refl; rollback = refl; use_schema = refl; create = refl; create_progress = refl; create_progress_files = refl; create_progress_dump = refl; insert_whole = refl; insert_progress_file = refl; insert_progress_dump = refl }

pub queries : QueryTexts
unfolding query_text digits
queries = record { master_status = refl; binary_log_status = refl; schemas = refl; tables = refl; columns = refl; primary_key = refl; triggers = refl; routines = refl; view_needs = refl; events = refl; create_database = refl; create_table = refl; create_view = refl; create_procedure = refl; create_function = refl; create_trigger = refl; create_event = refl; key = refl; key_above = refl; rows = refl; rows_by_key = refl; rows_above = refl; rows_up_to = refl; rows_between = refl; wide_key = refl; wide_key_above = refl; rows_by_wide_key = refl; rows_above_wide = refl; rows_up_to_wide = refl; rows_between_wide = refl; progress_dump = refl; progress_files = refl }
