use Rattle.std.proofs.Common.{arith}
use Rattle.std.proofs.lemmas.Grind.{common_steps}
use Rattle.statement_reading.proofs.KindRows.{set_up_row, names_utf8mb4_row, names_binary_row, foreign_key_checks_off_row, time_zone_utc_row, binary_log_off_row, sql_mode_row, character_set_client_row, collation_connection_row, repeatable_read_row, time_zone_row}
use Rattle.statement_reading.proofs.Rows.{row_only, row_fault}
use Rattle.statement_reading.proofs.reading.settings.read_setting.Goals as goal

pub returns-in_err-fixed_form-in-SetUp : goal.returns-in_err-fixed_form-in-SetUp
returns-in_err-fixed_form-in-SetUp c = rw c.in-SetUp.is (row_fault set_up_row c.args.text.now _ _ c.in_err-fixed_form-in-SetUp.ensures (grind (arith, common_steps)))

pub returns-in_ok-fixed_form-in-SetUp : goal.returns-in_ok-fixed_form-in-SetUp
returns-in_ok-fixed_form-in-SetUp c = rw c.in-SetUp.is (row_only set_up_row c.args.text.now tt c.in_ok-fixed_form-in-SetUp.ensures)

pub returns-in_err-fixed_form-in-NamesUtf8mb4 : goal.returns-in_err-fixed_form-in-NamesUtf8mb4
returns-in_err-fixed_form-in-NamesUtf8mb4 c = rw c.in-NamesUtf8mb4.is (row_fault names_utf8mb4_row c.args.text.now _ _ c.in_err-fixed_form-in-NamesUtf8mb4.ensures (grind (arith, common_steps)))

pub returns-in_ok-fixed_form-in-NamesUtf8mb4 : goal.returns-in_ok-fixed_form-in-NamesUtf8mb4
returns-in_ok-fixed_form-in-NamesUtf8mb4 c = rw c.in-NamesUtf8mb4.is (row_only names_utf8mb4_row c.args.text.now tt c.in_ok-fixed_form-in-NamesUtf8mb4.ensures)

pub returns-in_err-fixed_form-in-NamesBinary : goal.returns-in_err-fixed_form-in-NamesBinary
returns-in_err-fixed_form-in-NamesBinary c = rw c.in-NamesBinary.is (row_fault names_binary_row c.args.text.now _ _ c.in_err-fixed_form-in-NamesBinary.ensures (grind (arith, common_steps)))

pub returns-in_ok-fixed_form-in-NamesBinary : goal.returns-in_ok-fixed_form-in-NamesBinary
returns-in_ok-fixed_form-in-NamesBinary c = rw c.in-NamesBinary.is (row_only names_binary_row c.args.text.now tt c.in_ok-fixed_form-in-NamesBinary.ensures)

pub returns-in_err-fixed_form-in-ForeignKeyChecksOff : goal.returns-in_err-fixed_form-in-ForeignKeyChecksOff
returns-in_err-fixed_form-in-ForeignKeyChecksOff c = rw c.in-ForeignKeyChecksOff.is (row_fault foreign_key_checks_off_row c.args.text.now _ _ c.in_err-fixed_form-in-ForeignKeyChecksOff.ensures (grind (arith, common_steps)))

pub returns-in_ok-fixed_form-in-ForeignKeyChecksOff : goal.returns-in_ok-fixed_form-in-ForeignKeyChecksOff
returns-in_ok-fixed_form-in-ForeignKeyChecksOff c = rw c.in-ForeignKeyChecksOff.is (row_only foreign_key_checks_off_row c.args.text.now tt c.in_ok-fixed_form-in-ForeignKeyChecksOff.ensures)

pub returns-in_err-fixed_form-in-TimeZoneUtc : goal.returns-in_err-fixed_form-in-TimeZoneUtc
returns-in_err-fixed_form-in-TimeZoneUtc c = rw c.in-TimeZoneUtc.is (row_fault time_zone_utc_row c.args.text.now _ _ c.in_err-fixed_form-in-TimeZoneUtc.ensures (grind (arith, common_steps)))

pub returns-in_ok-fixed_form-in-TimeZoneUtc : goal.returns-in_ok-fixed_form-in-TimeZoneUtc
returns-in_ok-fixed_form-in-TimeZoneUtc c = rw c.in-TimeZoneUtc.is (row_only time_zone_utc_row c.args.text.now tt c.in_ok-fixed_form-in-TimeZoneUtc.ensures)

pub returns-in_err-fixed_form-in-BinaryLogOff : goal.returns-in_err-fixed_form-in-BinaryLogOff
returns-in_err-fixed_form-in-BinaryLogOff c = rw c.in-BinaryLogOff.is (row_fault binary_log_off_row c.args.text.now _ _ c.in_err-fixed_form-in-BinaryLogOff.ensures (grind (arith, common_steps)))

pub returns-in_ok-fixed_form-in-BinaryLogOff : goal.returns-in_ok-fixed_form-in-BinaryLogOff
returns-in_ok-fixed_form-in-BinaryLogOff c = rw c.in-BinaryLogOff.is (row_only binary_log_off_row c.args.text.now tt c.in_ok-fixed_form-in-BinaryLogOff.ensures)

pub returns-in_err-value-in-SqlMode : goal.returns-in_err-value-in-SqlMode
returns-in_err-value-in-SqlMode c = rw c.in-SqlMode.is (row_fault sql_mode_row c.args.text.now _ _ c.in_err-value-in-SqlMode.ensures (grind (arith, common_steps)))

pub returns-in_ok-value-in-SqlMode : goal.returns-in_ok-value-in-SqlMode
returns-in_ok-value-in-SqlMode c = rw c.in-SqlMode.is (row_only sql_mode_row c.args.text.now c.in_ok-value-in-SqlMode.value c.in_ok-value-in-SqlMode.ensures)

pub returns-in_err-value-in-CharacterSetClient : goal.returns-in_err-value-in-CharacterSetClient
returns-in_err-value-in-CharacterSetClient c = rw c.in-CharacterSetClient.is (row_fault character_set_client_row c.args.text.now _ _ c.in_err-value-in-CharacterSetClient.ensures (grind (arith, common_steps)))

pub returns-in_ok-value-in-CharacterSetClient : goal.returns-in_ok-value-in-CharacterSetClient
returns-in_ok-value-in-CharacterSetClient c = rw c.in-CharacterSetClient.is (row_only character_set_client_row c.args.text.now c.in_ok-value-in-CharacterSetClient.value c.in_ok-value-in-CharacterSetClient.ensures)

pub returns-in_err-value-in-CollationConnection : goal.returns-in_err-value-in-CollationConnection
returns-in_err-value-in-CollationConnection c = rw c.in-CollationConnection.is (row_fault collation_connection_row c.args.text.now _ _ c.in_err-value-in-CollationConnection.ensures (grind (arith, common_steps)))

pub returns-in_ok-value-in-CollationConnection : goal.returns-in_ok-value-in-CollationConnection
returns-in_ok-value-in-CollationConnection c = rw c.in-CollationConnection.is (row_only collation_connection_row c.args.text.now c.in_ok-value-in-CollationConnection.value c.in_ok-value-in-CollationConnection.ensures)

pub returns-in_err-fixed_form-in-RepeatableRead : goal.returns-in_err-fixed_form-in-RepeatableRead
returns-in_err-fixed_form-in-RepeatableRead c = rw c.in-RepeatableRead.is (row_fault repeatable_read_row c.args.text.now _ _ c.in_err-fixed_form-in-RepeatableRead.ensures (grind (arith, common_steps)))

pub returns-in_ok-fixed_form-in-RepeatableRead : goal.returns-in_ok-fixed_form-in-RepeatableRead
returns-in_ok-fixed_form-in-RepeatableRead c = rw c.in-RepeatableRead.is (row_only repeatable_read_row c.args.text.now tt c.in_ok-fixed_form-in-RepeatableRead.ensures)

pub returns-in_err-value-in-TimeZone : goal.returns-in_err-value-in-TimeZone
returns-in_err-value-in-TimeZone c = rw c.in-TimeZone.is (row_fault time_zone_row c.args.text.now _ _ c.in_err-value-in-TimeZone.ensures (grind (arith, common_steps)))

pub returns-in_ok-value-in-TimeZone : goal.returns-in_ok-value-in-TimeZone
returns-in_ok-value-in-TimeZone c = rw c.in-TimeZone.is (row_only time_zone_row c.args.text.now c.in_ok-value-in-TimeZone.value c.in_ok-value-in-TimeZone.ensures)
