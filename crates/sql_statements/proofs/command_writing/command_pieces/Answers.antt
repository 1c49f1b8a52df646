-- The pieces one after the other are the text.
use Rattle.statement_forms.specs.Text.{command_text}
use Rattle.sql_statements.proofs.command_writing.command_pieces.Goals as goal

pub returns-in-SetUp : goal.returns-in-SetUp
unfolding command_text
returns-in-SetUp c = rw c.in-SetUp.is c.one_piece.ensures

pub returns-in-NamesUtf8mb4 : goal.returns-in-NamesUtf8mb4
unfolding command_text
returns-in-NamesUtf8mb4 c = rw c.in-NamesUtf8mb4.is c.one_piece-in-NamesUtf8mb4.ensures

pub returns-in-NamesBinary : goal.returns-in-NamesBinary
unfolding command_text
returns-in-NamesBinary c = rw c.in-NamesBinary.is c.one_piece-in-NamesBinary.ensures

pub returns-in-ForeignKeyChecksOff : goal.returns-in-ForeignKeyChecksOff
unfolding command_text
returns-in-ForeignKeyChecksOff c = rw c.in-ForeignKeyChecksOff.is c.one_piece-in-ForeignKeyChecksOff.ensures

pub returns-in-TimeZoneUtc : goal.returns-in-TimeZoneUtc
unfolding command_text
returns-in-TimeZoneUtc c = rw c.in-TimeZoneUtc.is c.one_piece-in-TimeZoneUtc.ensures

pub returns-in-BinaryLogOff : goal.returns-in-BinaryLogOff
unfolding command_text
returns-in-BinaryLogOff c = rw c.in-BinaryLogOff.is c.one_piece-in-BinaryLogOff.ensures

pub returns-in-SqlMode : goal.returns-in-SqlMode
unfolding command_text
returns-in-SqlMode c = rw c.in-SqlMode.is c.two_pieces.ensures

pub returns-in-CharacterSetClient : goal.returns-in-CharacterSetClient
unfolding command_text
returns-in-CharacterSetClient c = rw c.in-CharacterSetClient.is c.two_pieces-in-CharacterSetClient.ensures

pub returns-in-CollationConnection : goal.returns-in-CollationConnection
unfolding command_text
returns-in-CollationConnection c = rw c.in-CollationConnection.is c.two_pieces-in-CollationConnection.ensures

pub returns-in-RepeatableRead : goal.returns-in-RepeatableRead
unfolding command_text
returns-in-RepeatableRead c = rw c.in-RepeatableRead.is c.one_piece-in-RepeatableRead.ensures

pub returns-in-TimeZone : goal.returns-in-TimeZone
unfolding command_text
returns-in-TimeZone c = rw c.in-TimeZone.is c.two_pieces-in-TimeZone.ensures

pub returns-in-LockInstance : goal.returns-in-LockInstance
unfolding command_text
returns-in-LockInstance c = rw c.in-LockInstance.is c.one_piece-in-LockInstance.ensures

pub returns-in-FlushTables : goal.returns-in-FlushTables
unfolding command_text
returns-in-FlushTables c = rw c.in-FlushTables.is c.one_piece-in-FlushTables.ensures

pub returns-in-UnlockTables : goal.returns-in-UnlockTables
unfolding command_text
returns-in-UnlockTables c = rw c.in-UnlockTables.is c.one_piece-in-UnlockTables.ensures

pub returns-in-UnlockInstance : goal.returns-in-UnlockInstance
unfolding command_text
returns-in-UnlockInstance c = rw c.in-UnlockInstance.is c.one_piece-in-UnlockInstance.ensures

pub returns-in-StartSnapshot : goal.returns-in-StartSnapshot
unfolding command_text
returns-in-StartSnapshot c = rw c.in-StartSnapshot.is c.one_piece-in-StartSnapshot.ensures

pub returns-in-Start : goal.returns-in-Start
unfolding command_text
returns-in-Start c = rw c.in-Start.is c.one_piece-in-Start.ensures

pub returns-in-Commit : goal.returns-in-Commit
unfolding command_text
returns-in-Commit c = rw c.in-Commit.is c.one_piece-in-Commit.ensures

pub returns-in-Rollback : goal.returns-in-Rollback
unfolding command_text
returns-in-Rollback c = rw c.in-Rollback.is c.one_piece-in-Rollback.ensures

pub returns-in-Use : goal.returns-in-Use
unfolding command_text
returns-in-Use c = rw c.in-Use.is c.two_pieces-in-Use.ensures

pub returns-in-Create : goal.returns-in-Create
unfolding command_text
returns-in-Create c = rw c.in-Create.is c.one_piece-in-Create.ensures

pub returns-in-CreateProgress : goal.returns-in-CreateProgress
unfolding command_text
returns-in-CreateProgress c = rw c.in-CreateProgress.is c.one_piece-in-CreateProgress.ensures

pub returns-in-CreateProgressFiles : goal.returns-in-CreateProgressFiles
unfolding command_text
returns-in-CreateProgressFiles c = rw c.in-CreateProgressFiles.is c.one_piece-in-CreateProgressFiles.ensures

pub returns-in-CreateProgressDump : goal.returns-in-CreateProgressDump
unfolding command_text
returns-in-CreateProgressDump c = rw c.in-CreateProgressDump.is c.one_piece-in-CreateProgressDump.ensures

pub returns-in-Insert : goal.returns-in-Insert
unfolding command_text
returns-in-Insert c = rw c.in-Insert.is c.one_piece-in-Insert.ensures

pub returns-in-InsertProgressFile : goal.returns-in-InsertProgressFile
unfolding command_text
returns-in-InsertProgressFile c = rw c.in-InsertProgressFile.is c.three_pieces.ensures

pub returns-in-InsertProgressDump : goal.returns-in-InsertProgressDump
unfolding command_text
returns-in-InsertProgressDump c = rw c.in-InsertProgressDump.is c.three_pieces-in-InsertProgressDump.ensures
