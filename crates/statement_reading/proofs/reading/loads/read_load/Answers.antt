use Rattle.std.proofs.Common.{arith}
use Rattle.std.proofs.lemmas.Grind.{common_steps}
use Rattle.statement_reading.proofs.KindRows.{use_row, create_row, create_progress_row, create_progress_files_row, create_progress_dump_row, insert_row, insert_progress_file_row, insert_progress_dump_row}
use Rattle.statement_reading.proofs.Rows.{row_only, row_fault}
use Rattle.statement_reading.proofs.reading.loads.read_load.Goals as goal

pub returns-in_err-schema-in-Use : goal.returns-in_err-schema-in-Use
returns-in_err-schema-in-Use c = rw c.in-Use.is (row_fault use_row c.args.text.now _ _ c.in_err-schema-in-Use.ensures (grind (arith, common_steps)))

pub returns-in_ok-schema-in-Use : goal.returns-in_ok-schema-in-Use
returns-in_ok-schema-in-Use c = rw c.in-Use.is (row_only use_row c.args.text.now c.in_ok-schema-in-Use.schema c.in_ok-schema-in-Use.ensures)

pub returns-in_err-whole-in-Create : goal.returns-in_err-whole-in-Create
returns-in_err-whole-in-Create c = rw c.in-Create.is (row_fault create_row c.args.text.now _ _ c.in_err-whole-in-Create.ensures (grind (arith, common_steps)))

pub returns-in_ok-whole-in-Create : goal.returns-in_ok-whole-in-Create
returns-in_ok-whole-in-Create c = rw c.in-Create.is (row_only create_row c.args.text.now c.in_ok-whole-in-Create.whole c.in_ok-whole-in-Create.ensures)

pub returns-in_err-fixed_form-in-CreateProgress : goal.returns-in_err-fixed_form-in-CreateProgress
returns-in_err-fixed_form-in-CreateProgress c = rw c.in-CreateProgress.is (row_fault create_progress_row c.args.text.now _ _ c.in_err-fixed_form-in-CreateProgress.ensures (grind (arith, common_steps)))

pub returns-in_ok-fixed_form-in-CreateProgress : goal.returns-in_ok-fixed_form-in-CreateProgress
returns-in_ok-fixed_form-in-CreateProgress c = rw c.in-CreateProgress.is (row_only create_progress_row c.args.text.now tt c.in_ok-fixed_form-in-CreateProgress.ensures)

pub returns-in_err-fixed_form-in-CreateProgressFiles : goal.returns-in_err-fixed_form-in-CreateProgressFiles
returns-in_err-fixed_form-in-CreateProgressFiles c = rw c.in-CreateProgressFiles.is (row_fault create_progress_files_row c.args.text.now _ _ c.in_err-fixed_form-in-CreateProgressFiles.ensures (grind (arith, common_steps)))

pub returns-in_ok-fixed_form-in-CreateProgressFiles : goal.returns-in_ok-fixed_form-in-CreateProgressFiles
returns-in_ok-fixed_form-in-CreateProgressFiles c = rw c.in-CreateProgressFiles.is (row_only create_progress_files_row c.args.text.now tt c.in_ok-fixed_form-in-CreateProgressFiles.ensures)

pub returns-in_err-fixed_form-in-CreateProgressDump : goal.returns-in_err-fixed_form-in-CreateProgressDump
returns-in_err-fixed_form-in-CreateProgressDump c = rw c.in-CreateProgressDump.is (row_fault create_progress_dump_row c.args.text.now _ _ c.in_err-fixed_form-in-CreateProgressDump.ensures (grind (arith, common_steps)))

pub returns-in_ok-fixed_form-in-CreateProgressDump : goal.returns-in_ok-fixed_form-in-CreateProgressDump
returns-in_ok-fixed_form-in-CreateProgressDump c = rw c.in-CreateProgressDump.is (row_only create_progress_dump_row c.args.text.now tt c.in_ok-fixed_form-in-CreateProgressDump.ensures)

pub returns-in_err-whole-in-Insert : goal.returns-in_err-whole-in-Insert
returns-in_err-whole-in-Insert c = rw c.in-Insert.is (row_fault insert_row c.args.text.now _ _ c.in_err-whole-in-Insert.ensures (grind (arith, common_steps)))

pub returns-in_ok-whole-in-Insert : goal.returns-in_ok-whole-in-Insert
returns-in_ok-whole-in-Insert c = rw c.in-Insert.is (row_only insert_row c.args.text.now c.in_ok-whole-in-Insert.whole c.in_ok-whole-in-Insert.ensures)

pub returns-in_err-value-in-InsertProgressFile : goal.returns-in_err-value-in-InsertProgressFile
returns-in_err-value-in-InsertProgressFile c = rw c.in-InsertProgressFile.is (row_fault insert_progress_file_row c.args.text.now _ _ c.in_err-value-in-InsertProgressFile.ensures (grind (arith, common_steps)))

pub returns-in_ok-value-in-InsertProgressFile : goal.returns-in_ok-value-in-InsertProgressFile
returns-in_ok-value-in-InsertProgressFile c = rw c.in-InsertProgressFile.is (row_only insert_progress_file_row c.args.text.now c.in_ok-value-in-InsertProgressFile.value c.in_ok-value-in-InsertProgressFile.ensures)

pub returns-in_err-digest-in-InsertProgressDump : goal.returns-in_err-digest-in-InsertProgressDump
returns-in_err-digest-in-InsertProgressDump c = rw c.in-InsertProgressDump.is (row_fault insert_progress_dump_row c.args.text.now _ _ c.in_err-digest-in-InsertProgressDump.ensures (grind (arith, common_steps)))

pub returns-in_ok-digest-in-InsertProgressDump : goal.returns-in_ok-digest-in-InsertProgressDump
returns-in_ok-digest-in-InsertProgressDump c = rw c.in-InsertProgressDump.is (row_only insert_progress_dump_row c.args.text.now c.in_ok-digest-in-InsertProgressDump.digest c.in_ok-digest-in-InsertProgressDump.ensures)
