use Rattle.std.proofs.Common.{arith}
use Rattle.std.proofs.lemmas.Grind.{common_steps}
use Rattle.statement_reading.proofs.KindRows.{progress_dump_row, progress_files_row}
use Rattle.statement_reading.proofs.Rows.{row_only, row_fault}
use Rattle.statement_reading.proofs.reading.progress.read_progress_query.Goals as goal

pub returns-in_err-fixed_form-in-ProgressDump : goal.returns-in_err-fixed_form-in-ProgressDump
returns-in_err-fixed_form-in-ProgressDump c = rw c.in-ProgressDump.is (row_fault progress_dump_row c.args.text.now _ _ c.in_err-fixed_form-in-ProgressDump.ensures (grind (arith, common_steps)))

pub returns-in_ok-fixed_form-in-ProgressDump : goal.returns-in_ok-fixed_form-in-ProgressDump
returns-in_ok-fixed_form-in-ProgressDump c = rw c.in-ProgressDump.is (row_only progress_dump_row c.args.text.now tt c.in_ok-fixed_form-in-ProgressDump.ensures)

pub returns-in_err-fixed_form-in-ProgressFiles : goal.returns-in_err-fixed_form-in-ProgressFiles
returns-in_err-fixed_form-in-ProgressFiles c = rw c.in-ProgressFiles.is (row_fault progress_files_row c.args.text.now _ _ c.in_err-fixed_form-in-ProgressFiles.ensures (grind (arith, common_steps)))

pub returns-in_ok-fixed_form-in-ProgressFiles : goal.returns-in_ok-fixed_form-in-ProgressFiles
returns-in_ok-fixed_form-in-ProgressFiles c = rw c.in-ProgressFiles.is (row_only progress_files_row c.args.text.now tt c.in_ok-fixed_form-in-ProgressFiles.ensures)
