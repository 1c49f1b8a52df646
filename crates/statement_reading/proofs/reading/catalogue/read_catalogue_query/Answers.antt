use Rattle.std.proofs.Common.{arith}
use Rattle.std.proofs.lemmas.Grind.{common_steps}
use Rattle.statement_reading.proofs.KindRows.{master_status_row, binary_log_status_row, schemas_row, tables_row, columns_row, primary_key_row}
use Rattle.statement_reading.proofs.Rows.{row_only, row_fault}
use Rattle.statement_reading.proofs.reading.catalogue.read_catalogue_query.Goals as goal

pub returns-in_err-fixed_form-in-MasterStatus : goal.returns-in_err-fixed_form-in-MasterStatus
returns-in_err-fixed_form-in-MasterStatus c = rw c.in-MasterStatus.is (row_fault master_status_row c.args.text.now _ _ c.in_err-fixed_form-in-MasterStatus.ensures (grind (arith, common_steps)))

pub returns-in_ok-fixed_form-in-MasterStatus : goal.returns-in_ok-fixed_form-in-MasterStatus
returns-in_ok-fixed_form-in-MasterStatus c = rw c.in-MasterStatus.is (row_only master_status_row c.args.text.now tt c.in_ok-fixed_form-in-MasterStatus.ensures)

pub returns-in_err-fixed_form-in-BinaryLogStatus : goal.returns-in_err-fixed_form-in-BinaryLogStatus
returns-in_err-fixed_form-in-BinaryLogStatus c = rw c.in-BinaryLogStatus.is (row_fault binary_log_status_row c.args.text.now _ _ c.in_err-fixed_form-in-BinaryLogStatus.ensures (grind (arith, common_steps)))

pub returns-in_ok-fixed_form-in-BinaryLogStatus : goal.returns-in_ok-fixed_form-in-BinaryLogStatus
returns-in_ok-fixed_form-in-BinaryLogStatus c = rw c.in-BinaryLogStatus.is (row_only binary_log_status_row c.args.text.now tt c.in_ok-fixed_form-in-BinaryLogStatus.ensures)

pub returns-in_err-fixed_form-in-Schemas : goal.returns-in_err-fixed_form-in-Schemas
returns-in_err-fixed_form-in-Schemas c = rw c.in-Schemas.is (row_fault schemas_row c.args.text.now _ _ c.in_err-fixed_form-in-Schemas.ensures (grind (arith, common_steps)))

pub returns-in_ok-fixed_form-in-Schemas : goal.returns-in_ok-fixed_form-in-Schemas
returns-in_ok-fixed_form-in-Schemas c = rw c.in-Schemas.is (row_only schemas_row c.args.text.now tt c.in_ok-fixed_form-in-Schemas.ensures)

pub returns-in_err-value-in-Tables : goal.returns-in_err-value-in-Tables
returns-in_err-value-in-Tables c = rw c.in-Tables.is (row_fault tables_row c.args.text.now _ _ c.in_err-value-in-Tables.ensures (grind (arith, common_steps)))

pub returns-in_ok-value-in-Tables : goal.returns-in_ok-value-in-Tables
returns-in_ok-value-in-Tables c = rw c.in-Tables.is (row_only tables_row c.args.text.now c.in_ok-value-in-Tables.value c.in_ok-value-in-Tables.ensures)

pub returns-in_err-path-in-Columns : goal.returns-in_err-path-in-Columns
returns-in_err-path-in-Columns c = rw c.in-Columns.is (row_fault columns_row c.args.text.now _ _ c.in_err-path-in-Columns.ensures (grind (arith, common_steps)))

pub returns-in_ok-path-in-Columns : goal.returns-in_ok-path-in-Columns
returns-in_ok-path-in-Columns c = rw c.in-Columns.is (row_only columns_row c.args.text.now c.in_ok-path-in-Columns.path c.in_ok-path-in-Columns.ensures)

pub returns-in_err-path-in-PrimaryKey : goal.returns-in_err-path-in-PrimaryKey
returns-in_err-path-in-PrimaryKey c = rw c.in-PrimaryKey.is (row_fault primary_key_row c.args.text.now _ _ c.in_err-path-in-PrimaryKey.ensures (grind (arith, common_steps)))

pub returns-in_ok-path-in-PrimaryKey : goal.returns-in_ok-path-in-PrimaryKey
returns-in_ok-path-in-PrimaryKey c = rw c.in-PrimaryKey.is (row_only primary_key_row c.args.text.now c.in_ok-path-in-PrimaryKey.path c.in_ok-path-in-PrimaryKey.ensures)
