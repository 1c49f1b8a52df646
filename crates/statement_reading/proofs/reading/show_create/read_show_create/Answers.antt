use Rattle.std.proofs.Common.{arith}
use Rattle.std.proofs.lemmas.Grind.{common_steps}
use Rattle.statement_reading.proofs.KindRows.{create_database_row, create_table_row, create_view_row, create_procedure_row, create_function_row, create_trigger_row, create_event_row}
use Rattle.statement_reading.proofs.Rows.{row_only, row_fault}
use Rattle.statement_reading.proofs.reading.show_create.read_show_create.Goals as goal

pub returns-in_err-schema-in-CreateDatabase : goal.returns-in_err-schema-in-CreateDatabase
returns-in_err-schema-in-CreateDatabase c = rw c.in-CreateDatabase.is (row_fault create_database_row c.args.text.now _ _ c.in_err-schema-in-CreateDatabase.ensures (grind (arith, common_steps)))

pub returns-in_ok-schema-in-CreateDatabase : goal.returns-in_ok-schema-in-CreateDatabase
returns-in_ok-schema-in-CreateDatabase c = rw c.in-CreateDatabase.is (row_only create_database_row c.args.text.now c.in_ok-schema-in-CreateDatabase.schema c.in_ok-schema-in-CreateDatabase.ensures)

pub returns-in_err-path-in-CreateTable : goal.returns-in_err-path-in-CreateTable
returns-in_err-path-in-CreateTable c = rw c.in-CreateTable.is (row_fault create_table_row c.args.text.now _ _ c.in_err-path-in-CreateTable.ensures (grind (arith, common_steps)))

pub returns-in_ok-path-in-CreateTable : goal.returns-in_ok-path-in-CreateTable
returns-in_ok-path-in-CreateTable c = rw c.in-CreateTable.is (row_only create_table_row c.args.text.now c.in_ok-path-in-CreateTable.path c.in_ok-path-in-CreateTable.ensures)

pub returns-in_err-path-in-CreateView : goal.returns-in_err-path-in-CreateView
returns-in_err-path-in-CreateView c = rw c.in-CreateView.is (row_fault create_view_row c.args.text.now _ _ c.in_err-path-in-CreateView.ensures (grind (arith, common_steps)))

pub returns-in_ok-path-in-CreateView : goal.returns-in_ok-path-in-CreateView
returns-in_ok-path-in-CreateView c = rw c.in-CreateView.is (row_only create_view_row c.args.text.now c.in_ok-path-in-CreateView.path c.in_ok-path-in-CreateView.ensures)

pub returns-in_err-path-in-CreateProcedure : goal.returns-in_err-path-in-CreateProcedure
returns-in_err-path-in-CreateProcedure c = rw c.in-CreateProcedure.is (row_fault create_procedure_row c.args.text.now _ _ c.in_err-path-in-CreateProcedure.ensures (grind (arith, common_steps)))

pub returns-in_ok-path-in-CreateProcedure : goal.returns-in_ok-path-in-CreateProcedure
returns-in_ok-path-in-CreateProcedure c = rw c.in-CreateProcedure.is (row_only create_procedure_row c.args.text.now c.in_ok-path-in-CreateProcedure.path c.in_ok-path-in-CreateProcedure.ensures)

pub returns-in_err-path-in-CreateFunction : goal.returns-in_err-path-in-CreateFunction
returns-in_err-path-in-CreateFunction c = rw c.in-CreateFunction.is (row_fault create_function_row c.args.text.now _ _ c.in_err-path-in-CreateFunction.ensures (grind (arith, common_steps)))

pub returns-in_ok-path-in-CreateFunction : goal.returns-in_ok-path-in-CreateFunction
returns-in_ok-path-in-CreateFunction c = rw c.in-CreateFunction.is (row_only create_function_row c.args.text.now c.in_ok-path-in-CreateFunction.path c.in_ok-path-in-CreateFunction.ensures)

pub returns-in_err-path-in-CreateTrigger : goal.returns-in_err-path-in-CreateTrigger
returns-in_err-path-in-CreateTrigger c = rw c.in-CreateTrigger.is (row_fault create_trigger_row c.args.text.now _ _ c.in_err-path-in-CreateTrigger.ensures (grind (arith, common_steps)))

pub returns-in_ok-path-in-CreateTrigger : goal.returns-in_ok-path-in-CreateTrigger
returns-in_ok-path-in-CreateTrigger c = rw c.in-CreateTrigger.is (row_only create_trigger_row c.args.text.now c.in_ok-path-in-CreateTrigger.path c.in_ok-path-in-CreateTrigger.ensures)

pub returns-in_err-path-in-CreateEvent : goal.returns-in_err-path-in-CreateEvent
returns-in_err-path-in-CreateEvent c = rw c.in-CreateEvent.is (row_fault create_event_row c.args.text.now _ _ c.in_err-path-in-CreateEvent.ensures (grind (arith, common_steps)))

pub returns-in_ok-path-in-CreateEvent : goal.returns-in_ok-path-in-CreateEvent
returns-in_ok-path-in-CreateEvent c = rw c.in-CreateEvent.is (row_only create_event_row c.args.text.now c.in_ok-path-in-CreateEvent.path c.in_ok-path-in-CreateEvent.ensures)
