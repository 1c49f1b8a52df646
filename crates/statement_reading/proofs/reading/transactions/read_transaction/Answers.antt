use Rattle.std.proofs.Common.{arith}
use Rattle.std.proofs.lemmas.Grind.{common_steps}
use Rattle.statement_reading.proofs.KindRows.{lock_instance_row, flush_tables_row, unlock_tables_row, unlock_instance_row, start_snapshot_row, start_row, commit_row, rollback_row}
use Rattle.statement_reading.proofs.Rows.{row_only, row_fault}
use Rattle.statement_reading.proofs.reading.transactions.read_transaction.Goals as goal

pub returns-in_err-fixed_form-in-LockInstance : goal.returns-in_err-fixed_form-in-LockInstance
returns-in_err-fixed_form-in-LockInstance c = rw c.in-LockInstance.is (row_fault lock_instance_row c.args.text.now _ _ c.in_err-fixed_form-in-LockInstance.ensures (grind (arith, common_steps)))

pub returns-in_ok-fixed_form-in-LockInstance : goal.returns-in_ok-fixed_form-in-LockInstance
returns-in_ok-fixed_form-in-LockInstance c = rw c.in-LockInstance.is (row_only lock_instance_row c.args.text.now tt c.in_ok-fixed_form-in-LockInstance.ensures)

pub returns-in_err-fixed_form-in-FlushTables : goal.returns-in_err-fixed_form-in-FlushTables
returns-in_err-fixed_form-in-FlushTables c = rw c.in-FlushTables.is (row_fault flush_tables_row c.args.text.now _ _ c.in_err-fixed_form-in-FlushTables.ensures (grind (arith, common_steps)))

pub returns-in_ok-fixed_form-in-FlushTables : goal.returns-in_ok-fixed_form-in-FlushTables
returns-in_ok-fixed_form-in-FlushTables c = rw c.in-FlushTables.is (row_only flush_tables_row c.args.text.now tt c.in_ok-fixed_form-in-FlushTables.ensures)

pub returns-in_err-fixed_form-in-UnlockTables : goal.returns-in_err-fixed_form-in-UnlockTables
returns-in_err-fixed_form-in-UnlockTables c = rw c.in-UnlockTables.is (row_fault unlock_tables_row c.args.text.now _ _ c.in_err-fixed_form-in-UnlockTables.ensures (grind (arith, common_steps)))

pub returns-in_ok-fixed_form-in-UnlockTables : goal.returns-in_ok-fixed_form-in-UnlockTables
returns-in_ok-fixed_form-in-UnlockTables c = rw c.in-UnlockTables.is (row_only unlock_tables_row c.args.text.now tt c.in_ok-fixed_form-in-UnlockTables.ensures)

pub returns-in_err-fixed_form-in-UnlockInstance : goal.returns-in_err-fixed_form-in-UnlockInstance
returns-in_err-fixed_form-in-UnlockInstance c = rw c.in-UnlockInstance.is (row_fault unlock_instance_row c.args.text.now _ _ c.in_err-fixed_form-in-UnlockInstance.ensures (grind (arith, common_steps)))

pub returns-in_ok-fixed_form-in-UnlockInstance : goal.returns-in_ok-fixed_form-in-UnlockInstance
returns-in_ok-fixed_form-in-UnlockInstance c = rw c.in-UnlockInstance.is (row_only unlock_instance_row c.args.text.now tt c.in_ok-fixed_form-in-UnlockInstance.ensures)

pub returns-in_err-fixed_form-in-StartSnapshot : goal.returns-in_err-fixed_form-in-StartSnapshot
returns-in_err-fixed_form-in-StartSnapshot c = rw c.in-StartSnapshot.is (row_fault start_snapshot_row c.args.text.now _ _ c.in_err-fixed_form-in-StartSnapshot.ensures (grind (arith, common_steps)))

pub returns-in_ok-fixed_form-in-StartSnapshot : goal.returns-in_ok-fixed_form-in-StartSnapshot
returns-in_ok-fixed_form-in-StartSnapshot c = rw c.in-StartSnapshot.is (row_only start_snapshot_row c.args.text.now tt c.in_ok-fixed_form-in-StartSnapshot.ensures)

pub returns-in_err-fixed_form-in-Start : goal.returns-in_err-fixed_form-in-Start
returns-in_err-fixed_form-in-Start c = rw c.in-Start.is (row_fault start_row c.args.text.now _ _ c.in_err-fixed_form-in-Start.ensures (grind (arith, common_steps)))

pub returns-in_ok-fixed_form-in-Start : goal.returns-in_ok-fixed_form-in-Start
returns-in_ok-fixed_form-in-Start c = rw c.in-Start.is (row_only start_row c.args.text.now tt c.in_ok-fixed_form-in-Start.ensures)

pub returns-in_err-fixed_form-in-Commit : goal.returns-in_err-fixed_form-in-Commit
returns-in_err-fixed_form-in-Commit c = rw c.in-Commit.is (row_fault commit_row c.args.text.now _ _ c.in_err-fixed_form-in-Commit.ensures (grind (arith, common_steps)))

pub returns-in_ok-fixed_form-in-Commit : goal.returns-in_ok-fixed_form-in-Commit
returns-in_ok-fixed_form-in-Commit c = rw c.in-Commit.is (row_only commit_row c.args.text.now tt c.in_ok-fixed_form-in-Commit.ensures)

pub returns-in_err-fixed_form-in-Rollback : goal.returns-in_err-fixed_form-in-Rollback
returns-in_err-fixed_form-in-Rollback c = rw c.in-Rollback.is (row_fault rollback_row c.args.text.now _ _ c.in_err-fixed_form-in-Rollback.ensures (grind (arith, common_steps)))

pub returns-in_ok-fixed_form-in-Rollback : goal.returns-in_ok-fixed_form-in-Rollback
returns-in_ok-fixed_form-in-Rollback c = rw c.in-Rollback.is (row_only rollback_row c.args.text.now tt c.in_ok-fixed_form-in-Rollback.ensures)
