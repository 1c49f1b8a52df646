use Rattle.std.proofs.Common.{arith, rules}
use Rattle.result_rows.specs.RowCells.{row_cells}
use Rattle.snapshot_handover.proofs.Statuses.{says_status, says_unwritten}
use Rattle.snapshot_handover.proofs.status.status_of.Goals as goal

pub returns-then-not-are_written : goal.returns-then-not-are_written
returns-then-not-are_written c = says_unwritten (row_cells c.args.row.now) c.in_ok-file.file.now c.in_ok-gtid.gtid.now c.in_ok-file.ensures c.in_ok-gtid.ensures (search rules)

pub returns : goal.returns
returns c = says_status (row_cells c.args.row.now) c.in_ok-file.file.now c.in_ok-cell.field-0.now c.in_ok-gtid.gtid.now c.in_ok-offset.offset (omega (arith, c.columns.ensures)) c.in_ok-file.ensures c.in_ok-cell.ensures c.in_ok-offset.ensures c.in_ok-gtid.ensures (search rules) (omega arith)
