use Rattle.std.proofs.Common.{arith}
use Rattle.std.proofs.lemmas.Grind.{common_steps}
use Rattle.statement_reading.proofs.KindRows.{triggers_row, routines_row, view_needs_row, events_row}
use Rattle.statement_reading.proofs.Rows.{row_only, row_fault}
use Rattle.statement_reading.proofs.reading.stored.read_stored_query.Goals as goal

pub returns-in_err-value-in-Triggers : goal.returns-in_err-value-in-Triggers
returns-in_err-value-in-Triggers c = rw c.in-Triggers.is (row_fault triggers_row c.args.text.now _ _ c.in_err-value-in-Triggers.ensures (grind (arith, common_steps)))

pub returns-in_ok-value-in-Triggers : goal.returns-in_ok-value-in-Triggers
returns-in_ok-value-in-Triggers c = rw c.in-Triggers.is (row_only triggers_row c.args.text.now c.in_ok-value-in-Triggers.value c.in_ok-value-in-Triggers.ensures)

pub returns-in_err-value-in-Routines : goal.returns-in_err-value-in-Routines
returns-in_err-value-in-Routines c = rw c.in-Routines.is (row_fault routines_row c.args.text.now _ _ c.in_err-value-in-Routines.ensures (grind (arith, common_steps)))

pub returns-in_ok-value-in-Routines : goal.returns-in_ok-value-in-Routines
returns-in_ok-value-in-Routines c = rw c.in-Routines.is (row_only routines_row c.args.text.now c.in_ok-value-in-Routines.value c.in_ok-value-in-Routines.ensures)

pub returns-in_err-value-in-ViewNeeds : goal.returns-in_err-value-in-ViewNeeds
returns-in_err-value-in-ViewNeeds c = rw c.in-ViewNeeds.is (row_fault view_needs_row c.args.text.now _ _ c.in_err-value-in-ViewNeeds.ensures (grind (arith, common_steps)))

pub returns-in_ok-value-in-ViewNeeds : goal.returns-in_ok-value-in-ViewNeeds
returns-in_ok-value-in-ViewNeeds c = rw c.in-ViewNeeds.is (row_only view_needs_row c.args.text.now c.in_ok-value-in-ViewNeeds.value c.in_ok-value-in-ViewNeeds.ensures)

pub returns-in_err-value-in-Events : goal.returns-in_err-value-in-Events
returns-in_err-value-in-Events c = rw c.in-Events.is (row_fault events_row c.args.text.now _ _ c.in_err-value-in-Events.ensures (grind (arith, common_steps)))

pub returns-in_ok-value-in-Events : goal.returns-in_ok-value-in-Events
returns-in_ok-value-in-Events c = rw c.in-Events.is (row_only events_row c.args.text.now c.in_ok-value-in-Events.value c.in_ok-value-in-Events.ensures)
