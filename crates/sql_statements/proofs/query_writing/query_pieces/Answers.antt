-- The pieces one after the other are the text.
use Rattle.std.proofs.Common.{◌∙◌}
use Rattle.std.proofs.lemmas.List.{append-nil}
use Rattle.statement_forms.specs.Text.{query_text}
use Rattle.sql_statements.proofs.query_writing.query_pieces.Goals as goal

pub returns-in-MasterStatus : goal.returns-in-MasterStatus
unfolding query_text
returns-in-MasterStatus c = rw c.in-MasterStatus.is c.one_piece.ensures

pub returns-in-BinaryLogStatus : goal.returns-in-BinaryLogStatus
unfolding query_text
returns-in-BinaryLogStatus c = rw c.in-BinaryLogStatus.is c.one_piece-in-BinaryLogStatus.ensures

pub returns-in-Schemas : goal.returns-in-Schemas
unfolding query_text
returns-in-Schemas c = rw c.in-Schemas.is c.one_piece-in-Schemas.ensures

pub returns-in-Tables : goal.returns-in-Tables
unfolding query_text
returns-in-Tables c = rw c.in-Tables.is c.two_pieces.ensures

pub returns-in-Columns : goal.returns-in-Columns
unfolding query_text
returns-in-Columns c = rw c.in-Columns.is (append-nil _ ∙ append-nil _)

pub returns-in-PrimaryKey : goal.returns-in-PrimaryKey
unfolding query_text
returns-in-PrimaryKey c = rw c.in-PrimaryKey.is (append-nil _ ∙ append-nil _)

pub returns-in-Triggers : goal.returns-in-Triggers
unfolding query_text
returns-in-Triggers c = rw c.in-Triggers.is c.two_pieces-in-Triggers.ensures

pub returns-in-Routines : goal.returns-in-Routines
unfolding query_text
returns-in-Routines c = rw c.in-Routines.is c.two_pieces-in-Routines.ensures

pub returns-in-ViewNeeds : goal.returns-in-ViewNeeds
unfolding query_text
returns-in-ViewNeeds c = rw c.in-ViewNeeds.is c.two_pieces-in-ViewNeeds.ensures

pub returns-in-Events : goal.returns-in-Events
unfolding query_text
returns-in-Events c = rw c.in-Events.is c.two_pieces-in-Events.ensures

pub returns-in-CreateDatabase : goal.returns-in-CreateDatabase
unfolding query_text
returns-in-CreateDatabase c = rw c.in-CreateDatabase.is c.two_pieces-in-CreateDatabase.ensures

pub returns-in-CreateTable : goal.returns-in-CreateTable
unfolding query_text
returns-in-CreateTable c = rw c.in-CreateTable.is c.two_pieces-in-CreateTable.ensures

pub returns-in-CreateView : goal.returns-in-CreateView
unfolding query_text
returns-in-CreateView c = rw c.in-CreateView.is c.two_pieces-in-CreateView.ensures

pub returns-in-CreateProcedure : goal.returns-in-CreateProcedure
unfolding query_text
returns-in-CreateProcedure c = rw c.in-CreateProcedure.is c.two_pieces-in-CreateProcedure.ensures

pub returns-in-CreateFunction : goal.returns-in-CreateFunction
unfolding query_text
returns-in-CreateFunction c = rw c.in-CreateFunction.is c.two_pieces-in-CreateFunction.ensures

pub returns-in-CreateTrigger : goal.returns-in-CreateTrigger
unfolding query_text
returns-in-CreateTrigger c = rw c.in-CreateTrigger.is c.two_pieces-in-CreateTrigger.ensures

pub returns-in-CreateEvent : goal.returns-in-CreateEvent
unfolding query_text
returns-in-CreateEvent c = rw c.in-CreateEvent.is c.two_pieces-in-CreateEvent.ensures

pub returns-in-Key : goal.returns-in-Key
unfolding query_text
returns-in-Key c = rw c.in-Key.is c.three_pieces.ensures

pub returns-in-KeyAbove : goal.returns-in-KeyAbove
unfolding query_text
returns-in-KeyAbove c = rw c.in-KeyAbove.is c.four_pieces.ensures

pub returns-in-Rows : goal.returns-in-Rows
unfolding query_text
returns-in-Rows c = rw c.in-Rows.is c.one_piece-in-Rows.ensures

pub returns-in-RowsByKey : goal.returns-in-RowsByKey
unfolding query_text
returns-in-RowsByKey c = rw c.in-RowsByKey.is c.two_pieces-in-RowsByKey.ensures

pub returns-in-RowsAbove : goal.returns-in-RowsAbove
unfolding query_text
returns-in-RowsAbove c = rw c.in-RowsAbove.is c.three_pieces-in-RowsAbove.ensures

pub returns-in-RowsUpTo : goal.returns-in-RowsUpTo
unfolding query_text
returns-in-RowsUpTo c = rw c.in-RowsUpTo.is (append-nil _)

pub returns-in-RowsBetween : goal.returns-in-RowsBetween
unfolding query_text
returns-in-RowsBetween c = rw c.in-RowsBetween.is

pub returns-in-WideKey : goal.returns-in-WideKey
unfolding query_text
returns-in-WideKey c = rw c.in-WideKey.is c.three_pieces-in-WideKey.ensures

pub returns-in-WideKeyAbove : goal.returns-in-WideKeyAbove
unfolding query_text
returns-in-WideKeyAbove c = rw c.in-WideKeyAbove.is (append-nil _ ∙ append-nil _)

pub returns-in-RowsByWideKey : goal.returns-in-RowsByWideKey
unfolding query_text
returns-in-RowsByWideKey c = rw c.in-RowsByWideKey.is c.two_pieces-in-RowsByWideKey.ensures

pub returns-in-RowsAboveWide : goal.returns-in-RowsAboveWide
unfolding query_text
returns-in-RowsAboveWide c = rw c.in-RowsAboveWide.is c.four_pieces-in-RowsAboveWide.ensures

pub returns-in-RowsUpToWide : goal.returns-in-RowsUpToWide
unfolding query_text
returns-in-RowsUpToWide c = rw c.in-RowsUpToWide.is c.four_pieces-in-RowsUpToWide.ensures

pub returns-in-RowsBetweenWide : goal.returns-in-RowsBetweenWide
unfolding query_text
returns-in-RowsBetweenWide c = rw c.in-RowsBetweenWide.is (append-nil _)

pub returns-in-ProgressDump : goal.returns-in-ProgressDump
unfolding query_text
returns-in-ProgressDump c = rw c.in-ProgressDump.is c.one_piece-in-ProgressDump.ensures

pub returns-in-ProgressFiles : goal.returns-in-ProgressFiles
unfolding query_text
returns-in-ProgressFiles c = rw c.in-ProgressFiles.is c.one_piece-in-ProgressFiles.ensures
