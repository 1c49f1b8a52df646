use Rattle.std.proofs.Common.{sym}
use Rattle.result_rows.specs.declared.reader.TurnKind.TheVariants.{Definition as DefinitionKind, End as EndKind, Garbled as GarbledKind}
use Rattle.result_rows.proofs.Turns.{step_tells, row_found, refusal_there}
use Rattle.result_rows.specs.RowCells.{row_cells}
use Rattle.result_rows.proofs.reader.RowReader.more.Goals as goal

pub found_row-requires : goal.found_row-requires
found_row-requires c = (row_found c.args.self.now c.step.new.self c.args.message.payload.now c.in-Row.ensures.step c.in-Row.ensures.after).0

pub returns-in-Definition-clause-turn : goal.returns-in-Definition-clause-turn
returns-in-Definition-clause-turn c = step_tells c.args.self.now c.args.message.payload.now DefinitionKind c.in-Definition.ensures.step

pub returns-in-Row-clause-turn : goal.returns-in-Row-clause-turn
returns-in-Row-clause-turn c = ((row_found c.args.self.now c.step.new.self c.args.message.payload.now c.in-Row.ensures.step c.in-Row.ensures.after).1 (row_cells c.found_row.result) c.found_row.ensures.cells, c.found_row.ensures.place)

pub returns-in-End-clause-turn : goal.returns-in-End-clause-turn
returns-in-End-clause-turn c = step_tells c.args.self.now c.args.message.payload.now EndKind c.in-End.ensures.step

pub returns-in-None-clause-turn : goal.returns-in-None-clause-turn
returns-in-None-clause-turn c = absurd (refusal_there c.args.self.now c.args.message.payload.now c.in-Refused.ensures.step (sym c.in-None.ensures))

pub returns-in-Garbled-clause-turn : goal.returns-in-Garbled-clause-turn
returns-in-Garbled-clause-turn c = step_tells c.args.self.now c.args.message.payload.now GarbledKind c.in-Garbled.ensures.step
