use Rattle.dumper_cli.specs.AskedBy.{asked_by}
use Rattle.dumper_cli.proofs.columns.read_columns.Goals as goal

pub returns-in-Err-next_column-clause-err : goal.returns-in-Err-next_column-clause-err
returns-in-Err-next_column-clause-err g c = λ start at. c.in-Err-next_column.ensures.err (asked_by c.args.words.now) start (c.columns.invariant.reached start at)
