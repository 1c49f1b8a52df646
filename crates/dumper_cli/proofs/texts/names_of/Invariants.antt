use Rattle.std.proofs.Common.{◌≡◌, ◌++◌, drop}
use Rattle.dumper_cli.specs.Stage.{column_names}
use Rattle.dumper_cli.proofs.texts.names_of.Given as goal

abbrev pub invariant-loop-column : goal.invariant-loop-column
invariant-loop-column l = l.names ++ column_names (drop l.column-index l.columns) ≡ column_names l.columns
