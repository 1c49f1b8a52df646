use Rattle.std.proofs.Common.{◌≡◌, ◌++◌, drop}
use Rattle.dumper_cli.specs.DataFile.{led, quoted_names}
use Rattle.dumper_cli.proofs.row_text.names_into.Given as goal

abbrev pub invariant-loop-column : goal.invariant-loop-column
invariant-loop-column l = l.out.bytes ++ led l.lead (quoted_names (drop l.column-index l.columns)) ≡ l.initial.out.bytes ++ led l.initial.lead (quoted_names l.columns)
