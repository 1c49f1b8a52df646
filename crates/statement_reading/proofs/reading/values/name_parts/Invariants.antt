use Rattle.std.proofs.Common.{◌-◌, length}
use Rattle.statement_reading.proofs.NameLists.{Listed}
use Rattle.statement_reading.proofs.reading.values.name_parts.Given as goal

abbrev pub invariant-names : goal.invariant-names
invariant-names l = Listed l.text l.parts l.at

abbrev pub decreases-names : goal.decreases-names
decreases-names l = length l.text - l.at
