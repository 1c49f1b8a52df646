use Rattle.std.proofs.Common.{◌-◌, length}
use Rattle.grammar.specs.Language.{Many}
use Rattle.grammar.proofs.Onward.{Onward}
use Rattle.statement_forms.specs.Insert.{NextName}
use Rattle.statement_reading.proofs.reading.names.read_next_names.Given as goal

abbrev pub invariant-names : goal.invariant-names
invariant-names l = Onward (Many NextName) (Many NextName) l.bytes l.at

abbrev pub decreases-names : goal.decreases-names
decreases-names l = length l.bytes - l.at
