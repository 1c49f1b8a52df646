use Rattle.std.proofs.Common.{◌-◌, length}
use Rattle.grammar.specs.Language.{Many}
use Rattle.grammar.proofs.Onward.{Onward}
use Rattle.statement_forms.specs.Insert.{NamePart}
use Rattle.statement_reading.proofs.reading.names.read_name_parts.Given as goal

abbrev pub invariant-parts : goal.invariant-parts
invariant-parts l = Onward (Many NamePart) (Many NamePart) l.bytes l.at

abbrev pub decreases-parts : goal.decreases-parts
decreases-parts l = length l.bytes - l.at
