use Rattle.std.proofs.Common.{◌-◌, ◌≤◌, length, take}
use Rattle.grammar.specs.Language.{Times, Many}
use Rattle.grammar.proofs.Onward.{Onward}
use Rattle.statement_forms.specs.Insert.{NextName}
use Rattle.statement_reading.proofs.insert.read_counted_names.Given as goal

abbrev pub invariant-names : goal.invariant-names
invariant-names l = record { onward : Onward (Many NextName) (Many NextName) l.bytes l.size; counted : Times NextName l.count (take l.size l.bytes); few : l.count ≤ l.size }

abbrev pub decreases-names : goal.decreases-names
decreases-names l = length l.bytes - l.size
