use Rattle.std.proofs.Common.{◌-◌, ◌≤◌, length, take}
use Rattle.grammar.specs.Language.{Times, Many}
use Rattle.grammar.proofs.Onward.{Onward}
use Rattle.statement_forms.specs.Insert.{FurtherRow}
use Rattle.statement_reading.proofs.insert.read_next_rows.Given as goal

abbrev pub invariant-rows : goal.invariant-rows
invariant-rows l = record { onward : Onward (Many (FurtherRow l.more)) (Many (FurtherRow l.more)) l.bytes l.size; counted : Times (FurtherRow l.more) l.count (take l.size l.bytes); few : l.count ≤ l.size }

abbrev pub decreases-rows : goal.decreases-rows
decreases-rows l = length l.bytes - l.size
