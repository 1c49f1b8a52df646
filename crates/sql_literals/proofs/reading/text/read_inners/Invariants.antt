use Rattle.std.proofs.Common.{◌-◌, length}
use Rattle.grammar.specs.Language.{Many}
use Rattle.grammar.proofs.Onward.{Onward}
use Rattle.sql_cells.specs.Spelling.{Inner}
use Rattle.sql_literals.proofs.reading.text.read_inners.Given as goal

abbrev pub invariant-runs : goal.invariant-runs
invariant-runs l = Onward (Many Inner) (Many Inner) l.bytes l.at

abbrev pub decreases-runs : goal.decreases-runs
decreases-runs l = length l.bytes - l.at
