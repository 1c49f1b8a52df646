use Rattle.std.proofs.Common.{◌-◌, length}
use Rattle.grammar.specs.Language.{Many}
use Rattle.grammar.proofs.Onward.{Onward}
use Rattle.sql_cells.specs.Spelling.{Pair}
use Rattle.sql_literals.proofs.reading.hexadecimal.read_pairs.Given as goal

abbrev pub invariant-pairs : goal.invariant-pairs
invariant-pairs l = Onward (Many Pair) (Many Pair) l.bytes l.at

abbrev pub decreases-pairs : goal.decreases-pairs
decreases-pairs l = length l.bytes - l.at
