use Rattle.std.proofs.Common.{◌-◌, length}
use Rattle.grammar.specs.Language.{Many}
use Rattle.grammar.proofs.Onward.{Onward}
use Rattle.sql_cells.specs.Spelling.{Quoted}
use Rattle.sql_literals.proofs.reading.text.read_more.Given as goal

abbrev pub invariant-parts : goal.invariant-parts
invariant-parts l = Onward (Many Quoted) (Many Quoted) l.bytes l.at

abbrev pub decreases-parts : goal.decreases-parts
decreases-parts l = length l.bytes - l.at
