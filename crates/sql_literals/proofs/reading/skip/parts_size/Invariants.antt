use Rattle.std.proofs.Common.{◌-◌, length}
use Rattle.grammar.specs.Language.{Many}
use Rattle.grammar.proofs.Skips.{Further}
use Rattle.sql_cells.specs.Spelling.{Quoted}
use Rattle.sql_literals.proofs.reading.skip.parts_size.Given as goal

abbrev pub invariant-parts : goal.invariant-parts
invariant-parts l = Further (Many Quoted) l.bytes l.at

abbrev pub decreases-parts : goal.decreases-parts
decreases-parts l = length l.bytes - l.at
