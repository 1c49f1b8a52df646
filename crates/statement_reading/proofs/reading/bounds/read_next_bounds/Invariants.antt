use Rattle.std.proofs.Common.{◌-◌}
use Rattle.grammar.specs.Language.{Nothing, Then, Times}
use Rattle.grammar.proofs.Onward.{Onward}
use Rattle.statement_reading.specs.Parts.{NextBound}
use Rattle.statement_reading.proofs.reading.bounds.read_next_bounds.Given as goal

abbrev pub invariant-loop-i : goal.invariant-loop-i
invariant-loop-i l = Onward (Times NextBound l.more) (Then (Times NextBound (l.more - l.i)) Nothing) l.bytes l.at
