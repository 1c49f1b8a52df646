use Rattle.std.proofs.Common.{◌-◌}
use Rattle.grammar.specs.Language.{One, Then, Times, Nothing}
use Rattle.grammar.proofs.Onward.{Onward}
use Rattle.statement_reading.specs.Parts.{DigestText}
use Rattle.statement_forms.specs.Statement.{is_lower_digit}
use Rattle.statement_reading.proofs.reading.digest.read_digest.Given as goal

abbrev pub invariant-loop-i : goal.invariant-loop-i
invariant-loop-i l = Onward DigestText (Then (Times (One is_lower_digit) (40 - l.i)) Nothing) l.bytes l.i
