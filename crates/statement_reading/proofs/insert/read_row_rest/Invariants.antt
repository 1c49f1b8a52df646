use Rattle.std.proofs.Common.{◌-◌, codes}
use Rattle.grammar.specs.Language.{Fixed, Then, Times}
use Rattle.grammar.proofs.Onward.{Onward}
use Rattle.statement_forms.specs.Insert.{NextLiteral}
use Rattle.statement_reading.specs.InsertReading.{RowRest}
use Rattle.statement_reading.proofs.insert.read_row_rest.Given as goal

abbrev pub invariant-loop-i : goal.invariant-loop-i
invariant-loop-i l = Onward (RowRest l.more) (Then (Times NextLiteral (l.more - l.i)) (Fixed (codes ")"))) l.bytes l.at
