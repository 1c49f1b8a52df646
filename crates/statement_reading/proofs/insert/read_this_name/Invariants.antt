use Rattle.grammar.specs.Language.{Fixed}
use Rattle.grammar.proofs.Onward.{Onward}
use Rattle.sql_cells.specs.Name.{quoted_name}
use Rattle.statement_reading.proofs.InsertReads.{name_rest}
use Rattle.statement_reading.proofs.insert.read_this_name.Given as goal

abbrev pub invariant-loop-byte : goal.invariant-loop-byte
invariant-loop-byte l = Onward (Fixed (quoted_name l.name)) (Fixed (name_rest l.name l.byte-index)) l.bytes l.at
