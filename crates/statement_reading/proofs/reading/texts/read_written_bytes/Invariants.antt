use Rattle.std.proofs.Common.{◌-◌, length}
use Rattle.grammar.specs.Language.{Many}
use Rattle.grammar.proofs.Onward.{Onward}
use Rattle.statement_reading.specs.Parts.{WrittenByte}
use Rattle.statement_reading.proofs.reading.texts.read_written_bytes.Given as goal

abbrev pub invariant-bytes : goal.invariant-bytes
invariant-bytes l = Onward (Many WrittenByte) (Many WrittenByte) l.bytes l.at

abbrev pub decreases-bytes : goal.decreases-bytes
decreases-bytes l = length l.bytes - l.at
