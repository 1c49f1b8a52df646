use Rattle.std.proofs.Common.{◌≡◌, ◌+◌, ◌≤◌, false, drop}
use Rattle.statement_reading.specs.Parts.{commas}
use Rattle.statement_reading.proofs.reading.bounds.commas.Given as goal

abbrev pub invariant-loop-byte : goal.invariant-loop-byte
invariant-loop-byte l = (l.count + commas l.inside (drop l.byte-index l.names) ≡ commas false l.names) × (l.count ≤ l.byte-index)
