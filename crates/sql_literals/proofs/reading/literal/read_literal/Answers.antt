use Rattle.std.proofs.Common.{arith}
use Rattle.sql_literals.proofs.LiteralReads.{literal_null, literal_text, literal_hex, literal_converted, literal_number}
use Rattle.sql_literals.proofs.reading.literal.read_literal.Goals as goal

pub returns-in-78 : goal.returns-in-78
returns-in-78 c = literal_null _ _ (omega arith) c.read_null.ensures

pub returns-in-39 : goal.returns-in-39
returns-in-39 c = literal_text _ _ (omega arith) c.read_text.ensures

pub returns-in-88 : goal.returns-in-88
returns-in-88 c = literal_hex _ _ (omega arith) c.read_hexadecimal.ensures

pub returns-in-67 : goal.returns-in-67
returns-in-67 c = literal_converted _ _ (omega arith) c.read_converted.ensures

pub returns-in_default : goal.returns-in_default
returns-in_default c = literal_number _ _ (omega arith) (omega arith) (omega arith) (omega arith) c.read_number.ensures
