use Rattle.std.proofs.Common.{arith}
use Rattle.grammar.proofs.Skips.{skips_free}
use Rattle.sql_literals.proofs.HexReads.{lengthens_hex}
use Rattle.sql_literals.proofs.ConvertedReads.{lengthens_converted}
use Rattle.sql_literals.proofs.LiteralReads.{lengthens_null, skips_null, skips_text, skips_hex, skips_converted, skips_number}
use Rattle.sql_literals.proofs.reading.skip.literal_skip.Goals as goal

pub returns-in-78 : goal.returns-in-78
returns-in-78 c = skips_null _ _ (omega arith) (skips_free _ _ _ (lengthens_null _) c.read_null.ensures)

pub returns-in-39 : goal.returns-in-39
returns-in-39 c = skips_text _ _ (omega arith) c.skip_text.ensures

pub returns-in-88 : goal.returns-in-88
returns-in-88 c = skips_hex _ _ (omega arith) (skips_free _ _ _ (lengthens_hex _) c.read_hexadecimal.ensures)

pub returns-in-67 : goal.returns-in-67
returns-in-67 c = skips_converted _ _ (omega arith) (skips_free _ _ _ (lengthens_converted _) c.read_converted.ensures)

pub returns-in_default : goal.returns-in_default
returns-in_default c = skips_number _ _ (omega arith) (omega arith) (omega arith) (omega arith) c.skip_number.ensures
