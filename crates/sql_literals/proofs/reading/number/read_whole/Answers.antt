use Rattle.std.proofs.Common.{refl}
use Rattle.grammar.proofs.Rows.{reads_then}
use Rattle.sql_literals.proofs.NumberReads.{apart_sign}
use Rattle.sql_literals.proofs.reading.number.read_whole.Goals as goal

pub returns : goal.returns
returns c = reads_then _ _ _ _ _ _ _ apart_sign c.sign_size-sign.ensures refl c.read_digits.ensures c.after.ensures
