use Rattle.std.proofs.Common.{ap, ◌∙◌, take, length, arith}
use Rattle.sql_cells.specs.Literal.{escaped_byte}
use Rattle.sql_literals.proofs.Tables.{placed, escaped_short}
use Rattle.sql_literals.proofs.pairs.put.Goals as goal

pub returns-clause-bytes : goal.returns-clause-bytes
returns-clause-bytes c =
    rw (c.width.ensures.value)
    (placed c.args.room.now c.copy_from_slice.new.self (escaped_byte c.args.byte) c.args.at _ c.requires (omega arith) (escaped_short c.args.byte)
    (ap (take (length (escaped_byte c.args.byte))) c.copy_from_slice.ensures.after ∙ c.pair-pair.ensures))
