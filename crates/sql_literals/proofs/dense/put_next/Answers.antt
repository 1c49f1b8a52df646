use Rattle.std.proofs.Common.{arith}
use Rattle.sql_literals.proofs.Tables.{escaped_next}
use Rattle.sql_literals.proofs.dense.put_next.Goals as goal

pub put-requires : goal.put-requires
put-requires c = omega (arith, c.requires.before.within, c.requires.more, c.requires.room)

pub returns-clause-after : goal.returns-clause-after
returns-clause-after c = escaped_next _ _ _ _ _ _ c.requires.before c.requires.more c.put.ensures.bytes c.put.ensures.size
