use Rattle.memchr.specs.Find.{is_byte2}
use Rattle.statement_splitter.proofs.Firsts.{until_some, until_none}
use Rattle.statement_splitter.proofs.runs.either_until.Goals as goal

pub returns-in-Some : goal.returns-in-Some
returns-in-Some c = until_some (is_byte2 c.args.one c.args.other) c.args.bytes.now c.args.from _ c.rest_of.ensures c.in-Some.size c.requires (rw c.in-Some.is at c.memchr2.ensures)

pub returns-in-None : goal.returns-in-None
returns-in-None c = until_none (is_byte2 c.args.one c.args.other) c.args.bytes.now c.args.from _ c.rest_of.ensures c.requires (rw c.in-None.is at c.memchr2.ensures)
