use Rattle.std.proofs.Common.{refl}
use Rattle.statement_splitter.specs.State.{unread_at}
use Rattle.statement_splitter.proofs.Nexts.{statement_on, statement_ended, statement_open, statement_least}
use Rattle.statement_splitter.proofs.Places.{statement_known}
use Rattle.statement_splitter.proofs.place.statement_turn.Goals as goal

pub returns-in-Ended : goal.returns-in-Ended
returns-in-Ended c =
    let u = unread_at c.args.bytes.now c.args.place.now in
    let found = rw (c.in-Ended.is, c.rest_of-rest.ensures) at c.end_from.ensures in
    (refl, refl, c.requires.place, statement_ended u c.args.from c.args.within c.in-Ended.to c.requires.statement found)

pub returns-in-Open : goal.returns-in-Open
returns-in-Open c =
    let u = unread_at c.args.bytes.now c.args.place.now in
    let found = rw (c.in-Open.is, c.rest_of-rest.ensures) at c.end_from.ensures in
    let statement = statement_on u c.args.from c.in-Open.to c.args.within c.in-Open.after c.requires.statement found.0 in
    (refl, refl, statement_known c.args.bytes.now c.args.place.now c.in-Open.to c.in-Open.after c.requires.place statement, (statement_open u c.in-Open.to c.in-Open.after statement found.1, statement_least u c.in-Open.to c.in-Open.after statement found.1))
