use Rattle.std.proofs.Common.{ap, sym}
use Rattle.my_session.specs.Session.{Pending}
use Rattle.my_session.specs.declared.peer.Peer.{Peer}
use Rattle.dumper_cli.specs.AskedBy.{asked_by}
use Rattle.dumper_cli.proofs.Reaching.{HasRows-asked, Keeps-by, columns_asked, columns_unasked}
use Rattle.dumper_cli.proofs.columns.ask_columns.Goals as goal

pub returns-in-Ok-clause-keeps : goal.returns-in-Ok-clause-keeps
returns-in-Ok-clause-keeps g c = Keeps-by g.L.Link g.met.L.Link.origins_join c.args.session.now c.query-asked.new.self c.in-Ok.ensures.reader.tells c.in-Ok.ensures.reader.counted.later c.in-Ok.ensures.server.honest c.in-Ok.ensures.server.origin c.in-Ok.ensures.reader.peer

pub returns-in-Err-clause-keeps : goal.returns-in-Err-clause-keeps
returns-in-Err-clause-keeps g c = Keeps-by g.L.Link g.met.L.Link.origins_join c.args.session.now c.query-asked.new.self c.in-Err.ensures.reader.tells c.in-Err.ensures.reader.counted.later c.in-Err.ensures.server.honest c.in-Err.ensures.server.origin c.in-Err.ensures.reader.peer

pub returns-in-Ok-clause-rows : goal.returns-in-Ok-clause-rows
returns-in-Ok-clause-rows g c = HasRows-asked c.query-asked.new.self c.args.session.now.peer.ends c.in-Ok.field-0 c.in-Ok.ensures.reader.failed c.in-Ok.ensures.pending.some (ap (λ (p : Peer). p.ends) (sym c.in-Ok.ensures.reader.peer)) c.in-Ok.ensures.pending.is

pub returns-in-Ok-clause-ok : goal.returns-in-Ok-clause-ok
returns-in-Ok-clause-ok g c =
    let asks = rw (c.of-schema.ensures, c.as_slice.ensures.value, c.of-table.ensures, c.as_slice-2.ensures.value) at c.in-Ok.ensures.asks in
    columns_asked g.L.Link (asked_by c.args.words.now) c.args.session.now c.query-asked.new.self c.in-Ok.field-0 (Keeps-by g.L.Link g.met.L.Link.origins_join c.args.session.now c.query-asked.new.self c.in-Ok.ensures.reader.tells c.in-Ok.ensures.reader.counted.later c.in-Ok.ensures.server.honest c.in-Ok.ensures.server.origin c.in-Ok.ensures.reader.peer) (ap (λ (p : Pending). p.reading) c.in-Ok.ensures.pending.is) asks

pub returns-in-Err-clause-err : goal.returns-in-Err-clause-err
returns-in-Err-clause-err g c =
    let asks = rw (c.of-schema.ensures, c.as_slice.ensures.value, c.of-table.ensures, c.as_slice-2.ensures.value) at c.in-Err.ensures.asks in
    columns_unasked g.L.Link (asked_by c.args.words.now) c.args.session.now c.query-asked.new.self c.in-Err.fault c.in-Err.ensures.reader.tells c.in-Err.ensures.reader.counted asks
