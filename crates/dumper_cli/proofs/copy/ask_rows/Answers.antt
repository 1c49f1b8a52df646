use Rattle.std.proofs.Common.{ap, sym}
use Rattle.my_session.specs.Session.{Pending}
use Rattle.my_session.specs.declared.peer.Peer.{Peer}
use Rattle.dumper_cli.specs.AskedBy.{asked_by}
use Rattle.dumper_cli.proofs.Reaching.{HasRows-asked, Keeps-by, rows_asked, rows_unasked}
use Rattle.dumper_cli.proofs.copy.ask_rows.Goals as goal

pub returns-in-Ok-asked-clause-keeps : goal.returns-in-Ok-asked-clause-keeps
returns-in-Ok-asked-clause-keeps g c = Keeps-by g.L.Link g.met.L.Link.origins_join c.args.session.now c.query-asked.new.self c.in-Ok-asked.ensures.reader.tells c.in-Ok-asked.ensures.reader.counted.later c.in-Ok-asked.ensures.server.honest c.in-Ok-asked.ensures.server.origin c.in-Ok-asked.ensures.reader.peer

pub returns-in-Err-clause-keeps : goal.returns-in-Err-clause-keeps
returns-in-Err-clause-keeps g c = Keeps-by g.L.Link g.met.L.Link.origins_join c.args.session.now c.query-asked.new.self c.in-Err.ensures.reader.tells c.in-Err.ensures.reader.counted.later c.in-Err.ensures.server.honest c.in-Err.ensures.server.origin c.in-Err.ensures.reader.peer

pub returns-in-Ok-asked-clause-rows : goal.returns-in-Ok-asked-clause-rows
returns-in-Ok-asked-clause-rows g c = HasRows-asked c.query-asked.new.self c.args.session.now.peer.ends c.in-Ok-asked.field-0 c.in-Ok-asked.ensures.reader.failed c.in-Ok-asked.ensures.pending.some (ap (λ (p : Peer). p.ends) (sym c.in-Ok-asked.ensures.reader.peer)) c.in-Ok-asked.ensures.pending.is

pub returns-in-Ok-asked-clause-ok : goal.returns-in-Ok-asked-clause-ok
returns-in-Ok-asked-clause-ok g c =
    let asks = rw (c.in-Ok.ensures, c.of-schema.ensures, c.as_slice.ensures.value, c.of-table.ensures, c.as_slice-2.ensures.value) at c.in-Ok-asked.ensures.asks in
    rows_asked g.L.Link (asked_by c.args.words.now) c.args.session.now c.query-asked.new.self c.in-Ok-asked.field-0 c.args.columns.now (Keeps-by g.L.Link g.met.L.Link.origins_join c.args.session.now c.query-asked.new.self c.in-Ok-asked.ensures.reader.tells c.in-Ok-asked.ensures.reader.counted.later c.in-Ok-asked.ensures.server.honest c.in-Ok-asked.ensures.server.origin c.in-Ok-asked.ensures.reader.peer) (ap (λ (p : Pending). p.reading) c.in-Ok-asked.ensures.pending.is) asks

pub returns-in-Err-clause-err : goal.returns-in-Err-clause-err
returns-in-Err-clause-err g c =
    let asks = rw (c.in-Ok.ensures, c.of-schema.ensures, c.as_slice.ensures.value, c.of-table.ensures, c.as_slice-2.ensures.value) at c.in-Err.ensures.asks in
    rows_unasked g.L.Link (asked_by c.args.words.now) c.args.session.now c.query-asked.new.self c.in-Err.fault c.in-Err.ensures.reader.tells c.in-Err.ensures.reader.counted c.args.columns.now asks
