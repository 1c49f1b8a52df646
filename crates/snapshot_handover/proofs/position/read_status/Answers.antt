use Rattle.std.proofs.Common.{Err, refl, subst}
use Rattle.statement_forms.specs.declared.query.Query.{Query}
use Rattle.snapshot_handover.specs.StatusRead.{ReadsStatus, asked, not_asked}
use Rattle.snapshot_handover.proofs.position.read_status.Goals as goal

pub returns-in-Ok : goal.returns-in-Ok
returns-in-Ok g c =
    subst (λ (q : Query). ReadsStatus g.R.Reads q c.args.source.now c.hear_rows.result c.hear_rows.new.source) c.status_query-query.ensures
    (asked c.in-Ok.field-0 c.query-asked.new.self (record {
      server = c.in-Ok.ensures.server;
      reader = c.in-Ok.ensures.reader;
      pending = c.in-Ok.ensures.pending;
      fault = c.in-Ok.ensures.fault;
      asks = c.in-Ok.ensures.asks;
      served = c.in-Ok.ensures.served;
    }) c.hear_rows.ensures)

pub returns-in-Err : goal.returns-in-Err
returns-in-Err g c =
    subst (λ (q : Query). ReadsStatus g.R.Reads q c.args.source.now (Err c.in-Err.fault) c.query-asked.new.self) c.status_query-query.ensures
    (not_asked c.in-Err.fault (record {
      server = c.in-Err.ensures.server;
      reader = c.in-Err.ensures.reader;
      pending = c.in-Err.ensures.pending;
      fault = c.in-Err.ensures.fault;
      asks = c.in-Err.ensures.asks;
      served = c.in-Err.ensures.served;
    }) refl)
