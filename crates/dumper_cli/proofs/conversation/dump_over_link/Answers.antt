use Rattle.std.proofs.lemmas.Result.{IfErr-weaker}
use Rattle.dumper_cli.specs.AskedBy.{asked_by}
use Rattle.dumper_cli.proofs.Over.{on_ok_both, LinkStopped-login, LinkDumped-conversed, LinkStopped-broke}
use Rattle.dumper_cli.proofs.conversation.dump_over_link.Goals as goal

pub returns-in-Err-clause-err : goal.returns-in-Err-clause-err
returns-in-Err-clause-err g c = LinkStopped-login g.L.Link g.S.Shelf (asked_by c.args.words.now) c.args.link c.in-Err.link c.args.shelf c.in-Err.fault (rw c.as_slice.ensures.value at c.in-Err.ensures.logs_in)

pub returns-clause-ok : goal.returns-clause-ok
returns-clause-ok g c = on_ok_both c.converse-shelf.result.1 (λ ready conversed.
    LinkDumped-conversed g.L.Link g.S.Shelf (asked_by c.args.words.now) c.args.link c.close.result c.in-Ok.session c.converse-shelf.new.session c.args.shelf c.converse-shelf.result.0 (rw c.as_slice.ensures.value at c.in-Ok.ensures.logs_in) c.close.ensures.closes ready conversed)
    c.converse-shelf.ensures.ready c.converse-shelf.ensures.ok

pub returns-clause-err : goal.returns-clause-err
returns-clause-err g c = IfErr-weaker c.converse-shelf.result.1 _ _ (λ fault broke.
    LinkStopped-broke g.L.Link g.S.Shelf (asked_by c.args.words.now) c.args.link c.close.result c.in-Ok.session c.converse-shelf.new.session c.args.shelf c.converse-shelf.result.0 (rw c.as_slice.ensures.value at c.in-Ok.ensures.logs_in) c.close.ensures.closes fault broke)
    c.converse-shelf.ensures.err

pub returns-clause-honest : goal.returns-clause-honest
returns-clause-honest g c = (λ h. c.close.ensures.server.honest.0 (c.converse-shelf.ensures.keeps.honest.0 (c.in-Ok.ensures.server.honest.0 h)), λ h. c.in-Ok.ensures.server.honest.1 (c.converse-shelf.ensures.keeps.honest.1 (c.close.ensures.server.honest.1 h)))

pub returns-clause-origin : goal.returns-clause-origin
returns-clause-origin g c = g.met.L.Link.origins_join c.args.link c.converse-shelf.new.session.link c.close.result (c.converse-shelf.ensures.keeps.origin c.args.link c.in-Ok.ensures.server.origin) c.close.ensures.server.origin
