use Rattle.std.proofs.lemmas.Result.{on_ok_weaker, IfErr-weaker}
use Rattle.dumper_cli.specs.AskedBy.{asked_by}
use Rattle.dumper_cli.proofs.Over.{Conversed-tabled}
use Rattle.dumper_cli.proofs.Reaching.{Keeps-then}
use Rattle.dumper_cli.proofs.conversation.converse.Goals as goal

pub returns-in-Err-clause-err : goal.returns-in-Err-clause-err
returns-in-Err-clause-err g c = λ start at. c.in-Err.ensures.err start at

pub returns-clause-keeps : goal.returns-clause-keeps
returns-clause-keeps g c = Keeps-then g.L.Link c.args.session.now c.ask.new.session c.copy_table.new.session c.in-Ok.ensures.keeps c.copy_table.ensures.keeps

pub returns-clause-ok : goal.returns-clause-ok
returns-clause-ok g c = on_ok_weaker c.copy_table.result.1 (λ tabled.
    Conversed-tabled g.L.Link g.S.Shelf (asked_by c.args.words.now) c.in-Ok.columns c.args.session.now c.ask.new.session c.copy_table.new.session c.args.shelf c.copy_table.result.0 c.in-Ok.ensures.ok tabled)
    (rw c.as_slice.ensures at c.copy_table.ensures.ok)

pub returns-clause-err : goal.returns-clause-err
returns-clause-err g c = IfErr-weaker c.copy_table.result.1 _ _ (λ fault broke start at.
    broke (asked_by c.args.words.now) start (c.in-Ok.ensures.ok start at))
    (rw c.as_slice.ensures at c.copy_table.ensures.err)
