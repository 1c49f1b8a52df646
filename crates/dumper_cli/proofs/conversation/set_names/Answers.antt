use Rattle.std.proofs.Common.{rules}
use Rattle.dumper_cli.proofs.Reaching.{Keeps-by, names_ok, names_err}
use Rattle.my_session.proofs.Uncreating.{makes_nothing}
use Rattle.statement_forms.specs.declared.command.Command.TheVariants.{NamesBinary}
use Rattle.dumper_cli.proofs.conversation.set_names.Goals as goal

pub returns-clause-keeps : goal.returns-clause-keeps
returns-clause-keeps g c = Keeps-by g.L.Link g.met.L.Link.origins_join c.args.session.now c.run.new.self c.run.ensures.keeps.reader.tells c.run.ensures.keeps.reader.counted.later c.run.ensures.keeps.server.honest c.run.ensures.keeps.server.origin c.run.ensures.keeps.reader.peer

pub run-requires-clause-may : goal.run-requires-clause-may
run-requires-clause-may g c = record {
  text = search rules;
  no_create = λ h sole. makes_nothing NamesBinary _ (λ is. absurd (cc));
}

pub returns-clause-ok : goal.returns-clause-ok
returns-clause-ok g c = names_ok g.L.Link c.args.session.now c.run.new.self c.run.result (Keeps-by g.L.Link g.met.L.Link.origins_join c.args.session.now c.run.new.self c.run.ensures.keeps.reader.tells c.run.ensures.keeps.reader.counted.later c.run.ensures.keeps.server.honest c.run.ensures.keeps.server.origin c.run.ensures.keeps.reader.peer) c.run.ensures.runs

pub returns-clause-err : goal.returns-clause-err
returns-clause-err g c = names_err g.L.Link c.args.session.now c.run.new.self c.run.result c.run.ensures.keeps.reader.tells c.run.ensures.keeps.reader.counted c.run.ensures.runs
