use Rattle.std.proofs.Common.{sym, rules}
use Rattle.statement_forms.specs.declared.command.Command.TheVariants.{Use}
use Rattle.my_session.specs.Channel.{channel_wire}
use Rattle.my_session.proofs.Querying.{led, not_led, takes_no_lead}
use Rattle.my_session.proofs.Running.{ok_where, err_where}
use Rattle.my_session.proofs.Uncreating.{makes_nothing}
use Rattle.my_session.proofs.rows.lead.Goals as goal

pub run_on-requires-clause-may : goal.run_on-requires-clause-may
run_on-requires-clause-may g c = record {
  run = record { text = search rules; no_create = λ h sole. makes_nothing (Use c.of.result) tt (λ e. cc) };
  beside = λ h. tt;
}

pub returns-in-Some-clause-ok : goal.returns-in-Some-clause-ok
returns-in-Some-clause-ok g c =
    ok_where _ c.run_on.result (λ t. led c.args.query.now c.in-Some.schema.now c.of.result (channel_wire g.L.Link c.args.channel.now) (channel_wire g.L.Link c.run_on.new.channel) c.run_on.result (sym c.in-Some.ensures) c.of.ensures (c.run_on.ensures.runs t))

pub returns-in-Some-clause-err : goal.returns-in-Some-clause-err
returns-in-Some-clause-err g c =
    err_where _ c.run_on.result (λ t. not_led c.args.query.now c.in-Some.schema.now c.of.result (channel_wire g.L.Link c.args.channel.now) (channel_wire g.L.Link c.run_on.new.channel) c.run_on.result (sym c.in-Some.ensures) c.of.ensures (c.run_on.ensures.runs t))

pub returns-in-None-clause-ok : goal.returns-in-None-clause-ok
returns-in-None-clause-ok g c = λ t. takes_no_lead c.args.query.now (channel_wire g.L.Link c.args.channel.now) (sym c.in-None.ensures)
