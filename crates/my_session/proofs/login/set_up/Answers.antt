use Rattle.std.proofs.Common.{refl, rules}
use Rattle.statement_forms.specs.declared.command.Command.TheVariants.{SetUp}
use Rattle.my_session.specs.Channel.{channel_wire}
use Rattle.my_session.specs.Served.{untouched}
use Rattle.my_session.specs.declared.fault.SessionFault.TheVariants.{OutOfMemory}
use Rattle.my_session.proofs.Running.{run_unwritten}
use Rattle.my_session.proofs.Uncreating.{makes_nothing}
use Rattle.my_session.proofs.login.set_up.Goals as goal

pub run_on-requires-clause-may : goal.run_on-requires-clause-may
run_on-requires-clause-may g c = record {
  run = record {
    text = search rules;
    no_create = λ h sole. makes_nothing SetUp tt (λ e. cc);
  };
  beside = λ h. tt;
}

pub returns-then-is_err-clause-served : goal.returns-then-is_err-clause-served
returns-then-is_err-clause-served g c = λ h. untouched refl

pub returns-clause-served : goal.returns-clause-served
returns-clause-served g c = λ h. (c.run_on.ensures.served h).runs

pub returns-then-is_err-clause-runs : goal.returns-then-is_err-clause-runs
returns-then-is_err-clause-runs g c = λ t.
    let wire = channel_wire g.L.Link c.args.channel.now in
    run_unwritten SetUp wire wire OutOfMemory refl
