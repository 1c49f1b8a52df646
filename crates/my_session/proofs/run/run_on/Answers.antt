use Rattle.std.proofs.Common.{◌∙◌, rules}
use Rattle.std.proofs.lemmas.Result.{on_ok_weaker, IfErr-weaker}
use Rattle.my_session.specs.Channel.{channel_wire}
use Rattle.my_session.specs.Serving.{way_of}
use Rattle.my_session.proofs.Ran.{ran_unwritten, ran_unsaid, ran_heard}
use Rattle.my_session.specs.Fault.{session_fault}
use Rattle.my_session.proofs.Running.{run_unwritten, run_unsaid, runs_by}
use Rattle.my_session.proofs.Stepping.{reply_comes, said_text, answered}
use Rattle.my_session.proofs.Uncreating.{says_nothing}
use Rattle.statement_forms.specs.Text.{command_text}
use Rattle.my_session.proofs.run.run_on.Goals as goal

pub say-requires-clause-may : goal.say-requires-clause-may
say-requires-clause-may g c = record {
  may = λ h. record {
    begins = search rules;
    no_create = λ phase sole.
        says_nothing c.as_slice.result.now (command_text c.args.command.now) (c.as_slice.ensures ∙ c.in_default.ensures.bytes) (c.requires.may.run.no_create h sole);
  };
  beside = λ h. c.requires.may.beside h;
}

pub hear_done-requires : goal.hear_done-requires
hear_done-requires g c = record {
  awaits = record {
    alive = search rules;
    waits = λ serving.
        let is = c.in_default-say.ensures in
        let before = is.keeps.stays.honest.1 serving.honest in
        reply_comes g.L.Link c.say.new.self.link c.say.new.self.id
        (said_text g.L.Link c.args.channel.now.link c.say.new.self.link c.say.new.self.id (way_of g.L.Link (g.S.Sender.holder c.args.sender.now)) (command_text c.args.command.now) c.as_slice.result.now (c.as_slice.ensures ∙ c.in_default.ensures.bytes) (c.requires.rest.quiet before) (is.ok.replied before));
  };
}

pub returns-clause-rest : goal.returns-clause-rest
returns-clause-rest g c = λ goes_on. record {
  alive = c.hear_done.ensures.alive goes_on;
  quiet = λ h.
      let is = c.in_default-say.ensures in
      let heard = c.hear_done.ensures in
      let middle = heard.keeps.stays.honest.1 h in
      let before = is.keeps.stays.honest.1 middle in
      let replied = is.ok.replied before in
      answered g.L.Link c.say.new.self c.hear_done.new.channel (record { honest = middle; alive = replied.alive })
      (said_text g.L.Link c.args.channel.now.link c.say.new.self.link c.say.new.self.id (way_of g.L.Link (g.S.Sender.holder c.args.sender.now)) (command_text c.args.command.now) c.as_slice.result.now (c.as_slice.ensures ∙ c.in_default.ensures.bytes) (c.requires.rest.quiet before) replied)
      c.form.result c.hear_done.result heard.served goes_on;
}

pub returns-in-Err-clause-runs : goal.returns-in-Err-clause-runs
returns-in-Err-clause-runs g c = λ t.
    let wire = channel_wire g.L.Link c.args.channel.now in
    run_unwritten c.args.command.now wire wire c.in-Err.fault c.in-Err.ensures.fault

pub returns-in-Err-clause-served : goal.returns-in-Err-clause-served
returns-in-Err-clause-served g c = λ h. ran_unwritten g.L.Link (g.S.Sender.holder c.args.sender.now) c.args.command.now c.requires.may.run.text c.args.channel.now c.in-Err.fault c.in-Err.ensures.fault

pub returns-in-Err-say-clause-runs : goal.returns-in-Err-say-clause-runs
returns-in-Err-say-clause-runs g c = λ t.
    rw c.session_fault.ensures (run_unsaid c.args.command.now (channel_wire g.L.Link c.args.channel.now) (channel_wire g.L.Link c.say.new.self) c.as_slice.result.now (session_fault c.in-Err-say.fault) (c.as_slice.ensures ∙ c.in_default.ensures.bytes) (c.in-Err-say.ensures.err.unsaid t))

pub returns-in-Err-say-clause-served : goal.returns-in-Err-say-clause-served
returns-in-Err-say-clause-served g c = λ h.
    rw c.session_fault.ensures (ran_unsaid g.L.Link (g.S.Sender.holder c.args.sender.now) c.args.command.now c.requires.may.run.text c.as_slice.result.now (c.as_slice.ensures ∙ c.in_default.ensures.bytes) c.args.channel.now c.say.new.self (session_fault c.in-Err-say.fault) h (c.requires.rest.quiet h) c.in-Err-say.ensures.err)

pub returns-clause-runs : goal.returns-clause-runs
returns-clause-runs g c = λ t.
    let told = c.in_default-say.ensures.keeps.tells.0 t in
    runs_by c.args.command.now (channel_wire g.L.Link c.args.channel.now) (channel_wire g.L.Link c.hear_done.new.channel) c.as_slice.result.now (channel_wire g.L.Link c.say.new.self) (c.as_slice.ensures ∙ c.in_default.ensures.bytes) (c.in_default-say.ensures.ok.sent t) c.form.result c.hear_done.result c.form.ensures
    (on_ok_weaker c.hear_done.result (λ heard. heard told) c.hear_done.ensures.heard)
    (IfErr-weaker c.hear_done.result _ _ (λ fault halts. halts told) c.hear_done.ensures.err)

pub returns-clause-served : goal.returns-clause-served
returns-clause-served g c = λ h.
    let is = c.in_default-say.ensures in
    ran_heard g.L.Link (g.S.Sender.holder c.args.sender.now) c.args.command.now c.requires.may.run.text c.as_slice.result.now (c.as_slice.ensures ∙ c.in_default.ensures.bytes) c.args.channel.now c.say.new.self c.hear_done.new.channel (c.requires.rest.quiet h) (is.keeps.stays.honest.0 h) (is.ok.replied h) c.form.result c.hear_done.result c.form.ensures is.ok.place c.hear_done.ensures.served
