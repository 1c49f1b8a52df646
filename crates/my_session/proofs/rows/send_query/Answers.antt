use Rattle.std.proofs.Common.{◌∙◌, rules}
use Rattle.honest_server.specs.Moves.{plainly}
use Rattle.statement_forms.specs.Text.{query_text}
use Rattle.my_session.proofs.Stepping.{said_text}
use Rattle.my_session.proofs.Uncreating.{query_says_nothing}
use Rattle.my_session.proofs.rows.send_query.Goals as goal

pub say-requires-clause-may : goal.say-requires-clause-may
say-requires-clause-may g c = record {
  may = λ h. record { begins = search rules; no_create = λ phase sole. query_says_nothing c.args.query.now c.as_slice.result.now (c.as_slice.ensures ∙ c.in_default.ensures.bytes) };
  beside = λ h. tt;
}

pub returns-in-Ok-clause-awaits : goal.returns-in-Ok-clause-awaits
returns-in-Ok-clause-awaits g c = record {
  alive = search rules;
  waits = λ h.
      let is = c.in-Ok.ensures in
      let before = is.keeps.stays.honest.1 h in
      said_text g.L.Link c.args.channel.now.link c.say.new.self.link c.say.new.self.id plainly (query_text c.args.query.now) c.as_slice.result.now (c.as_slice.ensures ∙ c.in_default.ensures.bytes) (c.requires.rest.quiet before) (is.ok.replied before);
}
