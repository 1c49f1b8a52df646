use Rattle.std.proofs.Common.{ℕ, List, inl, sym, ◌∙◌, ap, rules}
use Rattle.wire_forms.specs.Reading.{further_of}
use Rattle.my_session.proofs.Coming.{answers_garbled, serves_further}
use Rattle.my_session.proofs.Stepping.{rest_comes, definition_heard}
use Rattle.my_session.proofs.rows.hear_definition.Goals as goal

pub hear-requires-clause-waits : goal.hear-requires-clause-waits
hear-requires-clause-waits g c = λ serving. rest_comes g.L.Link c.args.channel.now.link c.args.channel.now.id c.args.reader.now c.requires.awaits.pending (c.requires.rest.rest serving.honest)

pub returns-then-is_definition-clause-rest : goal.returns-then-is_definition-clause-rest
returns-then-is_definition-clause-rest g c =
    let is = c.if-is_definition.ensures in
    record {
      alive = search rules;
      rest = definition_heard g.L.Link c.args.channel.now.link c.hear.new.self.link c.args.channel.now.id c.hear.new.self.id c.args.reader.now c.hear.new.self.message c.hear.ensures.keeps.stays c.requires.awaits.pending c.requires.rest.rest c.in_default.ensures.ok.delivers c.is_definition.new.reader is.after
          (ap (λ (l : List ℕ). further_of c.args.reader.now l) (sym c.message.ensures.payload) ∙ is.turn);
    }

pub returns-then-is_definition-clause-served : goal.returns-then-is_definition-clause-served
returns-then-is_definition-clause-served g c = λ serving. serves_further g.L.Link c.args.channel.now c.hear.new.self c.args.reader.now (c.in_default.ensures.ok.delivers serving)

pub returns-clause-served : goal.returns-clause-served
returns-clause-served g c = λ serving. inl (answers_garbled g.L.Link c.args.channel.now c.hear.new.self c.args.reader.now (c.in_default.ensures.ok.delivers serving) c.args.form c.place-place.result c.message.result.payload.now c.place-place.ensures c.message.ensures.payload c.if-is_definition.ensures.turn)
