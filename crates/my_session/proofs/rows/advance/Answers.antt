use Rattle.std.proofs.Common.{ℕ, List, refl, rules, subst}
use Rattle.my_session.specs.Heard.{Judges}
use Rattle.my_session.specs.Stop.{stop_result}
use Rattle.my_session.proofs.Coming.{judged}
use Rattle.my_session.proofs.Stepping.{rest_comes, row_heard}
use Rattle.my_session.proofs.rows.advance.Goals as goal

pub hear-requires-clause-waits : goal.hear-requires-clause-waits
hear-requires-clause-waits g c = λ serving. rest_comes g.L.Link c.args.channel.now.link c.args.channel.now.id c.args.reader.now c.requires.awaits.pending (c.requires.rest.rest serving.honest)

pub returns-clause-rest : goal.returns-clause-rest
returns-clause-rest g c = λ goes_on.
    let heard = c.hear.new.self in
    let judges =
    subst (λ (n : ℕ). Judges c.args.ends c.args.reader.now c.args.form heard.message n (stop_result n heard.message c.judge.result) c.judge.new.reader) c.message.ensures.place
    (subst (λ (l : List ℕ). Judges c.args.ends c.args.reader.now c.args.form l c.message.result.place (stop_result c.message.result.place l c.judge.result) c.judge.new.reader) c.message.ensures.payload c.judge.ensures) in
    record {
      alive = search rules;
      rest =
          row_heard g.L.Link c.args.channel.now.link heard.link c.args.channel.now.id heard.id c.args.reader.now heard.message c.hear.ensures.keeps.stays c.requires.awaits.pending c.requires.rest.rest c.in_default.ensures.ok.delivers c.args.ends c.args.form heard.began c.judge.new.reader (stop_result heard.began heard.message c.judge.result) judges goes_on;
    }

pub returns-clause-served : goal.returns-clause-served
returns-clause-served g c =
    let heard = c.hear.new.self in
    let judges =
    subst (λ (n : ℕ). Judges c.args.ends c.args.reader.now c.args.form heard.message n (stop_result n heard.message c.judge.result) c.judge.new.reader) c.message.ensures.place
    (subst (λ (l : List ℕ). Judges c.args.ends c.args.reader.now c.args.form l c.message.result.place (stop_result c.message.result.place l c.judge.result) c.judge.new.reader) c.message.ensures.payload c.judge.ensures) in
    judged g.L.Link c.args.channel.now heard c.args.reader.now c.judge.new.reader c.args.ends c.args.form heard.message heard.began (stop_result heard.began heard.message c.judge.result) c.in_default.ensures.ok.delivers c.in_default.ensures.began refl judges
