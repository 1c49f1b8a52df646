use Rattle.std.proofs.Common.{◌≡◌, refl, arith, sym, subst, ap, ◌∙◌, ◌-◌}
use Rattle.wire_forms.specs.Reading.{Reading, columns_counted}
use Rattle.my_session.specs.Channel.{channel_wire}
use Rattle.my_session.specs.Statements.{IsDescribed}
use Rattle.my_session.specs.Wire.{Takes}
use Rattle.my_session.specs.InStep.{reached_on}
use Rattle.my_session.specs.Serving.{IsServing}
use Rattle.my_session.proofs.Coming.{passes_all, passes_not, passes_one}
use Rattle.my_session.proofs.Querying.{definition_halts, described_next, at_rows}
use Rattle.my_session.proofs.Staying.{stays_on}
use Rattle.my_session.proofs.rows.describe.Goals as goal

pub returns-in-Err-clause-describes : goal.returns-in-Err-clause-describes
returns-in-Err-clause-describes g c = λ t start takes.
    let here = c.definitions.invariant in
    definition_halts c.args.ends c.args.query.now start (channel_wire g.L.Link c.definitions.channel) (channel_wire g.L.Link c.hear_definition.new.channel) c.definitions.reader (here.described start t takes) c.form-form.result c.in-Err.fault here.ends c.form-form.ensures (c.in-Err.ensures.err (here.tells.0 t))

pub definitions-preserved : goal.definitions-preserved
definitions-preserved g c =
    let here = c.definitions.invariant in
    let is = c.in_default.ensures in
    let once = here.later in
    let now = is.keeps.counted.later in
    let left = here.awaited in
    record {
      stays = stays_on g.L.Link g.met.L.Link.origins_join c.args.channel.now.link c.definitions.channel.link c.hear_definition.new.channel.link here.stays is.keeps.stays;
      rest = is.rest.rest;
      tells = (λ t. is.keeps.tells.0 (here.tells.0 t), λ t. here.tells.1 (is.keeps.tells.1 t));
      later = omega arith;
      alive = is.rest.alive;
      ends = ap (λ (r : Reading). r.ends) is.ok.reader ∙ here.ends;
      columns = ap (λ (r : Reading). r.columns) is.ok.reader ∙ here.columns;
      awaited = ap (λ (r : Reading). r.awaited) is.ok.reader ∙ ap (λ n. n - 1) left;
      passed = λ h.
          let middle = here.stays.honest.0 h in
          let serving : IsServing g.L.Link c.definitions.channel.link = record { honest = middle; alive = (here.rest middle).alive } in
          passes_one g.L.Link c.args.ends c.args.columns c.definitions.left (reached_on g.L.Link (columns_counted c.args.ends c.args.columns) c.args.channel.now) c.definitions.channel c.hear_definition.new.channel c.definitions.reader c.definitions-test.true (here.passed h) c.hear_definition.new.reader is.ok.reader (is.served serving);
      described = λ start t takes.
          subst (λ (r : Reading). Takes (λ steps. IsDescribed c.args.query.now steps r) start (channel_wire g.L.Link c.hear_definition.new.channel)) (sym is.ok.reader)
          (described_next c.args.ends c.args.query.now start (channel_wire g.L.Link c.definitions.channel) (channel_wire g.L.Link c.hear_definition.new.channel) c.definitions.reader (here.described start t takes) (is.ok.heard (here.tells.0 t)));
    }

pub returns-clause-describes : goal.returns-clause-describes
returns-clause-describes g c = λ t start takes.
    let here = c.definitions.invariant in
    let left = here.awaited in
    let ended = c.definitions-test.false in
    subst (λ (r : Reading). Takes (λ steps. IsDescribed c.args.query.now steps r) start (channel_wire g.L.Link c.definitions.channel)) (at_rows c.definitions.reader c.args.ends c.args.columns here.ends here.columns (omega arith)) (here.described start t takes)

pub returns-in-Err-clause-served : goal.returns-in-Err-clause-served
returns-in-Err-clause-served g c = λ h.
    let here = c.definitions.invariant in
    let middle = here.stays.honest.0 h in
    let serving : IsServing g.L.Link c.definitions.channel.link = record { honest = middle; alive = (here.rest middle).alive } in
    passes_not g.L.Link c.args.ends c.args.columns c.definitions.left (reached_on g.L.Link (columns_counted c.args.ends c.args.columns) c.args.channel.now) c.definitions.channel c.hear_definition.new.channel c.definitions.reader c.definitions-test.true (here.passed h) c.args.channel.now c.form-form.result c.in-Err.fault refl (c.in-Err.ensures.served serving)

pub returns-clause-served : goal.returns-clause-served
returns-clause-served g c = λ h.
    let here = c.definitions.invariant in
    let left = here.awaited in
    let ended = c.definitions-test.false in
    let none : c.definitions.left ≡ 0 = omega arith in
    passes_all g.L.Link c.args.ends c.args.columns c.definitions.left c.args.channel.now c.definitions.channel c.definitions.reader none (at_rows c.definitions.reader c.args.ends c.args.columns here.ends here.columns (omega arith)) (here.passed h)
