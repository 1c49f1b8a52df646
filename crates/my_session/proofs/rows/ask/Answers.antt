use Rattle.std.proofs.Common.{refl, ◌∙◌, subst}
use Rattle.wire_forms.specs.Reading.{Reading}
use Rattle.wire_forms.specs.declared.ends.Ends.{Ends}
use Rattle.my_session.specs.Channel.{channel_wire}
use Rattle.my_session.specs.InStep.{AwaitsRest, HasCounted}
use Rattle.my_session.specs.Asked.{at_lead, at_query}
use Rattle.my_session.proofs.Coming.{asked_counted, asked_described, asked_uncounted, asked_undescribed, asked_unsaid}
use Rattle.my_session.proofs.Querying.{lead_stops, query_unsaid, query_said, count_halts, described_first}
use Rattle.my_session.proofs.Stepping.{still_ends}
use Rattle.my_session.proofs.rows.ask.Goals as goal

pub hear_count-requires-clause-server : goal.hear_count-requires-clause-server
hear_count-requires-clause-server g c = λ h.
    c.requires.follows.reader
    ∙ still_ends g.L.Link c.lead.new.channel.link c.send_query.new.channel.link c.args.ends c.in_default-send_query.ensures.keeps.stays (still_ends g.L.Link c.args.channel.now.link c.lead.new.channel.link c.args.ends c.in_default.ensures.keeps.stays c.requires.follows.server) h

pub describe-requires : goal.describe-requires
describe-requires g c = record { counted = subst (λ (e : Ends). HasCounted g.L.Link e c.in-Ok.columns c.hear_count.new.channel c.hear_count.new.reader) c.requires.follows.reader c.in-Ok.ensures.counted }

pub returns-clause-opened : goal.returns-clause-opened
returns-clause-opened g c =
    let is = c.in_default-describe.ensures in
    record {
      some = c.in-Ok.ensures.counted.some;
      reader = is.reader;
      rest = subst (λ (r : Reading). AwaitsRest g.L.Link c.describe.new.channel r) is.reader is.rest;
    }

pub returns-in-Err-clause-asks : goal.returns-in-Err-clause-asks
returns-in-Err-clause-asks g c = λ t. lead_stops c.args.ends c.args.query.now (channel_wire g.L.Link c.args.channel.now) (channel_wire g.L.Link c.lead.new.channel) c.in-Err.fault (c.in-Err.ensures.err t)

pub returns-in-Err-send_query-clause-asks : goal.returns-in-Err-send_query-clause-asks
returns-in-Err-send_query-clause-asks g c = λ t.
    query_unsaid c.args.ends c.args.query.now (channel_wire g.L.Link c.args.channel.now) (channel_wire g.L.Link c.lead.new.channel) (channel_wire g.L.Link c.send_query.new.channel) c.in-Err-send_query.fault (c.in_default.ensures.ok t) (c.in-Err-send_query.ensures.err.unsaid (c.in_default.ensures.keeps.tells.0 t))

pub returns-in-Err-hear_count-clause-asks : goal.returns-in-Err-hear_count-clause-asks
returns-in-Err-hear_count-clause-asks g c = λ t.
    let start = channel_wire g.L.Link c.args.channel.now in
    let led = channel_wire g.L.Link c.lead.new.channel in
    let sent = channel_wire g.L.Link c.send_query.new.channel in
    let told = c.in_default.ensures.keeps.tells.0 t in
    count_halts c.args.ends c.args.query.now start sent (channel_wire g.L.Link c.hear_count.new.channel) c.form.result c.in-Err-hear_count.fault c.form.ensures (query_said c.args.ends c.args.query.now start led sent (c.in_default.ensures.ok t) (c.in_default-send_query.ensures.says.sent told)) (c.in-Err-hear_count.ensures.err (c.in_default-send_query.ensures.keeps.tells.0 told))

pub returns-in-Err-describe-clause-asks : goal.returns-in-Err-describe-clause-asks
returns-in-Err-describe-clause-asks g c = λ t.
    let start = channel_wire g.L.Link c.args.channel.now in
    let led = channel_wire g.L.Link c.lead.new.channel in
    let sent = channel_wire g.L.Link c.send_query.new.channel in
    let told = c.in_default.ensures.keeps.tells.0 t in
    let later = c.in_default-send_query.ensures.keeps.tells.0 told in
    c.in-Err-describe.ensures.describes (c.in-Ok.ensures.keeps.tells.0 later) start (described_first c.args.ends c.args.query.now start sent (channel_wire g.L.Link c.hear_count.new.channel) c.in-Ok.columns (query_said c.args.ends c.args.query.now start led sent (c.in_default.ensures.ok t) (c.in_default-send_query.ensures.says.sent told)) (c.in-Ok.ensures.heard later))

pub returns-clause-asks : goal.returns-clause-asks
returns-clause-asks g c = λ t.
    let start = channel_wire g.L.Link c.args.channel.now in
    let led = channel_wire g.L.Link c.lead.new.channel in
    let sent = channel_wire g.L.Link c.send_query.new.channel in
    let told = c.in_default.ensures.keeps.tells.0 t in
    let later = c.in_default-send_query.ensures.keeps.tells.0 told in
    c.in_default-describe.ensures.describes (c.in-Ok.ensures.keeps.tells.0 later) start (described_first c.args.ends c.args.query.now start sent (channel_wire g.L.Link c.hear_count.new.channel) c.in-Ok.columns (query_said c.args.ends c.args.query.now start led sent (c.in_default.ensures.ok t) (c.in_default-send_query.ensures.says.sent told)) (c.in-Ok.ensures.heard later))

pub returns-in-Err-clause-served : goal.returns-in-Err-clause-served
returns-in-Err-clause-served g c = λ h. at_lead (c.in-Err.ensures.served h)

pub returns-in-Err-send_query-clause-served : goal.returns-in-Err-send_query-clause-served
returns-in-Err-send_query-clause-served g c = λ h.
    let led = c.in_default.ensures.keeps.stays.honest.0 h in
    at_query (g.L.Link.served c.lead.new.channel.link).state (c.in_default.ensures.served h)
    (asked_unsaid g.L.Link c.args.query.now c.requires.text c.look_at_numbers.ensures c.lead.new.channel c.send_query.new.channel c.in-Err-send_query.fault led ((c.in_default.ensures.rest refl).quiet led) c.in-Err-send_query.ensures.err)

pub returns-in-Err-hear_count-clause-served : goal.returns-in-Err-hear_count-clause-served
returns-in-Err-hear_count-clause-served g c = λ h.
    let led = c.in_default.ensures.keeps.stays.honest.0 h in
    let sent = c.in_default-send_query.ensures.keeps.stays.honest.0 led in
    at_query (g.L.Link.served c.lead.new.channel.link).state (c.in_default.ensures.served h)
    (asked_uncounted g.L.Link c.args.query.now c.requires.text c.look_at_numbers.ensures c.lead.new.channel c.send_query.new.channel c.hear_count.new.channel ((c.in_default.ensures.rest refl).quiet led) sent (c.in_default-send_query.ensures.says.replied led) c.form.result c.in-Err-hear_count.fault c.form.ensures c.in-Err-hear_count.ensures.served)

pub returns-in-Err-describe-clause-served : goal.returns-in-Err-describe-clause-served
returns-in-Err-describe-clause-served g c = λ h.
    let led = c.in_default.ensures.keeps.stays.honest.0 h in
    let sent = c.in_default-send_query.ensures.keeps.stays.honest.0 led in
    let ends_are = still_ends g.L.Link c.args.channel.now.link c.lead.new.channel.link c.args.ends c.in_default.ensures.keeps.stays c.requires.follows.server led in
    let counts = asked_counted g.L.Link c.args.query.now c.requires.text c.look_at_numbers.ensures c.lead.new.channel c.send_query.new.channel c.hear_count.new.channel ((c.in_default.ensures.rest refl).quiet led) sent (c.in_default-send_query.ensures.says.replied led) c.args.ends c.in-Ok.columns ends_are c.in-Ok.ensures.served in
    at_query (g.L.Link.served c.lead.new.channel.link).state (c.in_default.ensures.served h)
    (asked_undescribed g.L.Link c.args.query.now c.requires.text c.look_at_numbers.ensures c.args.ends c.in-Ok.columns (g.L.Link.served c.lead.new.channel.link).state c.hear_count.new.channel c.describe.new.channel counts c.in-Err-describe.fault (c.in-Err-describe.ensures.served (c.in-Ok.ensures.keeps.stays.honest.0 sent)))

pub returns-clause-served : goal.returns-clause-served
returns-clause-served g c = λ h.
    let led = c.in_default.ensures.keeps.stays.honest.0 h in
    let sent = c.in_default-send_query.ensures.keeps.stays.honest.0 led in
    let ends_are = still_ends g.L.Link c.args.channel.now.link c.lead.new.channel.link c.args.ends c.in_default.ensures.keeps.stays c.requires.follows.server led in
    let counts = asked_counted g.L.Link c.args.query.now c.requires.text c.look_at_numbers.ensures c.lead.new.channel c.send_query.new.channel c.hear_count.new.channel ((c.in_default.ensures.rest refl).quiet led) sent (c.in_default-send_query.ensures.says.replied led) c.args.ends c.in-Ok.columns ends_are c.in-Ok.ensures.served in
    asked_described g.L.Link c.args.query.now c.requires.text c.look_at_numbers.ensures c.args.ends c.in-Ok.columns (g.L.Link.served c.lead.new.channel.link).state c.hear_count.new.channel c.describe.new.channel counts (g.L.Link.served c.args.channel.now.link).state c.describe.new.reader (c.in_default.ensures.served h) c.in_default-describe.ensures.reader (c.in_default-describe.ensures.served (c.in-Ok.ensures.keeps.stays.honest.0 sent))
