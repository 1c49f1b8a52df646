use Rattle.std.proofs.Common.{◌≡◌, ◌≤◌, ◌↔◌, false}
use Rattle.wire_forms.specs.Reading.{columns_counted}
use Rattle.my_session.specs.Channel.{channel_wire}
use Rattle.my_session.specs.InStep.{IsOpen, reached_on}
use Rattle.my_session.proofs.Coming.{PassesSome}
use Rattle.my_session.specs.Serving.{Stays}
use Rattle.my_session.specs.Statements.{IsDescribed}
use Rattle.my_session.specs.Wire.{Wire, Takes}
use Rattle.my_session.proofs.rows.describe.Given as goal

abbrev pub invariant-definitions : goal.invariant-definitions
invariant-definitions g l = record {
  stays : Stays g.L.Link l.fn.channel.link l.channel.link;
  rest : g.L.Link.honest l.channel.link → IsOpen g.L.Link l.channel.link l.channel.id l.reader;
  tells : g.L.Link.tells l.fn.channel.link ↔ g.L.Link.tells l.channel.link;
  later : g.L.Link.faults l.fn.channel.link ≤ g.L.Link.faults l.channel.link;
  alive : l.channel.has_failed ≡ false;
  ends : l.reader.ends ≡ l.fn.ends;
  columns : l.reader.columns ≡ l.columns;
  awaited : l.reader.awaited ≡ l.left;
  passed : g.L.Link.honest l.fn.channel.link → PassesSome g.L.Link l.fn.ends l.columns l.left (reached_on g.L.Link (columns_counted l.fn.ends l.columns) l.fn.channel) (reached_on g.L.Link l.reader l.channel);
  described : (start : Wire) → g.L.Link.tells l.fn.channel.link → Takes (λ steps. IsDescribed l.query steps (columns_counted l.fn.ends l.columns)) start (channel_wire g.L.Link l.fn.channel) → Takes (λ steps. IsDescribed l.query steps l.reader) start (channel_wire g.L.Link l.channel);
}

abbrev pub decreases-definitions : goal.decreases-definitions
decreases-definitions g l = l.left
