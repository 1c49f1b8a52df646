-- What links and sites are said to keep of whose servers nothing is told.
use Rattle.std.specs.Prelude.{false, []}
use Rattle.wire_forms.specs.declared.ends.Ends.TheVariants.{Eof}
use Rattle.honest_server.specs.Link.{ServedLink}
use Rattle.honest_server.specs.Site.{ServedSite, fresh_state}
use Rattle.honest_server.specs.State.{Server}

-- what stands for the server of a link or a site that isn't honest: no clause says anything of it
abbrev pub unserved : Server
unserved = record {
  quiet = false;
  willing = false;
  plugin = [];
  newer = false;
  ends = Eof;
  old_status = false;
  prints = λ bytes. false;
}

-- what stands for what an honest server keeps of a link, where the link isn't honest
abbrev pub unserved_link : ServedLink
unserved_link =
    record {
      waiting = [];
      state = fresh_state
          (record { server = unserved; base = []; sole = false }) [];
      failed = false;
      keeps_wide =
          false;
    }

-- what stands for what an honest site tells, where the site isn't honest
abbrev pub unserved_site : ServedSite
unserved_site =
    record {
      server = unserved;
      history = [];
      returned = [];
      errors = [];
      grants = [];
      keeps_wide = false;
    }
