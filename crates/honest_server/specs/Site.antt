-- What an honest site tells, and what its calls do (a premise of our own, but for what closing a connection does: MySQL 8.0 Reference Manual, 15.3.3 "Statements That Cause an Implicit Commit", 15.3.6 "LOCK TABLES and UNLOCK TABLES Statements").
use Rattle.std.specs.Prelude.{◌≡◌, ℕ, zero, suc, ◌++◌, ◌∷◌, Bool, true, false, List, [], All, None}
use Rattle.wire_forms.specs.Packet.{packets}
use Rattle.server_data.specs.History.{IsPrefix, Interleaves}
use Rattle.server_data.specs.declared.data.Transaction.{Transaction}
use Rattle.honest_server.specs.Catalogue.{KeepsCatalogue}
use Rattle.honest_server.specs.Exchange.{IsGreeting}
use Rattle.honest_server.specs.Link.{ServedLink, TellsNoMore}
use Rattle.honest_server.specs.State.{Server, State, Given, Terms, greeted, no_settings}
use Rattle.honest_server.specs.WellFormed.{IsSound}
use Rattle.honest_server.specs.WideKey.{KeepsWideKeys}

-- the server; the history; the transactions of links that came back and aren't told in it yet, or, where others write, of all that came back;
-- the ERR answers and lock grants of those that came back; and whether the server still tells that each wide key stands once and is of its
-- columns' types
pub record ServedSite : Type 0 where
  pub server : Server
  pub history : List Transaction
  pub returned : List (List Transaction)
  pub errors : List Given
  pub grants : List (List Transaction)
  pub keeps_wide : Bool

-- what a new link has seen: the history, and, where nobody else writes, nothing else on a sole link and on one of a willing site, and
-- no change of the catalogue on any
pub record HasSeen (site : ServedSite) (sole : Bool) (seen : List Transaction) : Type 0 where
  pub more : List Transaction
  pub joined : site.history ++ more ≡ seen
  pub catalogue : site.server.quiet ≡ true → KeepsCatalogue site.history more
  pub alone : site.server.quiet ≡ true → sole ≡ true → more ≡ []
  pub willing : site.server.quiet ≡ true → site.server.willing ≡ true → more ≡ []

-- the terms of a link that is made now: the site's server, its history so far, and whether the link is the only one
abbrev pub terms_of : ServedSite → Bool → Terms
terms_of site sole = record { server = site.server; base = site.history; sole = sole }

-- the state of a new link that has seen this
abbrev pub fresh_state : Terms → List Transaction → State
fresh_state terms seen = record {
  terms = terms;
  phase = greeted;
  seen = seen;
  guarded = false;
  frozen = false;
  view = None;
  pending = None;
  mine = [];
  schema = None;
  settings = no_settings;
  errors = [];
  grants = [];
}

-- a new link: the greeting waits and nothing else
pub record IsNewLink (site : ServedSite) (sole : Bool) (link : ServedLink) : Type 0 where
  pub alive : link.failed ≡ false
  pub greeting : List ℕ
  pub greets : IsGreeting site.server greeting
  pub waits : link.waiting ≡ packets 0 greeting
  pub seen : HasSeen site sole link.state.seen
  pub wide : site.keeps_wide ≡ true → link.keeps_wide ≡ true
  pub state_is : link.state ≡ fresh_state (terms_of site sole) link.state.seen

-- what connecting leaves as it was: all, but where others write, the history may have grown
pub record Connects (old new : ServedSite) : Type 0 where
  pub grows : IsPrefix old.history new.history
  pub quiet : old.server.quiet ≡ true → new ≡ old
  pub wide : TellsNoMore old.keeps_wide new.keeps_wide
  pub new_is : new ≡ record old { history = new.history; keeps_wide = new.keeps_wide }

-- A link came back, and others are out: nobody's transactions are told.
pub record Gathers (old : ServedSite) (state : State) (new : ServedSite) : Type 0 where
  pub history : old.server.quiet ≡ true → new.history ≡ old.history
  pub returned : new.returned ≡ old.returned ++ state.mine ∷ []

-- None is out any more: where nobody else writes, the history is the old one, and after it one interleaving of the links' transactions.
pub record Settles (old : ServedSite) (state : State) (new : ServedSite) : Type 0 where
  pub whole : List Transaction
  pub interleaves : old.server.quiet ≡ true → Interleaves (old.returned ++ state.mine ∷ []) whole
  pub history : old.server.quiet ≡ true → new.history ≡ old.history ++ whole
  pub none_left : old.server.quiet ≡ true → new.returned ≡ []
  pub returned : old.server.quiet ≡ false → new.returned ≡ old.returned ++ state.mine ∷ []

-- a link came back, and so many are still out: its transactions are gathered while any is, and all are settled once none is
abbrev pub GathersOrSettles : ℕ → ServedSite → State → ServedSite → Type 0
GathersOrSettles zero old state new = Settles old state new
GathersOrSettles (suc left) old state new = Gathers old state new

-- what a site tells once a link came back: its ERR answers and lock grants are the site's
abbrev pub site_after_return : ServedSite → State → ServedSite → ServedSite
site_after_return old state new = record old {
  history = new.history;
  returned = new.returned;
  errors = old.errors ++ state.errors;
  grants = old.grants ++ state.grants;
  keeps_wide = new.keeps_wide;
}

-- a link came back, and so many are still out
pub record TakesBack (left : ℕ) (old : ServedSite) (link : ServedLink)
    (new : ServedSite) : Type 0 where
  pub grows : IsPrefix old.history new.history
  pub own : GathersOrSettles left old link.state new
  pub wide : TellsNoMore old.keeps_wide new.keeps_wide
  pub link_wide : TellsNoMore link.keeps_wide new.keeps_wide
  pub new_is : new ≡ site_after_return old link.state new

-- What keeps a site honest when a link comes back: the grants of its links are prefixes of one list, and, where nobody else writes and
-- none is out any more, each interleaving of their transactions leaves a sound history.
pub record StaysHonest (left : ℕ) (old : ServedSite) (state : State) : Type 0 where
  pub one : List Transaction
  pub grants : All (λ (grant : List Transaction). IsPrefix grant one) (old.grants ++ state.grants)
  pub sound : old.server.quiet ≡ true → left ≡ 0 → (whole : List Transaction) →
      Interleaves (old.returned ++ state.mine ∷ []) whole →
      IsSound old.server (old.history ++ whole)

-- of every honest site with so many links out: its history and each grant are sound; once none is out, each grant is a prefix of it, and nothing is left to be told
pub record IsSettled (out : ℕ) (site : ServedSite) : Type 0 where
  pub sound : IsSound site.server site.history
  pub sound_grants : All (IsSound site.server) site.grants
  pub grants : out ≡ 0 → All (λ (grant : List Transaction). IsPrefix grant site.history) site.grants
  pub none_left : out ≡ 0 → site.server.quiet ≡ true → site.returned ≡ []
  pub wide : site.keeps_wide ≡ true → KeepsWideKeys site.history
  pub wide_grants : site.keeps_wide ≡ true → All KeepsWideKeys site.grants
